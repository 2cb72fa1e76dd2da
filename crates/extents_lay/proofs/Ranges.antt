-- A range laid into a lawful map: the map that its parts make with the runs before and behind them.
use Rattle.std.proofs.Common.{ℕ, ◌+◌, ◌*◌, ◌-◌, ◌≤◌, ◌<◌, min, arith, ◌≡◌, sym, ap, ◌∙◌, true, false, List, ◌++◌, append_assoc, length, take, drop, replicate, length-append, length-drop, take-append-drop, length-take-le, take-take, take_at, drop_at, le-leb}
use lib.Seq.{take-append-le}
use lib.Dec.{leb}
use borrow.Author.Tests.{lt-leb}
use Rattle.rows.specs.Limits.{OFFSET_MAX}
use Rattle.extents_meaning.specs.Cells.{Bytes, overwrite}
use Rattle.extents_meaning.specs.Runs.{Run, runs_of, Rising}
use Rattle.extents_meaning.specs.Maps.{fours, map_of, map_for, space_in, runs, bytes_of, lawful}
use Rattle.extents_meaning.proofs.Trips.{lawful-map, length-fours, map_append, rest_at}
use Rattle.extents_map.specs.Cursors.{part_of}
use Rattle.extents_map.specs.declared.locate.Side.{Side}
use Rattle.extents_map.specs.Beside.{side_of, Behind, Front, Back}
use Rattle.extents_map.proofs.Parted.{laid_runs}
use Rattle.extents_lay.proofs.Moves.{part-size, Put}

module _ (xs : List ℕ) (e : lawful xs ≡ true) where
  -- The runs of a lawful map are in order.
  pub order : Rising OFFSET_MAX 0 0 (runs xs)
  order = (lawful-map xs e).lawful-runs.in_order

  -- the space of the map, and its runs
  abbrev space : ℕ
  space = space_in xs

  abbrev rs : List Run
  rs = runs xs

  -- Behind the last run stands 0.
  pub zeros-behind : {all : ℕ} → all ≡ length rs → drop (all * 4) xs ≡ replicate (length xs - all * 4) 0
  unfolding map_of
  zeros-behind {all} n =
      let m = lawful-map xs e in
      let q : length (fours rs) ≡ all * 4 = omega (arith, length-fours rs) in
      let z : 4 * (space - length rs) ≡ length xs - all * 4 = omega arith in
      ap (drop (all * 4)) m.whole ∙ drop_at (fours rs) (replicate (4 * (space - length rs)) 0) (all * 4) q ∙ (λ t. replicate (z t) 0)

  -- The numbers of the first i runs stand at the front of the slice.
  front-runs : (i : ℕ) → i ≤ length rs → take (4 * i) xs ≡ fours (take i rs)
  front-runs i h =
      let ps = take i rs in
      let q : length (fours ps) ≡ 4 * i = omega (arith, length-fours ps, length-take-le i rs h) in
      ap (take (4 * i)) ((lawful-map xs e).whole ∙ ap (map_of space) (sym (take-append-drop i rs)) ∙ map_append space ps (drop i rs))
      ∙ take_at (fours ps) (map_of (space - length ps) (drop i rs)) (4 * i) q

  module _ {all from : ℕ} (to : ℕ) (n : all ≡ length rs) (h : from ≤ all) (fit : to + (all - from) ≤ space) {ys : List ℕ}
      (q : ys ≡ take (to * 4) xs ++ (take (all * 4 - from * 4) (drop (from * 4) xs) ++ replicate (length xs - to * 4 - (all * 4 - from * 4)) 0)) where
    -- The first p runs are kept where runs behind them were moved.
    moved_front : (p : ℕ) → p ≤ from → p ≤ to → take (4 * p) ys ≡ fours (take p rs)
    moved_front p u v =
        let m = lawful-map xs e in
        let l : length (take (to * 4) xs) ≡ to * 4 = length-take-le (to * 4) xs (omega arith) in
        ap (take (4 * p)) q ∙ take-append-le (4 * p) (take (to * 4) xs) _ (omega arith) ∙ take-take (4 * p) (to * 4) xs (omega arith)
        ∙ front-runs p (omega arith)

    -- From the new place on stands the map of the runs that were moved.
    moved_back : drop (4 * to) ys ≡ map_of (space - to) (drop from rs)
    unfolding map_of
    moved_back =
        let m = lawful-map xs e in
        let l : length (take (to * 4) xs) ≡ 4 * to = length-take-le (to * 4) xs (omega arith) ∙ omega arith in
        let later = drop from rs in
        let zs : List ℕ = replicate (4 * (space - from - length later)) 0 in
        let o : from + length later ≡ all = omega (arith, length-drop from rs) in
        let k : length (fours later) ≡ all * 4 - from * 4 = omega (arith, length-fours later) in
        let z : length xs - to * 4 - (all * 4 - from * 4) ≡ 4 * (space - to - length later) = omega arith in
        let f : from * 4 ≡ 4 * from = omega arith in
        let there : drop (from * 4) xs ≡ fours later ++ zs =
        (λ t. drop (f t) xs) ∙ rest_at xs e (take from rs) later from (sym (take-append-drop from rs)) (length-take-le from rs (omega arith)) in
        ap (drop (4 * to)) q ∙ drop_at (take (to * 4) xs) _ (4 * to) l
        ∙ (λ t. (ap (take (all * 4 - from * 4)) there ∙ take_at (fours later) zs (all * 4 - from * 4) k) t ++ replicate (z t) 0)

  module _ {start end cell all first behind : ℕ} (left right : Side) {middle parts : ℕ} (wide : start < end) (n : all ≡ length rs)
      (passed : Behind rs first end cell behind) (front : Front rs start cell (take first rs ++ side_of left) left.bound)
      (back : Back rs end cell (side_of right ++ drop behind rs) right.bound)
      (size : (cell ≡ 0 → middle ≡ 0) × (1 ≤ cell → middle ≡ right.bound - left.bound))
      (count : parts ≡ min left.length 1 + min middle 1 + min right.length 1) where
    -- what every byte is to hold
    abbrev goal : Bytes
    goal = overwrite start (end - start) cell (bytes_of xs)

    -- the runs up to the end of the range's parts
    abbrev new : List Run
    new = ((take first rs ++ side_of left) ++ part_of left.bound middle cell) ++ side_of right

    -- These runs and the runs behind the range are the runs of what every byte is to hold.
    new-runs : new ++ drop behind rs ≡ runs_of goal
    new-runs = simp append_assoc (simp append_assoc at (laid_runs rs start end cell wide front back size.0 size.1))

    -- the place behind the range's parts
    abbrev to : ℕ
    to = first + parts

    -- The runs up to that place are as many as its number.
    new-count : length new ≡ to
    new-count =
        simp length-append
        (omega (
          arith,
          length-take-le first rs (omega (arith, passed.low, passed.most)),
          part-size left.start left.length left.cell,
          part-size left.bound middle cell,
          part-size right.start right.length right.cell,
        ))

    -- how many runs there are to be
    goal-count : length (runs_of goal) ≡ to + (all - behind)
    goal-count = omega (arith, ap length new-runs, length-append new (drop behind rs), new-count, length-drop behind rs)

    -- The runs do not fit: the answer is false.
    pub not-laid : space < to + (all - behind) → false ≡ leb (length (runs_of goal)) space
    not-laid h = sym (lt-leb (length (runs_of goal)) space (omega (arith, goal-count)))

    -- The runs fit, and the slice holds their map.
    pub all_laid : to + (all - behind) ≤ space → {ys zs : List ℕ} (us vs : List ℕ) {second third fourth : ℕ} →
        ys ≡ take (to * 4) xs ++ (take (all * 4 - behind * 4) (drop (behind * 4) xs) ++ replicate (length xs - to * 4 - (all * 4 - behind * 4)) 0) →
        Put ys first left.start left.length left.cell second us → Put us second left.bound middle cell third vs →
        Put vs third right.start right.length right.cell fourth zs → (true ≡ leb (length (runs_of goal)) space) × (zs ≡ map_for space goal)
    all_laid h {ys} {zs} us vs {second} {third} {fourth} q x y w =
        let later = drop behind rs in
        let o : behind ≤ all = omega (arith, passed.most) in
        let e : to ≡ fourth = omega (arith, count, x.0, y.0, w.0) in
        let before : take (4 * to) zs ≡ fours new =
        (λ t. take (4 * e t) zs) ∙ w.1.0 _ (y.1.0 _ (x.1.0 _ (moved_front to n o h q first passed.low (omega arith)))) in
        let behind : drop (4 * to) zs ≡ map_of (space - to) later =
        w.1.1 to (omega arith) ∙ y.1.1 to (omega (arith, w.0)) ∙ x.1.1 to (omega (arith, y.0, w.0)) ∙ moved_back to n o h q in (
          sym (le-leb (length (runs_of goal)) space (omega (arith, goal-count))),
          sym (take-append-drop (4 * to) zs) ∙ (λ t. before t ++ behind t) ∙ (λ t. fours new ++ map_of (space - sym new-count t) later)
              ∙ sym (map_append space new later) ∙ ap (map_of space) new-runs,
        )
