-- The loop of a walk over a slice with both maps: what it keeps, how it starts, goes on and ends.
use Rattle.std.proofs.Common.{ℕ, suc, ◌+◌, ◌*◌, ◌-◌, ◌/◌, ◌≤◌, ◌<◌, arith, ◌≡◌, refl, sym, ap, subst, ◌∙◌, Bool, true, false, List, length, take, drop, replicate, length-drop, eq-eqb, ne_eqb}
use native.Mathlib.Decide.{ℕ_discrete}
use mathlib.Core.Bool.{false≢true}
use borrow.Rule.Slice.PartMut.{put_mid}
use Rattle.rows.specs.Limits.{OFFSET_MAX}
use Rattle.extents_meaning.specs.Cells.{Bytes, in_range}
use Rattle.extents_meaning.specs.Runs.{run_of, runs_of, Open}
use Rattle.extents_meaning.specs.Maps.{bytes_of, space_in, map_of, part_at}
use Rattle.extents_meaning.proofs.Trips.{lawful-map}
use Rattle.extents_map.specs.Cursors.{ahead, Part, Passing}
use Rattle.extents_map.specs.Mixes.{Mix, becomes, becomes_in}
use Rattle.extents_map.proofs.Looking.{passing-on, passing-then, passing-part}
use Rattle.extents_pair.proofs.Parts.{lent, part_length}
use Rattle.extents_weave_meaning.specs.Walks.{last, Needed}
use Rattle.extents_weave_meaning.specs.Kept.{Results, next, hand}
use Rattle.extents_weave_meaning.proofs.Kept.{last-held, held-needed}
use Rattle.extents_weave_meaning.proofs.InPlace.{Rewriting, stored-size, rewrite_start, rewrite_room, rewrite_behind, end-room, end_none, end-store}
use Rattle.extents_weave_meaning.proofs.Weave.{held-flat, needs-flat, result-flat}
use Rattle.extents_weave.specs.Turns.{turned_map, Turned}
use Rattle.extents_weave.specs.Steps.{step_cell, step_need, Stepped}
use Rattle.extents_weave.specs.Rewrites.{written_by, needed_by, results_in, source_in, source_end, OnlyPart, Ready, Rewritten}
use Rattle.extents_weave.specs.declared.Hand.{Hand}
use Rattle.extents_weave.specs.declared.Step.{Step}
use Rattle.extents_weave.proofs.Homes.{only-start, only-length, only-apart, home-part, home-only}
use Rattle.extents_weave.proofs.Turning.{turned_on, map_same, map_put}
use Rattle.extents_weave.proofs.Sources.{source_part, source_means, rewrite_at, rewrite_src}

-- ---- A stretch

-- the first byte of what a walk writes needs it
needed_first : (keep : Bool) (m : Results) (f : Bytes) → Needed (written_by keep m f) (needed_by keep m f)
needed_first true m f = held-needed m f
needed_first false m f = λ b h k. refl

module _ (keep : Bool) (m : Results) (f : Bytes) (x k c : ℕ) (here : keep ≡ true → hand m f x ≡ c)
    (flat : (b : ℕ) → x ≤ b → b < x + suc k → f b ≡ f x) (even : (b : ℕ) → x ≤ b → b < x + suc k → (w : ℕ) → m b w ≡ m x w) where
  -- what a step writes is written on the whole stretch
  step-flat : (b : ℕ) → x ≤ b → b < x + suc k → written_by keep m f b ≡ step_cell keep (m x) c (f x)
  unfolding next
  step-flat b l h = go keep refl
    where
      go : (u : Bool) → keep ≡ u → written_by u m f b ≡ step_cell u (m x) c (f x)
      go true e = held-flat m f x k flat even b l h ∙ ap (next m f x) (here e)
      go false e = result-flat m f x k flat even b l h

  -- The whole stretch needs it, or no byte of it does.
  step-even : (b : ℕ) → x ≤ b → b < x + suc k → needed_by keep m f b ≡ step_need keep (m x) (f x)
  step-even b l h = go keep
    where
      go : (u : Bool) → needed_by u m f b ≡ step_need u (m x) (f x)
      go true = needs-flat m f x k flat even b l h
      go false = refl

-- the cell in hand
hand-is : (keep : Bool) (m : Results) (f : Bytes) (x c : ℕ) → last (written_by keep m f) x ≡ c → keep ≡ true → hand m f x ≡ c
hand-is true m f x c h e = sym (last-held m f x) ∙ h
hand-is false m f x c h e = absurd (false≢true e)

-- ---- What the loop keeps

-- at byte x: the map at t is rewritten in part, the slice beside it is as it was, and run j of the map at o serves
pub record Walking (size t o from : ℕ) (mix : Mix) (keep : Bool) (xs₀ xs : List ℕ) (x i j : ℕ) (h : Hand) : Type 0 where
  pub only : OnlyPart t size xs₀ xs
  pub walk :
      Rewriting (size / 4) OFFSET_MAX (source_end size t o mix xs₀ from) (source_in size t o mix xs₀ from)
      (written_by keep (results_in size t o mix xs₀) (source_in size t o mix xs₀ from)) (needed_by keep (results_in size t o mix xs₀) (source_in size t o mix xs₀ from))
      (part_at t size xs) x h.written i h.start h.end h.cell
  pub others : Passing (part_at o size xs₀) 0 x j
  pub inside : x ≤ OFFSET_MAX

-- no run is in hand
abbrev nothing : Hand
nothing = record { written = 0; start = 0; end = 0; cell = 0 }

module _ {size t o from : ℕ} {mix : Mix} {keep : Bool} {xs₀ : List ℕ} (y : Ready size t o from mix keep xs₀) where
  -- the source, the place behind it, what every byte becomes, what is written, and which bytes need it
  abbrev f : Bytes
  f = source_in size t o mix xs₀ from

  abbrev all : ℕ
  all = source_end size t o mix xs₀ from

  abbrev m : Results
  m = results_in size t o mix xs₀

  abbrev g : Bytes
  g = written_by keep m f

  abbrev need : ℕ → Bool
  need = needed_by keep m f

  -- the map at t has four numbers for each run of its space
  size_is : 4 * (size / 4) ≡ size
  size_is =
      let p = part_at t size xs₀ in
      omega (arith, (lawful-map (drop (4 * from) p) y.law).fours-in, length-drop (4 * from) p, part_length t size xs₀ y.two.target_within, y.fits)

  -- at first nothing is written
  pub walk_start : Walking size t o from mix keep xs₀ xs₀ 0 from 0 nothing
  walk_start =
      let p = part_at t size xs₀ in
      let s = part_length t size xs₀ y.two.target_within in
      let l = lawful-map (drop (4 * from) p) y.law in
      let sp : space_in (drop (4 * from) p) ≡ size / 4 - from = omega (arith, length-drop (4 * from) p, s, y.fits, size_is) in
      record {
        only = only-start y.two.target_within;
        walk =
            rewrite_start (size / 4) OFFSET_MAX all from f g need p (ahead p from) (s ∙ sym size_is)
            (omega (arith, l.fit, sp, y.fits, size_is)) (l.whole ∙ ap (λ (j : ℕ). map_of j (ahead p from)) sp)
            l.lawful-runs.in_order l.lawful-runs.numbered (λ b h. refl) refl;
        others = record { fits = omega arith; law = y.two.other_law; count = refl; same = λ b l. refl };
        inside = omega arith;
      }

  module _ {xs : List ℕ} {x i j : ℕ} {h : Hand} (w : Walking size t o from mix keep xs₀ xs x i j h) where
    -- the maps as they are lent
    abbrev lent-t : List ℕ
    lent-t = take (t + size - t) (drop t xs)

    abbrev lent-o : List ℕ
    lent-o = take (o + size - o) (drop o xs)

    -- the map at o is as it was
    other-is : lent-o ≡ part_at o size xs₀
    other-is = lent o size xs ∙ only-apart y.two.target_within w.only o y.two.apart

    -- A step may start.
    pub walk-parts : x < OFFSET_MAX → Part lent-t i x × Part lent-o j x × (mix.start ≤ mix.end)
    walk-parts below =
        let a = source_part (size / 4) all f g need (part_at t size xs) x h.written i h.start h.end h.cell w.walk below in
        (subst (λ (l : List ℕ). Part l i x) (sym (lent t size xs)) a, subst (λ (l : List ℕ). Part l j x) (sym other-is) (passing-part w.others below), y.order)

    -- The slice keeps its length as the map at t comes home.
    pub back-length : (end : List ℕ) → length end ≡ length lent-t → length (put_mid t (t + size - t) xs end) ≡ length xs₀
    back-length end l = only-length y.two.target_within (home-only y.two.target_within w.only end (l ∙ ap length (lent t size xs) ∙ w.only.filled))

    -- ---- A turn

    module _ {s : Step} (p : Stepped lent-t i lent-o j mix h.cell keep x s) where
      -- the step by the maps at t and o
      stepped : Stepped (part_at t size xs) i (part_at o size xs₀) j mix h.cell keep x s
      stepped =
          subst (λ (l : List ℕ). Stepped l i (part_at o size xs₀) j mix h.cell keep x s) (lent t size xs)
          (subst (λ (l : List ℕ). Stepped lent-t i l j mix h.cell keep x s) other-is p)

      -- The cells of the map at o from run j on are its cells.
      theirs : (b : ℕ) → x ≤ b → bytes_of (drop (4 * j) (part_at o size xs₀)) b ≡ bytes_of (part_at o size xs₀) b
      theirs b l = w.others.same b l

      -- The cells of the map at t from run i on are the source's.
      mine : (b : ℕ) → x ≤ b → b < OFFSET_MAX → bytes_of (drop (4 * i) (part_at t size xs)) b ≡ f b
      mine = source_means (size / 4) all f g need (part_at t size xs) x h.written i h.start h.end h.cell w.walk

      -- The walk goes on from the run of the step.
      abbrev at : Rewriting (size / 4) OFFSET_MAX all f g need (part_at t size xs) x h.written s.i h.start h.end h.cell
      at = rewrite_at (size / 4) all f g need (part_at t size xs) x h.written i h.start h.end h.cell w.walk s.i stepped.mine

      -- how many bytes the stretch has behind its first
      abbrev k : ℕ
      k = s.next - suc x

      next-is : s.next ≡ x + suc k
      next-is = omega (arith, p.on)

      -- on the stretch the source stays
      flat : (b : ℕ) → x ≤ b → b < x + suc k → f b ≡ f x
      flat b l u =
          sym (mine b l (omega (arith, p.on, p.most))) ∙ stepped.flat b l (omega (arith, next-is)) ∙ mine x (omega arith) (omega (arith, p.on, p.most))

      -- and so does what cells become
      part-even : (b c : ℕ) → x ≤ b → becomes_in mix (bytes_of (drop (4 * j) (part_at o size xs₀))) b c ≡ m b c
      part-even b c l = λ z. becomes mix.mode (in_range mix.start (mix.end - mix.start) b) mix.cell c (theirs b l z)

      even : (b : ℕ) → x ≤ b → b < x + suc k → (c : ℕ) → m b c ≡ m x c
      even b l u c = sym (part-even b c l) ∙ stepped.even b l (omega (arith, next-is)) c ∙ part-even x c (omega arith)

      -- what the step writes
      cell-is : s.cell ≡ step_cell keep (m x) h.cell (f x)
      cell-is =
          stepped.cell
          ∙ (λ z. step_cell keep (λ (c : ℕ). part-even x c (omega arith) z) h.cell (mine x (omega arith) (omega (arith, p.on, p.most)) z))

      need-is : s.need ≡ step_need keep (m x) (f x)
      need-is =
          stepped.need ∙ (λ z. step_need keep (λ (c : ℕ). part-even x c (omega arith) z) (mine x (omega arith) (omega (arith, p.on, p.most)) z))

      in-hand : keep ≡ true → hand m f x ≡ h.cell
      in-hand = hand-is keep m f x h.cell w.walk.cell

      cells : (b : ℕ) → x ≤ b → b < x + suc k → g b ≡ s.cell
      cells b l u = step-flat keep m f x k h.cell in-hand flat even b l u ∙ sym cell-is

      needs : (b : ℕ) → x ≤ b → b < x + suc k → need b ≡ s.need
      needs b l u = step-even keep m f x k h.cell in-hand flat even b l u ∙ sym need-is

      -- a run that is put down has a place that is passed
      below : (s.cell ≡ h.cell → ⊥) → (h.cell ≡ 0 → ⊥) → h.written < s.i
      below a z =
          let src = rewrite_src (size / 4) all f g need (part_at t size xs) x h.written i h.start h.end h.cell w.walk s.i stepped.mine in
          rewrite_room (size / 4) OFFSET_MAX all f g need (part_at t size xs) x h.written s.i h.start h.end h.cell at y.room
          (subst (Open x) (sym src) stepped.first) w.inside z (λ u q. a (sym (cells x (omega arith) (omega arith)) ∙ q))

      -- There is room for the run that is put down.
      pub walk-place : (s.cell ≡ h.cell → ⊥) → (h.cell ≡ 0 → ⊥) → 4 * h.written + 4 ≤ length lent-t
      walk-place a z = omega (arith, below a z, stepped.mine.fits, ap length (lent t size xs))

      -- the turn
      turn-next : {r : Hand} → Turned h x s.next s.cell s.need r →
          Rewriting (size / 4) OFFSET_MAX all f g need (turned_map h s.cell (part_at t size xs)) s.next r.written s.i r.start r.end r.cell
      turn-next {r} u =
          let v = subst (λ (z : ℕ). Turned h x z s.cell s.need r) next-is u in
          subst
          (λ (z : ℕ). Rewriting (size / 4) OFFSET_MAX all f g need (turned_map h s.cell (part_at t size xs)) z r.written s.i r.start r.end r.cell)
          (sym next-is)
          (turned_on (size / 4) OFFSET_MAX all f g need (needed_first keep m f) (part_at t size xs) x k s.i s.cell s.need h r at
          (omega (arith, next-is, p.most)) cells needs v below)

      -- The loop goes on behind the turn.
      pub walk-next : {r : Hand} {end : List ℕ} → Turned h x s.next s.cell s.need r → end ≡ turned_map h s.cell lent-t →
          Walking size t o from mix keep xs₀ (put_mid t (t + size - t) xs end) s.next s.i s.j r
      walk-next {r} {end} u q =
          let e = q ∙ ap (turned_map h s.cell) (lent t size xs) in
          let v = turn-next u in
          let l : length end ≡ size = ap length e ∙ v.size ∙ size_is in
          record {
            only = home-only y.two.target_within w.only end l;
            walk =
                subst
                (λ (z : List ℕ). Rewriting (size / 4) OFFSET_MAX all f g need z s.next r.written s.i r.start r.end r.cell)
                (sym (home-part y.two.target_within w.only end l ∙ e)) v;
            others = passing-on (passing-then w.others stepped.theirs) s.next (omega (arith, p.on));
            inside = p.most;
          }

    -- ---- The end

    module _ (e : OFFSET_MAX ≤ x) where
      -- the walk at the end of all bytes
      walked : Rewriting (size / 4) OFFSET_MAX all f g need (part_at t size xs) OFFSET_MAX h.written i h.start h.end h.cell
      walked =
          let z : x ≡ OFFSET_MAX = omega (arith, w.inside) in
          subst (λ (b : ℕ). Rewriting (size / 4) OFFSET_MAX all f g need (part_at t size xs) b h.written i h.start h.end h.cell) z w.walk

      last-room : (h.cell ≡ 0 → ⊥) → h.written < all
      last-room =
          end-room (size / 4) OFFSET_MAX all f g need (needed_first keep m f) (part_at t size xs) h.written i h.start h.end h.cell walked y.room

      -- There is room for the last run.
      pub end-place : (0 ≡ h.cell → ⊥) → (h.cell ≡ 0 → ⊥) → 4 * h.written + 4 ≤ length lent-t
      end-place a z = omega (arith, last-room z, w.walk.room, w.walk.size, ap length (lent t size xs))

      -- The walk leaves its runs.
      pub walk_end : {r : Hand} {end : List ℕ} → Turned h x x 0 true r → end ≡ turned_map h 0 lent-t →
          Rewritten size t o from mix keep xs₀ r.written (put_mid t (t + size - t) xs end)
      unfolding runs_of
      walk_end {r} {end} u q = go (ℕ_discrete h.cell 0)
        where
          d : end ≡ turned_map h 0 (part_at t size xs)
          d = q ∙ ap (turned_map h 0) (lent t size xs)

          zeros : drop (4 * all) (part_at t size xs) ≡ replicate (4 * (size / 4 - all)) 0
          zeros = rewrite_behind (size / 4) OFFSET_MAX all f g need (part_at t size xs) x h.written i h.start h.end h.cell w.walk

          go : Dec (h.cell ≡ 0) → Rewritten size t o from mix keep xs₀ r.written (put_mid t (t + size - t) xs end)
          go (yes z) =
              let a : r.written ≡ h.written = u.written ∙ rw (eq-eqb 0 h.cell (sym z)) in
              let b : end ≡ part_at t size xs = d ∙ map_same h x x 0 true (part_at t size xs) (sym z) in
              let l : length end ≡ size = ap length b ∙ w.only.filled in
              let n = end_none (size / 4) OFFSET_MAX all f g need (needed_first keep m f) (part_at t size xs) h.written i h.start h.end h.cell walked z in
              record {
                only = home-only y.two.target_within w.only end l;
                count = a ∙ n.0;
                front = (λ v. take (4 * a v) ((home-part y.two.target_within w.only end l ∙ b) v)) ∙ n.1;
                behind = ap (drop (4 * all)) (home-part y.two.target_within w.only end l ∙ b) ∙ zeros;
              }
          go (no z) =
              let o : 0 ≡ h.cell → ⊥ = λ v. z (sym v) in
              let a : r.written ≡ suc h.written = u.written ∙ rw (ne_eqb 0 h.cell o, ne_eqb h.cell 0 z) in
              let b = d ∙ map_put h x x 0 true (part_at t size xs) o z in
              let n =
              end-store (size / 4) OFFSET_MAX all f g need (needed_first keep m f) (part_at t size xs) h.written i h.start h.end h.cell walked end z
              (last-room z) b in
              let l : length end ≡ size =
              stored-size (part_at t size xs) end h.written (run_of h.start (h.end - h.start) h.cell)
              (omega (arith, last-room z, w.walk.room, w.walk.size)) b ∙ w.only.filled in
              record {
                only = home-only y.two.target_within w.only end l;
                count = a ∙ n.0;
                front = (λ v. take (4 * a v) (home-part y.two.target_within w.only end l v)) ∙ n.1;
                behind = ap (drop (4 * all)) (home-part y.two.target_within w.only end l) ∙ n.2 ∙ zeros;
              }
