-- Pieces listed from the first byte on: one is in hand while the value stays, and is put when the value changes.
use Rattle.std.proofs.Common.{ℕ, suc, ◌+◌, ◌*◌, ◌-◌, ◌/◌, ◌≤◌, ◌<◌, min, add-zero, arith, ◌≡◌, refl, sym, ap, ◌∙◌, List, [], ◌∷◌, ◌++◌, append_assoc, append-nil, length, take, drop, length-append, take-append-drop, take_at, drop_at, drop-drop}
use native.Mathlib.Decide.{dec_lt, ℕ_discrete}
use Rattle.rows.specs.Limits.{OFFSET_MAX}
use borrow.Rule.Slice.PartMut.{put_mid}
use Rattle.extents_meaning.specs.Cells.{Bytes, number_in}
use Rattle.extents_meaning.specs.Runs.{Run}
use Rattle.extents_meaning.specs.Maps.{threes, bytes_of, with_part, listed_in}
use Rattle.extents_meaning.proofs.Changes.{change_iff, before-change}
use Rattle.extents_meaning.proofs.Threes.{length-threes}
use Rattle.extents_weave_meaning.proofs.Rests.{rest, put-none, put_some, rest-none, rest-skip, close}
use Rattle.extents_map.specs.declared.list.Piece.{Piece}
use Rattle.extents_map.specs.declared.scan.Look.{Look}
use Rattle.extents_map.specs.Cursors.{Passing, Looked}
use Rattle.extents_map.specs.Pieces.{ended, Room, Turned}
use Rattle.extents_map.proofs.Looking.{passing-on, passing-then}

-- ---- Numbers of pieces in a slice

-- pieces behind others
threes-append : (ps qs : List Run) → threes (ps ++ qs) ≡ threes ps ++ threes qs
unfolding threes
threes-append [] qs = refl
threes-append (p ∷ ps) qs = ap (λ (l : List ℕ). p.start ∷ (p.length ∷ ((p.cell - 1) ∷ l))) (threes-append ps qs)

-- numbers put behind the front of a slice make the front longer
front-more : (ns bs xs : List ℕ) (k : ℕ) → length ns ≡ k →
    with_part k (length bs) bs (ns ++ drop (length ns) xs) ≡ (ns ++ bs) ++ drop (length (ns ++ bs)) xs
front-more ns bs xs k l =
    let d = drop (length ns) xs in
    let e : length ns + length bs ≡ length (ns ++ bs) = sym (length-append ns bs) in
    let later = sym (drop-drop (length bs) k (ns ++ d)) ∙ ap (drop (length bs)) (drop_at ns d k l) ∙ drop-drop (length bs) (length ns) xs in
    λ i. (take_at ns d k l i ++ bs) ++ (later ∙ ap (λ (n : ℕ). drop n xs) e) i

-- ---- A turn

-- the piece in hand with pieces put before it
abbrev piece_of : ℕ → ℕ → ℕ → Piece
piece_of count start value = record { count = count; start = start; value = value }

module _ {xs : List ℕ} {hand : Piece} {x value : ℕ} where
  -- where none is in hand, one begins
  pub turn-none : hand.value ≡ 0 → Turned xs hand x value (piece_of hand.count x value) xs
  unfolding threes
  turn-none z =
      record {
        same = λ h e. absurd (omega arith);
        other = λ f. rw (put-none hand.start x hand.value [] z) (simp add-zero, simp (append-nil, add-zero, take-append-drop));
      }

  -- another value puts the one in hand
  pub turn-put : (hand.value ≡ 0 → ⊥) → (value ≡ hand.value → ⊥) → {ys : List ℕ} → ys ≡ hand.start ∷ ((x - hand.start) ∷ ((hand.value - 1) ∷ [])) →
      (let k = hand.count * 3 in Turned xs hand x value (piece_of (hand.count + 1) x value) (put_mid k (k + 3 - k) xs ys))
  unfolding threes
  turn-put z n {ys} e =
      let k = hand.count * 3 in
      let ns = hand.start ∷ ((x - hand.start) ∷ ((hand.value - 1) ∷ [])) in
      let d : k + (k + 3 - k) ≡ k + 3 = omega arith in
      record {
        same = λ l q. absurd (n q);
        other = λ f.
            rw (put_some hand.start x hand.value [] z)
            (refl, (λ t. take k xs ++ (e t ++ (drop-drop (k + 3 - k) k xs ∙ (λ v. drop (d v) xs)) t)) ∙ sym (append_assoc (take k xs) ns (drop (k + 3) xs)));
      }

-- ---- A listing

-- The pieces before the one in hand are put, and with the runs from its start on they make the whole; its bytes up to byte x have its value, and it
-- has a byte unless none is in hand.
pub record Listing (f : Bytes) (from to : ℕ) (xs ys : List ℕ) (x : ℕ) (hand : Piece) : Type 0 where
  done : List Run
  whole : rest to f from ≡ done ++ rest to f hand.start
  begun : hand.start + min 1 hand.value ≤ x
  held : (b : ℕ) → hand.start ≤ b → b < x → f b ≡ hand.value
  top : x ≤ to
  count : hand.count ≡ length done
  laid : ys ≡ listed_in done xs
  pub size : length ys ≡ length xs
  fit : 3 * length (rest to f from) ≤ length xs

-- at first no piece is in hand
pub list_start : (f : Bytes) (from to : ℕ) (xs : List ℕ) → from ≤ to → 3 * length (rest to f from) ≤ length xs →
    Listing f from to xs xs from (piece_of 0 from 0)
unfolding threes
list_start f from to xs h k =
    record {
      done = [];
      whole = refl;
      begun = omega arith;
      held = λ b l m. absurd (omega arith);
      top = h;
      count = refl;
      laid = refl;
      size = refl;
      fit = k;
    }

-- byte x has a value
module _ {f : Bytes} {from to : ℕ} {xs ys : List ℕ} {x : ℕ} {hand : Piece} (g : Listing f from to xs ys x hand) {value : ℕ}
    (here : x < to → f x ≡ value) where
  -- where it is another, the piece in hand is one of the whole
  whole-put : (value ≡ hand.value → value ≡ 0) → rest to f from ≡ (g.done ++ ended hand x) ++ rest to f x
  whole-put other =
      g.whole ∙ ap (λ (l : List Run). g.done ++ l) (go (ℕ_discrete hand.value 0)) ∙ sym (append_assoc g.done (ended hand x) (rest to f x))
    where
      a : ℕ
      a = hand.start

      v : ℕ
      v = hand.value

      go : Dec (v ≡ 0) → rest to f a ≡ ended hand x ++ rest to f x
      go (yes z) = rw (put-none a x v [] z) (rest-skip to f a x (omega (arith, g.begun)) g.top (λ b l k. g.held b l k ∙ z))
      go (no z) =
          rw (put_some a x v [] z)
          (close to f a x x v (omega (arith, g.begun)) (omega arith) g.top z g.held (λ b l k. absurd (omega arith))
          (λ e l q. let s : value ≡ v = sym (here l) ∙ q in z (sym s ∙ other s))
          ∙ put_some a x v (rest to f x) z)

  -- there is room for it
  pub list_room : Room ys hand x value
  list_room =
      record {
        order = omega (arith, g.begun);
        room = λ z n.
            let one = ap length (put_some hand.start x hand.value [] z) in
            omega (arith, one, g.fit, g.size, g.count, simp length-append at (ap length (whole-put (λ e. absurd (n e)))));
      }

  module _ {r : Piece} {zs : List ℕ} (t : Turned ys hand x value r zs) where
    -- with it put the numbers of one piece more are in place
    laid-put : (value ≡ hand.value → value ≡ 0) → zs ≡ listed_in (g.done ++ ended hand x) xs
    laid-put other =
        let ns = threes g.done in
        let bs = threes (ended hand x) in
        (t.other other).1
        ∙ ap (with_part (hand.count * 3) (length bs) bs) g.laid
        ∙ front-more ns bs xs (hand.count * 3) (omega (arith, length-threes g.done, g.count))
        ∙ ap (λ (l : List ℕ). l ++ drop (length l) xs) (sym (threes-append g.done (ended hand x)))

    -- at the end all pieces are in place
    pub list_done : to ≤ x → value ≡ 0 → (r.count ≡ length (rest to f from)) × (zs ≡ listed_in (rest to f from) xs)
    list_done h z =
        let ps = g.done ++ ended hand x in
        let e : rest to f from ≡ ps = whole-put (λ s. z) ∙ ap (λ (l : List Run). ps ++ l) (rest-none to f x h) ∙ append-nil ps in
        let n : r.count ≡ hand.count + length (ended hand x) = ap (λ (k : Piece). k.count) (t.other (λ s. z)).0 in
        (omega (arith, n, g.count, length-append g.done (ended hand x), ap length e), laid-put (λ s. z) ∙ ap (λ (l : List Run). listed_in l xs) (sym e))

    -- from byte x up to byte y the value stays
    pub list-next : 1 ≤ value → length zs ≡ length ys → (y : ℕ) → x < y → y ≤ to → ((b : ℕ) → x ≤ b → b < y → f b ≡ value) →
        Listing f from to xs zs y r
    list-next low kept y on top cells = go (ℕ_discrete value hand.value)
      where
        go : Dec (value ≡ hand.value) → Listing f from to xs zs y r
        go (yes e) =
            let o = t.same low e in
            rw (o.0, o.1)
            (record {
              done = g.done;
              whole = g.whole;
              begun = omega (arith, g.begun, on);
              held = λ b l k. held b l k (dec_lt b x);
              top = top;
              count = g.count;
              laid = g.laid;
              size = g.size;
              fit = g.fit;
            })
          where
            held : (b : ℕ) → hand.start ≤ b → b < y → Dec (b < x) → f b ≡ hand.value
            held b l k (yes m) = g.held b l m
            held b l k (no m) = cells b (omega arith) k ∙ e
        go (no n) =
            let other : value ≡ hand.value → value ≡ 0 = λ e. absurd (n e) in
            rw (t.other other).0
            (record {
              done = g.done ++ ended hand x;
              whole = whole-put other;
              begun = omega (arith, on);
              held = cells;
              top = top;
              count = sym (length-append g.done (ended hand x) ∙ ap (λ (k : ℕ). k + length (ended hand x)) (sym g.count));
              laid = laid-put other;
              size = kept ∙ g.size;
              fit = g.fit;
            })

-- ---- A listing of a map

-- the value of a byte in pieces
abbrev pub values_of : List ℕ → Bytes
values_of map b = suc (number_in (bytes_of map b))

-- a look at byte x
module _ {map : List ℕ} {from to : ℕ} {xs ys : List ℕ} {x i : ℕ} {hand : Piece} (g : Listing (values_of map) from to xs ys x hand × Passing map 0 x i)
    (on : x < to) (below : to ≤ OFFSET_MAX) {s : Look} (l : Looked map i x s) where
  -- the next byte of another cell lies behind x
  pub look_further : x < s.next
  look_further = ((change_iff (bytes_of (drop (4 * i) map)) x s.next (omega arith)).0 (sym l.next)).0

  -- up to there the value stays
  look_value : (b : ℕ) → x ≤ b → b < s.next → values_of map b ≡ s.cell / 2 + 1
  look_value b h k =
      let e : bytes_of map b ≡ s.cell =
      sym (g.1.same b h) ∙ before-change (bytes_of (drop (4 * i) map)) x b (omega arith) h (omega (arith, l.next)) ∙ sym l.cell in
      ap (λ (c : ℕ). suc (number_in c)) e ∙ omega arith

  -- the slice has room for the piece in hand
  pub look_room : Room ys hand x (s.cell / 2 + 1)
  look_room = list_room g.0 (λ h. look_value x (omega arith) look_further)

  -- The listing and its cursor go on from the next byte of another cell.
  pub look_next : {r : Piece} {zs : List ℕ} → Turned ys hand x (s.cell / 2 + 1) r zs → length zs ≡ length ys → {y : ℕ} → y ≡ min s.next to →
      Listing (values_of map) from to xs zs y r × Passing map 0 y s.at
  look_next t kept {y} q = (
    list-next g.0 (λ h. look_value x (omega arith) look_further) t (omega arith) kept y (omega (arith, look_further)) (omega arith)
        (λ b h k. look_value b h (omega arith)),
    passing-on (passing-then g.1 l.passing) y (omega (arith, look_further)),
  )
