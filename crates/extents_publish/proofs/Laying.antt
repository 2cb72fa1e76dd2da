-- A map in a slice on which runs are laid, and the unpublished runs of a view laid on it, from the first run on.
use Rattle.std.proofs.Common.{ℕ, suc, ◌+◌, ◌*◌, ◌-◌, ◌≤◌, ◌<◌, arith, ◌≡◌, refl, sym, ap, subst, ◌∙◌, ◌⊎◌, inl, inr, Bool, true, false, cond, ◌&&◌, List, ◌∷◌, length, take, drop, length-drop, drop-cons, leb-true, ltb-true, eq-eqb, Option, None, Some}
use mathlib.Core.Bool.{false≢true}
use lib.Dec.{leb}
use borrow.Rule.Slice.PartMut.{put_mid}
use Rattle.rows.specs.Limits.{OFFSET_MAX}
use Rattle.rows.proofs.Bools.{and_out}
use Rattle.extents_meaning.specs.Cells.{Bytes, mark_in, unpublished, cleared, in_range, overwrite, published}
use Rattle.extents_meaning.specs.Runs.{Run, run_of, cell_at, runs_of, Lawful}
use Rattle.extents_meaning.specs.Maps.{map_for, space_in, runs, bytes_of, lawful, part_at, with_part}
use Rattle.extents_meaning.proofs.Longest.{Fine, rising-earlier, mean-before}
use Rattle.extents_meaning.proofs.Trips.{length-map, lawful-map}
use Rattle.extents_map.specs.Beside.{end_of, run_no}
use Rattle.extents_pair.specs.Marks.{marked}
use Rattle.extents_pair.proofs.Parts.{lent, part_length, home, part-with, with_part_lem, bytes_fit, fits-lawful, fits-back}
use Rattle.extents_pair.proofs.Gathering.{marked-fewer, marked-none}
use Rattle.extents_pair.proofs.Bounds.{marked-first}
use Rattle.extents_pair.proofs.Sweeps.{Fits, good-over, over-out}
use Rattle.extents_weave.specs.Rewrites.{Apart}
use Rattle.extents_weave.proofs.Homes.{only-start, only-length, only-apart, only_then}
use Rattle.extents_map.specs.declared.modes.Range.{Range}
use Rattle.extents_publish.specs.Publishing.{Below, Own, told_own, Taken, Layable}

-- ---- The map at w changes

module _ {size w : ℕ} {xs : List ℕ} (h : w + size ≤ length xs) where
  -- The slice as it is.
  pub below-start : {P : ℕ → ℕ → Type 0} → lawful (part_at w size xs) ≡ true → ((b : ℕ) → P b (bytes_of (part_at w size xs) b)) →
      Below size w P xs xs
  below-start law p = record { only = only-start h; law = law; bytes = p }

  -- The map of bytes that fit stands at w.
  pub below-made : (space : ℕ) → 4 * space ≡ size → (f : Bytes) → Fits space f → {ys : List ℕ} →
      ys ≡ with_part w size (map_for space f) xs → Below size w (λ b c. c ≡ f b) xs ys
  below-made space four f k {ys} q =
      let m = map_for space f in
      let l : length m ≡ size = length-map space (runs_of f) k.few ∙ four in
      let e : part_at w size ys ≡ m = ap (part_at w size) q ∙ part-with w size xs h m l in
      record {
        only = record { same = q ∙ ap (λ (n : List ℕ). with_part w size n xs) (sym e); filled = ap length e ∙ l };
        law = ap lawful e ∙ fits-lawful space f k;
        bytes = λ b. ap (λ (n : List ℕ). bytes_of n b) e ∙ fits-back space f k b;
      }

  -- The map changes once more.
  pub below_then : {P Q : ℕ → ℕ → Type 0} {f : Bytes} {ys zs : List ℕ} → Below size w P xs ys → Below size w (λ b c. c ≡ f b) ys zs →
      ((b : ℕ) → P b (bytes_of (part_at w size ys) b) → Q b (f b)) → Below size w Q xs zs
  below_then {P} {Q} d k step =
      record {
        only = only_then h d.only k.only;
        law = k.law;
        bytes = λ b. subst (Q b) (sym (k.bytes b)) (step b (d.bytes b));
      }

-- ---- A range laid

-- The part at w as it is lent.
abbrev lent_part : ℕ → ℕ → List ℕ → List ℕ
lent_part size w xs = take (w + size - w) (drop w xs)

module _ (size w start end cell : ℕ) (xs : List ℕ) (h : w + size ≤ length xs) (law : lawful (part_at w size xs) ≡ true) where
  -- the map at w
  abbrev map : List ℕ
  map = part_at w size xs

  -- the bytes of a map with the range
  abbrev over : List ℕ → Bytes
  over m = overwrite start (end - start) cell (bytes_of m)

  -- The range is laid on the lent map: r says whether the map fits then, and `last` is the map that comes home.
  module _ {r : Bool} {last : List ℕ} (a : r ≡ leb (length (runs_of (over (lent_part size w xs)))) (space_in (lent_part size w xs)))
      (q : last ≡ cond r (map_for (space_in (lent_part size w xs)) (over (lent_part size w xs))) (lent_part size w xs)) where
    -- The map comes home.
    put-home : {x : Bool} → r ≡ x → put_mid w (w + size - w) xs last ≡ with_part w size (cond x (map_for (space_in map) (over map)) map) xs
    put-home t =
        let e = lent w size xs in
        home w size xs last ∙ ap (λ (n : List ℕ). with_part w size n xs) (q ∙ (λ i. cond (t i) (map_for (space_in (e i)) (over (e i))) (e i)))

    -- A map that fits has the range.
    pub put-fits : end ≤ OFFSET_MAX → Fine cell → r ≡ true → Below size w (λ b c. c ≡ over map b) xs (put_mid w (w + size - w) xs last)
    put-fits inside fine t =
        let e = lent w size xs in
        let room : leb (length (runs_of (over map))) (space_in map) ≡ true = sym (a ∙ (λ i. leb (length (runs_of (over (e i)))) (space_in (e i)))) ∙ t in
        below-made h (space_in map) (omega (arith, (lawful-map map law).fours-in, part_length w size xs h)) (over map)
        (record {
          good = good-over start end cell (bytes_of map) inside fine (bytes_fit map law).good;
          few = leb-true (length (runs_of (over map))) (space_in map) room;
        })
        (put-home t)

    -- A map that does not fit is as it was.
    pub put-kept : r ≡ false → put_mid w (w + size - w) xs last ≡ xs
    put-kept t = put-home t ∙ with_part_lem w size xs h

-- ---- One run

-- A fine cell is fine without its mark.
pub clear_fine : (c : ℕ) → Fine c → Fine (cleared c)
clear_fine c (inl e) = inl (omega arith)
clear_fine c (inr h) = inr (omega arith)

-- An unpublished run is laid without its mark.
pub take_all : (r : Run) {from to cell : ℕ} → from ≡ r.start → to ≡ end_of r → cell ≡ r.cell → (mark_in cell ≡ 0 → ⊥) →
    Taken r (record { from = from; to = to; cell = cell - 1; mark = 1 })
take_all r {from} {to} p q e h =
    let own = eq-eqb (mark_in r.cell) 1 (omega arith) in
    let n : to - from ≡ r.length = omega arith in
    record { range = λ b. (λ i. sym own i && in_range (p i) (n i) b); cell = omega arith; mark = omega arith }

-- ---- One byte

module _ (view old : Bytes) where
  -- Byte b has cell c in the published map, and cell d by the runs of the view that are still to come: it is published where no such run has it,
  -- else it is as it was.
  abbrev pub Half : ℕ → ℕ → ℕ → Type 0
  Half b d c = ((c ≡ published view old b) × (d ≡ 0)) ⊎ ((c ≡ old b) × (d ≡ view b))

  -- A run r before the runs us is laid.
  half-next : (r : Run) (us : List Run) → Lawful (r ∷ us) → (b c : ℕ) → Half b (cell_at (r ∷ us) b) c →
      Half b (cell_at us b) (cond (unpublished r.cell && in_range r.start r.length b) (cleared r.cell) c)
  unfolding cell_at
  half-next r us law b c = go (unpublished r.cell) (in_range r.start r.length b) refl alone
    where
      -- no later run has a byte of run r
      alone : in_range r.start r.length b ≡ true → cell_at us b ≡ 0
      alone e =
          mean-before OFFSET_MAX (end_of r) r.cell us law.in_order.1 b (ltb-true b (end_of r) (and_out (leb r.start b) _ e).1)

      given : {x : Bool} → unpublished r.cell ≡ x → r.cell ≡ view b → published view old b ≡ cond x (cleared r.cell) (old b)
      given e p = λ i. cond ((ap unpublished (sym p) ∙ e) i) (cleared (sym p i)) (old b)

      go : (u x : Bool) → unpublished r.cell ≡ u → (x ≡ true → cell_at us b ≡ 0) → Half b (cond x r.cell (cell_at us b)) c →
          Half b (cell_at us b) (cond (u && x) (cleared r.cell) c)
      go true true e z (inl p) = absurd (false≢true (ap unpublished (sym p.1) ∙ e))
      go true true e z (inr p) = inl (sym (given e p.1), z refl)
      go false true e z (inl p) = inl (p.0, z refl)
      go false true e z (inr p) = inl (p.0 ∙ sym (given e p.1), z refl)
      go true false e z p = p
      go false false e z p = p

-- ---- The loop

-- The slice xs has become ys, with the unpublished runs of the view at v laid on the map at w but for the runs us, of which `left` are unpublished.
pub record Laying (size v w : ℕ) (xs : List ℕ) (us : List Run) (left : ℕ) (ys : List ℕ) : Type 0 where
  pub two : Apart size w v xs
  pub rest : Lawful us
  pub counted : left ≡ length (marked us)
  pub below : Below size w (λ b. Half (bytes_of (part_at v size xs)) (bytes_of (part_at w size xs)) b (cell_at us b)) xs ys

-- A turn of the loop: run i is laid as s, where the map fits then.
pub record Turn (size v w : ℕ) (xs : List ℕ) (i left : ℕ) (ys : List ℕ) (s : Own) : Type 0 where
  pub far : i < size
  pub fine : Fine s.cell
  pub counted : s.mark ≤ left
  pub next : {zs : List ℕ} → Below size w (λ b c. c ≡ overwrite s.from (s.to - s.from) s.cell (bytes_of (part_at w size ys)) b) ys zs →
      Laying size v w xs (drop (i + 1) (runs (part_at v size xs))) (left - s.mark) zs

-- At first all runs are to come.
pub lay-start : {size v w own cell : ℕ} {xs : List ℕ} → Layable size v w own cell xs → Laying size v w xs (runs (part_at v size xs)) own xs
lay-start {size} {v} {w} {own} {cell} {xs} t =
    record {
      two = t.two;
      rest = (lawful-map (part_at v size xs) t.two.other_law).lawful-runs;
      counted = t.counted;
      below = below-start t.two.target_within t.law (λ b. inr (refl, refl));
    }

module _ {size v w left : ℕ} {xs ys : List ℕ} {us : List Run} (k : Laying size v w xs us left ys) where
  -- the bytes of the view and of the published map
  abbrev view : Bytes
  view = bytes_of (part_at v size xs)

  abbrev old : Bytes
  old = bytes_of (part_at w size xs)

  -- The slice is as long as it was.
  pub lay-length : length ys ≡ length xs
  lay-length = only-length k.two.target_within k.below.only

  -- The lawful map at w stands in the slice.
  pub lay-in : (w + size ≤ length ys) × (lawful (part_at w size ys) ≡ true)
  lay-in = (omega (arith, k.two.target_within, lay-length), k.below.law)

  -- The lent view is as it was.
  lay-view : take (v + size - v) (drop v ys) ≡ part_at v size xs
  lay-view = lent v size ys ∙ only-apart k.two.target_within k.below.only v k.two.apart

  -- Where something does not fit, each byte is published or as it was.
  pub lay-stop : {zs : List ℕ} → zs ≡ ys → Below size w (λ b c. (c ≡ published view old b) ⊎ (c ≡ old b)) xs zs
  lay-stop q = rw q (record { only = k.below.only; law = k.below.law; bytes = λ b. go b (k.below.bytes b) })
    where
      go : (b : ℕ) {d c : ℕ} → Half view old b d c → (c ≡ published view old b) ⊎ (c ≡ old b)
      go b (inl p) = inl p.0
      go b (inr p) = inr p.0

  -- With no unpublished run left, the range is laid on the published bytes.
  pub lay-end : left ≡ 0 → (s n e : ℕ) {zs : List ℕ} → Below size w (λ b c. c ≡ overwrite s n e (bytes_of (part_at w size ys)) b) ys zs →
      Below size w (λ b c. c ≡ overwrite s n e (published view old) b) xs zs
  lay-end z s n e d = below_then k.two.target_within k.below d (λ b p. ap (λ (c : ℕ). cond (in_range s n b) e c) (go b p))
    where
      go : (b : ℕ) {c : ℕ} → Half view old b (cell_at us b) c → c ≡ published view old b
      go b (inl p) = p.0
      go b (inr p) = p.0 ∙ sym (rw (← p.1, marked-none us k.rest (sym k.counted ∙ z) b))

-- Run i is laid.
module _ {size v w left : ℕ} {xs ys : List ℕ} (i : ℕ) (k : Laying size v w xs (drop i (runs (part_at v size xs))) left ys) (l : 0 < left) where
  -- the view's runs
  abbrev rs : List Run
  rs = runs (part_at v size xs)

  -- run i, and the runs behind it
  abbrev r : Run
  r = run_no rs i

  abbrev us : List Run
  us = drop (i + 1) rs

  -- There is a run i.
  some : i < length rs
  some = omega (arith, k.counted, marked-fewer (drop i rs), length-drop i rs)

  -- It is read from the lent view.
  pub lay-here : (lawful (take (v + size - v) (drop v ys)) ≡ true) × (i < length (runs (take (v + size - v) (drop v ys))))
  lay-here = rw (lay-view k) (k.two.other_law, some)

  -- It is laid.
  pub lay-turn : {s : Own} → Taken (run_no (runs (take (v + size - v) (drop v ys))) i) s → Turn size v w xs i left ys s
  lay-turn {s} q =
      record {
        far = omega (arith, some, (lawful-map (part_at v size xs) k.two.other_law).fit, part_length v size xs k.two.other_in);
        fine = subst Fine (sym taken.cell) (clear_fine r.cell (inr (law.numbered.0, law.numbered.1)));
        counted = omega (arith, count);
        next = λ d.
            record {
              two = k.two;
              rest = record { in_order = rising-earlier OFFSET_MAX (end_of r) r.cell 0 us (omega arith) law.in_order.1; numbered = law.numbered.2 };
              counted = omega (arith, count);
              below = below_then k.two.target_within k.below d byte;
            };
      }
    where
      next : drop i rs ≡ r ∷ us
      next = let e : suc i ≡ i + 1 = omega arith in drop-cons rs i (run_of 0 0 0) some ∙ ap (λ (n : ℕ). r ∷ drop n rs) e

      law : Lawful (r ∷ us)
      law = subst Lawful next k.rest

      taken : Taken r s
      taken = subst (λ (m : List ℕ). Taken (run_no (runs m) i) s) (lay-view k) q

      count : left ≡ s.mark + length (marked us)
      count = omega (arith, k.counted, ap (λ (ps : List Run). length (marked ps)) next, marked-first r us, taken.mark)

      byte : (b : ℕ) → Half (view k) (old k) b (cell_at (drop i rs) b) (bytes_of (part_at w size ys) b) →
          Half (view k) (old k) b (cell_at us b) (overwrite s.from (s.to - s.from) s.cell (bytes_of (part_at w size ys)) b)
      byte b p = rw (taken.range b, taken.cell) (half-next (view k) (old k) r us law b (bytes_of (part_at w size ys) b) (rw next at p))

  -- What is laid of it, as the code gives it.
  module _ {o : Option Range} (q : Taken (run_no (runs (take (v + size - v) (drop v ys))) i)
      (told_own (run_no (runs (take (v + size - v) (drop v ys))) i) o)) where
    -- Where the code gives a range, that is laid.
    pub lay-some : {run : Range} → o ≡ Some run →
        Turn size v w xs i left ys (record { from = run.start; to = run.end; cell = run.cell; mark = 1 })
    lay-some e =
        let m = run_no (runs (take (v + size - v) (drop v ys))) i in lay-turn (subst (λ (x : Option Range). Taken m (told_own m x)) e q)

    -- Where it gives nothing, the map stays as it is.
    pub lay-none : o ≡ None → Laying size v w xs us left ys
    lay-none e =
        let m = run_no (runs (take (v + size - v) (drop v ys))) i in
        let t = lay-turn (subst (λ (x : Option Range). Taken m (told_own m x)) e q) in
        let f = bytes_of (part_at w size ys) in
        let p = lay-in k in
        let same : left - 0 ≡ left = omega arith in
        subst (λ (n : ℕ). Laying size v w xs us n ys) same
        (t.next (below-start p.0 p.1 (λ b. sym (over-out 0 0 (cleared m.cell) f b (λ l. omega arith)))))
