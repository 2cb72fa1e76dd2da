-- The unpublished runs of a map and what they mean.
use Rattle.std.proofs.Common.{ℕ, suc, ◌+◌, ◌*◌, ◌≤◌, ◌<◌, arith, ◌≡◌, refl, ap, ◌∙◌, Bool, true, false, cond, not, ◌&&◌, List, [], ◌∷◌, length, drop, drop-cons, eqb-true}
use lib.ListN.{get_or}
use borrow.Author.Tests.{eqb-false}
use Rattle.extents_meaning.specs.Cells.{Bytes, mark_in, unpublished, as_published, refreshed}
use Rattle.extents_meaning.specs.Runs.{Run, cell_at, Lawful}
use Rattle.extents_meaning.specs.Maps.{no_marks, runs, lawful}
use Rattle.extents_meaning.proofs.Trips.{no_marks-out}
use Rattle.extents_pair.specs.Marks.{marked}
use Rattle.extents_pair.proofs.Spots.{no_run, here-at}

-- ---- Unpublished runs

-- A run counts as unpublished where its mark is 1.
pub marked-first : (r : Run) (rs : List Run) → length (marked (r ∷ rs)) ≡ mark_in r.cell + length (marked rs)
unfolding marked
marked-first r rs = go (unpublished r.cell) refl
  where
    go : (t : Bool) → unpublished r.cell ≡ t → length (cond t (r ∷ marked rs) (marked rs)) ≡ mark_in r.cell + length (marked rs)
    go true e = omega (arith, eqb-true (mark_in r.cell) 1 e)
    go false e = let z : mark_in r.cell ≡ 1 → ⊥ = eqb-false (mark_in r.cell) 1 e in omega arith

-- In a lawful map there are as many unpublished runs from run i on as behind it, and one more where the mark of run i is 1.
pub marked-at : (xs : List ℕ) → lawful xs ≡ true → (i : ℕ) → i < length (runs xs) →
    length (marked (drop i (runs xs))) ≡ get_or xs (i * 4 + 3) 0 + length (marked (drop (i + 1) (runs xs)))
marked-at xs law i h =
    let r = get_or (runs xs) i no_run in
    let z : suc i ≡ i + 1 = omega arith in
    let e : i * 4 + 3 ≡ 4 * i + 3 = omega arith in
    let first = ap (λ (l : List Run). length (marked l)) (drop-cons (runs xs) i no_run h ∙ ap (λ (j : ℕ). r ∷ drop j (runs xs)) z) in
    omega (arith, first, marked-first r (drop (i + 1) (runs xs)), ap (λ (p : ℕ). get_or xs p 0) e, (here-at xs law i h).mark)

-- There are no more unpublished runs than runs.
pub marked-fewer : (rs : List Run) → length (marked rs) ≤ length rs
unfolding marked
marked-fewer [] = omega arith
marked-fewer (r ∷ rs) = omega (arith, marked-first r rs, marked-fewer rs)

-- ---- A view without unpublished runs

-- Without unpublished runs there are no marks.
no_marks_lem : (rs : List Run) → length (marked rs) ≡ 0 → no_marks rs ≡ true
unfolding marked no_marks
no_marks_lem [] z = refl
no_marks_lem (r ∷ rs) z = go (unpublished r.cell) z (no_marks_lem rs)
  where
    go : (t : Bool) → length (cond t (r ∷ marked rs) (marked rs)) ≡ 0 → (length (marked rs) ≡ 0 → no_marks rs ≡ true) → not t && no_marks rs ≡ true
    go true z rest = absurd (omega (arith, z))
    go false z rest = rest z

module _ (rs : List Run) (law : Lawful rs) (z : length (marked rs) ≡ 0) where
  -- Without unpublished runs no byte is unpublished.
  pub marked-none : (b : ℕ) → unpublished (cell_at rs b) ≡ false
  marked-none = no_marks-out rs (no_marks_lem rs z)

  -- A view without unpublished runs is refreshed to the published map.
  pub refreshed-none : (f : Bytes) (b : ℕ) → refreshed (cell_at rs) f b ≡ f b
  refreshed-none f b = rw (marked-none b)

  -- A view without unpublished runs has no mark to clear.
  pub as_published-none : (b : ℕ) → as_published (cell_at rs) b ≡ cell_at rs b
  as_published-none b = let m : mark_in (cell_at rs b) ≡ 1 → ⊥ = eqb-false (mark_in (cell_at rs b)) 1 (marked-none b) in omega arith
