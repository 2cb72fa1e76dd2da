-- Each row of sound rows is well formed.
use Rattle.std.proofs.Common.{ℕ, ◌≤◌, ◌<◌, arith, ◌≡◌, sym, subst, List, [], ◌∷◌, ◌++◌, length, length-append}
use native.Mathlib.Decide.{dec_lt}
use lib.ListN.{get_or-append}
use lib.Seq.{get_or-append_seam}
use Rattle.rows.specs.declared.row.Row.{Row}
use Rattle.trace.proofs.Laws.{WellFormed, Sound, none, next}
use Rattle.rows.specs.Limits.{PROCESSES, MESSAGES}
use Rattle.rows.specs.Rows.{row_at, no_row, row_in, rows_in}
use Rattle.rows.proofs.Slices.{length-rows, row-in}

-- the row at a place of sound rows is well formed
pub sound_row : {P : ℕ} {rows : List Row} → Sound P rows → (k : ℕ) → k < length rows → WellFormed P (row_at rows k)
sound_row none k h = absurd (omega arith)
sound_row {P} (next {rows} {r} s w m) k h = go (dec_lt k (length rows)) (λ l. sound_row s k l)
  where
    go : Dec (k < length rows) → (k < length rows → WellFormed P (row_at rows k)) → WellFormed P (row_at (rows ++ (r ∷ [])) k)
    go (yes l) ih = subst (WellFormed P) (sym (get_or-append rows (r ∷ []) no_row k l)) (ih l)
    go (no l) ih =
        let e : length rows ≡ k = omega (arith, length-append rows (r ∷ [])) in
        subst (λ (i : ℕ). WellFormed P (row_at (rows ++ (r ∷ [])) i)) e (subst (WellFormed P) (sym (get_or-append_seam rows r [] no_row)) w)

-- the first n rows of a slice, where they are sound, have processes and messages within their ranges
pub sound_fit : {P : ℕ} (n : ℕ) (xs : List ℕ) → Sound P (rows_in n xs) → P ≤ PROCESSES → (k : ℕ) → k < n →
    ((row_in xs k).process < PROCESSES) × ((row_in xs k).message < MESSAGES)
sound_fit n xs s few k h =
    let w = sound_row s k (omega (arith, length-rows n xs)) in
    let p : (row_at (rows_in n xs) k).process < PROCESSES = omega (arith, w.process) in
    subst (λ (x : Row). (x.process < PROCESSES) × (x.message < MESSAGES)) (row-in n k xs h) (p, w.message)
