-- A search for a row that passes a test, row after row of a slice.
use Rattle.std.proofs.Common.{ℕ, ◌+◌, ◌<◌, ◌≤◌, arith, ◌≡◌, refl, sym, ap, ◌∙◌, Bool, true, false, ◌||◌, List, length}
use Rattle.rows.specs.declared.row.Row.{Row}
use Rattle.rows.specs.Rows.{row_in, rows_in}
use Rattle.rows.specs.Tests.{any}
use Rattle.rows.proofs.Slices.{row_next, row-in, length-rows}
use Rattle.rows.proofs.Tests.{any_last, some_in}

module _ (test : Row → Bool) (xs : List ℕ) where
  -- Before the first row no row passes.
  pub search_none : any test (rows_in 0 xs) ≡ false
  unfolding rows_in any
  search_none = refl

  -- Past the last row none does.
  pub search_over : {n k : ℕ} → any test (rows_in k xs) ≡ false → k ≤ n → n ≤ k → false ≡ any test (rows_in n xs)
  search_over {n} {k} e h l = let q : k ≡ n = omega arith in sym e ∙ ap (λ (j : ℕ). any test (rows_in j xs)) q

  -- A row that does not pass leaves the search open.
  pub search_on : (k : ℕ) → any test (rows_in k xs) ≡ false → {b : Bool} → b ≡ test (row_in xs k) → b ≡ false → any test (rows_in (k + 1) xs) ≡ false
  search_on k n {b} e f = ap (any test) (row_next k xs) ∙ any_last test (rows_in k xs) (row_in xs k) ∙ (λ i. n i || (sym e ∙ f) i)

  -- A row that passes ends it.
  pub search_found : (n k : ℕ) → k < n → {b : Bool} → b ≡ test (row_in xs k) → b ≡ true → true ≡ any test (rows_in n xs)
  search_found n k h e f =
      let here : k < length (rows_in n xs) = omega (arith, length-rows n xs) in
      sym (some_in test (rows_in n xs) k here (ap test (row-in n k xs h) ∙ sym e ∙ f))
