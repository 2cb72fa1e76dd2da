-- Every race of the rows under a model, once, by its later row and then by its earlier row.
use Rattle.std.specs.Prelude.{ℕ, zero, suc, cond, List, [], ◌∷◌, ◌++◌, length}
use Rattle.rows.specs.declared.row.Row.{Row}
use Rattle.races_meaning.specs.Races.{race, Verdict, free, racing}

-- Two rows by their numbers, the earlier row first.
pub record RowPair : Type 0 where
  pub earlier : ℕ
  pub later : ℕ

module _ (rows : List Row) (model : ℕ) where
  -- The races of the later row at index y with the rows below index x.
  unfoldable pub pairs_with : ℕ → ℕ → List RowPair
  pairs_with y zero = []
  pairs_with y (suc x) = pairs_with y x ++ cond (race rows model x y) (record { earlier = suc x; later = suc y } ∷ []) []

  -- The races whose later row stands below index y.
  unfoldable pub pairs_below : ℕ → List RowPair
  pairs_below zero = []
  pairs_below (suc y) = pairs_below y ++ pairs_with y y

-- Every race of the rows.
unfoldable pub race_pairs : List Row → ℕ → List RowPair
race_pairs rows model = pairs_below rows model (length rows)

-- Pairs as a list holds them: two numbers each, the earlier row's first.
unfoldable pub pair_numbers : List RowPair → List ℕ
pair_numbers [] = []
pair_numbers (p ∷ pairs) = p.earlier ∷ (p.later ∷ pair_numbers pairs)

-- The first pair of a list as a verdict; free where the list is empty.
abbrev pub first_of : List RowPair → Verdict
first_of [] = free
first_of (p ∷ pairs) = racing p.earlier p.later
