-- The rows of a trace put in another allowed order.
use Rattle.std.specs.Prelude.{ℕ, suc, ◌<◌, Bool, cond, ◌||◌, List, [], ◌∷◌, map, length, eqb}
use Rattle.rows.specs.declared.row.Row.{Row}
use Rattle.rows.specs.Rows.{row_at}
use Rattle.rows.specs.Lists.{In}
use Rattle.races_meaning.specs.Races.{race}
use Rattle.consistency.specs.Orders.{Allowed}

-- All rows of a trace, in an allowed order.
pub record Whole (rows : List Row) (order : List ℕ) : Type 0 where
  pub allowed : Allowed rows order
  pub all : (k : ℕ) → k < length rows → In k order

-- The rows in that order.
unfoldable pub reordered : List Row → List ℕ → List Row
reordered rows order = map (row_at rows) order

-- The place of row k in that order, from 0.
unfoldable pub place_in : List ℕ → ℕ → ℕ
place_in [] k = 0
place_in (c ∷ order) k = cond (eqb c k) 0 (suc (place_in order k))

-- The rows at i and j race, whichever of them stands first.
abbrev pub race_between : List Row → ℕ → ℕ → ℕ → Bool
race_between rows model i j = race rows model i j || race rows model j i
