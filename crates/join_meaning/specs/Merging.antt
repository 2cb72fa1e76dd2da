-- Mergings of two files: every order of their rows that keeps the order of each file. An allowed merging lets no row stand where it would wait.
use Rattle.std.specs.Prelude.{ℕ, ◌<◌, ◌≡◌, false, List, [], ◌∷◌, ◌++◌, length, take}
use Rattle.rows.specs.declared.row.Row.{Row}
use Rattle.rows.specs.Rows.{row_at}
use Rattle.join_meaning.specs.Joining.{waits}

-- A list is a merging of two: each next element is the next of the first or of the second.
pub data Merged {A : Type 0} : List A → List A → List A → Type 0 where
  none : Merged [] [] []
  first : {r : A} {a b m : List A} → Merged a b m → Merged (r ∷ a) b (r ∷ m)
  second : {r : A} {a b m : List A} → Merged a b m → Merged a (r ∷ b) (r ∷ m)

-- A merging of two files' rows in which no row stands where it would have to wait.
pub record AllowedMerging (a b m : List Row) : Type 0 where
  pub merges : Merged a b m
  pub in_order : (k : ℕ) → k < length m → waits (a ++ b) (take k m) (row_at m k) ≡ false
