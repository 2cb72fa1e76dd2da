-- Laws of mergings of two lists, and of the rows of entries.
use Rattle.std.proofs.Common.{ℕ, zero, suc, ◌+◌, ◌<◌, arith, ◌≡◌, refl, ap, List, [], ◌∷◌, ◌++◌, length}
use Rattle.rows.specs.declared.row.Row.{Row}
use Rattle.rows.specs.Rows.{row_at}
use Rattle.join_meaning.specs.Files.{Entry, rows_of}
use Rattle.join_meaning.specs.Merging.{Merged, none, first, second}

-- ---- The rows of entries

-- The rows of two lists of entries, one behind the other.
pub rows_append : (a b : List Entry) → rows_of (a ++ b) ≡ rows_of a ++ rows_of b
unfolding rows_of
rows_append [] b = refl
rows_append (e ∷ a) b = ap (λ (l : List Row). e.row ∷ l) (rows_append a b)

-- There are as many rows as entries.
pub rows-length : (a : List Entry) → length (rows_of a) ≡ length a
unfolding rows_of
rows-length [] = refl
rows-length (e ∷ a) = ap suc (rows-length a)

-- ---- Mergings

-- The rows of a merging of entries are a merging of the entries' rows.
pub merged_rows : {a b m : List Entry} → Merged a b m → Merged (rows_of a) (rows_of b) (rows_of m)
unfolding rows_of
merged_rows none = none
merged_rows (first d) = first (merged_rows d)
merged_rows (second d) = second (merged_rows d)

-- A merging has as many elements as both lists.
pub merged_length : {A : Type 0} {a b m : List A} → Merged a b m → length m ≡ length a + length b
merged_length none = refl
merged_length (first d) = let q = merged_length d in omega arith
merged_length (second d) = let q = merged_length d in omega arith

-- A merging of two lists is a merging of the second and the first.
pub merged_other : {A : Type 0} {a b m : List A} → Merged a b m → Merged b a m
merged_other none = none
merged_other (first d) = second (merged_other d)
merged_other (second d) = first (merged_other d)

-- What holds of every row of both files holds of every row of a merging.
pub merged_every : {a b m : List Row} (Q : Row → Type 0) → Merged a b m → ((k : ℕ) → k < length a → Q (row_at a k)) →
    ((k : ℕ) → k < length b → Q (row_at b k)) → (k : ℕ) → k < length m → Q (row_at m k)
merged_every Q none f g k h = absurd (omega arith)
merged_every Q (first d) f g zero h = f 0 (omega arith)
merged_every Q (first d) f g (suc k) h = merged_every Q d (λ i l. f (suc i) (omega arith)) g k (omega arith)
merged_every Q (second d) f g zero h = g 0 (omega arith)
merged_every Q (second d) f g (suc k) h = merged_every Q d f (λ i l. g (suc i) (omega arith)) k (omega arith)
