-- The piece in hand while a range is listed, and what the function that puts it into an answer slice relies on and makes.
use Rattle.std.specs.Prelude.{ℕ, ◌+◌, ◌*◌, ◌≤◌, ◌≡◌, List, [], length}
use Rattle.extents_meaning.specs.Runs.{Run}
use Rattle.extents_meaning.specs.Maps.{threes, with_part}
use Rattle.extents_weave_meaning.specs.Walks.{put}
use Rattle.extents_map.specs.declared.list.Piece.{Piece}

-- The piece in hand where it ends at byte x, none where none is in hand.
abbrev pub ended : Piece → ℕ → List Run
ended hand x = put hand.start x hand.value []

-- The piece in hand begins at byte x or earlier, and there is room for it where the value becomes another.
pub record Room (xs : List ℕ) (hand : Piece) (x value : ℕ) : Type 0 where
  pub order : hand.start ≤ x
  pub room : (hand.value ≡ 0 → ⊥) → (value ≡ hand.value → ⊥) → hand.count * 3 + 3 ≤ length xs

-- The piece in hand and the slice then: where the value stays all stays, else the old piece is put and another begins at byte x.
pub record Turned (xs : List ℕ) (hand : Piece) (x value : ℕ) (r : Piece) (ys : List ℕ) : Type 0 where
  pub same : 1 ≤ value → value ≡ hand.value → (r ≡ hand) × (ys ≡ xs)
  pub other : (value ≡ hand.value → value ≡ 0) →
      (r ≡ record { count = hand.count + length (ended hand x); start = x; value = value })
      × (ys ≡ with_part (hand.count * 3) (length (threes (ended hand x))) (threes (ended hand x)) xs)
