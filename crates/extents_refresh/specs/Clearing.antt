-- Marks cleared in place: where a run would join the one before it, and what a map is after some marks are cleared.
use Rattle.std.specs.Prelude.{ℕ, ◌≡◌, true, List, ◌∷◌, length}
use Rattle.extents_meaning.specs.Cells.{number_in, as_published}
use Rattle.extents_meaning.specs.Runs.{Run}
use Rattle.extents_meaning.specs.Maps.{runs, bytes_of, lawful}
use Rattle.extents_map.specs.Beside.{end_of, run_no}
use Rattle.extents_pair.specs.Marks.{marked}

-- Run i of some that follow the run q does not follow the run before it at once with the same row.
abbrev pub Apart : Run → List Run → ℕ → Type 0
Apart q rs i = end_of (run_no (q ∷ rs) i) ≡ (run_no rs i).start → number_in (run_no (q ∷ rs) i).cell ≡ number_in (run_no rs i).cell → ⊥

-- Some marks of a map are cleared: it is lawful, `left` of its runs are unpublished, and it has the same bytes once every mark is cleared.
pub record Cleared (xs : List ℕ) (left : ℕ) (ys : List ℕ) : Type 0 where
  pub law : lawful ys ≡ true
  pub same : length ys ≡ length xs
  pub mean : (b : ℕ) → as_published (bytes_of ys) b ≡ as_published (bytes_of xs) b
  pub all : left ≡ length (marked (runs ys))
