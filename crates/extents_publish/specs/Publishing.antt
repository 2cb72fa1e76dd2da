-- A published map that changes in its slice while a view is published on it.
use Rattle.std.specs.Prelude.{ℕ, ◌-◌, ◌≤◌, ◌≡◌, ◌⊎◌, true, ◌&&◌, List, length, Option, None, Some}
use Rattle.rows.specs.Limits.{ROWS}
use Rattle.extents_meaning.specs.Cells.{Bytes, number_in, mark_in, unpublished, cleared, in_range, published}
use Rattle.extents_meaning.specs.Runs.{Run}
use Rattle.extents_meaning.specs.Maps.{runs, bytes_of, lawful, part_at}
use Rattle.extents_pair.specs.Marks.{marked}
use Rattle.extents_weave.specs.Rewrites.{OnlyPart, Apart}
use Rattle.extents_map.specs.declared.modes.Range.{Range}

-- A slice is another one with a lawful map at w, and P holds of each byte and its cell in the map.
pub record Below (size w : ℕ) (P : ℕ → ℕ → Type 0) (xs ys : List ℕ) : Type 0 where
  pub only : OnlyPart w size xs ys
  pub law : lawful (part_at w size ys) ≡ true
  pub bytes : (b : ℕ) → P b (bytes_of (part_at w size ys) b)

-- The cells of the map at w with the unpublished cells of the view at v.
abbrev pub published_in : ℕ → ℕ → ℕ → List ℕ → Bytes
published_in size v w xs = published (bytes_of (part_at v size xs)) (bytes_of (part_at w size xs))

-- What is laid of a run of a view: its range, empty where the run is published, its cell without the mark, and its mark.
pub record Own : Type 0 where
  pub from : ℕ
  pub to : ℕ
  pub cell : ℕ
  pub mark : ℕ

-- What is laid of a run, as the code gives it: a range with a cell, or nothing.
abbrev pub told_own : Run → Option Range → Own
told_own r None = record { from = 0; to = 0; cell = cleared r.cell; mark = 0 }
told_own r (Some range) = record { from = range.start; to = range.end; cell = range.cell; mark = 1 }

-- What is laid of a run: its bytes where the run is unpublished, else none; its cell without the mark; and its mark.
pub record Taken (r : Run) (s : Own) : Type 0 where
  pub range : (b : ℕ) → in_range s.from (s.to - s.from) b ≡ unpublished r.cell && in_range r.start r.length b
  pub cell : s.cell ≡ cleared r.cell
  pub mark : s.mark ≡ mark_in r.cell

-- A view at v with `own` unpublished runs and a range with a cell can be laid on the map at w.
pub record Layable (size v w own cell : ℕ) (xs : List ℕ) : Type 0 where
  pub two : Apart size w v xs
  pub law : lawful (part_at w size xs) ≡ true
  pub counted : own ≡ length (marked (runs (part_at v size xs)))
  pub fine : (cell ≡ 0) ⊎ ((1 ≤ number_in cell) × (number_in cell ≤ ROWS))
