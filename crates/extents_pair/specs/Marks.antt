-- The unpublished runs of a list.
use Rattle.std.specs.Prelude.{cond, List, [], ◌∷◌}
use Rattle.extents_meaning.specs.Cells.{unpublished}
use Rattle.extents_meaning.specs.Runs.{Run}

-- The unpublished ones of some runs.
unfoldable pub marked : List Run → List Run
marked [] = []
marked (r ∷ rs) = cond (unpublished r.cell) (r ∷ marked rs) (marked rs)
