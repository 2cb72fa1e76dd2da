-- A view and the published map, which stand at two places of one slice.
use Rattle.std.specs.Prelude.{ℕ, ◌+◌, ◌*◌, Bool, not, ◌&&◌, List, length, leb, eqb}
use Rattle.extents_meaning.specs.Cells.{Bytes}
use Rattle.extents_meaning.specs.Maps.{bytes_of, lawful, lawful_published, map_at}

-- both lawful, the second without marks
abbrev pub two_maps : ℕ → ℕ → ℕ → List ℕ → Bool
two_maps space view below xs =
    not (eqb view below)
    && (leb ((view + 1) * (4 * space)) (length xs)
    && (leb ((below + 1) * (4 * space)) (length xs) && (lawful (map_at space view xs) && lawful_published (map_at space below xs))))

module _ (space view below : ℕ) (xs : List ℕ) where
  -- what the view means
  abbrev pub view_of : Bytes
  view_of = bytes_of (map_at space view xs)

  -- what the published map means
  abbrev pub below_of : Bytes
  below_of = bytes_of (map_at space below xs)
