-- The two maps of a struct Pair in a slice: what they mean, and what the functions that take one ask of it.
use Rattle.std.specs.Prelude.{ℕ, ◌≡◌, Bool, List, length}
use Rattle.extents_meaning.specs.Cells.{Bytes}
use Rattle.extents_meaning.specs.Maps.{runs, map_at}
use Rattle.extents_meaning.specs.Pairs.{two_maps, view_of, below_of}
use Rattle.extents_pair.specs.Marks.{marked}
use Rattle.extents_pair.specs.declared.Pair.{Pair}

module _ (p : Pair) (xs : List ℕ) where
  -- Both maps are lawful, the second without marks.
  abbrev pub two_maps_in : Bool
  two_maps_in = two_maps p.space p.view p.below xs

  -- The cells of the view.
  abbrev pub view_in : Bytes
  view_in = view_of p.space p.view p.below xs

  -- The cells of the published map.
  abbrev pub below_in : Bytes
  below_in = below_of p.space p.view p.below xs

  -- The field `own` counts the unpublished runs of the view.
  abbrev pub OwnCounted : Type 0
  OwnCounted = p.own ≡ length (marked (runs (map_at p.space p.view xs)))
