-- What an entry makes of a byte, from the cells of a view and of the published map and from a range with a cell of its own.
use Rattle.std.specs.Prelude.{ℕ, suc, ◌-◌, Bool, true, false, cond}
use Rattle.extents_meaning.specs.Cells.{Bytes, number_in, unpublished, cleared, in_range}
use Rattle.extents_map.specs.declared.modes.Range.{Range}

-- What a mix makes of the cells of two maps, a view and the published map: Publish is the published map after publishing the view and a range,
-- MarkPublished the view then, Refresh the view after a refresh. ReadMap and ReadFresh are a piece's value, its row number and one: in the view,
-- and in the view after a refresh.
pub data Mode : Type 0 where
  Publish : Mode
  MarkPublished : Mode
  Refresh : Mode
  ReadMap : Mode
  ReadFresh : Mode

-- A mix of two maps and a range that has a cell of its own.
pub record Mix : Type 0 where
  pub mode : Mode
  pub start : ℕ
  pub end : ℕ
  pub cell : ℕ

-- The mix of a mode and a range.
abbrev pub mix_for : Mode → Range → Mix
mix_for mode range = record { mode = mode; start = range.start; end = range.end; cell = range.cell }

-- One byte of a mix: c is the range's cell, v the view's, w the published map's.
unfoldable pub mixed : Mode → Bool → ℕ → ℕ → ℕ → ℕ
mixed Publish inside c v w = cond inside c (cond (unpublished v) (cleared v) w)
mixed MarkPublished inside c v w = cond inside c (cleared v)
mixed Refresh inside c v w = cond (unpublished v) v w
mixed ReadMap inside c v w = suc (number_in v)
mixed ReadFresh inside c v w = suc (number_in (cond (unpublished v) v w))

-- Every byte of a mix: v is the view, w the published map, and `length` bytes from `start` on have cell c.
abbrev pub mix : Mode → ℕ → ℕ → ℕ → Bytes → Bytes → Bytes
mix mode start length c v w b = mixed mode (in_range start length b) c (v b) (w b)

-- Every byte of a mix whose mode, range and cell stand in a struct.
abbrev pub mix_in : Mix → Bytes → Bytes → Bytes
mix_in m v w = mix m.mode m.start (m.end - m.start) m.cell v w

-- The mode makes a map; the two other modes make the values of pieces.
abbrev pub makes_map : Mode → Bool
makes_map Publish = true
makes_map MarkPublished = true
makes_map Refresh = true
makes_map ReadMap = false
makes_map ReadFresh = false

-- The mode marks the view published: its mix needs the view and the range alone.
abbrev pub is_mark_published : Mode → Bool
is_mark_published Publish = false
is_mark_published MarkPublished = true
is_mark_published Refresh = false
is_mark_published ReadMap = false
is_mark_published ReadFresh = false

-- ---- A map written by a mix

-- The view is the map that the mode writes; Publish writes the published map.
abbrev pub view_is_target : Mode → Bool
view_is_target Publish = false
view_is_target MarkPublished = true
view_is_target Refresh = true
view_is_target ReadMap = true
view_is_target ReadFresh = true

-- The cell that a byte of the target becomes: t is its cell, o the other map's, c the range's.
abbrev pub becomes : Mode → Bool → ℕ → ℕ → ℕ → ℕ
becomes mode inside c t o = cond (view_is_target mode) (mixed mode inside c t o) (mixed mode inside c o t)

-- What every byte of the target becomes, for each cell that it may have there: o is the other map.
abbrev pub becomes_in : Mix → Bytes → ℕ → ℕ → ℕ
becomes_in m o b t = becomes m.mode (in_range m.start (m.end - m.start) b) m.cell t (o b)
