-- Bytes and what a map holds for them. A cell is one number: twice a row number, and one more where the byte is unpublished; 0 where nothing
-- was written.
use Rattle.std.specs.Prelude.{ℕ, ◌+◌, ◌*◌, ◌/◌, ◌%◌, Bool, cond, ◌&&◌, leb, ltb, eqb}

-- The cell of a row number and a mark.
abbrev pub cell_of : ℕ → ℕ → ℕ
cell_of number mark = number * 2 + mark

-- The row number of a cell.
abbrev pub number_in : ℕ → ℕ
number_in c = c / 2

-- The mark of a cell.
abbrev pub mark_in : ℕ → ℕ
mark_in c = c % 2

-- The mark of an unpublished cell is 1.
abbrev pub unpublished : ℕ → Bool
unpublished c = eqb (mark_in c) 1

-- A cell's row number, published.
abbrev pub cleared : ℕ → ℕ
cleared c = cell_of (number_in c) 0

-- the cell of every byte
abbrev pub Bytes : Type 0
Bytes = ℕ → ℕ

-- Byte b is one of the `length` bytes from `start` on.
abbrev pub in_range : ℕ → ℕ → ℕ → Bool
in_range start length b = leb start b && ltb b (start + length)

-- a range gets a cell
abbrev pub overwrite : ℕ → ℕ → ℕ → Bytes → Bytes
overwrite start length c f b = cond (in_range start length b) c (f b)

-- The published map after publishing a view: the map takes the unpublished bytes.
abbrev pub published : Bytes → Bytes → Bytes
published view below b = cond (unpublished (view b)) (cleared (view b)) (below b)

-- The view after publishing: every byte is marked published.
abbrev pub as_published : Bytes → Bytes
as_published view b = cleared (view b)

-- A view after a refresh: each byte that is not unpublished comes from the published map.
abbrev pub refreshed : Bytes → Bytes → Bytes
refreshed view below b = cond (unpublished (view b)) (view b) (below b)
