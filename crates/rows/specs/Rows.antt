-- Rows of a trace, and the slice that holds six numbers for each row.
use Rattle.std.specs.Prelude.{ℕ, zero, suc, ◌+◌, ◌*◌, cond, List, [], ◌∷◌, ◌++◌, length, get_or, take, drop, leb}
use Rattle.rows.specs.declared.row.Row.{Row}
use Rattle.rows.specs.Limits.{FIELDS, PROCESS_AT, KIND_AT, FILE_AT, OFFSET_AT, LENGTH_AT, MESSAGE_AT}

-- ---- Rows by their places

-- A row of zeros.
abbrev pub no_row : Row
no_row = record { process = 0; kind = 0; file = 0; offset = 0; length = 0; message = 0 }

-- The row at a place; past the last row a row of zeros.
abbrev pub row_at : List Row → ℕ → Row
row_at rows i = get_or rows i no_row

-- ---- Rows in a slice

-- The six numbers of a row, in field order.
unfoldable pub six : Row → List ℕ
six r = r.process ∷ (r.kind ∷ (r.file ∷ (r.offset ∷ (r.length ∷ (r.message ∷ [])))))

-- The numbers of rows, one row after the other.
unfoldable pub numbers : List Row → List ℕ
numbers [] = []
numbers (r ∷ rs) = six r ++ numbers rs

-- The row that the six numbers at the front are.
unfoldable pub row_here : List ℕ → Row
row_here xs =
    record {
      process = get_or xs PROCESS_AT 0;
      kind = get_or xs KIND_AT 0;
      file = get_or xs FILE_AT 0;
      offset = get_or xs OFFSET_AT 0;
      length = get_or xs LENGTH_AT 0;
      message = get_or xs MESSAGE_AT 0;
    }

-- The first n rows of a slice.
unfoldable pub rows_in : ℕ → List ℕ → List Row
rows_in zero xs = []
rows_in (suc n) xs = row_here xs ∷ rows_in n (drop FIELDS xs)

-- The row at a place of the rows' slice.
abbrev pub row_in : List ℕ → ℕ → Row
row_in xs k = row_here (drop (k * FIELDS) xs)

-- The slice with a row put at index k. A slice that has no room there stays as it is.
unfoldable pub with_row : ℕ → Row → List ℕ → List ℕ
with_row k r xs = cond (leb (k * FIELDS + FIELDS) (length xs)) (take (k * FIELDS) xs ++ (six r ++ drop (k * FIELDS + FIELDS) xs)) xs

-- The slice with a group of n numbers put at the place of group k. A slice that has no room there stays as it is.
unfoldable pub with_group : ℕ → ℕ → List ℕ → List ℕ → List ℕ
with_group n k group xs = cond (leb (k * n + n) (length xs)) (take (k * n) xs ++ (group ++ drop (k * n + n) xs)) xs
