-- One file of a join by itself: the questions 4 to 11 of its records, and its entries, which are its rows with the places of their records.
use Rattle.std.specs.Prelude.{ℕ, zero, suc, ◌+◌, ◌-◌, cond, List, [], ◌∷◌, ◌++◌, map, length, take, drop, eqb}
use Rattle.csv_records.specs.Reading.{Finding, nothing, malformed, past-limit, found, read_at, Records, records, Ending, all_read, at-malformed, at-limit}
use Rattle.csv_content.specs.Content.{content_of}
use Rattle.rows.specs.declared.row.Row.{Row}
use Rattle.rows.specs.Questions.{first_no}
use Rattle.rows.specs.Refusals.{MALFORMED, HEADER, ROW_LIMIT}
use Rattle.trace.specs.Rows.{row_of}
use Rattle.trace.specs.Questions.{Outcome, refused, accepted, record_questions, is_header}

-- ---- The questions 4 to 11

-- The outcome of the rest of a file's records behind the rows before, by how the text ends. It is that of one trace without the questions
-- from 12 on.
unfoldable pub file_rows : ℕ → ℕ → List Row → List (List (List ℕ)) → Ending → Outcome
file_rows rowLimit processLimit rows [] all_read = accepted rows
file_rows rowLimit processLimit rows [] at-malformed = refused MALFORMED (length rows + 1)
file_rows rowLimit processLimit rows [] at-limit = refused ROW_LIMIT (length rows + 1)
file_rows rowLimit processLimit rows (fields ∷ rest) ending =
    let first = first_no (record_questions rowLimit processLimit (length rows) (length fields) fields) in
    cond (eqb first 0) (file_rows rowLimit processLimit (rows ++ (row_of fields ∷ [])) rest ending) (refused first (length rows + 1))

-- The outcome of a file's records with a header first, at place 0.
unfoldable pub file_header : ℕ → ℕ → List (List (List ℕ)) → Ending → Outcome
file_header rowLimit processLimit [] all_read = refused HEADER 0
file_header rowLimit processLimit [] at-malformed = refused MALFORMED 0
file_header rowLimit processLimit [] at-limit = refused HEADER 0
file_header rowLimit processLimit (fields ∷ rest) ending =
    cond (is_header fields) (file_rows rowLimit processLimit [] rest ending) (refused HEADER 0)

-- The outcome of records under a header word.
unfoldable pub file_records : ℕ → ℕ → ℕ → Records → Outcome
file_records header rowLimit processLimit r =
    cond (eqb header 0) (file_rows rowLimit processLimit [] r.rows r.ending) (file_header rowLimit processLimit r.rows r.ending)

-- The outcome of a file's text. A file of a join has no limit of bytes.
unfoldable pub read_file : ℕ → ℕ → ℕ → List ℕ → Outcome
read_file header rowLimit processLimit text = file_records header rowLimit processLimit (records text (length text))

-- ---- Entries

-- A row of a join: the file that holds its record, 1 or 2, where the record starts there, where it ends before its line end, and the row.
pub record Entry : Type 0 where
  pub file : ℕ
  pub start : ℕ
  pub end : ℕ
  pub row : Row

-- The rows of entries.
unfoldable pub rows_of : List Entry → List Row
rows_of [] = []
rows_of (e ∷ es) = e.row ∷ rows_of es

-- The part of its file that an entry names: the record without its line end.
abbrev pub part_of : List ℕ → Entry → List ℕ
part_of text e = take (e.end - e.start) (drop e.start text)

-- The entries of a file from a finding at a place on; `rest` goes on at a place.
unfoldable pub on_entry : ℕ → List ℕ → ℕ → Finding → (ℕ → List Entry) → List Entry
on_entry file text at nothing rest = []
on_entry file text at malformed rest = []
on_entry file text at past-limit rest = []
on_entry file text at (found spans end next) rest =
    record { file = file; start = at; end = end; row = row_of (map (content_of text) spans) } ∷ rest next

-- The entries of a file from a place on. The first number bounds how many; a number larger than the bytes' number changes nothing.
unfoldable pub entries_from : ℕ → ℕ → List ℕ → ℕ → List Entry
entries_from zero file text at = []
entries_from (suc k) file text at = on_entry file text at (read_at text at (length text)) (λ p. entries_from k file text p)

-- The place behind a record that is found; 0 where none is.
abbrev pub behind : Finding → ℕ
behind nothing = 0
behind malformed = 0
behind past-limit = 0
behind (found spans end next) = next

-- Where a file's first row may start: at the front, and behind the header where there is one.
unfoldable pub rows_start : ℕ → List ℕ → ℕ
rows_start header text = cond (eqb header 0) 0 (behind (read_at text 0 (length text)))

-- The entries of a file under its header word.
unfoldable pub entries_of : ℕ → ℕ → List ℕ → List Entry
entries_of file header text = entries_from (suc (length text)) file text (rows_start header text)
