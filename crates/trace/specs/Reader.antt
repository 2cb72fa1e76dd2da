-- Reading the rows of a text, whatever is asked of a row behind the questions 6 to 11. What is asked has a state: `asked` gives the number of
-- the first No to a row, 0 where there is none, and `noted` the state behind the row.
use Rattle.std.specs.Prelude.{ℕ, suc, ◌+◌, ◌*◌, cond, leb, List, [], ◌∷◌, ◌++◌, length, drop, replicate, eqb, Option, Some, None, Result, Ok, Err}
use Rattle.csv_records.specs.Reading.{Finding, nothing, malformed, past-limit, found, records_from, Records, Ending, all_read, at-malformed, at-limit}
use Rattle.rows.specs.declared.row.Row.{Row}
use Rattle.rows.specs.declared.refusal.Refusal.{Refusal}
use Rattle.rows.specs.Limits.{FIELDS, ROWS}
use Rattle.rows.specs.Questions.{Question, first_no}
use Rattle.rows.specs.Rows.{numbers}
use Rattle.rows.specs.Refusals.{SHORT_SLICE, LIMITS, MALFORMED, HEADER, ROW_LIMIT, number_of}
use Rattle.trace.specs.declared.reading.NextRow.{NextRow}
use Rattle.trace.specs.Rows.{row_of}
use Rattle.trace.specs.Questions.{record_questions, is_header, Outcome, refused, accepted}
use Rattle.trace.specs.Reads.{fields_of}

-- the outcome of the rest of the records behind the rows before, by how the text ends; a record that meets the byte limit gets 6
unfoldable pub judge_asked : {S : Type 0} → (S → Row → ℕ) → (S → Row → S) → ℕ → ℕ → S → List Row → List (List (List ℕ)) → Ending → Outcome
judge_asked asked noted rowLimit processLimit s rows [] all_read = accepted rows
judge_asked asked noted rowLimit processLimit s rows [] at-malformed = refused MALFORMED (length rows + 1)
judge_asked asked noted rowLimit processLimit s rows [] at-limit = refused ROW_LIMIT (length rows + 1)
judge_asked asked noted rowLimit processLimit s rows (fields ∷ rest) ending =
    let first = first_no (record_questions rowLimit processLimit (length rows) (length fields) fields) in
    let row = row_of fields in
    cond (eqb first 0)
    (cond (eqb (asked s row) 0)
    (judge_asked asked noted rowLimit processLimit (noted s row) (rows ++ (row ∷ [])) rest ending)
    (refused (asked s row) (length rows + 1)))
    (refused first (length rows + 1))

-- the outcome of the rows from a place of the text on
unfoldable pub rows_asked : {S : Type 0} → (S → Row → ℕ) → (S → Row → S) → ℕ → ℕ → List ℕ → ℕ → S → ℕ → Outcome
rows_asked asked noted rowLimit processLimit text byteLimit s at =
    let r = records_from (suc (length text)) text byteLimit at in
    judge_asked asked noted rowLimit processLimit s [] r.rows r.ending

-- the outcome of records with a header first, at place 0; a header that meets the byte limit gets 5, as does a text without records
unfoldable pub behind_header : (List (List (List ℕ)) → Ending → Outcome) → List (List (List ℕ)) → Ending → Outcome
behind_header judge [] all_read = refused HEADER 0
behind_header judge [] at-malformed = refused MALFORMED 0
behind_header judge [] at-limit = refused HEADER 0
behind_header judge (fields ∷ rest) ending = cond (is_header fields) (judge rest ending) (refused HEADER 0)

-- the outcome of records under a header word: the rows start behind a header unless the word is 0
unfoldable pub read_by : (List (List (List ℕ)) → Ending → Outcome) → ℕ → Records → Outcome
read_by judge header r = cond (eqb header 0) (judge r.rows r.ending) (behind_header judge r.rows r.ending)

-- 1. has the slice six numbers for as many rows as the limit says? 2. is that limit within its range?
abbrev pub room_questions : ℕ → ℕ → List Question
room_questions rowLimit rowsLength =
    record { number = SHORT_SLICE; yes = leb (FIELDS * rowLimit) rowsLength } ∷ (record { number = LIMITS; yes = leb rowLimit ROWS } ∷ [])

-- the outcome of records under a header word, of a slice and a row limit that are asked first
unfoldable pub read_asked : (List (List (List ℕ)) → Ending → Outcome) → ℕ → ℕ → ℕ → Records → Outcome
read_asked judge header rowLimit rowsLength r =
    let first = first_no (room_questions rowLimit rowsLength) in
    cond (eqb first 0) (read_by judge header r) (refused first 0)

-- what the reading leaves of a slice that was xs, by the first No to the slice and the row limit: that No keeps the slice, any other No fills it with
-- 0, and the rows of an accepted text stand at its front
abbrev pub text_left : ℕ → Outcome → List ℕ → List ℕ
text_left first (refused number place) xs = cond (eqb first 0) (replicate (length xs) 0) xs
text_left first (accepted rows) xs = numbers rows ++ drop (6 * length rows) xs

-- ---- What is known behind the reading

-- the state behind the rest of the records behind the rows before: that behind the first No, and behind every record where there is none
unfoldable pub state_asked : {S : Type 0} → (S → Row → ℕ) → (S → Row → S) → ℕ → ℕ → S → List Row → List (List (List ℕ)) → S
state_asked asked noted rowLimit processLimit s rows [] = s
state_asked asked noted rowLimit processLimit s rows (fields ∷ rest) =
    let first = first_no (record_questions rowLimit processLimit (length rows) (length fields) fields) in
    let row = row_of fields in
    cond (eqb first 0)
    (cond (eqb (asked s row) 0) (state_asked asked noted rowLimit processLimit (noted s row) (rows ++ (row ∷ [])) rest) (noted s row))
    s

-- the state behind the rows from a place of the text on
unfoldable pub rows_state : {S : Type 0} → (S → Row → ℕ) → (S → Row → S) → ℕ → ℕ → List ℕ → ℕ → S → ℕ → S
rows_state asked noted rowLimit processLimit text byteLimit s at =
    state_asked asked noted rowLimit processLimit s [] (records_from (suc (length text)) text byteLimit at).rows

-- the state behind records with a header first, where it was s before them: a No to the header leaves it
unfoldable pub state_behind_header : {S : Type 0} → (List (List (List ℕ)) → S) → S → List (List (List ℕ)) → S
state_behind_header state s [] = s
state_behind_header state s (fields ∷ rest) = cond (is_header fields) (state rest) s

-- the state behind records under a header word
unfoldable pub state_by : {S : Type 0} → (List (List (List ℕ)) → S) → S → ℕ → Records → S
state_by state s header r = cond (eqb header 0) (state r.rows) (state_behind_header state s r.rows)

-- the state behind records under a header word, of a slice and a row limit that are asked first: a No to these leaves it
unfoldable pub state_read : {S : Type 0} → (List (List (List ℕ)) → S) → S → ℕ → ℕ → ℕ → Records → S
state_read state s header rowLimit rowsLength r =
    cond (eqb (first_no (room_questions rowLimit rowsLength)) 0) (state_by state s header r) s

-- ---- The parts of the reading

-- the number of the No to the first record as a header, by what the reader finds, and 0 where it has the six names
unfoldable pub first_record_no : List ℕ → Finding → ℕ
first_record_no text nothing = HEADER
first_record_no text malformed = MALFORMED
first_record_no text past-limit = HEADER
first_record_no text (found spans end next) = cond (is_header (fields_of text spans)) 0 HEADER

-- the number of the No to a text's header; under header word 0 there is none
abbrev pub header_no : ℕ → List ℕ → Finding → ℕ
header_no header text first = cond (eqb header 0) 0 (first_record_no text first)

-- the place behind the first record
abbrev pub behind_first : Finding → ℕ
behind_first nothing = 0
behind_first malformed = 0
behind_first past-limit = 0
behind_first (found spans end next) = next

-- where the rows of a text start
abbrev pub rows_start : ℕ → Finding → ℕ
rows_start header first = cond (eqb header 0) 0 (behind_first first)

-- what stands at a place of the rows: the end of the text, a No by its number, or a row and the place behind it
pub data Step : Type 0 where
  ended : Step
  stopped : ℕ → Step
  taken : Row → ℕ → Step

-- the step that an answer tells
abbrev pub told_step : Result (Option NextRow) Refusal → Step
told_step (Ok None) = ended
told_step (Ok (Some r)) = taken r.row r.next
told_step (Err e) = stopped (number_of e)

-- the step behind n rows, by what the reader finds
unfoldable pub step_of : (Row → ℕ) → ℕ → ℕ → ℕ → List ℕ → Finding → Step
step_of asked rowLimit processLimit n text nothing = ended
step_of asked rowLimit processLimit n text malformed = stopped MALFORMED
step_of asked rowLimit processLimit n text past-limit = stopped ROW_LIMIT
step_of asked rowLimit processLimit n text (found spans end next) =
    let fields = fields_of text spans in
    let first = first_no (record_questions rowLimit processLimit n (length fields) fields) in
    let row = row_of fields in
    cond (eqb first 0) (cond (eqb (asked row) 0) (taken row next) (stopped (asked row))) (stopped first)

-- the state behind the record that the reader finds behind n rows: that of its row, where the questions 6 to 11 have no No
unfoldable pub state_of : {S : Type 0} → (S → Row → S) → ℕ → ℕ → ℕ → S → List ℕ → Finding → S
state_of noted rowLimit processLimit n s text nothing = s
state_of noted rowLimit processLimit n s text malformed = s
state_of noted rowLimit processLimit n s text past-limit = s
state_of noted rowLimit processLimit n s text (found spans end next) =
    let fields = fields_of text spans in
    let first = first_no (record_questions rowLimit processLimit n (length fields) fields) in
    cond (eqb first 0) (noted s (row_of fields)) s
