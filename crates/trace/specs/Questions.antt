-- The questions put to an input, each one definition, in document 01's order; the first No decides. The crate `trace_fields` defines the
-- questions 8 to 11, which are put to the fields of one record, and the crate `messages` those from 12 on, which are put to a row behind the
-- rows before it. The crate `barriers` defines 22, which is put to all rows once every record has passed.
use Rattle.std.specs.Prelude.{ℕ, ◌+◌, ◌*◌, ◌-◌, Bool, cond, ◌&&◌, List, [], ◌∷◌, ◌++◌, ◌≡◌, length, drop, replicate, leb, ltb, eqb, Result, Ok, Err}
use Rattle.csv_records.specs.Reading.{records, Records, Ending, all_read, at-malformed, at-limit}
use Rattle.rows.specs.Limits.{MODELS, ROWS}
use Rattle.rows.specs.declared.row.Row.{Row}
use Rattle.rows.specs.declared.refusal.Refused.{Refused as Refusing}
use Rattle.trace.specs.Rows.{header_names, same_fields, row_of}
use Rattle.rows.specs.Rows.{numbers}
pub use Rattle.messages.specs.Questions.{carries, carries_by, sent, sent_by, posted, posted_by, waited_for}
unfoldable pub use Rattle.messages.specs.Questions.{any, message_in_order, wait_in_order, message_questions}
pub use Rattle.trace_numbers.specs.Numbers.{number_if, OFFSETS}
pub use Rattle.trace_fields.specs.Questions.{kind_known, as_used, end_in_range}
unfoldable pub use Rattle.trace_fields.specs.Questions.{filled_as_used, numbers_in_range, field_questions}
use Rattle.rows.specs.Questions.{Question, first_no, long_enough, is_process_limit}
use Rattle.rows.specs.Refusals.{BARRIER_ORDER, number_of}
use Rattle.barriers.specs.Barriers.{barrier_place}

-- ---- The questions of the caller's numbers and slices

-- 2. Are model 0 to 3, row limit 1 to 4,096, and the process limit within its range?
abbrev pub in_limits : ℕ → ℕ → ℕ → Bool
in_limits model rowLimit processLimit =
    ltb model MODELS && (leb 1 rowLimit && (leb rowLimit ROWS && is_process_limit processLimit))

-- 3. Is the header word 0 (absent) or 1 (present)?
abbrev pub header_word : ℕ → Bool
header_word header = leb header 1

-- the questions 1 to 3
unfoldable pub call_questions : ℕ → ℕ → ℕ → ℕ → ℕ → ℕ → List Question
call_questions header model rowLimit processLimit rowsLength countsLength =
    record { number = 1; yes = long_enough rowLimit processLimit rowsLength countsLength }
    ∷ (record { number = 2; yes = in_limits model rowLimit processLimit }
    ∷ (record { number = 3; yes = header_word header } ∷ []))

-- ---- The questions of each record. Reading a record answers 4, whether the record is well formed.

-- 5. Has the header the six names in order?
abbrev pub is_header : List (List ℕ) → Bool
is_header fields = same_fields fields header_names

-- 6. Is the row's number within the row limit? `before` counts the rows before it.
abbrev pub in_row_limit : ℕ → ℕ → Bool
in_row_limit rowLimit before = ltb before rowLimit

-- 7. Are there six fields?
abbrev pub six_fields : List (List ℕ) → Bool
six_fields fields = eqb (length fields) 6

-- The questions 6 to 11 of a record of `count` fields behind n rows.
unfoldable pub record_questions : ℕ → ℕ → ℕ → ℕ → List (List ℕ) → List Question
record_questions rowLimit processLimit n count fields =
    record { number = 6; yes = in_row_limit rowLimit n } ∷ (record { number = 7; yes = eqb count 6 } ∷ field_questions processLimit fields)

-- All questions of a record behind the rows before: 6 to 11, then those of its row's message.
unfoldable pub row_questions : ℕ → ℕ → List Row → List (List ℕ) → List Question
row_questions rowLimit processLimit earlier fields =
    record_questions rowLimit processLimit (length earlier) (length fields) fields ++ message_questions earlier (row_of fields)

-- ---- What an input comes to

-- a refusal's number and place, or the rows of an accepted trace
pub data Outcome : Type 0 where
  refused : (number place : ℕ) → Outcome
  accepted : List Row → Outcome

-- the outcome of the rest of the records behind the rows before, by how the text ends; a record that meets the byte limit gets 6
unfoldable pub judge_rows : ℕ → ℕ → List Row → List (List (List ℕ)) → Ending → Outcome
judge_rows rowLimit processLimit rows [] all_read = accepted rows
judge_rows rowLimit processLimit rows [] at-malformed = refused 4 (length rows + 1)
judge_rows rowLimit processLimit rows [] at-limit = refused 6 (length rows + 1)
judge_rows rowLimit processLimit rows (fields ∷ rest) ending =
    let first = first_no (row_questions rowLimit processLimit rows fields) in
    cond (eqb first 0) (judge_rows rowLimit processLimit (rows ++ (row_of fields ∷ [])) rest ending) (refused first (length rows + 1))

-- the outcome of records with a header first, at place 0; a header that meets the byte limit gets 5, as does a text without records
unfoldable pub judge_header : ℕ → ℕ → List (List (List ℕ)) → Ending → Outcome
judge_header rowLimit processLimit [] all_read = refused 5 0
judge_header rowLimit processLimit [] at-malformed = refused 4 0
judge_header rowLimit processLimit [] at-limit = refused 5 0
judge_header rowLimit processLimit (fields ∷ rest) ending =
    cond (is_header fields) (judge_rows rowLimit processLimit [] rest ending) (refused 5 0)

-- the outcome of a text by the questions of its records, where the header word is 0 or 1
unfoldable pub read_records : ℕ → ℕ → ℕ → Records → Outcome
read_records header rowLimit processLimit r =
    cond (eqb header 0) (judge_rows rowLimit processLimit [] r.rows r.ending) (judge_header rowLimit processLimit r.rows r.ending)

-- 22, put once every record has passed: is every row in its turn, and every barrier finished at the end? A refusal of a record stays as it is.
unfoldable pub ask_barriers : Outcome → Outcome
ask_barriers (refused number place) = refused number place
ask_barriers (accepted rows) = cond (eqb (barrier_place rows) 0) (accepted rows) (refused BARRIER_ORDER (barrier_place rows))

-- the outcome of a text whose header word is 0 or 1
unfoldable pub read_trace : ℕ → ℕ → ℕ → Records → Outcome
read_trace header rowLimit processLimit r = ask_barriers (read_records header rowLimit processLimit r)

-- the outcome of the whole call
unfoldable pub check_trace : List ℕ → ℕ → ℕ → ℕ → ℕ → ℕ → ℕ → ℕ → Outcome
check_trace text header model rowLimit processLimit byteLimit rowsLength countsLength =
    let first = first_no (call_questions header model rowLimit processLimit rowsLength countsLength) in
    cond (eqb first 0) (read_trace header rowLimit processLimit (records text byteLimit)) (refused first 0)

-- ---- What a call answers and leaves

-- the answer to a trace: its row count, or the number of the question that was answered No and the record's place
pub data Checked : Type 0 where
  Accepted : ℕ → Checked
  Refused : (number place : ℕ) → Checked

-- the numbers that an answer gives
abbrev pub told : Result ℕ Refusing → Checked
told (Ok n) = Accepted n
told (Err e) = Refused (number_of e.refusal) e.place

-- the number and place of a refusal, or the row count
abbrev pub checked_of : Outcome → Checked
checked_of (refused number place) = Refused number place
checked_of (accepted rows) = Accepted (length rows)

-- the rows of an accepted trace stand at the front of a slice that was xs, and the rest of the slice is unchanged
abbrev pub Holds : Outcome → List ℕ → List ℕ → Type 0
Holds (refused number place) xs ys = Unit {0}
Holds (accepted rows) xs ys = ys ≡ numbers rows ++ drop (6 * length rows) xs

-- refusals 1 to 3 keep every slice; the others fill both with 0 to their ends
abbrev pub refusal_leaves : ℕ → List ℕ → List ℕ
refusal_leaves number xs = cond (leb number 3) xs (replicate (length xs) 0)

-- the rows of an accepted trace, then 0 to the end
abbrev pub rows_left : Outcome → List ℕ → List ℕ
rows_left (refused number place) xs = refusal_leaves number xs
rows_left (accepted rows) xs = numbers rows ++ replicate (length xs - 6 * length rows) 0

-- an accepted trace leaves the counts' slice filled with 0
abbrev pub counts_left : Outcome → List ℕ → List ℕ
counts_left (refused number place) xs = refusal_leaves number xs
counts_left (accepted rows) xs = replicate (length xs) 0

-- what a call answers, and what the call leaves of the rows' slice and of the counts' slice
pub record Leaves (o : Outcome) (answer : Result ℕ Refusing) (rows rows' counts counts' : List ℕ) : Type 0 where
  pub answered : told answer ≡ checked_of o
  pub rows_after : rows' ≡ rows_left o rows
  pub counts_after : counts' ≡ counts_left o counts
