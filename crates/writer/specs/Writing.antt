-- The text of rows, and the questions that writing them asks, each one definition, in document 02's order; the first No decides.
use Rattle.std.specs.Prelude.{ℕ, ◌+◌, ◌*◌, Result, Bool, true, cond, ◌&&◌, List, [], ◌∷◌, ◌++◌, ◌≡◌, length, leb, ltb, eqb}
use Rattle.csv_field.specs.FieldGrammar.{CRLF}
use Rattle.messages.specs.Questions.{message_questions}
use Rattle.print.specs.Puts.{lay}
use Rattle.rows.specs.declared.row.Row.{Row}
use Rattle.rows.specs.Kinds.{KINDS}
use Rattle.rows.specs.Limits.{ROWS, FILES, MESSAGES, FIELDS}
use Rattle.rows.specs.Questions.{Question, first_no, is_process_limit}
use Rattle.rows.specs.Refusals.{SHORT_SLICE, LIMITS, HEADER_WORD, KNOWN_KIND, USED_FIELDS, RANGE, RANGE_END, TEXT_SPACE}
use Rattle.rows.specs.Rows.{rows_in}
use Rattle.trace.specs.Questions.{header_word, end_in_range, OFFSETS, Outcome, refused, accepted, ask_barriers}
use Rattle.trace.specs.Rows.{header_names, used_by}
use Rattle.trace_numbers.specs.declared.Used.{Used}
use Rattle.writer_line.specs.Lines.{commas, record_of}
use Rattle.rows.specs.declared.refusal.Refused.{Refused as RefusedAt}
use Rattle.writer.specs.Answers.{Asked, Passed, No, Written, Length, Refused, told_written}

-- ---- The text

-- The lines of rows, each with its line end.
unfoldable pub lines_of : List Row → List ℕ
lines_of [] = []
lines_of (r ∷ rs) = record_of r ++ lines_of rs

-- The header's line with its line end.
abbrev pub header_line : List ℕ
header_line = commas header_names ++ CRLF []

-- The header where the header word is 1.
abbrev pub header_of : ℕ → List ℕ
header_of header = cond (eqb header 1) header_line []

-- The text of rows under a header word.
unfoldable pub text_of : ℕ → List Row → List ℕ
text_of header rows = header_of header ++ lines_of rows

-- The bytes of the longest line of a well-formed row, a write of two-digit process and file with offset and length of ten digits.
abbrev pub LINE_MOST : ℕ
LINE_MOST = 36

-- ---- The questions of the caller's numbers and slices

-- 1. Has the slice six numbers for each row?
abbrev pub rows_fit : ℕ → ℕ → Bool
rows_fit n rowsLength = leb (FIELDS * n) rowsLength

-- 2. Is the process limit within its range, and are there at most 4,096 rows?
abbrev pub write_limits : ℕ → ℕ → Bool
write_limits n processLimit = is_process_limit processLimit && leb n ROWS

-- The questions 1 to 3.
unfoldable pub write_questions : ℕ → ℕ → ℕ → ℕ → List Question
write_questions n header processLimit rowsLength =
    record { number = SHORT_SLICE; yes = rows_fit n rowsLength }
    ∷ (record { number = LIMITS; yes = write_limits n processLimit } ∷ (record { number = HEADER_WORD; yes = header_word header } ∷ []))

-- ---- The questions of each row

-- 8. Is the kind known?
abbrev pub kind_in_range : Row → Bool
kind_in_range r = ltb r.kind KINDS

-- A number that the kind does not use is 0.
abbrev pub zero_unless : Bool → ℕ → Bool
zero_unless used n = cond used true (eqb n 0)

-- Every number that is not among the used ones is 0.
unfoldable pub zero_but : Used → Row → Bool
zero_but u r =
    zero_unless u.file r.file
    && (zero_unless u.range r.offset && (zero_unless u.range r.length && zero_unless u.message r.message))

-- 9. Are the unused fields 0?
abbrev pub unused_zero : Row → Bool
unused_zero r = zero_but (used_by r.kind) r

-- A number that the kind uses is below its bound.
abbrev pub below_if : Bool → ℕ → ℕ → Bool
below_if used below n = cond used (ltb n below) true

-- The process and every used number are below their bounds.
unfoldable pub below_of : Used → ℕ → Row → Bool
below_of u processLimit r =
    ltb r.process processLimit
    && (below_if u.file FILES r.file
    && (below_if u.range OFFSETS r.offset && (below_if u.range OFFSETS r.length && below_if u.message MESSAGES r.message)))

-- 10. Is each used number within its range?
abbrev pub numbers_below : ℕ → Row → Bool
numbers_below processLimit r = below_of (used_by r.kind) processLimit r

-- The questions 8 to 11 of a row given by its numbers.
unfoldable pub number_questions : ℕ → Row → List Question
number_questions processLimit r =
    record { number = KNOWN_KIND; yes = kind_in_range r }
    ∷ (record { number = USED_FIELDS; yes = unused_zero r }
    ∷ (record { number = RANGE; yes = numbers_below processLimit r } ∷ (record { number = RANGE_END; yes = end_in_range r } ∷ [])))

-- All questions of a row behind the rows before: 8 to 11, then those of its message, as a reader asks them.
unfoldable pub written_questions : ℕ → List Row → Row → List Question
written_questions processLimit earlier r = number_questions processLimit r ++ message_questions earlier r

-- The first No of the rows behind the rows before, with its row's number; or all rows, where there is none.
unfoldable pub ask_rows : ℕ → List Row → List Row → Outcome
ask_rows processLimit earlier [] = accepted earlier
ask_rows processLimit earlier (r ∷ rest) =
    let first = first_no (written_questions processLimit earlier r) in
    cond (eqb first 0) (ask_rows processLimit (earlier ++ (r ∷ [])) rest) (refused first (length earlier + 1))

-- Whether all rows passed, or the refusal.
abbrev pub asked_of : Outcome → Asked
asked_of (refused number row) = No number row
asked_of (accepted rows) = Passed

-- ---- What a call comes to

-- A refusal's number and place, or the text.
pub data Writing : Type 0 where
  not_written : (number place : ℕ) → Writing
  written : List ℕ → Writing

-- 18. Does the text fit behind the place? A place past the slice's end leaves no room, for an empty text neither.
abbrev pub text_fits : ℕ → ℕ → List ℕ → Bool
text_fits outLength place text = leb (place + length text) outLength

-- What rows that were asked come to.
abbrev pub on_asked : ℕ → ℕ → ℕ → Outcome → Writing
on_asked header outLength place (refused number row) = not_written number row
on_asked header outLength place (accepted rows) =
    cond (text_fits outLength place (text_of header rows)) (written (text_of header rows)) (not_written TEXT_SPACE 0)

-- What the whole call comes to. 22 is put once every row has passed, as a reader puts it, and before 18.
unfoldable pub write_trace : List ℕ → ℕ → ℕ → ℕ → ℕ → ℕ → Writing
write_trace xs n header processLimit outLength place =
    let first = first_no (write_questions n header processLimit (length xs)) in
    cond (eqb first 0) (on_asked header outLength place (ask_barriers (ask_rows processLimit [] (rows_in n xs)))) (not_written first 0)

-- ---- What a call answers and leaves

-- The number and place of a refusal, or the text's length.
abbrev pub written_of : Writing → Written
written_of (not_written number place) = Refused number place
written_of (written text) = Length (length text)

-- The text from the place on, and every other byte as it was; a refusal changes nothing.
abbrev pub out_left : Writing → ℕ → List ℕ → List ℕ
out_left (not_written number row) place out = out
out_left (written text) place out = lay out place text

-- What a call answers, and what it leaves of the slice.
pub record Writes (w : Writing) (answer : Result ℕ RefusedAt) (place : ℕ) (out out' : List ℕ) : Type 0 where
  pub answered : told_written answer ≡ written_of w
  pub out_after : out' ≡ out_left w place out
