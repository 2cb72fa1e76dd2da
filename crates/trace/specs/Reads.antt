-- The contracts of the parts of the reading: what each answers, put together from the questions. specs/Questions.antt says what the whole
-- call answers; the crate `trace_fields` defines what the fields of one record answer.
use Rattle.std.specs.Prelude.{ℕ, suc, Bool, ◌&&◌, List, [], length, eqb}
use Rattle.csv_records.specs.Reading.{records_from}
pub use Rattle.trace_numbers.specs.Numbers.{fields_of, number_where}
pub use Rattle.trace_fields.specs.Reads.{judged_by}
unfoldable pub use Rattle.trace_fields.specs.Reads.{fills_as, judged_fields}
use Rattle.trace.specs.Questions.{is_header, Outcome, judge_rows}

-- question 5 of a record of `count` fields, of which the first six are given
abbrev pub headed : ℕ → List (List ℕ) → Bool
headed count fields = eqb count 6 && is_header fields

-- the outcome of the rows from a place of the text on
unfoldable pub judge_from : ℕ → ℕ → List ℕ → ℕ → ℕ → Outcome
judge_from rowLimit processLimit text byteLimit at =
    let r = records_from (suc (length text)) text byteLimit at in
    judge_rows rowLimit processLimit [] r.rows r.ending
