-- What the functions answer, put together from the questions of specs/Questions.antt.
use Rattle.std.specs.Prelude.{ℕ, Bool, true, cond, ◌&&◌, List, eqb}
use Rattle.trace_numbers.specs.declared.Used.{Used}
use Rattle.trace_numbers.specs.Numbers.{field, ReadRow, Kept, No}
use Rattle.trace_fields.specs.Rows.{row_of}
use Rattle.trace_fields.specs.Questions.{field_questions, as_used}
use Rattle.rows.specs.Questions.{first_no}

-- question 9 for given used fields
unfoldable pub fills_as : Used → List (List ℕ) → Bool
fills_as u fields =
    as_used true (field fields 0)
    && (as_used u.file (field fields 2)
    && (as_used u.range (field fields 3) && (as_used u.range (field fields 4) && as_used u.message (field fields 5))))

-- the row of a record, or the first No
abbrev pub judged_by : ℕ → List (List ℕ) → ReadRow
judged_by first fields = cond (eqb first 0) (Kept (row_of fields)) (No first)

-- the answer to the questions 8 to 11
unfoldable pub judged_fields : ℕ → List (List ℕ) → ReadRow
judged_fields processLimit fields = judged_by (first_no (field_questions processLimit fields)) fields
