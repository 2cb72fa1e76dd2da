-- What reading one file of a join by itself answers and leaves: the questions 1 to 3 of the call, then what join_meaning says of the text.
use Rattle.std.specs.Prelude.{ℕ, ◌*◌, ◌≡◌, cond, List, [], ◌∷◌, leb, eqb, Result}
use Rattle.rows.specs.Limits.{FIELDS}
use Rattle.rows.specs.Questions.{Question, first_no}
use Rattle.rows.specs.Refusals.{SHORT_SLICE, LIMITS, HEADER_WORD}
use Rattle.rows.specs.declared.refusal.Refused.{Refused}
use Rattle.trace.specs.Questions.{in_limits, header_word, Outcome, refused, told, checked_of, rows_left}
use Rattle.join_meaning.specs.Files.{read_file}

-- The questions 1 to 3 of one file: is the rows' slice long enough, are both limits within their ranges, is the header word 0 or 1? A file has no
-- model of its own; model 0 is one of the table.
unfoldable pub file_questions : ℕ → ℕ → ℕ → ℕ → List Question
file_questions header rowLimit processLimit rowsLength =
    record { number = SHORT_SLICE; yes = leb (FIELDS * rowLimit) rowsLength }
    ∷ (record { number = LIMITS; yes = in_limits 0 rowLimit processLimit } ∷ (record { number = HEADER_WORD; yes = header_word header } ∷ []))

-- The outcome of a file's call.
unfoldable pub check_file : List ℕ → ℕ → ℕ → ℕ → ℕ → Outcome
check_file text header rowLimit processLimit rowsLength =
    let first = first_no (file_questions header rowLimit processLimit rowsLength) in
    cond (eqb first 0) (read_file header rowLimit processLimit text) (refused first 0)

-- What the call answers, and what it leaves of the rows' slice.
pub record ReadsFile (o : Outcome) (answer : Result ℕ Refused) (rows rows' : List ℕ) : Type 0 where
  pub answered : told answer ≡ checked_of o
  pub rows_after : rows' ≡ rows_left o rows
