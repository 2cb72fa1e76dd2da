-- What taking one row answers and stores: its questions by the table of messages, and the place of its record in the lent slice.
use Rattle.std.specs.Prelude.{ℕ, ◌+◌, ◌*◌, cond, List, [], ◌∷◌, ◌++◌, length, take, drop, leb, ltb}
use Rattle.rows.specs.declared.row.Row.{Row}
use Rattle.rows.specs.Questions.{Question}
use Rattle.rows.specs.Refusals.{ROW_LIMIT}
use Rattle.messages.specs.Table.{table_questions, table_after}
use Rattle.trace.specs.Questions.{in_row_limit}
use Rattle.join_meaning.specs.Files.{Entry}
use Rattle.join_meaning.specs.Joining.{PART}
use Rattle.join.specs.Choosing.{Choice}

-- 6 and the questions from 12 on of a row behind n rows, by the table of their messages.
unfoldable pub table_takes : ℕ → ℕ → List ℕ → Row → List Question
table_takes rowLimit n table r = record { number = ROW_LIMIT; yes = in_row_limit rowLimit n } ∷ table_questions table r

-- The table after that row: a row within the row limit was put to it.
abbrev pub table_taken : ℕ → ℕ → List ℕ → Row → List ℕ
table_taken rowLimit n table r = cond (ltb n rowLimit) (table_after table r) table

-- The three numbers of a choice.
abbrev pub three : Choice → List ℕ
three c = c.file ∷ (c.start ∷ (c.end ∷ []))

-- The slice with a choice put at index k. A slice that has no room there stays as it is.
unfoldable pub with_part : ℕ → Choice → List ℕ → List ℕ
with_part k c xs = cond (leb (k * PART + PART) (length xs)) (take (k * PART) xs ++ (three c ++ drop (k * PART + PART) xs)) xs

-- The places of entries' records, three numbers for each: the file, the start and the end.
unfoldable pub part_numbers : List Entry → List ℕ
part_numbers [] = []
part_numbers (e ∷ es) = e.file ∷ (e.start ∷ (e.end ∷ part_numbers es))
