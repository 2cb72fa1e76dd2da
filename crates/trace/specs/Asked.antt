-- What a row is asked behind the questions 6 to 11: those of its message, by a table, or nothing.
use Rattle.std.specs.Prelude.{ℕ}
use Rattle.rows.specs.declared.row.Row.{Row}
use Rattle.rows.specs.Questions.{first_no}
use Rattle.messages.specs.declared.MessageTable.{MessageTable}
use Rattle.messages.specs.Table.{table_questions, table_after}
use Rattle.trace.specs.declared.questions.Unasked.{Unasked}

-- the first No to a row by the table, and 0 where there is none
abbrev pub table_asked : MessageTable → Row → ℕ
table_asked table row = first_no (table_questions table.entries row)

-- the table behind a row that was put to it
abbrev pub table_noted : MessageTable → Row → MessageTable
table_noted table row = record { entries = table_after table.entries row }

-- nothing is asked of a row
abbrev pub nothing_asked : Unasked → Row → ℕ
nothing_asked questions row = 0

-- and nothing is noted
abbrev pub nothing_noted : Unasked → Row → Unasked
nothing_noted questions row = questions
