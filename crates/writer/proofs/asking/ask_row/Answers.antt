-- `writer::asking::ask_row` meets its contract.
use Rattle.std.proofs.Common.{rules, ◌≡◌, ◌++◌}
use Rattle.rows.specs.Questions.{first_no}
use Rattle.rows.specs.Refusals.{number_of}
use Rattle.messages.specs.Table.{table_questions}
use Rattle.writer.specs.Writing.{number_questions}
use Rattle.writer.proofs.Formed.{numbered}
use Rattle.writer.proofs.Passing.{first-refuses, rest-asked}
use Rattle.writer.proofs.asking.ask_row.Goals as goal

pub returns-in_err-ask_numbers-clause-answer : goal.returns-in_err-ask_numbers-clause-answer
returns-in_err-ask_numbers-clause-answer c =
    let a = c.args in
    let refusal = c.in_err-ask_numbers.field-0.0 in
    let first : number_of refusal ≡ first_no (number_questions a.process_limit a.row ++ table_questions a.table.now.entries a.row) =
    first-refuses (number_questions a.process_limit a.row) (table_questions a.table.now.entries a.row) refusal c.in_err-ask_numbers.ensures in
    search rules

pub returns-clause-answer : goal.returns-clause-answer
returns-clause-answer c =
    let a = c.args in
    rest-asked (number_questions a.process_limit a.row) (table_questions a.table.now.entries a.row) (numbered a.process_limit a.row) c.in_ok-ask_numbers.ensures
    c.put.result c.put.ensures.answer
