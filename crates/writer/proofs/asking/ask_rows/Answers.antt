-- `writer::asking::ask_rows` meets its contract.
use Rattle.std.proofs.Common.{rules, arith, ◌≡◌, ◌+◌, ◌++◌, ◌∷◌, []}
use Rattle.std.proofs.lemmas.Grind.{common_steps}
use Rattle.messages.specs.Table.{table_questions, table_after}
use Rattle.rows.specs.declared.refusal.Refusal.{Refusal}
use Rattle.rows.specs.First.{rest}
use Rattle.rows.specs.Questions.{first_no}
use Rattle.rows.specs.Refusals.{number_of}
use Rattle.rows.specs.Rows.{rows_in}
use Rattle.rows.proofs.Slices.{length-rows}
use Rattle.writer.specs.Answers.{No}
use Rattle.writer.specs.Writing.{number_questions, ask_rows, asked_of}
use Rattle.writer.proofs.Passing.{asking_none, asking_end, row-no, row-yes}
use Rattle.writer.proofs.asking.ask_rows.Goals as goal

pub loop-row-init : goal.loop-row-init
loop-row-init c =
    let a = c.args in
    let left : rest c.into_iter-row-iterator.result ≡ rows_in a.n a.rows.now = search rules in
    let size = length-rows a.n a.rows.now in
    (tt, tt, asking_none a.process_limit c.requires.new_table left, grind (arith, common_steps))

pub loop-row-preserved : goal.loop-row-preserved
loop-row-preserved c =
    let a = c.args in
    let l = c.loop-row in
    let next : rest l.row-iterator ≡ c.in-Some.row ∷ rest c.next.new.self = search rules in
    let none : first_no (number_questions a.process_limit c.in-Some.row ++ table_questions l.table.entries c.in-Some.row) ≡ 0 = search rules in
    let noted : c.ask_row.new.table.entries ≡ table_after l.table.entries c.in-Some.row = search rules in
    (tt, tt, row-yes l.invariant.2 next c.requires.few noted none, grind (arith, common_steps))

pub returns-in_err-map_err : goal.returns-in_err-map_err
returns-in_err-map_err c =
    let a = c.args in
    let l = c.loop-row in
    let next : rest l.row-iterator ≡ c.in-Some.row ∷ rest c.next.new.self = search rules in
    let no : (e : Refusal) → number_of e ≡ first_no (number_questions a.process_limit c.in-Some.row ++ table_questions l.table.entries c.in-Some.row) →
    No (number_of e) (l.number + 1) ≡ asked_of (ask_rows a.process_limit [] (rows_in a.n a.rows.now)) = row-no l.invariant.2 next c.requires.few in
    grind (arith, common_steps, no)

pub returns : goal.returns
returns c =
    let a = c.args in
    let l = c.loop-row in
    let over : rest l.row-iterator ≡ [] = search rules in
    asking_end l.invariant.2 over
