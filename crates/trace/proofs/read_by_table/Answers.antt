-- `trace::read_by_table` meets its contract.
use Rattle.trace.proofs.Going.{fresh_table}
use Rattle.trace.proofs.read_by_table.Goals as goal

pub returns-clause-answer : goal.returns-clause-answer
returns-clause-answer c =
    let same = fresh_table c.args.call.row_limit c.args.call.process_limit c.requires.processes c.new-table.result c.new-table.ensures
    c.args.text.now c.args.call.byte_limit c.args.start in
    rw same at c.read_rows.ensures.answer

pub returns-clause-held : goal.returns-clause-held
returns-clause-held c =
    let same = fresh_table c.args.call.row_limit c.args.call.process_limit c.requires.processes c.new-table.result c.new-table.ensures
    c.args.text.now c.args.call.byte_limit c.args.start in
    rw same at c.read_rows.ensures.held
