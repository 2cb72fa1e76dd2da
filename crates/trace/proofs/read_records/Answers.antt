-- `trace::read_records` meets its contract.
use Rattle.std.proofs.Common.{arith}
use Rattle.std.proofs.lemmas.Result.{err_from_is_err_and}
use Rattle.rows.proofs.Asking.{number-some}
use Rattle.trace.proofs.Going.{records-refused, records-passed}
use Rattle.trace.proofs.Turns.{refusal}
use Rattle.trace.proofs.read_records.Goals as goal

pub returns-in_err-start-clause-answer : goal.returns-in_err-start-clause-answer
returns-in_err-start-clause-answer c =
    let p = err_from_is_err_and c.from_residual.result c.from_residual.ensures.1 in
    rw (p.1, p.2)
    (refusal c.args.rows.now c.args.rows.now
    (records-refused c.args.call.row_limit c.args.call.process_limit _ _ _ c.in_err-start.ensures.asked (λ z. omega (arith, number-some c.in_err-start.field-0.0)))).0

pub returns-in_err-start-clause-held : goal.returns-in_err-start-clause-held
returns-in_err-start-clause-held c =
    (refusal c.args.rows.now c.args.rows.now
    (records-refused c.args.call.row_limit c.args.call.process_limit _ _ _ c.in_err-start.ensures.asked (λ z. omega (arith, number-some c.in_err-start.field-0.0)))).1

pub returns-clause-answer : goal.returns-clause-answer
returns-clause-answer c =
    rw (records-passed c.args.call.row_limit c.args.call.process_limit c.args.call.header c.args.text.now c.args.call.byte_limit c.in_ok-start.ensures.asked
    c.in_ok-start.ensures.start) c.read_by_table.ensures.answer

pub returns-clause-held : goal.returns-clause-held
returns-clause-held c =
    rw (records-passed c.args.call.row_limit c.args.call.process_limit c.args.call.header c.args.text.now c.args.call.byte_limit c.in_ok-start.ensures.asked
    c.in_ok-start.ensures.start) c.read_by_table.ensures.held
