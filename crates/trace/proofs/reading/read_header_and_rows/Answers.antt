-- `trace::reading::read_header_and_rows` meets its contract.
use Rattle.std.proofs.Common.{arith, []}
use Rattle.std.proofs.lemmas.Result.{err_from_is_err_and}
use Rattle.trace.specs.Reader.{judge_asked, rows_asked, state_asked, rows_state}
use Rattle.rows.proofs.Asking.{number-some}
use Rattle.trace.proofs.Turns.{header-refused, header-passed, refusal}
use Rattle.trace.proofs.States.{state-refused, state-passed}
use Rattle.trace.proofs.reading.read_header_and_rows.Goals as goal

pub returns-in_err-start-clause-answer : goal.returns-in_err-start-clause-answer
returns-in_err-start-clause-answer g c =
    let p = err_from_is_err_and c.from_residual.result c.from_residual.ensures.1 in
    rw (p.1, p.2)
    (refusal c.args.rows.now c.args.rows.now
    (header-refused _ _ _ _ c.in_err-start.ensures.asked (λ z. omega (arith, number-some c.in_err-start.field-0.0)))).0

pub returns-in_err-start-clause-held : goal.returns-in_err-start-clause-held
returns-in_err-start-clause-held g c =
    (refusal c.args.rows.now c.args.rows.now
    (header-refused _ _ _ _ c.in_err-start.ensures.asked (λ z. omega (arith, number-some c.in_err-start.field-0.0)))).1

pub returns-clause-answer : goal.returns-clause-answer
unfolding rows_asked
returns-clause-answer g c =
    rw (header-passed (judge_asked g.Q.RowQuestions.asked g.Q.RowQuestions.noted c.args.call.row_limit c.args.call.process_limit c.args.questions.now [])
    c.args.text.now c.args.call.byte_limit c.args.call.header c.in_ok-start.ensures.asked c.in_ok-start.ensures.start) c.read_rows.ensures.answer

pub returns-clause-held : goal.returns-clause-held
unfolding rows_asked
returns-clause-held g c =
    rw (header-passed (judge_asked g.Q.RowQuestions.asked g.Q.RowQuestions.noted c.args.call.row_limit c.args.call.process_limit c.args.questions.now [])
    c.args.text.now c.args.call.byte_limit c.args.call.header c.in_ok-start.ensures.asked c.in_ok-start.ensures.start) c.read_rows.ensures.held

pub returns-in_err-start-clause-state : goal.returns-in_err-start-clause-state
returns-in_err-start-clause-state g c =
    state-refused _ _ _ _ _ c.in_err-start.ensures.asked (λ z. omega (arith, number-some c.in_err-start.field-0.0))

pub returns-clause-state : goal.returns-clause-state
unfolding rows_state
returns-clause-state g c =
    rw (state-passed (state_asked g.Q.RowQuestions.asked g.Q.RowQuestions.noted c.args.call.row_limit c.args.call.process_limit c.args.questions.now [])
    c.args.questions.now c.args.text.now c.args.call.byte_limit c.args.call.header c.in_ok-start.ensures.asked c.in_ok-start.ensures.start) c.read_rows.ensures.state
