-- `trace::reading::next_row` meets its contract.
use Rattle.std.proofs.Common.{Some, None, Ok, Err, refl, arith, ◌∙◌}
use Rattle.std.proofs.lemmas.Result.{err_from_is_err_and}
use Rattle.csv_records.specs.declared.Unread.TheVariants as unread
use Rattle.csv_records.specs.Reading.{read_at}
use Rattle.csv_records.proofs.Answers.{tells}
use Rattle.rows.proofs.Asking.{number-some}
use Rattle.trace.proofs.Turns.{end-step, malformed-step, limit-step, record-no, row-no, row-taken, state-no, state-noted}
use Rattle.trace.proofs.States.{state-none, state-malformed, state-limit}
use Rattle.trace.proofs.reading.next_row.Goals as goal

pub returns-in-Ok-None-clause-answer : goal.returns-in-Ok-None-clause-answer
returns-in-Ok-None-clause-answer g c =
    let e = rw c.in-Ok-None.field-0-is at c.in-Ok-None.ensures in
    end-step _ _ _ _ _ (tells (read_at c.args.text.now c.args.at c.args.call.byte_limit) (Ok None) e)

pub returns-in-Err-Malformed-clause-answer : goal.returns-in-Err-Malformed-clause-answer
returns-in-Err-Malformed-clause-answer g c =
    let e = rw c.in-Err-Malformed.field-0-is at c.in-Err-Malformed.ensures in
    malformed-step _ _ _ _ _ (tells (read_at c.args.text.now c.args.at c.args.call.byte_limit) (Err unread.Malformed) e)

pub returns-in-Err-Limit-clause-answer : goal.returns-in-Err-Limit-clause-answer
returns-in-Err-Limit-clause-answer g c =
    let e = rw c.in-Err-Limit.field-0-is at c.in-Err-Limit.ensures in
    limit-step _ _ _ _ _ (tells (read_at c.args.text.now c.args.at c.args.call.byte_limit) (Err unread.Limit) e)

pub returns-in_err-row-clause-answer : goal.returns-in_err-row-clause-answer
returns-in_err-row-clause-answer g c =
    let e = rw c.in-Ok-Some.field-0-is at c.in-Ok-Some.ensures in
    let t = tells (read_at c.args.text.now c.args.at c.args.call.byte_limit) (Ok (Some c.in-Ok-Some.record)) e in
    let p = err_from_is_err_and c.from_residual.result c.from_residual.ensures.1 in
    rw (p.1, p.2) (record-no _ _ _ _ _ _ _ t c.in_err-row.ensures refl)

pub returns-in_err-ask-clause-answer : goal.returns-in_err-ask-clause-answer
returns-in_err-ask-clause-answer g c =
    let e = rw c.in-Ok-Some.field-0-is at c.in-Ok-Some.ensures in
    let t = tells (read_at c.args.text.now c.args.at c.args.call.byte_limit) (Ok (Some c.in-Ok-Some.record)) e in
    let p = err_from_is_err_and c.from_residual-in_err-ask.result c.from_residual-in_err-ask.ensures.1 in
    rw (p.1, p.2) (row-no _ _ _ _ _ _ _ t c.in_ok-row.ensures refl c.in_err-ask.ensures.answer (λ z. omega (arith, number-some c.in_err-ask.field-0.0)))

pub returns-clause-answer : goal.returns-clause-answer
returns-clause-answer g c =
    let e = rw c.in-Ok-Some.field-0-is at c.in-Ok-Some.ensures in
    let t = tells (read_at c.args.text.now c.args.at c.args.call.byte_limit) (Ok (Some c.in-Ok-Some.record)) e in
    row-taken _ _ _ _ _ _ _ t c.in_ok-row.ensures refl c.in_ok-ask.ensures.answer

pub returns-in-Ok-None-clause-state : goal.returns-in-Ok-None-clause-state
returns-in-Ok-None-clause-state g c =
    let e = rw c.in-Ok-None.field-0-is at c.in-Ok-None.ensures in
    state-none _ _ _ _ _ _ (tells (read_at c.args.text.now c.args.at c.args.call.byte_limit) (Ok None) e)

pub returns-in-Err-Malformed-clause-state : goal.returns-in-Err-Malformed-clause-state
returns-in-Err-Malformed-clause-state g c =
    let e = rw c.in-Err-Malformed.field-0-is at c.in-Err-Malformed.ensures in
    state-malformed _ _ _ _ _ _ (tells (read_at c.args.text.now c.args.at c.args.call.byte_limit) (Err unread.Malformed) e)

pub returns-in-Err-Limit-clause-state : goal.returns-in-Err-Limit-clause-state
returns-in-Err-Limit-clause-state g c =
    let e = rw c.in-Err-Limit.field-0-is at c.in-Err-Limit.ensures in
    state-limit _ _ _ _ _ _ (tells (read_at c.args.text.now c.args.at c.args.call.byte_limit) (Err unread.Limit) e)

pub returns-in_err-row-clause-state : goal.returns-in_err-row-clause-state
returns-in_err-row-clause-state g c =
    let e = rw c.in-Ok-Some.field-0-is at c.in-Ok-Some.ensures in
    let t = tells (read_at c.args.text.now c.args.at c.args.call.byte_limit) (Ok (Some c.in-Ok-Some.record)) e in
    state-no (g.Q.RowQuestions.asked c.args.questions.now) _ _ _ _ _ _ t c.in_err-row.ensures _ _ refl

pub returns-in_err-ask-clause-state : goal.returns-in_err-ask-clause-state
returns-in_err-ask-clause-state g c =
    let e = rw c.in-Ok-Some.field-0-is at c.in-Ok-Some.ensures in
    let t = tells (read_at c.args.text.now c.args.at c.args.call.byte_limit) (Ok (Some c.in-Ok-Some.record)) e in
    c.in_err-ask.ensures.left ∙ state-noted (g.Q.RowQuestions.asked c.args.questions.now) _ _ _ _ _ _ t c.in_ok-row.ensures _ _ refl

pub returns-clause-state : goal.returns-clause-state
returns-clause-state g c =
    let e = rw c.in-Ok-Some.field-0-is at c.in-Ok-Some.ensures in
    let t = tells (read_at c.args.text.now c.args.at c.args.call.byte_limit) (Ok (Some c.in-Ok-Some.record)) e in
    c.in_ok-ask.ensures.left ∙ state-noted (g.Q.RowQuestions.asked c.args.questions.now) _ _ _ _ _ _ t c.in_ok-row.ensures _ _ refl
