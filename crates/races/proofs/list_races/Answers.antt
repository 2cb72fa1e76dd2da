-- `races::list_races` meets its contract.
use Rattle.std.proofs.Common.{sym, ◌∙◌, length}
use Rattle.races.proofs.Whole.{given-filled, list-refuses, list-stays, asked-answer, asked-left}
use Rattle.races.proofs.list_races.Goals as goal

pub invariant_of-search : goal.invariant_of-search
invariant_of-search c =
    let a = c.args in
    record { given = given-filled a.n a.process_limit a.model a.rows.now a.counts.now c.in_ok-fill.ensures.answer c.fill.ensures.left }

pub returns-in_err-fill-clause-answer : goal.returns-in_err-fill-clause-answer
returns-in_err-fill-clause-answer c =
    let a = c.args in
    list-refuses a.n a.process_limit a.model a.rows.now a.counts.now _ c.in_err-fill.ensures.answer a.list.now _ c.from_residual.ensures.1

pub returns-in_err-fill-clause-listed : goal.returns-in_err-fill-clause-listed
returns-in_err-fill-clause-listed c =
    let a = c.args in
    list-stays a.n a.process_limit a.model a.rows.now a.counts.now _ c.in_err-fill.ensures.answer a.list.now

pub returns-clause-answer : goal.returns-clause-answer
returns-clause-answer c =
    let a = c.args in
    c.put_all.ensures.answer
    ∙ sym (asked-answer a.n a.process_limit a.model a.rows.now (length a.counts.now) (length a.list.now) c.in_ok-fill.ensures.answer)

pub returns-clause-listed : goal.returns-clause-listed
returns-clause-listed c =
    let a = c.args in
    c.put_all.ensures.listed
    ∙ sym (asked-left a.n a.process_limit a.model a.rows.now (length a.counts.now) a.list.now c.in_ok-fill.ensures.answer)
