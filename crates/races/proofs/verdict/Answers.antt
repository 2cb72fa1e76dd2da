-- `races::verdict` meets its contract.
use Rattle.std.proofs.Common.{◌∙◌}
use Rattle.races.proofs.Whole.{given-filled, passed_found}
use Rattle.races.proofs.verdict.Goals as goal

pub invariant_of-search : goal.invariant_of-search
invariant_of-search c =
    let a = c.args in
    record { given = given-filled a.n a.process_limit a.model a.rows.now a.counts.now c.in_ok-fill.ensures.answer c.fill.ensures.left }

pub returns-clause-answer : goal.returns-clause-answer
returns-clause-answer c =
    let a = c.args in
    c.first_race.ensures ∙ passed_found a.n a.process_limit a.model a.rows.now a.counts.now c.in_ok-fill.ensures.answer
