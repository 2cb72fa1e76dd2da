-- `checker::list_races` meets its contract.
use Rattle.checker.proofs.Verdicts.{lists}
use Rattle.checker.proofs.list_races.Goals as goal

pub returns : goal.returns
returns c =
    let a = c.args in
    lists a.text.now a.call.header a.call.model a.call.row_limit a.call.process_limit a.call.byte_limit a.rows.now a.counts.now
    c.in_ok-n.ensures a.list.now (c.list_races.ensures.answer, (c.list_races.ensures.left, c.list_races.ensures.listed))
