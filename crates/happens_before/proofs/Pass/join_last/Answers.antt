-- `happens_before::Pass::join_last` meets its contract.
use Rattle.happens_before.proofs.Joins.{last_none}
use Rattle.happens_before.proofs.Pass.join_last.Goals as goal

pub returns-else-last-gt0 : goal.returns-else-last-gt0
returns-else-last-gt0 c =
    let s = c.args.self.now in
    last_none s.processes c.args.counts.now s.row c.requires.counts_inside c.if-last-gt0.false
