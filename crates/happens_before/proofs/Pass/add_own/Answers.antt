-- `happens_before::Pass::add_own` meets its contract.
use Rattle.happens_before.proofs.Joins.{own_in}
use Rattle.happens_before.proofs.Pass.add_own.Goals as goal

pub returns : goal.returns
returns c = let s = c.args.self.now in own_in s.processes c.args.counts.now s.row c.requires.counts_inside c.requires.process_below
