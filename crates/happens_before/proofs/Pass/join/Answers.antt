-- `happens_before::Pass::join` meets its contract.
use Rattle.happens_before.specs.Clock.{joined_row}
use Rattle.happens_before.proofs.Cells.{put-none}
use Rattle.happens_before.proofs.Joins.{join-next}
use Rattle.std.proofs.Common.{◌*◌}
use Rattle.happens_before.proofs.Pass.join.Goals as goal

pub loop-p-init : goal.loop-p-init
loop-p-init c =
    let s = c.args.self.now in
    let l = c.args.counts.now in
    put-none (s.row * s.processes) l (joined_row s.processes l s.row c.args.k)

pub loop-p-preserved : goal.loop-p-preserved
loop-p-preserved c =
    let s = c.args.self.now in
    join-next s.processes c.args.counts.now s.row c.requires.counts_inside c.requires.before c.loop-p-test.true c.loop-p.invariant c.max.ensures
