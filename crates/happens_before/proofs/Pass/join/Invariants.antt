-- `happens_before::Pass::join` meets its contract.
use Rattle.happens_before.specs.Clock.{joined_row}
use Rattle.happens_before.proofs.Cells.{put}
use Rattle.std.proofs.Common.{◌≡◌, ◌*◌}
use Rattle.happens_before.proofs.Pass.join.Given as goal

-- The row's counts for the processes below p are joined with those of row k; all other numbers are as they were.
abbrev pub invariant-loop-p : goal.invariant-loop-p
invariant-loop-p l = l.counts ≡ put (l.self.row * l.self.processes) l.p l.initial.counts (joined_row l.self.processes l.initial.counts l.self.row l.k)
