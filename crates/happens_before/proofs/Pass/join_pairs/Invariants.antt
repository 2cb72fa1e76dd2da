-- `happens_before::Pass::join_pairs` meets its contract.
use Rattle.happens_before.proofs.Joins.{Joining}
use Rattle.happens_before.proofs.Pass.join_pairs.Given as goal

-- The rows from `next` on that belong together with row t are joined into the row's counts.
abbrev pub invariant-loop-next : goal.invariant-loop-next
invariant-loop-next l = Joining l.self.processes l.self.rows.now l.initial.counts l.t l.self.row l.counts l.next

abbrev pub decreases-loop-next : goal.decreases-loop-next
decreases-loop-next l = l.next
