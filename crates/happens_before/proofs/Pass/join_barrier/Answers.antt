-- `happens_before::Pass::join_barrier` meets its contract.
use Rattle.std.proofs.Common.{◌∙◌, arith}
use Rattle.happens_before.proofs.Joins.{barrier_none, barrier-other, barrier-some}
use Rattle.happens_before.proofs.Pass.join_barrier.Goals as goal

pub returns-then-last-eq0 : goal.returns-then-last-eq0
returns-then-last-eq0 c =
    let s = c.args.self.now in
    barrier_none s.processes s.rows.now c.args.counts.now s.row c.requires.counts_inside c.if-last-eq0.true

pub returns-then-rows-at-ne-BARRIER : goal.returns-then-rows-at-ne-BARRIER
returns-then-rows-at-ne-BARRIER c =
    let s = c.args.self.now in
    barrier-other s.processes s.rows.now c.args.counts.now s.row c.requires.counts_inside (omega (arith, c.if-last-eq0.false)) c.if-rows-at-ne-BARRIER.true

pub returns : goal.returns
returns c =
    let s = c.args.self.now in
    c.join_pairs.ensures ∙ barrier-some s.processes s.rows.now c.args.counts.now s.row c.requires.counts_inside (omega (arith, c.if-last-eq0.false)) c.if-rows-at-ne-BARRIER.false
