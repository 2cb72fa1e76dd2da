-- `happens_before::Pass::join_pairs` meets its contract.
use Rattle.happens_before.proofs.Joins.{pairs_first, pairs-join, pairs-skip, pairs-done}
use Rattle.happens_before.proofs.Tables.{head-found, next_row_lem, next-found, next_low}
use Rattle.std.proofs.Common.{arith}
use Rattle.happens_before.proofs.Pass.join_pairs.Goals as goal
use Rattle.happens_before.proofs.Pass.join_pairs.Goals.{else-belong, then-belong}

pub loop-next-init : goal.loop-next-init
loop-next-init c =
    let s = c.args.self.now in
    pairs_first s.processes s.rows.now c.args.counts.now c.args.t s.row c.requires.counts_inside
    (rw c.chain_of-chain.ensures (head-found s.rows.now s.row s.tables.chains c.args.t))

pub loop-next-smaller : goal.loop-next-smaller
loop-next-smaller c =
    let s = c.args.self.now in
    let h = c.loop-next-test.true in
    omega (arith, next_low s.rows.now s.row s.tables.chains c.args.t s.processes c.args.counts.now c.requires.counts_inside c.loop-next.invariant h, h)

pub loop-next-preserved : goal.loop-next-preserved
loop-next-preserved c =
    let s = c.args.self.now in
    let a = c.args in
    let fits = c.requires.counts_inside in
    let l = c.loop-next in
    let h = c.loop-next-test.true in
    let here = next_row_lem s.rows.now s.row s.tables.chains a.t s.processes a.counts.now fits l.invariant h in
    let link = next-found s.rows.now s.row s.tables.chains a.t s.processes a.counts.now fits l.invariant h in
    elim c.if-belong.branch [
      | then-belong w ↦ rw w.counts-is (pairs-join s.processes s.rows.now a.counts.now a.t s.row fits l.invariant here c.belong.ensures link w.if-belong.true w.join.auto.counts w.join.ensures)
      | else-belong w ↦ rw w.counts-is (pairs-skip s.processes s.rows.now a.counts.now a.t s.row fits l.invariant here c.belong.ensures link w.if-belong.false)
    ]

pub returns : goal.returns
returns c =
    let s = c.args.self.now in
    pairs-done s.processes s.rows.now c.args.counts.now c.args.t s.row c.requires.counts_inside c.loop-next.invariant c.loop-next-test.false
