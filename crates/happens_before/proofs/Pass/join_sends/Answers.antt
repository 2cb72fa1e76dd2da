-- `happens_before::Pass::join_sends` meets its contract.
use Rattle.std.proofs.Common.{◌∙◌}
use Rattle.happens_before.proofs.Joins.{sends_none, sends-some}
use Rattle.happens_before.proofs.Pass.join_sends.Goals as goal

pub returns-then-rows-at-eq-ARRIVAL : goal.returns-then-rows-at-eq-ARRIVAL
returns-then-rows-at-eq-ARRIVAL c =
    let s = c.args.self.now in
    c.join_pairs.ensures ∙ sends-some s.processes s.rows.now c.args.counts.now s.row c.requires.counts_inside c.if-rows-at-eq-ARRIVAL.true

pub returns-else-rows-at-eq-ARRIVAL : goal.returns-else-rows-at-eq-ARRIVAL
returns-else-rows-at-eq-ARRIVAL c =
    let s = c.args.self.now in
    sends_none s.processes s.rows.now c.args.counts.now s.row c.requires.counts_inside c.if-rows-at-eq-ARRIVAL.false
