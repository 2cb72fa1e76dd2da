-- `extents_lay::first_behind` meets its contract.
use Rattle.std.proofs.Common.{arith, ◌∙◌}
use Rattle.extents_map.proofs.Parted.{reach_stop}
use Rattle.extents_lay.proofs.Ranges.{order}
use Rattle.extents_lay.proofs.first_behind.Goals as goal

pub returns-then-end-start : goal.returns-then-end-start
returns-then-end-start c =
    let e = c.start_at-start.ensures in
    let u = c.loop-i.invariant in
    reach_stop u (order _ c.args.map.lawful) c.args.cell (λ h. omega (arith, e, c.if-end-start.true)) (λ h p q. omega (arith, e, c.if-end-start.true))

pub returns-then-cell_at-cell : goal.returns-then-cell_at-cell
returns-then-cell_at-cell c =
    let e = c.start_at-start.ensures in
    let u = c.loop-i.invariant in
    reach_stop u (order _ c.args.map.lawful) c.args.cell (λ h. omega (arith, e, c.if-end-start-2.true))
    (λ h p q. c.if-cell_at-cell.true (c.cell_at.ensures ∙ q))
