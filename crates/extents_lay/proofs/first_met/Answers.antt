-- `extents_lay::first_met` meets its contract.
use Rattle.std.proofs.Common.{arith, sym, ◌∙◌}
use Rattle.extents_map.proofs.Parted.{met_last}
use Rattle.extents_lay.proofs.Ranges.{order}
use Rattle.extents_lay.proofs.first_met.Goals as goal

pub returns-then-cell_at-cell : goal.returns-then-cell_at-cell
returns-then-cell_at-cell c =
    let i = c.first_past_among-i.ensures.within in
    let e = c.end_at.ensures in
    met_last (omega (arith, i)) (order _ c.args.map.lawful) (omega (arith, c.if-i-eq0.false))
    (sym e ∙ c.if-end_at-start.true)
