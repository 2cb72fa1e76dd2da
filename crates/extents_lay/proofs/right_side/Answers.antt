-- `extents_lay::right_side` meets its contract.
use Rattle.std.proofs.Common.{arith, sym, ◌∙◌}
use Rattle.extents_map.proofs.Parted.{right-none, right-done, right-join, right-rest}
use Rattle.extents_lay.proofs.Ranges.{order}
use Rattle.extents_lay.proofs.right_side.Goals as goal

pub returns-then-behind-first : goal.returns-then-behind-first
returns-then-behind-first c = right-none (order _ c.args.map.lawful) c.requires.0 (omega (arith, c.ranges.end)) c.if-behind-first.true c.requires.1

pub returns-then-to-end : goal.returns-then-to-end
returns-then-to-end c =
    let f = c.if-behind-first.false in
    right-done (order _ c.args.map.lawful) c.requires.0 (omega (arith, c.ranges.end)) f (omega (arith, c.end_at-to.ensures, c.if-to-end.true))

pub returns-then-value-cell : goal.returns-then-value-cell
returns-then-value-cell c =
    let f = c.if-behind-first.false in
    let e = c.end_at-to.ensures in
    rw e
    (right-join (order _ c.args.map.lawful) c.requires.0 (omega (arith, c.ranges.end)) f (omega (arith, e, c.if-to-end.false))
    (sym c.cell_at-value.ensures ∙ c.if-value-cell.true))

pub returns : goal.returns
returns c =
    let f = c.if-behind-first.false in
    let e = c.end_at-to.ensures in
    let v = c.cell_at-value.ensures in
    rw (e, v)
    (right-rest (order _ c.args.map.lawful) c.requires.0 (omega (arith, c.ranges.end)) f (omega (arith, e, c.if-to-end.false))
    (λ q. c.if-value-cell.false (v ∙ q)))
