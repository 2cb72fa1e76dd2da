-- `extents_lay::left_side` meets its contract.
use Rattle.std.proofs.Common.{◌≤◌, arith, refl, sym, ◌∙◌, length, drop_of_length-le}
use Rattle.extents_meaning.specs.Runs.{cell_at}
use Rattle.extents_meaning.specs.Maps.{runs}
use Rattle.extents_map.proofs.Parted.{left-none, left-clear, left_join, left-rest}
use Rattle.extents_lay.proofs.Ranges.{order}
use Rattle.extents_lay.proofs.left_side.Goals as goal

pub returns-then-first-all : goal.returns-then-first-all
unfolding cell_at
returns-then-first-all c =
    let rs = runs c.args.map.numbers.now in
    let o : length rs ≤ c.args.first = omega (arith, c.requires.0, c.if-first-all.true) in
    left-none (order _ c.args.map.lawful) c.requires.1 (rw (drop_of_length-le rs o) (λ b l. refl))

pub returns-then-start-from : goal.returns-then-start-from
returns-then-start-from c =
    let f = c.if-first-all.false in
    left-clear (order _ c.args.map.lawful) c.requires.1 (omega (arith, c.requires.0, c.requires.1.most, f))
    (omega (arith, c.start_at-from.ensures, c.if-start-from.true))

pub returns-then-value-cell : goal.returns-then-value-cell
returns-then-value-cell c =
    let f = c.if-first-all.false in
    let e = c.start_at-from.ensures in
    rw e
    (left_join (order _ c.args.map.lawful) c.requires.1 (omega (arith, c.requires.0, c.requires.1.most, f)) (omega (arith, e, c.if-start-from.false))
    (sym c.cell_at-value.ensures ∙ c.if-value-cell.true))

pub returns : goal.returns
returns c =
    let f = c.if-first-all.false in
    let e = c.start_at-from.ensures in
    let v = c.cell_at-value.ensures in
    rw (e, v)
    (left-rest (order _ c.args.map.lawful) c.requires.1 (omega (arith, c.requires.0, c.requires.1.most, f)) (omega (arith, e, c.if-start-from.false))
    (λ q. c.if-value-cell.false (v ∙ q)))
