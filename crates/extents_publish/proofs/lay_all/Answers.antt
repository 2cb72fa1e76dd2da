-- `extents_publish::lay_all` meets its contract.
use Rattle.std.proofs.Common.{◌-◌, arith, ◌≡◌}
use Rattle.extents_publish.proofs.Laying.{lay-start, lay-stop, lay-end, lay-here, lay-turn, lay-some, lay-none}
use Rattle.extents_publish.proofs.lay_all.Goals as goal

pub loop-left-init : goal.loop-left-init
loop-left-init c = lay-start c.requires

pub own_at-laid-requires : goal.own_at-laid-requires
own_at-laid-requires c = (lay-here c.loop-left.i c.loop-left.invariant c.loop-left-test.true).1

pub invariant_of-view : goal.invariant_of-view
invariant_of-view c = record { lawful = (lay-here c.loop-left.i c.loop-left.invariant c.loop-left-test.true).0 }

pub overflow_add-i : goal.overflow_add-i
overflow_add-i c = omega (arith, (lay-turn c.loop-left.i c.loop-left.invariant c.loop-left-test.true c.own_at-laid.ensures).far)

pub loop-left-smaller-in_default : goal.loop-left-smaller-in_default
loop-left-smaller-in_default c = omega (arith, (lay-turn c.loop-left.i c.loop-left.invariant c.loop-left-test.true c.own_at-laid.ensures).far)

pub loop-left-preserved-in_default : goal.loop-left-preserved-in_default
loop-left-preserved-in_default c = lay-none c.loop-left.i c.loop-left.invariant c.loop-left-test.true {o = c.own_at-laid.result}
    c.own_at-laid.ensures c.in_default.is

pub put-requires-clause-legal_cell : goal.put-requires-clause-legal_cell
put-requires-clause-legal_cell c =
    (lay-some c.loop-left.i c.loop-left.invariant c.loop-left-test.true {o = c.own_at-laid.result} c.own_at-laid.ensures c.in-Some.is).fine

pub loop-left-smaller : goal.loop-left-smaller
loop-left-smaller c = omega (arith, (lay-turn c.loop-left.i c.loop-left.invariant c.loop-left-test.true c.own_at-laid.ensures).far)

pub loop-left-preserved : goal.loop-left-preserved
loop-left-preserved c =
    (lay-some c.loop-left.i c.loop-left.invariant c.loop-left-test.true {o = c.own_at-laid.result} c.own_at-laid.ensures c.in-Some.is).next
    (c.put.ensures.below c.if-not-put.false)

pub returns : goal.returns
returns c =
    let k = c.loop-left.invariant in
    let r = c.args.range in
    let p = c.put-2.ensures in
    let z : c.loop-left.left ≡ 0 = omega (arith, c.loop-left-test.false) in
    record { below = λ e. lay-end k z r.start (r.end - r.start) r.cell (p.below e); stopped = λ e. lay-stop k (p.maps_unchanged e) }
