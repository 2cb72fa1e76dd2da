-- `extents_pair::marked_in` meets its contract.
use Rattle.std.proofs.Common.{arith, drop, length-drop}
use Rattle.extents_meaning.specs.Maps.{runs}
use Rattle.extents_meaning.proofs.Trips.{lawful-map}
use Rattle.extents_pair.proofs.Gathering.{marked-fewer, marked-at}
use Rattle.extents_pair.proofs.marked_in.Goals as goal

pub loop-i-init : goal.loop-i-init
loop-i-init c = (omega (arith, c.runs_in-all.ensures, (lawful-map c.args.map.numbers.now c.args.map.lawful).fit), omega arith)

pub loop-i-preserved : goal.loop-i-preserved
loop-i-preserved c =
    let more = marked-at c.args.map.numbers.now c.args.map.lawful c.loop-i.i (omega (arith, c.loop-i-test.true, c.runs_in-all.ensures)) in
    (c.loop-i.invariant.0, omega (arith, c.loop-i.invariant.1, more))

pub overflow_add-n-in-loop-i : goal.overflow_add-n-in-loop-i
overflow_add-n-in-loop-i c =
    let more = marked-at c.args.map.numbers.now c.args.map.lawful c.loop-i.i (omega (arith, c.loop-i-test.true, c.runs_in-all.ensures)) in
    omega (arith, marked-fewer (runs c.args.map.numbers.now), c.runs_in-all.ensures)

pub returns : goal.returns
returns c =
    let l = c.loop-i in
    let rs = runs c.args.map.numbers.now in
    omega (arith, l.invariant.1, marked-fewer (drop l.i rs), length-drop l.i rs, c.loop-i-test.false, c.runs_in-all.ensures)
