-- `extents_map::scan::count` meets its contract.
use Rattle.std.proofs.Common.{arith}
use Rattle.extents_meaning.proofs.Points.{begins-most}
use Rattle.extents_map.proofs.Counting.{count_most, count-end, further, count_next}
use Rattle.extents_map.proofs.scan.count.Goals as goal

pub overflow_add-n : goal.overflow_add-n
overflow_add-n g c = omega (arith, count_most c.loop-x.invariant, begins-most c.mixed-here.result c.loop-x.last, c.begins-n.ensures)

pub loop-x-smaller : goal.loop-x-smaller
loop-x-smaller g c = omega (arith, further c.loop-x.invariant c.loop-x-test.true (omega arith) c.requires.rising.1 c.see_both-s.ensures c.min-x.ensures)

pub loop-x-preserved : goal.loop-x-preserved
loop-x-preserved g c =
    count_next c.loop-x.invariant c.loop-x-test.true (omega arith) c.requires.rising.1 c.see_both-s.ensures c.min-x.ensures
    c.mixed-here.ensures c.begins-n.ensures

pub returns : goal.returns
returns g c = count-end c.loop-x.invariant c.loop-x-test.false
