-- `extents_map::scan::count` meets its contract.
use Rattle.std.proofs.Common.{◌-◌}
use Rattle.extents_map.proofs.Counting.{Counted}
use Rattle.extents_map.proofs.scan.count.Given as goal

-- Every turn starts with n runs of the mix counted before byte x, of which the last has the cell `last`; the cursors i and j serve from x on.
abbrev pub invariant-loop-x : goal.invariant-loop-x
invariant-loop-x g l = Counted l.map.numbers.now l.below.numbers.now g.M.Mode.meaning l.range l.from l.to l.x l.n l.last l.i l.j

abbrev pub decreases-loop-x : goal.decreases-loop-x
decreases-loop-x g l = l.to - l.x
