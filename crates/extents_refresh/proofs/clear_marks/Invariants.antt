-- `extents_refresh::clear_marks` meets its contract.
use Rattle.std.proofs.Common.{◌-◌, length}
use Rattle.extents_refresh.proofs.Clearing.{Clearing}
use Rattle.extents_refresh.proofs.clear_marks.Given as goal

-- None of the first i runs is unpublished, `left` others are, and every byte marked published is as it was at the start.
abbrev pub invariant-loop-left : goal.invariant-loop-left
invariant-loop-left l = Clearing l.initial.map l.map l.left l.i

abbrev pub decreases-loop-left : goal.decreases-loop-left
decreases-loop-left l = length l.initial.map - l.i
