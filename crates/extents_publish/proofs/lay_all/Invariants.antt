-- `extents_publish::lay_all` meets its contract.
use Rattle.std.proofs.Common.{◌-◌, drop}
use Rattle.extents_meaning.specs.Maps.{runs, part_at}
use Rattle.extents_publish.proofs.Laying.{Laying}
use Rattle.extents_publish.proofs.lay_all.Given as goal

-- The unpublished runs before run i are laid, and `left` are left.
abbrev pub invariant-loop-left : goal.invariant-loop-left
invariant-loop-left l = Laying l.size l.v l.w l.initial.maps (drop l.i (runs (part_at l.v l.size l.initial.maps))) l.left l.maps

abbrev pub decreases-loop-left : goal.decreases-loop-left
decreases-loop-left l = l.size - l.i
