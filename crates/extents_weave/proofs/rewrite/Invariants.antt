-- `extents_weave::rewrite` meets its contract.
use Rattle.std.proofs.Common.{◌-◌}
use Rattle.rows.specs.Limits.{OFFSET_MAX}
use Rattle.extents_map.specs.Mixes.{mix_for}
use Rattle.extents_weave.proofs.Walking.{Walking}
use Rattle.extents_weave.proofs.rewrite.Given as goal

-- The map at t holds what the walk has written of the bytes below x in front, and the runs that it has not read further back.
abbrev pub invariant-loop-x : goal.invariant-loop-x
invariant-loop-x g l = Walking l.size l.t l.o l.from (mix_for g.M.Mode.meaning l.range) g.W.Walk.KEEPS l.initial.maps l.maps l.x l.i l.j l.h

abbrev pub decreases-loop-x : goal.decreases-loop-x
decreases-loop-x g l = OFFSET_MAX - l.x
