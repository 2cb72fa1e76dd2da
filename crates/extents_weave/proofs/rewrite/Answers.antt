-- `extents_weave::rewrite` meets its contract.
use Rattle.std.proofs.Common.{arith}
use Rattle.extents_weave.proofs.Walking.{walk_start, walk-parts, walk-place, walk-next, end-place, walk_end}
use Rattle.extents_weave.proofs.rewrite.Goals as goal

pub loop-x-init : goal.loop-x-init
loop-x-init g c = walk_start c.requires

pub step_at-s-requires : goal.step_at-s-requires
step_at-s-requires g c = walk-parts c.requires c.loop-x.invariant (omega arith)

pub turn-h-requires : goal.turn-h-requires
turn-h-requires g c = (c.loop-x.invariant.walk.low, walk-place c.requires c.loop-x.invariant c.step_at-s.ensures)

pub loop-x-preserved : goal.loop-x-preserved
loop-x-preserved g c = walk-next c.requires c.loop-x.invariant c.step_at-s.ensures c.turn-h.ensures.0 c.turn-h.ensures.1

pub turn-end-requires : goal.turn-end-requires
turn-end-requires g c = (c.loop-x.invariant.walk.low, end-place c.requires c.loop-x.invariant (omega arith))

pub returns : goal.returns
returns g c = walk_end c.requires c.loop-x.invariant (omega (arith, c.loop-x-test.false)) c.turn-end.ensures.0 c.turn-end.ensures.1
