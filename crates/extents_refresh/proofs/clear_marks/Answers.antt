-- `extents_refresh::clear_marks` meets its contract.
use Rattle.std.proofs.Common.{◌+◌, ◌*◌, ◌≤◌, arith, ◌≡◌, length}
use Rattle.extents_refresh.proofs.Clearing.{clear_room, clear_skip, clear_one}
use Rattle.extents_refresh.proofs.clear_marks.Goals as goal
use Rattle.extents_refresh.proofs.clear_marks.Goals.{In-loop-left}

-- the four numbers of run i stand in the slice, which has its length
room : (c : In-loop-left) → (c.loop-left.i * 4 + 4 ≤ length c.loop-left.map) × (length c.loop-left.map ≡ length c.args.map.now)
room c = clear_room c.loop-left.invariant c.loop-left-test.true

pub overflow_mul-at : goal.overflow_mul-at
overflow_mul-at c = omega (arith, room (goal.at.overflow_mul-at c).In-loop-left)

pub overflow_add-at : goal.overflow_add-at
overflow_add-at c = omega (arith, room (goal.at.overflow_add-at c).In-loop-left)

pub overflow_add-next : goal.overflow_add-next
overflow_add-next c = omega (arith, room (goal.at.overflow_add-next c).In-loop-left)

pub offset_bounds-map-at : goal.offset_bounds-map-at
offset_bounds-map-at c = omega (arith, room (goal.at.offset_bounds-map-at c).In-loop-left)

pub bounds-map-at : goal.bounds-map-at
bounds-map-at c = omega (arith, room (goal.at.bounds-map-at c).In-loop-left)

pub loop-left-preserved-else-meets-2 : goal.loop-left-preserved-else-meets-2
loop-left-preserved-else-meets-2 c =
    clear_one c.loop-left.invariant c.loop-left-test.true c.if-map-at-eq1.true (c.meets.ensures c.if-meets.false)
    (c.meets-else-meets.ensures c.if-meets-2.false)

pub loop-left-smaller : goal.loop-left-smaller
loop-left-smaller c = omega (arith, room (goal.at.loop-left-smaller c).In-loop-left)

pub loop-left-preserved : goal.loop-left-preserved
loop-left-preserved c = clear_skip c.loop-left.invariant c.loop-left-test.true c.if-map-at-eq1.false
