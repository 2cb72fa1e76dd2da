-- `machine_layered::write` meets its contract.
use Rattle.machine_layered.proofs.Laying.{ready-two, ready-own, ready-room, write-write-through, write_own}
use Rattle.std.proofs.Common.{arith, sym, ◌∙◌}
use Rattle.machine_layered.proofs.write.Goals as goal

pub write_through-requires : goal.write_through-requires
write_through-requires c = ready-two c.requires.0

pub returns-then-is_publish : goal.returns-then-is_publish
returns-then-is_publish c =
    let p = c.requires in
    let e = c.write_through.ensures in
    write-write-through p.0 p.1 (sym c.is_publish.ensures ∙ c.if-is_publish.true) e.answer e.left

pub overflow_mul-at : goal.overflow_mul-at
overflow_mul-at c = omega (arith, ready-room c.requires.0)

pub overflow_add-at : goal.overflow_add-at
overflow_add-at c = omega (arith, ready-room c.requires.0)

pub offset_bounds-maps-at : goal.offset_bounds-maps-at
offset_bounds-maps-at c = omega (arith, ready-room c.requires.0)

pub slice_bounds-write-end : goal.slice_bounds-write-end
slice_bounds-write-end c = omega (arith, ready-room c.requires.0)

pub write-requires : goal.write-requires
write-requires c = ready-own c.requires.0

pub returns : goal.returns
returns c =
    let p = c.requires in
    let e = c.write.ensures in
    write_own p.0 p.1 (sym c.is_publish.ensures ∙ c.if-is_publish.false) e.answer e.left
