-- `machine_layered::read` meets its contract.
use Rattle.machine_layered.proofs.Laying.{ready-room, ready-two, ready-own, read-fresh, read-own}
use Rattle.std.proofs.Common.{arith, sym, ◌∙◌}
use Rattle.machine_layered.proofs.read.Goals as goal

pub read-requires : goal.read-requires
read-requires c = ready-two c.requires.0

pub returns-then-is_refresh : goal.returns-then-is_refresh
returns-then-is_refresh c =
    let a = c.args in
    let p = c.requires in
    let e = c.read.ensures in
    read-fresh p.0 p.1 a.out.now (sym c.is_refresh.ensures ∙ c.if-is_refresh.true) e.answer e.left e.listed

pub overflow_mul-at : goal.overflow_mul-at
overflow_mul-at c = omega (arith, ready-room c.requires.0)

pub overflow_add-at : goal.overflow_add-at
overflow_add-at c = omega (arith, ready-room c.requires.0)

pub offset_bounds-maps-at : goal.offset_bounds-maps-at
offset_bounds-maps-at c = omega (arith, ready-room c.requires.0)

pub slice_bounds-list_range-end : goal.slice_bounds-list_range-end
slice_bounds-list_range-end c = omega (arith, ready-room c.requires.0)

pub list_range-requires : goal.list_range-requires
list_range-requires c = ready-own c.requires.0

pub returns : goal.returns
returns c =
    let a = c.args in
    let p = c.requires in
    let e = c.list_range.ensures in
    read-own p.0 p.1 a.out.now (sym c.is_refresh.ensures ∙ c.if-is_refresh.false) e.answer e.left
