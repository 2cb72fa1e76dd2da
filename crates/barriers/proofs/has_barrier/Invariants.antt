-- `barriers::has_barrier` meets its contract.
use Rattle.std.proofs.Common.{◌≡◌}
use Rattle.rows.specs.First.{rest}
use Rattle.rows.specs.Rows.{rows_in}
use Rattle.rows.specs.Tests.{any}
use Rattle.barriers.specs.Barriers.{is_barrier}
use Rattle.barriers.proofs.has_barrier.Given as goal

-- One of the rows that are left is of a barrier where one of all rows is.
abbrev pub invariant-loop-row : goal.invariant-loop-row
invariant-loop-row l =
    (goal.iterator-loop-row).can_next l.row-iterator × (goal.iterator-loop-row).is_finite l.row-iterator
    × (any is_barrier (rest l.row-iterator) ≡ any is_barrier (rows_in l.fn.n l.fn.rows))
