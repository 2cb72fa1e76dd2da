-- `barriers::BarrierTable::is_unfinished` meets its contract.
use Rattle.std.proofs.Common.{◌≡◌}
use Rattle.rows.specs.First.{rest}
use Rattle.rows.specs.Rows.{rows_in}
use Rattle.rows.specs.Tests.{any}
use Rattle.barriers.specs.Tables.{unfinished_by}
use Rattle.barriers.proofs.BarrierTable.is_unfinished.Given as goal

-- One of the rows that are left is of an unfinished barrier where one of all rows is.
abbrev pub invariant-loop-row : goal.invariant-loop-row
invariant-loop-row l =
    let test = unfinished_by l.self.arrivals l.self.processes in
    (goal.iterator-loop-row).can_next l.row-iterator × (goal.iterator-loop-row).is_finite l.row-iterator
    × (any test (rest l.row-iterator) ≡ any test (rows_in l.fn.n l.fn.rows))
