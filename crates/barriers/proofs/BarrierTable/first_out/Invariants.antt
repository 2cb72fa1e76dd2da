-- `barriers::BarrierTable::first_out` meets its contract.
use Rattle.std.proofs.Common.{◌≡◌, ◌+◌, length}
use Rattle.rows.specs.First.{rest}
use Rattle.rows.specs.Rows.{rows_in}
use Rattle.barriers.specs.Tables.{first_out_by, arrivals_after}
use Rattle.barriers.proofs.BarrierTable.first_out.Given as goal

-- By the tables as they are, the rows that are left decide what all rows do, and so many rows were looked at.
abbrev pub invariant-loop-row : goal.invariant-loop-row
invariant-loop-row l =
    (goal.iterator-loop-row).can_next l.row-iterator × (goal.iterator-loop-row).is_finite l.row-iterator
    × (first_out_by l.self.stands l.self.arrivals l.self.processes l.number (rest l.row-iterator)
    ≡ first_out_by l.fn.self.stands l.fn.self.arrivals l.fn.self.processes 0 (rows_in l.fn.n l.fn.rows))
    × (arrivals_after l.self.arrivals (rest l.row-iterator) ≡ arrivals_after l.fn.self.arrivals (rows_in l.fn.n l.fn.rows))
    × (l.self.processes ≡ l.fn.self.processes) × (l.number + length (rest l.row-iterator) ≡ l.fn.n)
