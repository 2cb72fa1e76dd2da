-- `join::sharing::is_any_flagged` meets its contract.
use Rattle.std.proofs.Common.{◌≡◌}
use Rattle.rows.specs.First.{rest}
use Rattle.rows.specs.Rows.{rows_in}
use Rattle.join.specs.Sharing.{any_flagged}
use Rattle.join.proofs.sharing.is_any_flagged.Given as goal

-- One of the rows that are left is of a flagged process where one of all rows is.
abbrev pub invariant-loop-row : goal.invariant-loop-row
invariant-loop-row l =
    (goal.iterator-loop-row).can_next l.row-iterator × (goal.iterator-loop-row).is_finite l.row-iterator
    × (any_flagged l.flags (rest l.row-iterator) ≡ any_flagged l.flags (rows_in l.fn.n l.fn.rows))
