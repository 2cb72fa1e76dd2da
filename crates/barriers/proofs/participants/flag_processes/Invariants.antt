-- `barriers::participants::flag_processes` meets its contract.
use Rattle.std.proofs.Common.{◌≡◌, length}
use Rattle.rows.specs.First.{rest}
use Rattle.rows.specs.Limits.{PROCESSES}
use Rattle.rows.specs.Rows.{rows_in}
use Rattle.barriers.specs.Participants.{flagged}
use Rattle.barriers.proofs.participants.flag_processes.Given as goal

-- The rows that are left set the flags that are still to be set.
abbrev pub invariant-loop-row : goal.invariant-loop-row
invariant-loop-row l =
    (goal.iterator-loop-row).can_next l.row-iterator × (goal.iterator-loop-row).is_finite l.row-iterator
    × (flagged l.flags (rest l.row-iterator) ≡ flagged l.fn.before (rows_in l.fn.n l.fn.rows)) × (length l.flags ≡ PROCESSES)
