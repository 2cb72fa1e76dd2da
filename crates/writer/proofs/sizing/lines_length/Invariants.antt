-- `writer::sizing::lines_length` meets its contract.
use Rattle.std.proofs.Common.{◌≡◌, ◌+◌, length}
use Rattle.rows.specs.First.{rest}
use Rattle.rows.specs.Rows.{rows_in}
use Rattle.writer.specs.Writing.{lines_of}
use Rattle.writer.proofs.sizing.lines_length.Given as goal

-- The lines so far and those of the rows that are left have the length of all.
abbrev pub invariant-loop-row : goal.invariant-loop-row
invariant-loop-row l =
    (goal.iterator-loop-row).can_next l.row-iterator × (goal.iterator-loop-row).is_finite l.row-iterator
    × (l.lines + length (lines_of (rest l.row-iterator)) ≡ length (lines_of (rows_in l.n l.fn.rows)))
