-- `writer::putting::put_rows` meets its contract.
use Rattle.std.proofs.Common.{◌≡◌, ◌++◌}
use Rattle.print.proofs.Parts.{Laid}
use Rattle.rows.specs.First.{rest}
use Rattle.rows.specs.Rows.{rows_in}
use Rattle.writer.specs.Writing.{lines_of}
use Rattle.writer.proofs.putting.put_rows.Given as goal

-- The lines of the rows so far are laid from the start on, `at` is the index behind them, and those of the rows that are left are to come.
abbrev pub invariant-loop-row : goal.invariant-loop-row
invariant-loop-row l =
    (goal.iterator-loop-row).can_next l.row-iterator × (goal.iterator-loop-row).is_finite l.row-iterator
    × Laid l.fn.out l.start (lines_of l.yielded) l.at l.out
    × (lines_of l.yielded ++ lines_of (rest l.row-iterator) ≡ lines_of (rows_in l.n l.fn.rows))
