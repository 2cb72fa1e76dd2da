-- `writer::asking::ask_rows` meets its contract.
use Rattle.std.proofs.Common.{◌≡◌, ◌+◌, length}
use Rattle.rows.specs.First.{rest}
use Rattle.rows.specs.Rows.{rows_in}
use Rattle.writer.proofs.Passing.{Asking}
use Rattle.writer.proofs.asking.ask_rows.Given as goal

-- The rows so far passed, the table tells of them, and the rows that are left decide.
abbrev pub invariant-loop-row : goal.invariant-loop-row
invariant-loop-row l =
    (goal.iterator-loop-row).can_next l.row-iterator × (goal.iterator-loop-row).is_finite l.row-iterator
    × Asking l.process_limit (rows_in l.n l.fn.rows) l.table.entries l.yielded (rest l.row-iterator) l.number
    × (l.number + length (rest l.row-iterator) ≡ l.n)
