-- `happens_before::fill_counts` meets its contract.
use Rattle.std.proofs.Common.{◌≡◌, length}
use Rattle.happens_before.proofs.Filling.{Passed}
use Rattle.happens_before.proofs.fill_counts.Given as goal

-- The counts of the rows before the pass's row are filled, and the rest of the slice is 0.
abbrev pub invariant-loop : goal.invariant-loop
invariant-loop l = record {
  at_row : l.pass.row ≡ l.counter;
  same_rows : l.pass.rows.now ≡ l.rows;
  same_processes : l.pass.processes ≡ l.process_limit;
  passed : Passed l.n l.process_limit (length l.fn.counts) l.rows l.counts l.counter;
}
