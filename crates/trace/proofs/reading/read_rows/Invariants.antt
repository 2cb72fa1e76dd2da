-- `trace::reading::read_rows` meets its contract.
use Rattle.std.proofs.Common.{length, ◌-◌, ◌≡◌}
use Rattle.trace.specs.Reader.{rows_asked, rows_state}
use Rattle.trace.proofs.Turns.{Reading}
use Rattle.trace.proofs.reading.read_rows.Given as goal

-- The rows read so far stand in the slice, and the records that are left decide.
abbrev pub invariant-loop-found : goal.invariant-loop-found
invariant-loop-found g l =
    Reading g.Q.RowQuestions.asked g.Q.RowQuestions.noted l.call.row_limit l.call.process_limit l.text l.call.byte_limit
    (rows_asked g.Q.RowQuestions.asked g.Q.RowQuestions.noted l.call.row_limit l.call.process_limit l.text l.call.byte_limit l.initial.questions l.start)
    (rows_state g.Q.RowQuestions.asked g.Q.RowQuestions.noted l.call.row_limit l.call.process_limit l.text l.call.byte_limit l.initial.questions l.start)
    l.initial.rows l.questions l.at l.n l.rows
    × (length l.rows ≡ length l.initial.rows)

abbrev pub decreases-loop-found : goal.decreases-loop-found
decreases-loop-found g l = length l.text - l.at
