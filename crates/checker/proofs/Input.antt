-- The program's input buffer: the report of a text is the report of the bytes that the buffer holds.
use Rattle.std.proofs.Common.{ℕ, ◌*◌, ◌<◌, ◌≡◌, ap, cond, List, take, lit<}
use lib.Dec.{eqb}
use Rattle.csv_records.proofs.Cutting.{records-cut}
use Rattle.models.specs.Models.{POSIX}
use Rattle.trace.specs.Questions.{call_questions, read_trace, check_trace, refused}
use Rattle.rows.specs.Questions.{first_no}
use Rattle.checker.specs.Report.{BYTES, INPUT, REPORT_ROWS, REPORT_PROCESSES, read_by_program}

-- a text has the outcome of its first m bytes where m is more than the byte limit
checked_cut : (text : List ℕ) (header model rowLimit processLimit byteLimit rowsLength countsLength m : ℕ) → byteLimit < m →
    check_trace (take m text) header model rowLimit processLimit byteLimit rowsLength countsLength
    ≡ check_trace text header model rowLimit processLimit byteLimit rowsLength countsLength
unfolding check_trace
checked_cut text header model rowLimit processLimit byteLimit rowsLength countsLength m h =
    let first = first_no (call_questions header model rowLimit processLimit rowsLength countsLength) in
    ap (λ r. cond (eqb first 0) (read_trace header rowLimit processLimit r) (refused first 0)) (records-cut text byteLimit m h)

-- A text of any length has the report of its first 8,193 bytes: a buffer of INPUT bytes is enough.
pub input_enough : (text : List ℕ) → read_by_program (take INPUT text) ≡ read_by_program text
unfolding read_by_program
input_enough text =
    checked_cut text 1 POSIX REPORT_ROWS REPORT_PROCESSES BYTES (6 * REPORT_ROWS) (REPORT_ROWS * REPORT_PROCESSES) INPUT (lit< tt)
