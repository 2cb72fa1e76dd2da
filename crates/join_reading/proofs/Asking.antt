-- The questions 1 to 3 of one file, by the laws of the questions 1 to 3 of a whole trace.
use Rattle.std.proofs.Common.{ℕ, ◌*◌, ◌≤◌, le_refl, arith, ◌≡◌, sym, ◌∙◌, [], le-leb}
use mathlib.Core.Bool.{and-true}
use lib.Dec.{leb}
use Rattle.rows.specs.Limits.{PROCESSES, ROWS}
use Rattle.rows.specs.Questions.{first_no}
use Rattle.rows.proofs.Limits.{limit-of}
use Rattle.trace.specs.Questions.{call_questions}
use Rattle.trace.proofs.Laws.{Legal, legal}
use Rattle.trace.proofs.Asking as trace
use Rattle.trace.proofs.Whole as whole
use Rattle.join_reading.specs.Reading.{file_questions}

module _ (header rowLimit processLimit rowsLength : ℕ) where
  -- The first No of a file's call.
  abbrev first_of : ℕ
  first_of = first_no (file_questions header rowLimit processLimit rowsLength)

  -- The length of a slice of counts that is just long enough.
  abbrev counts : ℕ
  counts = rowLimit * processLimit

  -- The counts of all rows fit a slice of that length.
  enough : rowLimit * processLimit ≤ counts
  enough = le_refl counts

  -- A file is asked what a trace of model 0 is asked whose slice of counts has that length.
  pub as_trace : first_no (call_questions header 0 rowLimit processLimit rowsLength counts) ≡ first_of
  unfolding file_questions call_questions first_no
  as_trace = rw (le-leb counts counts enough, and-true (leb (6 * rowLimit) rowsLength))

  -- Where the limits, the slice and the header word are within their ranges, every answer is Yes.
  pub all_asked : rowLimit * 6 ≤ rowsLength → 1 ≤ rowLimit → rowLimit ≤ ROWS → 1 ≤ processLimit → processLimit ≤ PROCESSES → header ≤ 1 → 0 ≡ first_of
  all_asked r o w p q h = trace.all_asked header 0 rowLimit processLimit rowsLength counts r enough (omega arith) o w (limit-of processLimit p q) h ∙ as_trace

  module _ {k : ℕ} (e : k ≡ first_of) where
    -- The number of a No is at most 3.
    pub first_three : k ≤ 3
    first_three = whole.first_three [] header 0 rowLimit processLimit 0 rowsLength counts (e ∙ sym as_trace)

  -- A call on a file that passes has its limits and its slice within their ranges.
  pub file-legal : first_of ≡ 0 → Legal header 0 rowLimit processLimit rowsLength (rowLimit * processLimit)
  file-legal z = legal header 0 rowLimit processLimit rowsLength counts (as_trace ∙ z)
