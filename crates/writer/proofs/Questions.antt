-- What a call whose numbers and slices have no No has.
use Rattle.std.proofs.Common.{ℕ, ◌*◌, ◌≤◌, ◌<◌, arith, ◌≡◌, refl, Bool, true, false, leb-true, lt-ltb}
use lib.Dec.{leb}
use Rattle.rows.specs.Limits.{ROWS, PROCESSES, FILES, MESSAGES, FIELDS}
use Rattle.rows.specs.Questions.{first_no, is_process_limit}
use Rattle.rows.proofs.Asking.{all_yes}
use Rattle.rows.proofs.Limits.{limit-told}
use Rattle.rows.proofs.Bools.{and_out}
use Rattle.rows.specs.declared.row.Row.{Row}
use Rattle.trace_numbers.specs.Numbers.{OFFSETS}
use Rattle.trace_numbers.specs.declared.Used.{Used}
use Rattle.writer.specs.Writing.{write_questions, below_if, below_of}

-- A call that passes has at most 4,096 rows, six numbers for each, and at most the largest process limit.
pub call-legal : (n header P rowsLength : ℕ) → first_no (write_questions n header P rowsLength) ≡ 0 → (n ≤ ROWS) × (n * FIELDS ≤ rowsLength) × (P ≤ PROCESSES)
unfolding write_questions
call-legal n header P rowsLength e =
    let yes = all_yes (write_questions n header P rowsLength) (omega arith) e in
    let limits = and_out (is_process_limit P) (leb n ROWS) yes.1.0 in
    let enough : FIELDS * n ≤ rowsLength = leb-true _ _ yes.0 in
    (leb-true _ _ limits.1, omega arith, (limit-told P limits.0).1)

-- ---- Numbers and their bounds

-- A number below its bound is so whether it is used or not.
below-always : (used : Bool) (below n : ℕ) → n < below → below_if used below n ≡ true
below-always true below n h = lt-ltb n below h
below-always false below n h = refl

-- An offset and a length of 32 bits are in their ranges, so behind a process and a file that are, the message decides.
pub message-below : (u : Used) (P : ℕ) (r : Row) → r.process < P → {b : Bool} → below_if u.file FILES r.file ≡ true → r.offset < OFFSETS →
    r.length < OFFSETS → b ≡ below_if u.message MESSAGES r.message → b ≡ below_of u P r
unfolding below_of
message-below u P r p f o l e =
    rw (lt-ltb r.process P p, f, below-always u.range OFFSETS r.offset o, below-always u.range OFFSETS r.length l) e
