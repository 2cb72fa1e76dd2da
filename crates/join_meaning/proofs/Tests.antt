-- Rows of two files that share no process, and rows that wait.
use Rattle.std.proofs.Common.{ℕ, ◌<◌, arith, ◌≡◌, sym, ap, ◌∙◌, false, not, ◌&&◌, List, length, take, length-take, get_or-take, eqb-true, eq-eqb}
use mathlib.Core.Bool.{false≢true}
use lib.Dec.{eqb}
use borrow.Author.Tests.{not-true, not-false}
use Rattle.rows.specs.declared.row.Row.{Row}
use Rattle.rows.specs.Kinds.{SEND, ARRIVAL}
use Rattle.rows.specs.Rows.{row_at, no_row}
use Rattle.rows.proofs.Bools.{and_out, not_both}
use Rattle.messages.specs.Questions.{any, carries, sent}
use Rattle.messages.proofs.Exchange.{Ready}
use Rattle.messages.proofs.InOrder.{Sends, Arrives}
use Rattle.rows.proofs.Tests.{some_out, some_in, or_none}
use Rattle.barriers.specs.Barriers.{goes_on}
use Rattle.happens_before.specs.Order.{same_process}
use Rattle.join_meaning.specs.Joining.{waits, shares_process}

-- No row of the first list and no row of the second are of one process.
abbrev pub Apart : List Row → List Row → Type 0
Apart a b = (i j : ℕ) → i < length a → j < length b → (row_at a i).process ≡ (row_at b j).process → ⊥

-- Two files that share no process have no two rows of one process.
pub apart : (a b : List Row) → shares_process a b ≡ false → Apart a b
unfolding shares_process
apart a b e i j h l q =
    false≢true (sym e ∙ some_in (λ r. any (λ s. same_process r s) b) a i h (some_in (λ s. same_process (row_at a i) s) b j l (eq-eqb _ _ q)))

-- ---- Rows that wait

-- A row that does not wait has no message missing, and its process does not stand at an unfinished barrier.
waits-out : (both before : List Row) (r : Row) → waits both before r ≡ false →
    ((eqb r.kind ARRIVAL && not (sent r.message before)) ≡ false) × (goes_on both before r ≡ false)
unfolding waits
waits-out both before r e = or_none (eqb r.kind ARRIVAL && not (sent r.message before)) (goes_on both before r) e

-- The message that arrives at a row that does not wait is sent.
pub ready-out : (both before : List Row) (r : Row) → waits both before r ≡ false → Ready before r
ready-out both before r e c = not-false (sent r.message before) (rw c at (waits-out both before r e).0)

-- The process of a row that does not wait stands at no unfinished barrier.
pub held_out : (both before : List Row) (r : Row) → waits both before r ≡ false → goes_on both before r ≡ false
held_out both before r e = (waits-out both before r e).1

-- A row does not wait where the message that arrives at it, if one does, is sent, and its process stands at no unfinished barrier.
pub ready-in : (both before : List Row) (r : Row) → Ready before r → goes_on both before r ≡ false → waits both before r ≡ false
unfolding waits
ready-in both before r f g = rw (not_both (eqb r.kind ARRIVAL) _ (λ c n. false≢true (sym (not-true _ n) ∙ f (eqb-true _ _ c)))) g

-- A row that does not wait behind the first rows of a list has a send of the message that arrives at it there.
pub sent-before : (both m : List Row) (n : ℕ) (r : Row) (message : ℕ) → waits both (take n m) r ≡ false → Arrives r message →
    (k : ℕ) × (k < n) × Sends (row_at m k) message
sent-before both m n r message e c =
    let t = some_out (carries SEND r.message) (take n m) (ready-out both (take n m) r e c.0) in
    let h : t.0 < n = omega (arith, t.1, length-take n m) in
    let same = get_or-take n m t.0 no_row h in
    let a = and_out _ _ t.2 in
    (t.0, h, (ap (λ (x : Row). x.kind) (sym same) ∙ eqb-true _ _ a.0, ap (λ (x : Row). x.message) (sym same) ∙ eqb-true _ _ a.1 ∙ c.1))
