-- What the first No of the questions from 12 on says, clause by clause.
use Rattle.std.proofs.Common.{◌≡◌, refl, ◌↔◌, Bool, true, false, cond, not, ◌&&◌, List, arith, eqb-true}
use mathlib.Core.Bool.{false≢true}
use lib.Dec.{eqb}
use borrow.Author.Tests.{not-true}
use Rattle.rows.specs.declared.row.Row.{Row}
use Rattle.rows.specs.Kinds.{SEND, RECV, WAIT}
use Rattle.rows.specs.Questions.{first_no}
use Rattle.rows.specs.Refusals.{MESSAGE_ORDER, WAIT_ORDER}
use Rattle.rows.proofs.Bools.{and_out}
use Rattle.messages.specs.Questions.{sent, sent_by, posted, posted_by, waited_for, message_in_order, wait_in_order, message_questions}

-- There is no No exactly when both answers are Yes.
both : (b c : Bool) → (cond b (cond c 0 WAIT_ORDER) MESSAGE_ORDER ≡ 0) ↔ ((b ≡ true) × (c ≡ true))
both true true = (λ e. (refl, refl), λ e. refl)
both true false = (λ e. absurd (omega arith), λ e. absurd (false≢true e.1))
both false c = (λ e. absurd (omega arith), λ e. absurd (false≢true e.0))

-- A row passes the questions from 12 on behind rows.
abbrev pub Passes : List Row → Row → Type 0
Passes before r = first_no (message_questions before r) ≡ 0

-- A row passes exactly when its message is in order and, if the row is a wait, the wait is too.
pub message-yes : (before : List Row) (r : Row) → Passes before r ↔ ((message_in_order before r ≡ true) × (wait_in_order before r ≡ true))
unfolding first_no message_questions
message-yes before r = both (message_in_order before r) (wait_in_order before r)

-- A row behind rows. A send's message is unsent, and this process did not post it; a recv's is not posted, and this process did not send it; a
-- wait's was posted by this process, sent, and not waited for.
pub record Orderly (before : List Row) (r : Row) : Type 0 where
  pub unsent : r.kind ≡ SEND → sent r.message before ≡ false
  pub posted_by-other : r.kind ≡ SEND → posted_by r.process r.message before ≡ false
  pub unposted : r.kind ≡ RECV → posted r.message before ≡ false
  pub sent_by-other : r.kind ≡ RECV → sent_by r.process r.message before ≡ false
  pub posted-before : r.kind ≡ WAIT → posted_by r.process r.message before ≡ true
  pub sent-before : r.kind ≡ WAIT → sent r.message before ≡ true
  pub unwaited : r.kind ≡ WAIT → waited_for r.message before ≡ false

-- A row that passes is orderly.
pub orderly : (before : List Row) (r : Row) → Passes before r → Orderly before r
unfolding message_in_order wait_in_order
orderly before r passes =
    record {
      unsent = λ s. not-true (sent r.message before) (and_out _ _ (rw s at e)).0;
      posted_by-other = λ s. not-true (posted_by r.process r.message before) (and_out (not (sent r.message before)) _ (rw s at e)).1;
      unposted = λ s. not-true (posted r.message before) (and_out _ _ (rw s at e)).0;
      sent_by-other = λ s. not-true (sent_by r.process r.message before) (and_out (not (posted r.message before)) _ (rw s at e)).1;
      posted-before = λ s. (and_out (posted_by r.process r.message before) _ (rw s at w)).0;
      sent-before = λ s. (and_out (sent r.message before) _ (rest s)).0;
      unwaited = λ s. not-true (waited_for r.message before) (and_out (sent r.message before) _ (rest s)).1;
    }
  where
    e : message_in_order before r ≡ true
    e = ((message-yes before r).0 passes).0

    w : wait_in_order before r ≡ true
    w = ((message-yes before r).0 passes).1

    rest : r.kind ≡ WAIT → sent r.message before && not (waited_for r.message before) ≡ true
    rest s = (and_out (posted_by r.process r.message before) _ (rw s at w)).1

-- An orderly row passes.
pub in_order : (before : List Row) (r : Row) → Orderly before r → Passes before r
unfolding message_in_order wait_in_order
in_order before r o =
    (message-yes before r).1 (message (eqb r.kind SEND) refl (eqb r.kind RECV) refl, wait (eqb r.kind WAIT) refl)
  where
    message : (x : Bool) → eqb r.kind SEND ≡ x → (y : Bool) → eqb r.kind RECV ≡ y → message_in_order before r ≡ true
    message true p y q = let k = eqb-true r.kind SEND p in rw (p, o.unsent k, o.posted_by-other k)
    message false p true q = let k = eqb-true r.kind RECV q in rw (p, q, o.unposted k, o.sent_by-other k)
    message false p false q = rw (p, q)

    wait : (x : Bool) → eqb r.kind WAIT ≡ x → wait_in_order before r ≡ true
    wait true p = let k = eqb-true r.kind WAIT p in rw (p, o.posted-before k, o.sent-before k, o.unwaited k)
    wait false p = rw p
