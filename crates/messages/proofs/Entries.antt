-- An entry tells what the rows so far did with its message.
use Rattle.std.proofs.Common.{ℕ, ◌+◌, ◌*◌, ◌/◌, ◌%◌, ◌<◌, arith, ◌≡◌, refl, sym, ap, ◌∙◌, true, false, List, [], ◌∷◌, ◌++◌, eq-eqb}
use lib.Dec.{eqb}
use Rattle.rows.specs.declared.row.Row.{Row}
use Rattle.rows.specs.Kinds.{SEND, RECV, WAIT}
use Rattle.rows.specs.Limits.{PROCESSES}
use Rattle.rows.proofs.Tests.{any_last, any-fails, any-passes}
use Rattle.messages.specs.Questions.{any, carries, carries_by, sent, sent_by, posted, posted_by, waited_for}
use Rattle.messages.specs.Table.{SENT, POSTED, WAITED, sender_in, poster_in, SIX_BITS, is_sent, is_posted, is_waited, is_sent_by, is_posted_by, with_send, with_post, with_wait}

-- ---- The bits of an entry

-- A flag set in both or in neither of two entries.
same_flag : (m n : ℕ) → m ≡ n → eqb m 1 ≡ eqb n 1
same_flag m n e = ap (λ (k : ℕ). eqb k 1) e

-- The flag of a posted receive is set whatever stands below it, and what stands above it stays.
above_post : (a low : ℕ) → low < POSTED → ((a * WAITED + POSTED + low) / POSTED % 2 ≡ 1) × ((a * WAITED + POSTED + low) / WAITED ≡ a)
above_post a low h = (omega arith, omega arith)

-- What stands above the flag of a posted receive decides whether the message was waited for.
half : (n : ℕ) → n / WAITED ≡ n / POSTED / 2
half n = omega arith

module _ (p e : ℕ) where
  -- What stands below the flag of a posted receive.
  below : e / SENT % 2 * SENT + p % SIX_BITS * SIX_BITS + e % SIX_BITS < POSTED
  below = omega arith

  -- An entry with a posted receive, by what stands above the flag and below it.
  post_parts : with_post p e ≡ e / WAITED * WAITED + POSTED + (e / SENT % 2 * SENT + p % SIX_BITS * SIX_BITS + e % SIX_BITS)
  post_parts = omega arith

  -- A send sets the flag of a message that was sent, and keeps the other two.
  send_sent : is_sent (with_send p e) ≡ true
  send_sent = eq-eqb (with_send p e / SENT % 2) 1 (omega arith)

  send_posted : is_posted (with_send p e) ≡ is_posted e
  send_posted = same_flag (with_send p e / POSTED % 2) (e / POSTED % 2) (omega arith)

  send_waited : is_waited (with_send p e) ≡ is_waited e
  send_waited =
      let above : with_send p e / POSTED ≡ e / POSTED = omega arith in
      ap (λ (n : ℕ). eqb (n % 2) 1) (half (with_send p e) ∙ ap (λ (n : ℕ). n / 2) above ∙ sym (half e))

  -- A send's process is the sender. The poster stays.
  send_sender : p < PROCESSES → sender_in (with_send p e) ≡ p
  send_sender h = omega arith

  send_poster : poster_in (with_send p e) ≡ poster_in e
  send_poster = omega arith

  -- A posted receive sets its flag, and keeps the other two.
  post_sent : is_sent (with_post p e) ≡ is_sent e
  post_sent = same_flag (with_post p e / SENT % 2) (e / SENT % 2) (omega arith)

  post_posted : is_posted (with_post p e) ≡ true
  post_posted = eq-eqb (with_post p e / POSTED % 2) 1 (ap (λ (n : ℕ). n / POSTED % 2) post_parts ∙ (above_post (e / WAITED) _ below).0)

  post_waited : is_waited (with_post p e) ≡ is_waited e
  post_waited = ap (λ (n : ℕ). eqb (n % 2) 1) (ap (λ (n : ℕ). n / WAITED) post_parts ∙ (above_post (e / WAITED) _ below).1)

  -- The process of a posted receive is the poster. The sender stays.
  post_sender : sender_in (with_post p e) ≡ sender_in e
  post_sender = omega arith

  post_poster : p < PROCESSES → poster_in (with_post p e) ≡ p
  post_poster h = omega arith

module _ (e : ℕ) where
  -- A wait sets its flag, and keeps the other two.
  wait_sent : is_sent (with_wait e) ≡ is_sent e
  wait_sent = same_flag (with_wait e / SENT % 2) (e / SENT % 2) (omega arith)

  wait_posted : is_posted (with_wait e) ≡ is_posted e
  wait_posted = same_flag (with_wait e / POSTED % 2) (e / POSTED % 2) (omega arith)

  wait_waited : is_waited (with_wait e) ≡ true
  wait_waited = eq-eqb (with_wait e / WAITED % 2) 1 (omega arith)

  -- A wait keeps the sender and the poster.
  wait_sender : sender_in (with_wait e) ≡ sender_in e
  wait_sender = omega arith

  wait_poster : poster_in (with_wait e) ≡ poster_in e
  wait_poster = omega arith

-- ---- The tests with one row more

-- A last row that does not carry the message changes nothing for any process.
by_fails : (kind m p : ℕ) (rows : List Row) (r : Row) → carries kind m r ≡ false →
    any (carries_by p kind m) (rows ++ (r ∷ [])) ≡ any (carries_by p kind m) rows
by_fails kind m p rows r e = any-fails (carries_by p kind m) rows (rw e)

-- Where the last row is the first of its kind to carry the message, its process is the one that does.
by_first : (kind m p : ℕ) (rows : List Row) (r : Row) → carries kind m r ≡ true → any (carries_by p kind m) rows ≡ false →
    eqb r.process p ≡ any (carries_by p kind m) (rows ++ (r ∷ []))
by_first kind m p rows r e none = sym (any_last (carries_by p kind m) rows r ∙ rw (none, e))

-- ---- An entry and the rows so far

-- The entry of message m says whether the rows send it, post its receive and wait for it, and whether process p sends it and posts its receive.
pub record Told (entry m : ℕ) (rows : List Row) : Type 0 where
  pub sent-told : is_sent entry ≡ sent m rows
  pub posted-told : is_posted entry ≡ posted m rows
  pub waited_told : is_waited entry ≡ waited_for m rows
  pub sender_told : (p : ℕ) → p < PROCESSES → is_sent_by p entry ≡ sent_by p m rows
  pub poster_told : (p : ℕ) → p < PROCESSES → is_posted_by p entry ≡ posted_by p m rows

-- Before any row, 0 tells of every message that nothing was done with it.
pub told_none : (m : ℕ) → Told 0 m []
unfolding any
told_none m =
    record { sent-told = refl; posted-told = refl; waited_told = refl; sender_told = λ p h. refl; poster_told = λ p h. refl }

module _ {entry m : ℕ} {rows : List Row} (t : Told entry m rows) (r : Row) where
  -- A row that does not carry the message leaves its entry.
  pub told-kept : carries SEND m r ≡ false → carries RECV m r ≡ false → carries WAIT m r ≡ false → Told entry m (rows ++ (r ∷ []))
  told-kept s v w =
      record {
        sent-told = t.sent-told ∙ sym (any-fails (carries SEND m) rows s);
        posted-told = t.posted-told ∙ sym (any-fails (carries RECV m) rows v);
        waited_told = t.waited_told ∙ sym (any-fails (carries WAIT m) rows w);
        sender_told = λ p h. t.sender_told p h ∙ sym (by_fails SEND m p rows r s);
        poster_told = λ p h. t.poster_told p h ∙ sym (by_fails RECV m p rows r v);
      }

  -- The first send of the message is noted.
  pub told-send : carries SEND m r ≡ true → carries RECV m r ≡ false → carries WAIT m r ≡ false → r.process < PROCESSES → sent m rows ≡ false →
      Told (with_send r.process entry) m (rows ++ (r ∷ []))
  told-send s v w b first =
      let q = r.process in
      record {
        sent-told = send_sent q entry ∙ sym (any-passes (carries SEND m) rows s);
        posted-told = send_posted q entry ∙ t.posted-told ∙ sym (any-fails (carries RECV m) rows v);
        waited_told = send_waited q entry ∙ t.waited_told ∙ sym (any-fails (carries WAIT m) rows w);
        sender_told =
            λ p h. rw (send_sent q entry, send_sender q entry b)
            (by_first SEND m p rows r s (sym (t.sender_told p h) ∙ rw (t.sent-told ∙ first)));
        poster_told = λ p h. rw (send_posted q entry, send_poster q entry) (t.poster_told p h ∙ sym (by_fails RECV m p rows r v));
      }

  -- The first posted receive of the message is noted.
  pub told-post : carries SEND m r ≡ false → carries RECV m r ≡ true → carries WAIT m r ≡ false → r.process < PROCESSES → posted m rows ≡ false →
      Told (with_post r.process entry) m (rows ++ (r ∷ []))
  told-post s v w b first =
      let q = r.process in
      record {
        sent-told = post_sent q entry ∙ t.sent-told ∙ sym (any-fails (carries SEND m) rows s);
        posted-told = post_posted q entry ∙ sym (any-passes (carries RECV m) rows v);
        waited_told = post_waited q entry ∙ t.waited_told ∙ sym (any-fails (carries WAIT m) rows w);
        sender_told = λ p h. rw (post_sent q entry, post_sender q entry) (t.sender_told p h ∙ sym (by_fails SEND m p rows r s));
        poster_told =
            λ p h. rw (post_posted q entry, post_poster q entry b)
            (by_first RECV m p rows r v (sym (t.poster_told p h) ∙ rw (t.posted-told ∙ first)));
      }

  -- A wait for the message is noted.
  pub told-wait : carries SEND m r ≡ false → carries RECV m r ≡ false → carries WAIT m r ≡ true → Told (with_wait entry) m (rows ++ (r ∷ []))
  told-wait s v w =
      record {
        sent-told = wait_sent entry ∙ t.sent-told ∙ sym (any-fails (carries SEND m) rows s);
        posted-told = wait_posted entry ∙ t.posted-told ∙ sym (any-fails (carries RECV m) rows v);
        waited_told = wait_waited entry ∙ sym (any-passes (carries WAIT m) rows w);
        sender_told = λ p h. rw (wait_sent entry, wait_sender entry) (t.sender_told p h ∙ sym (by_fails SEND m p rows r s));
        poster_told = λ p h. rw (wait_posted entry, wait_poster entry) (t.poster_told p h ∙ sym (by_fails RECV m p rows r v));
      }
