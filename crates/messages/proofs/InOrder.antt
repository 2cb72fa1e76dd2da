-- The questions 12 and 21 in the documents' words: the rows before a row that send its message, post its receive or wait for it.
use Rattle.std.proofs.Common.{ℕ, ◌≤◌, ◌<◌, arith, ◌≡◌, sym, subst, ◌↔◌, true, false, List, ◌++◌, length}
use lib.ListN.{get_or-append}
use Rattle.rows.specs.declared.row.Row.{Row}
use Rattle.rows.specs.Kinds.{SEND, RECV, WAIT, ARRIVAL}
use Rattle.rows.specs.Rows.{row_at, no_row}
use Rattle.rows.proofs.Tests.{carries-iff, carries_by-iff, some-iff, none-iff}
use Rattle.messages.specs.Questions.{any, carries, carries_by, sent, posted_by}
use Rattle.messages.proofs.Asks.{Passes, Orderly, orderly, in_order}

-- ---- What the questions say

-- The row sends this message.
abbrev pub Sends : Row → ℕ → Type 0
Sends r message = (r.kind ≡ SEND) × (r.message ≡ message)

-- The row posts a receive of this message.
abbrev pub Posts : Row → ℕ → Type 0
Posts r message = (r.kind ≡ RECV) × (r.message ≡ message)

-- The message arrives at the row.
abbrev pub Arrives : Row → ℕ → Type 0
Arrives r message = (r.kind ≡ ARRIVAL) × (r.message ≡ message)

-- A row with the first n rows of a trace before it. A send's message is unsent so far, and a receive of it that was posted before is another
-- process's. A recv's message was not posted before, and not sent by this process. A wait's message was posted earlier by this process, sent
-- earlier, and not yet waited for.
pub record InOrder (rows : List Row) (n : ℕ) (r : Row) : Type 0 where
  pub unsent : r.kind ≡ SEND → (k : ℕ) → k < n → Sends (row_at rows k) r.message → ⊥
  pub posted_by-other : r.kind ≡ SEND → (k : ℕ) → k < n → Posts (row_at rows k) r.message × ((row_at rows k).process ≡ r.process) → ⊥
  pub unposted : r.kind ≡ RECV → (k : ℕ) → k < n → Posts (row_at rows k) r.message → ⊥
  pub sent_by-other : r.kind ≡ RECV → (k : ℕ) → k < n → Sends (row_at rows k) r.message × ((row_at rows k).process ≡ r.process) → ⊥
  pub posted-before : r.kind ≡ WAIT → (k : ℕ) × (k < n) × (Posts (row_at rows k) r.message × ((row_at rows k).process ≡ r.process))
  pub sent-before : r.kind ≡ WAIT → (k : ℕ) × (k < n) × Sends (row_at rows k) r.message
  pub unwaited : r.kind ≡ WAIT → (k : ℕ) → k < n → Arrives (row_at rows k) r.message → ⊥

-- ---- The questions

module _ (earlier : List Row) (r : Row) where
  -- No row before carries the row's message with this kind.
  none_of : (kind : ℕ) → (any (carries kind r.message) earlier ≡ false)
      ↔ ((k : ℕ) → k < length earlier → ((row_at earlier k).kind ≡ kind) × ((row_at earlier k).message ≡ r.message) → ⊥)
  none_of kind = none-iff (carries kind r.message) _ (carries-iff kind r.message) earlier

  -- No row of the row's process before does.
  none-own : (kind : ℕ) → (any (carries_by r.process kind r.message) earlier ≡ false)
      ↔ ((k : ℕ) → k < length earlier →
      (((row_at earlier k).kind ≡ kind) × ((row_at earlier k).message ≡ r.message)) × ((row_at earlier k).process ≡ r.process) → ⊥)
  none-own kind = none-iff (carries_by r.process kind r.message) _ (carries_by-iff r.process kind r.message) earlier

  -- Some row of the row's process before posts its message.
  own-posted : (posted_by r.process r.message earlier ≡ true)
      ↔ ((k : ℕ) × (k < length earlier) × (Posts (row_at earlier k) r.message × ((row_at earlier k).process ≡ r.process)))
  own-posted = some-iff (carries_by r.process RECV r.message) _ (carries_by-iff r.process RECV r.message) earlier

  -- Some row before sends the row's message.
  some-sent : (sent r.message earlier ≡ true) ↔ ((k : ℕ) × (k < length earlier) × Sends (row_at earlier k) r.message)
  some-sent = some-iff (carries SEND r.message) _ (carries-iff SEND r.message) earlier

  -- The questions from 12 on are answered Yes exactly when the row is in order behind the rows before it.
  pub message-iff : Passes earlier r ↔ InOrder earlier (length earlier) r
  message-iff = (λ e. to (orderly earlier r e), λ o. in_order earlier r (from o))
    where
      to : Orderly earlier r → InOrder earlier (length earlier) r
      to o =
          record {
            unsent = λ s. (none_of SEND).0 (o.unsent s);
            posted_by-other = λ s. (none-own RECV).0 (o.posted_by-other s);
            unposted = λ s. (none_of RECV).0 (o.unposted s);
            sent_by-other = λ s. (none-own SEND).0 (o.sent_by-other s);
            posted-before = λ s. own-posted.0 (o.posted-before s);
            sent-before = λ s. some-sent.0 (o.sent-before s);
            unwaited = λ s. (none_of WAIT).0 (o.unwaited s);
          }

      from : InOrder earlier (length earlier) r → Orderly earlier r
      from o =
          record {
            unsent = λ s. (none_of SEND).1 (o.unsent s);
            posted_by-other = λ s. (none-own RECV).1 (o.posted_by-other s);
            unposted = λ s. (none_of RECV).1 (o.unposted s);
            sent_by-other = λ s. (none-own SEND).1 (o.sent_by-other s);
            posted-before = λ s. own-posted.1 (o.posted-before s);
            sent-before = λ s. some-sent.1 (o.sent-before s);
            unwaited = λ s. (none_of WAIT).1 (o.unwaited s);
          }

-- ---- Other rows

-- A row is in order behind n rows where it is so behind others that have the same first n rows.
pub same-before : {rows rows' : List Row} {n : ℕ} {r : Row} → ((k : ℕ) → k < n → row_at rows' k ≡ row_at rows k) → InOrder rows n r → InOrder rows' n r
same-before {rows} {rows'} {n} {r} same o =
    let own : (kind : ℕ) (x : Row) → Type 0 = λ kind x. ((x.kind ≡ kind) × (x.message ≡ r.message)) × (x.process ≡ r.process) in
    record {
      unsent = λ s k l c. o.unsent s k l (subst (λ (x : Row). Sends x r.message) (same k l) c);
      posted_by-other = λ s k l c. o.posted_by-other s k l (subst (own RECV) (same k l) c);
      unposted = λ s k l c. o.unposted s k l (subst (λ (x : Row). Posts x r.message) (same k l) c);
      sent_by-other = λ s k l c. o.sent_by-other s k l (subst (own SEND) (same k l) c);
      posted-before = λ s. let t = o.posted-before s in (t.0, t.1, subst (own RECV) (sym (same t.0 t.1)) t.2);
      sent-before =
          λ s. let t = o.sent-before s in (t.0, t.1, subst (λ (x : Row). Sends x r.message) (sym (same t.0 t.1)) t.2);
      unwaited = λ s k l c. o.unwaited s k l (subst (λ (x : Row). Arrives x r.message) (same k l) c);
    }

-- Rows behind the first n change nothing of what stands before a row.
pub more_rows : (rows more : List Row) {n : ℕ} {r : Row} → n ≤ length rows → InOrder rows n r → InOrder (rows ++ more) n r
more_rows rows more h o = same-before (λ k l. get_or-append rows more no_row k (omega arith)) o
