-- What the questions of messages leave of an accepted trace: a wait stands behind the send of its message and behind its receive. And which direct
-- edges an accepted trace has.
use Rattle.std.proofs.Common.{ℕ, zero, suc, ◌≤◌, ◌<◌, arith, ◌≡◌, refl, sym, ap, ◌∙◌, ◌↔◌, ◌⊎◌, inl, inr, true, List, length, eq-eqb, eqb-true}
use mathlib.Core.Bool.{false≢true}
use lib.Dec.{eqb}
use Rattle.rows.specs.declared.row.Row.{Row}
use Rattle.rows.specs.Kinds.{SEND, WAIT, ARRIVAL}
use Rattle.rows.specs.Rows.{row_at}
use Rattle.rows.proofs.Bools.{and_out, or_right}
use Rattle.messages.proofs.InOrder.{Sends, Posts, Arrives}
use Rattle.trace.specs.Questions.{accepted, check_trace}
use Rattle.trace.proofs.Laws.{Sound, accepted-passed, accepted-sound}
use Rattle.trace.proofs.Messages.{sends-once, posts_once, arrives-once, arrival_sent, arrival_posted}
use Rattle.barriers.proofs.Kept.{Meet, meet_other, Kept, barrier_first}
use Rattle.happens_before.specs.Order.{delivers, last_before, passes, crosses, edge, HB, one}
use Rattle.happens_before.proofs.Clocks.{Last, last-is, edge-forward, edge_by, program-order, cross_order, message-order}
use Rattle.happens_before.proofs.Barriers.{meet_in, meet_out, SentFirst}
use Rattle.rows.specs.Lists.{In}
use Rattle.consistency.specs.Orders.{Allowed, Stands}

-- The messages of a trace: at most one row sends each, at most one posts its receive, and each arrives at one row at most, the wait. That row
-- stands after the send of the message, which is another process's, and after its receive, which is of the wait's process.
pub record Delivered (rows : List Row) : Type 0 where
  pub sent-once : (m i j : ℕ) → i < length rows → j < length rows → Sends (row_at rows i) m → Sends (row_at rows j) m → i ≡ j
  pub posted-once : (m i j : ℕ) → i < length rows → j < length rows → Posts (row_at rows i) m → Posts (row_at rows j) m → i ≡ j
  pub arrived-once : (m i j : ℕ) → i < length rows → j < length rows → Arrives (row_at rows i) m → Arrives (row_at rows j) m → i ≡ j
  pub sent-before : (m j : ℕ) → j < length rows → Arrives (row_at rows j) m →
      (i : ℕ) × (i < j) × Sends (row_at rows i) m × ((row_at rows i).process ≡ (row_at rows j).process → ⊥)
  pub posted-before : (m j : ℕ) → j < length rows → Arrives (row_at rows j) m →
      (i : ℕ) × (i < j) × Posts (row_at rows i) m × ((row_at rows i).process ≡ (row_at rows j).process)

-- The messages of an accepted trace are delivered so.
pub sound_delivered : {P : ℕ} {rows : List Row} → Sound P rows → Delivered rows
sound_delivered s =
    record {
      sent-once = sends-once s;
      posted-once = posts_once s;
      arrived-once = arrives-once s;
      sent-before = arrival_sent s;
      posted-before = arrival_posted s;
    }

-- A message arrives after its send, wherever the two stand in an accepted trace, and they are of two processes.
pub sound_delivers : {P : ℕ} {rows : List Row} → Sound P rows → (m i j : ℕ) → i < length rows → j < length rows →
    Sends (row_at rows i) m → Arrives (row_at rows j) m → (i < j) × ((row_at rows i).process ≡ (row_at rows j).process → ⊥)
sound_delivers {P} {rows} s m i j h g c d =
    let t = arrival_sent s m j g d in
    let b : t.0 < length rows = omega (arith, t.1) in
    let e : t.0 ≡ i = sends-once s m t.0 i b h t.2 c in
    (omega (arith, t.1), λ q. t.3 (ap (λ (k : ℕ). (row_at rows k).process) e ∙ q))

-- A send leads to the row at which its message arrives.
delivers-in : (r w : Row) (m : ℕ) → Sends r m → Arrives w m → delivers r w ≡ true
delivers-in r w m c d = rw (eq-eqb r.kind SEND c.0, eq-eqb w.kind ARRIVAL d.0) (eq-eqb r.message w.message (c.1 ∙ sym d.1))

-- Where a row's message arrives at another, the first sends that message.
delivers-out : (r w : Row) → delivers r w ≡ true → Sends r w.message × Arrives w w.message
delivers-out r w e =
    let a = and_out (eqb r.kind SEND) _ e in
    let b = and_out (eqb w.kind ARRIVAL) (eqb r.message w.message) a.1 in
    ((eqb-true _ _ a.0, eqb-true _ _ b.1), (eqb-true _ _ b.0, refl))

-- A send of an accepted trace stands before the row at which its message arrives.
pub sound_sent_first : {P : ℕ} {rows : List Row} → Sound P rows → SentFirst rows
sound_sent_first {P} {rows} s i j h g e =
    let a = delivers-out (row_at rows i) (row_at rows j) e in (sound_delivers s (row_at rows j).message i j h g a.0 a.1).0

-- Row j stands just after the barrier that row i is of: the last row of j's process before j is of that barrier too.
pub record JustAfter (rows : List Row) (i j : ℕ) : Type 0 where
  pub row : ℕ
  pub before : row < j
  pub own : (row_at rows row).process ≡ (row_at rows j).process
  pub last : (k : ℕ) → k < j → (row_at rows k).process ≡ (row_at rows j).process → k ≤ row
  pub meets : Meet (row_at rows row) (row_at rows i)

-- The test says so.
just_after_iff : (rows : List Row) (i j : ℕ) → (passes (row_at rows) i (last_before (row_at rows) j) ≡ true) ↔ JustAfter rows i j
unfolding passes
just_after_iff rows i j = go (last_before (row_at rows) j) (last-is (λ x. (row_at rows x).process) (row_at rows j).process j)
  where
    go : (l : ℕ) → Last (λ x. (row_at rows x).process) (row_at rows j).process j l → (passes (row_at rows) i l ≡ true) ↔ JustAfter rows i j
    go zero r = (λ e. absurd (false≢true e), λ a. absurd (r a.row a.before a.own))
    go (suc k) r = (
      λ e. record { row = k; before = r.0; own = r.1; last = r.2; meets = meet_other (meet_out (row_at rows i) (row_at rows k) e) },
      λ a.
          let l = a.last k r.0 r.1 in
          let m = r.2 a.row a.before a.own in
          let e : k ≡ a.row = omega arith in
          rw e (meet_in (row_at rows i) (row_at rows a.row) (meet_other a.meets)),
    )

-- The direct edges of an accepted trace are each process's own row order, the way from each send to the row at which its message arrives, and the
-- way from each row of a barrier to the rows just after that barrier.
pub sound_edge : {P : ℕ} {rows : List Row} → Sound P rows → Kept rows → (i j : ℕ) → i < length rows → j < length rows →
    (edge rows i j ≡ true)
    ↔ (((i < j) × ((row_at rows i).process ≡ (row_at rows j).process))
    ⊎ (((m : ℕ) × Sends (row_at rows i) m × Arrives (row_at rows j) m) ⊎ JustAfter rows i j))
unfolding crosses
sound_edge {P} {rows} s kept i j h g = (λ e. to (edge-forward rows i j e) (edge_by rows i j e), from)
  where
    r : Row
    r = row_at rows i

    w : Row
    w = row_at rows j

    Edge : Type 0
    Edge = ((i < j) × (r.process ≡ w.process)) ⊎ (((m : ℕ) × Sends r m × Arrives w m) ⊎ JustAfter rows i j)

    to : i < j → (r.process ≡ w.process) ⊎ ((delivers r w ≡ true) ⊎ (passes (row_at rows) i (last_before (row_at rows) j) ≡ true)) → Edge
    to l (inl q) = inl (l, q)
    to l (inr (inl q)) = let a = delivers-out r w q in inr (inl (w.message, a.0, a.1))
    to l (inr (inr q)) = inr (inr ((just_after_iff rows i j).0 q))

    from : Edge → edge rows i j ≡ true
    from (inl (l, q)) = program-order rows i j l g q
    from (inr (inl (m, c, d))) = message-order rows i j (sound_delivers s m i j h g c d).0 g (delivers-in r w m c d)
    from (inr (inr a)) =
        cross_order rows i j (barrier_first kept i a.row j h a.before g a.meets a.own) g
        (or_right (delivers r w) _ ((just_after_iff rows i j).1 a))

-- A wait of an accepted trace has a direct edge from the send of its message.
wait_edge : {P : ℕ} {rows : List Row} → Sound P rows → (j : ℕ) → j < length rows → (row_at rows j).kind ≡ WAIT →
    (i : ℕ) × Sends (row_at rows i) (row_at rows j).message × (edge rows i j ≡ true)
wait_edge {P} {rows} s j h k =
    let m = (row_at rows j).message in
    let t = arrival_sent s m j h (k, refl) in
    (t.0, t.2, message-order rows t.0 j t.1 h (delivers-in (row_at rows t.0) (row_at rows j) m t.2 (k, refl)))

-- A wait of an accepted trace happens after the send of its message.
pub wait_ordered : {P : ℕ} {rows : List Row} → Sound P rows → (j : ℕ) → j < length rows → (row_at rows j).kind ≡ WAIT →
    (i : ℕ) × Sends (row_at rows i) (row_at rows j).message × HB (edge rows) i j
wait_ordered s j h k = let t = wait_edge s j h k in (t.0, t.1, one t.2)

-- An allowed order of an accepted trace keeps each wait after the send of its message, which it also holds.
pub allowed-waits : {P : ℕ} {rows : List Row} → Sound P rows → {order : List ℕ} → Allowed rows order → (j : ℕ) → In j order →
    (row_at rows j).kind ≡ WAIT → (i : ℕ) × Sends (row_at rows i) (row_at rows j).message × In i order × Stands i j order
allowed-waits s allowed j m k =
    let t = wait_edge s j (allowed.of_trace j m) k in
    let i = allowed.closed t.0 j (one t.2) m in
    (t.0, t.1, i, allowed.in_order t.0 j t.2 i m)

-- The messages of every text that a call accepts are delivered so.
pub accepted-delivered : (text : List ℕ) (header model rowLimit processLimit byteLimit rowsLength countsLength : ℕ) (rows : List Row) →
    check_trace text header model rowLimit processLimit byteLimit rowsLength countsLength ≡ accepted rows → Delivered rows
accepted-delivered text header model rowLimit processLimit byteLimit rowsLength countsLength rows e =
    let a = accepted-passed text header model rowLimit processLimit byteLimit rowsLength countsLength rows e in
    sound_delivered (accepted-sound header rowLimit processLimit _ rows a.1).1
