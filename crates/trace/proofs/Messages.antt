-- The messages of sound rows: each is sent once, posted once and arrives once, and a row at which a message arrives has the send and the posted
-- receive of it before it.
use Rattle.std.proofs.Common.{ℕ, zero, suc, ◌≤◌, ◌<◌, arith, ◌≡◌, sym, ap, subst, ◌∙◌, List, [], ◌∷◌, ◌++◌, length, take, length-append, length-take-le, take-suc, get_or-take}
use native.Mathlib.Decide.{dec_lt}
use lib.ListN.{get_or-append}
use lib.Seq.{take-length, get_or-append_seam}
use Rattle.rows.specs.declared.row.Row.{Row}
use Rattle.rows.specs.Rows.{row_at, no_row}
use Rattle.messages.proofs.InOrder.{Sends, Posts, Arrives, InOrder, message-iff, same-before, more_rows}
use Rattle.trace.proofs.Laws.{WellFormed, Sound, none, next}

-- Every row of sound rows is in order behind the rows before it.
pub sound_in_order : {P : ℕ} {rows : List Row} → Sound P rows → (j : ℕ) → j < length rows → InOrder rows j (row_at rows j)
sound_in_order none j h = absurd (omega arith)
sound_in_order (next {rows} {r} s w m) j h = go (dec_lt j (length rows)) (λ l. sound_in_order s j l)
  where
    go : Dec (j < length rows) → (j < length rows → InOrder rows j (row_at rows j)) → InOrder (rows ++ (r ∷ [])) j (row_at (rows ++ (r ∷ [])) j)
    go (yes l) ih =
        subst (InOrder (rows ++ (r ∷ [])) j) (sym (get_or-append rows (r ∷ []) no_row j l)) (more_rows rows (r ∷ []) (omega arith) (ih l))
    go (no l) ih =
        let e : length rows ≡ j = omega (arith, length-append rows (r ∷ [])) in
        let last = more_rows rows (r ∷ []) (omega arith) ((message-iff rows r).0 m) in
        subst (λ (i : ℕ). InOrder (rows ++ (r ∷ [])) i (row_at (rows ++ (r ∷ [])) i)) e
        (subst (InOrder (rows ++ (r ∷ [])) (length rows)) (sym (get_or-append_seam rows r [] no_row)) last)

-- The first n rows are sound where each row is well formed and in order behind the rows before it.
first-sound : (P : ℕ) (rows : List Row) → ((k : ℕ) → k < length rows → WellFormed P (row_at rows k)) →
    ((k : ℕ) → k < length rows → InOrder rows k (row_at rows k)) → (n : ℕ) → n ≤ length rows → Sound P (take n rows)
first-sound P rows f o zero h = none
first-sound P rows f o (suc n) h =
    let many : length (take n rows) ≡ n = length-take-le n rows (omega arith) in
    let here = same-before {rows' = take n rows} (λ k l. get_or-take n rows k no_row l) (o n (omega arith)) in
    subst (Sound P) (sym (take-suc rows n no_row (omega arith)))
    (next (first-sound P rows f o n (omega arith)) (f n (omega arith))
    ((message-iff (take n rows) (row_at rows n)).1 (subst (λ (k : ℕ). InOrder (take n rows) k (row_at rows n)) (sym many) here)))

-- Rows are sound where each is well formed and in order behind the rows before it.
pub in_order-sound : (P : ℕ) (rows : List Row) → ((k : ℕ) → k < length rows → WellFormed P (row_at rows k)) →
    ((k : ℕ) → k < length rows → InOrder rows k (row_at rows k)) → Sound P rows
in_order-sound P rows f o = subst (Sound P) (take-length rows) (first-sound P rows f o (length rows) (omega arith))

-- A property that never holds at two places, one before the other, holds at one place only.
once : (n : ℕ) (Q : ℕ → Type 0) → ((i j : ℕ) → i < j → j < n → Q i → Q j → ⊥) → (i j : ℕ) → i < n → j < n → Q i → Q j → i ≡ j
once n Q f i j h g p q = go (dec_lt i j) (dec_lt j i)
  where
    go : Dec (i < j) → Dec (j < i) → i ≡ j
    go (yes l) d = absurd (f i j l g p q)
    go (no l) (yes k) = absurd (f j i k h q p)
    go (no l) (no k) = omega arith

module _ {P : ℕ} {rows : List Row} (s : Sound P rows) where
  -- Two rows that send one message are one row.
  pub sends-once : (m i j : ℕ) → i < length rows → j < length rows → Sends (row_at rows i) m → Sends (row_at rows j) m → i ≡ j
  sends-once m =
      once (length rows) (λ k. Sends (row_at rows k) m)
      (λ i j l h p q. (sound_in_order s j h).unsent q.0 i l (p.0, p.1 ∙ sym q.1))

  -- Two rows that post a receive of one message are one row.
  pub posts_once : (m i j : ℕ) → i < length rows → j < length rows → Posts (row_at rows i) m → Posts (row_at rows j) m → i ≡ j
  posts_once m =
      once (length rows) (λ k. Posts (row_at rows k) m)
      (λ i j l h p q. (sound_in_order s j h).unposted q.0 i l (p.0, p.1 ∙ sym q.1))

  -- Two rows at which one message arrives are one row.
  pub arrives-once : (m i j : ℕ) → i < length rows → j < length rows → Arrives (row_at rows i) m → Arrives (row_at rows j) m → i ≡ j
  arrives-once m =
      once (length rows) (λ k. Arrives (row_at rows k) m)
      (λ i j l h p q. (sound_in_order s j h).unwaited q.0 i l (p.0, p.1 ∙ sym q.1))

  -- No process both sends a message and posts its receive.
  pub sent-to_other : (m i k : ℕ) → i < length rows → k < length rows → Sends (row_at rows i) m → Posts (row_at rows k) m →
      (row_at rows i).process ≡ (row_at rows k).process → ⊥
  sent-to_other m i k h l c d q = go (dec_lt i k) (dec_lt k i)
    where
      go : Dec (i < k) → Dec (k < i) → ⊥
      go (yes b) e = (sound_in_order s k l).sent_by-other d.0 i b ((c.0, c.1 ∙ sym d.1), q)
      go (no b) (yes e) = (sound_in_order s i h).posted_by-other c.0 k e ((d.0, d.1 ∙ sym c.1), sym q)
      go (no b) (no e) = let same : i ≡ k = omega arith in omega (arith, sym c.0 ∙ ap (λ (n : ℕ). (row_at rows n).kind) same ∙ d.0)

  -- A row at which a message arrives has the message's posted receive, by the same process, before it.
  pub arrival_posted : (m j : ℕ) → j < length rows → Arrives (row_at rows j) m →
      (i : ℕ) × (i < j) × Posts (row_at rows i) m × ((row_at rows i).process ≡ (row_at rows j).process)
  arrival_posted m j h c =
      let t = (sound_in_order s j h).posted-before c.0 in
      (t.0, t.1, (t.2.0.0, t.2.0.1 ∙ c.1), t.2.1)

  -- A row at which a message arrives has its send, by another process, before it.
  pub arrival_sent : (m j : ℕ) → j < length rows → Arrives (row_at rows j) m →
      (i : ℕ) × (i < j) × Sends (row_at rows i) m × ((row_at rows i).process ≡ (row_at rows j).process → ⊥)
  arrival_sent m j h c =
      let t = (sound_in_order s j h).sent-before c.0 in
      let u = arrival_posted m j h c in
      let sends : Sends (row_at rows t.0) m = (t.2.0, t.2.1 ∙ c.1) in
      let other = sent-to_other m t.0 u.0 (omega (arith, t.1)) (omega (arith, u.1)) sends u.2 in
      (t.0, t.1, sends, λ q. other (q ∙ sym u.3))
