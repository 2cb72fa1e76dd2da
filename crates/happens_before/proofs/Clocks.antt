-- Laws of happens-before and of the counts.
use Rattle.std.proofs.Common.{ℕ, zero, suc, ◌+◌, ◌≤◌, ◌<◌, arith, ◌≡◌, refl, sym, ap, ◌∙◌, ◌↔◌, ◌⊎◌, inl, inr, Bool, true, false, cond, ◌&&◌, ◌||◌, List, length, lt-ltb, ltb-true, eq-eqb, eqb-true}
use native.Mathlib.Decide.{dec_lt}
use mathlib.Core.Bool.{false≢true, and-false}
use lib.Dec.{ltb, eqb}
use borrow.Author.Tests.{eqb-false}
use Rattle.rows.specs.declared.row.Row.{Row}
use Rattle.rows.specs.Kinds.{SEND, RECV, ARRIVAL, BARRIER}
use Rattle.rows.specs.Counting.{any_below, count_below, last_below}
use Rattle.happens_before.specs.Order.{same_process, delivers, last_of, last_before, passes, crosses, edge, HB, one, more, hb_within, hb, up_to, count}
use Rattle.rows.specs.Rows.{row_at}
use Rattle.happens_before.specs.Clock.{from_last, joined_to, clock}
use Rattle.rows.proofs.Bools.{and_out, or_out, or_right, same_test, not_passed}
use Rattle.rows.proofs.Below.{any-in, any_out, count_same, count-below, count_cut, count-own, Closed, closed-place}
use Rattle.happens_before.proofs.Unions.{union_to, count-joined}

-- ---- Happens-before over any edges that lead forward

-- Edges lead forward.
abbrev pub Forward : (ℕ → ℕ → Bool) → Type 0
Forward e = (i j : ℕ) → e i j ≡ true → i < j

-- A row that happens before another stands before it.
pub HB-less : {e : ℕ → ℕ → Bool} → Forward e → {i j : ℕ} → HB e i j → i < j
HB-less f (one {i} {j} e) = f i j e
HB-less f (more {k = k} {j = j} h e) = omega (arith, HB-less f h, f k j e)

-- Happens-before is transitive.
pub HB-trans : {e : ℕ → ℕ → Bool} {i k j : ℕ} → HB e i k → HB e k j → HB e i j
HB-trans g (one e) = more g e
HB-trans g (more h e) = more (HB-trans g h) e

-- Where the decision says Yes, the row happens before.
hb-sound : (e : ℕ → ℕ → Bool) (n i j : ℕ) → hb_within n e i j ≡ true → HB e i j
unfolding hb_within
hb-sound e zero i j h = absurd (false≢true h)
hb-sound e (suc n) i j h = go (or_out (e i j) _ h) (hb-sound e n i)
  where
    go : (e i j ≡ true) ⊎ (any_below j (λ k. e k j && hb_within n e i k) ≡ true) → ((k : ℕ) → hb_within n e i k ≡ true → HB e i k) → HB e i j
    go (inl a) rest = one a
    go (inr a) rest =
        let r = any_out j (λ k. e k j && hb_within n e i k) a in
        let b = and_out (e r.0 j) (hb_within n e i r.0) r.2 in
        more (rest r.0 b.1) b.0

-- Where the row happens before, the decision says Yes.
hb-found : {e : ℕ → ℕ → Bool} → Forward e → {i j : ℕ} → HB e i j → (n : ℕ) → j ≤ n → hb_within n e i j ≡ true
unfolding hb_within
hb-found f (one {i} {j} a) zero l = let b = f i j a in absurd (omega arith)
hb-found f (one {i} {j} a) (suc n) l = rw a
hb-found f (more {k = k} {j = j} h a) zero l = let b = f k j a in absurd (omega arith)
hb-found {e} f (more {i} {k} {j} h a) (suc n) l =
    let b = f k j a in
    or_right (e i j) _ (any-in j (λ s. e s j && hb_within n e i s) k b (rw a (hb-found f h n (omega arith))))

-- The decision says Yes exactly where the row happens before.
pub hb-iff : {e : ℕ → ℕ → Bool} → Forward e → (i j : ℕ) → (hb e i j ≡ true) ↔ HB e i j
hb-iff {e} f i j = (hb-sound e j i j, λ h. hb-found f h j (omega arith))

-- Happens-before is decided.
pub hb-dec : {e : ℕ → ℕ → Bool} → Forward e → (i j : ℕ) → Dec (HB e i j)
hb-dec {e} f i j = go (hb e i j) refl
  where
    go : (b : Bool) → hb e i j ≡ b → Dec (HB e i j)
    go true h = yes ((hb-iff f i j).0 h)
    go false h = no (λ a. false≢true (sym h ∙ (hb-iff f i j).1 a))

-- No row happens before itself.
hb-self : {e : ℕ → ℕ → Bool} → Forward e → (j : ℕ) → hb e j j ≡ false
hb-self {e} f j = not_passed (hb e j j) (λ h. let l = HB-less f ((hb-iff f j j).0 h) in omega arith)

-- A row that is k or happens before k happens before where k has an edge to.
up_to-edge : {e : ℕ → ℕ → Bool} → Forward e → (i k j : ℕ) → up_to e i k ≡ true → e k j ≡ true → HB e i j
up_to-edge {e} f i k j u a = go (or_out (eqb i k) (hb e i k) u)
  where
    go : (eqb i k ≡ true) ⊎ (hb e i k ≡ true) → HB e i j
    go (inl q) = one (ap (λ (x : ℕ). e x j) (eqb-true i k q) ∙ a)
    go (inr h) = more ((hb-iff f i k).0 h) a

-- A row that happens before j is, or happens before, some k that has an edge to j.
edge-up_to : {e : ℕ → ℕ → Bool} → Forward e → {i j : ℕ} → HB e i j → (k : ℕ) × (e k j ≡ true) × (up_to e i k ≡ true)
edge-up_to f (one {i} {j} a) = (i, a, rw (eq-eqb i i refl))
edge-up_to f (more {i} {k} {j} h a) = (k, a, or_right (eqb i k) _ ((hb-iff f i k).1 h))

-- A row with an edge to k happens before j or is it, if k does or is.
edge-first : {e : ℕ → ℕ → Bool} → Forward e → (i k j : ℕ) → e i k ≡ true → up_to e k j ≡ true → up_to e i j ≡ true
edge-first {e} f i k j a u = or_right (eqb i j) _ ((hb-iff f i j).1 (go (or_out (eqb k j) (hb e k j) u)))
  where
    go : (eqb k j ≡ true) ⊎ (hb e k j ≡ true) → HB e i j
    go (inl q) = one (ap (e i) (sym (eqb-true k j q)) ∙ a)
    go (inr h) = HB-trans (one a) ((hb-iff f k j).0 h)

-- ---- The edges of a trace

-- An edge leads forward, into the trace, within a process or from a row that leads to its end.
pub edge-out : (rows : List Row) (i j : ℕ) → edge rows i j ≡ true →
    (i < j) × (j < length rows) × (((row_at rows i).process ≡ (row_at rows j).process) ⊎ (crosses (row_at rows) i j ≡ true))
unfolding edge
edge-out rows i j e =
    let a = and_out (ltb i j) _ e in
    let b = and_out (ltb j (length rows)) _ a.1 in
    (ltb-true _ _ a.0, ltb-true _ _ b.0, go (or_out _ _ b.1))
  where
    go : (same_process (row_at rows i) (row_at rows j) ≡ true) ⊎ (crosses (row_at rows) i j ≡ true) →
        ((row_at rows i).process ≡ (row_at rows j).process) ⊎ (crosses (row_at rows) i j ≡ true)
    go (inl q) = inl (eqb-true _ _ q)
    go (inr d) = inr d

-- Edges of a trace lead forward.
pub edge-forward : (rows : List Row) → Forward (edge rows)
edge-forward rows i j e = (edge-out rows i j e).0

-- An edge ends at a row of the trace.
pub edge_in : (rows : List Row) (i j : ℕ) → edge rows i j ≡ true → j < length rows
edge_in rows i j e = (edge-out rows i j e).1

-- Of two rows of one process, the earlier has an edge to the later.
pub program-order : (rows : List Row) (i j : ℕ) → i < j → j < length rows → (row_at rows i).process ≡ (row_at rows j).process → edge rows i j ≡ true
unfolding edge
program-order rows i j h n p = rw (lt-ltb i j h, lt-ltb j (length rows) n, eq-eqb (row_at rows i).process (row_at rows j).process p)

-- A row has an edge to a later row that it leads to.
pub cross_order : (rows : List Row) (i j : ℕ) → i < j → j < length rows → crosses (row_at rows) i j ≡ true → edge rows i j ≡ true
unfolding edge
cross_order rows i j h n d = rw (lt-ltb i j h, lt-ltb j (length rows) n) (or_right (same_process (row_at rows i) (row_at rows j)) _ d)

-- A send has an edge to a later row at which its message arrives.
pub message-order : (rows : List Row) (i j : ℕ) → i < j → j < length rows → delivers (row_at rows i) (row_at rows j) ≡ true → edge rows i j ≡ true
unfolding crosses
message-order rows i j h n d = cross_order rows i j h n (rw d)

-- An edge is within a process, along a message, or from a row of the barrier just after which its end stands.
pub edge_by : (rows : List Row) (i j : ℕ) → edge rows i j ≡ true →
    ((row_at rows i).process ≡ (row_at rows j).process)
    ⊎ ((delivers (row_at rows i) (row_at rows j) ≡ true) ⊎ (passes (row_at rows) i (last_before (row_at rows) j) ≡ true))
unfolding crosses
edge_by rows i j e = go (edge-out rows i j e).2
  where
    go : ((row_at rows i).process ≡ (row_at rows j).process) ⊎ (crosses (row_at rows) i j ≡ true) →
        ((row_at rows i).process ≡ (row_at rows j).process)
        ⊎ ((delivers (row_at rows i) (row_at rows j) ≡ true) ⊎ (passes (row_at rows) i (last_before (row_at rows) j) ≡ true))
    go (inl q) = inl q
    go (inr c) = inr (or_out (delivers (row_at rows i) (row_at rows j)) _ c)

-- ---- A recv gives no order by itself

-- A row that is of a barrier is a barrier row.
pub passes-kind : (at : ℕ → Row) (i last : ℕ) → passes at i last ≡ true → (at i).kind ≡ BARRIER
unfolding passes
passes-kind at i zero e = absurd (false≢true e)
passes-kind at i (suc k) e = eqb-true (at i).kind BARRIER (and_out _ _ e).0

-- An edge to a recv comes from its own process, or from a row of the barrier just after which the recv stands.
pub recv_alone : (rows : List Row) (i j : ℕ) → (row_at rows j).kind ≡ RECV → edge rows i j ≡ true →
    ((row_at rows i).process ≡ (row_at rows j).process) ⊎ (passes (row_at rows) i (last_before (row_at rows) j) ≡ true)
recv_alone rows i j k e = go (edge_by rows i j e)
  where
    go : ((row_at rows i).process ≡ (row_at rows j).process)
        ⊎ ((delivers (row_at rows i) (row_at rows j) ≡ true) ⊎ (passes (row_at rows) i (last_before (row_at rows) j) ≡ true)) →
        ((row_at rows i).process ≡ (row_at rows j).process) ⊎ (passes (row_at rows) i (last_before (row_at rows) j) ≡ true)
    go (inl q) = inl q
    go (inr (inl d)) =
        let a = and_out (eqb (row_at rows i).kind SEND) _ d in
        let w = eqb-true (row_at rows j).kind ARRIVAL (and_out _ _ a.1).0 in
        absurd (omega arith)
    go (inr (inr b)) = inr b

-- An edge from a recv leads to its own process.
pub recv_alone_out : (rows : List Row) (i j : ℕ) → (row_at rows i).kind ≡ RECV → edge rows i j ≡ true →
    (row_at rows i).process ≡ (row_at rows j).process
recv_alone_out rows i j k e = go (edge_by rows i j e)
  where
    go : ((row_at rows i).process ≡ (row_at rows j).process)
        ⊎ ((delivers (row_at rows i) (row_at rows j) ≡ true) ⊎ (passes (row_at rows) i (last_before (row_at rows) j) ≡ true)) →
        (row_at rows i).process ≡ (row_at rows j).process
    go (inl q) = q
    go (inr (inl d)) = let s = eqb-true (row_at rows i).kind SEND (and_out _ _ d).0 in absurd (omega arith)
    go (inr (inr b)) = absurd (omega (arith, passes-kind (row_at rows) i _ b))

-- ---- The rows of one process

-- Row i is of process p.
abbrev of_process : List Row → ℕ → ℕ → Bool
of_process rows p i = eqb (row_at rows i).process p

-- The rows of one process that happen before row k or are row k are the first of that process.
up_to-closed : (rows : List Row) (p k : ℕ) → Closed (length rows) (of_process rows p) (λ i. up_to (edge rows) i k)
up_to-closed rows p k i s l h a b u =
    edge-first (edge-forward rows) i s k (program-order rows i s l h (eqb-true _ p a ∙ sym (eqb-true _ p b))) u

-- ---- The last row of a process

-- The number l names the last row of process q below j, as `last_of` does.
abbrev pub Last : (ℕ → ℕ) → ℕ → ℕ → ℕ → Type 0
Last at q j zero = (k : ℕ) → k < j → at k ≡ q → ⊥
Last at q j (suc l) = (l < j) × (at l ≡ q) × ((k : ℕ) → k < j → at k ≡ q → k ≤ l)

-- One more row, of another process, leaves the last row.
last_more : (at : ℕ → ℕ) (q j l : ℕ) → (at j ≡ q → ⊥) → Last at q j l → Last at q (suc j) l
last_more at q j l o r = go l r
  where
    under : (k : ℕ) → k < suc j → at k ≡ q → Dec (k < j) → k < j
    under k b s (yes l) = l
    under k b s (no l) = let e : j ≡ k = omega arith in absurd (o (ap at e ∙ s))

    go : (l : ℕ) → Last at q j l → Last at q (suc j) l
    go zero r = λ k b s. r k (under k b s (dec_lt k j)) s
    go (suc l) r = (omega arith, r.1, λ k b s. r.2 k (under k b s (dec_lt k j)) s)

-- `last_of` names the last row.
pub last-is : (at : ℕ → ℕ) (q j : ℕ) → Last at q j (last_of at q j)
unfolding last_of last_below
last-is at q zero = λ k b s. omega arith
last-is at q (suc j) = go (eqb (at j) q) refl (last-is at q j)
  where
    go : (b : Bool) → eqb (at j) q ≡ b → Last at q j (last_of at q j) → Last at q (suc j) (cond b (suc j) (last_of at q j))
    go true e r = (omega arith, eqb-true (at j) q e, λ k b s. omega arith)
    go false e r = last_more at q j (last_of at q j) (eqb-false (at j) q e) r

-- ---- Counts

-- A count is at most the number of rows.
pub count_most : (rows : List Row) (p j : ℕ) → count rows p j ≤ length rows
unfolding count
count_most rows p j = count-below (length rows) _

-- Row i is the last row or happens before the last row.
abbrev up_to_last : (ℕ → ℕ → Bool) → ℕ → ℕ → Bool
up_to_last e zero i = false
up_to_last e (suc k) i = up_to e i k

-- The rows of a process up to a last row are the first of that process.
last-closed : (rows : List Row) (p l : ℕ) → Closed (length rows) (of_process rows p) (up_to_last (edge rows) l)
last-closed rows p zero = λ i s b h x y u. absurd (false≢true u)
last-closed rows p (suc k) = up_to-closed rows p k

-- The rows of process p up to the last row are as many as the last row's count says.
count-last : (rows : List Row) (p l : ℕ) →
    count_below (length rows) (λ i. of_process rows p i && up_to_last (edge rows) l i) ≡ from_last (λ k. count rows p k) l
unfolding count count_below
count-last rows p zero = count_cut zero (length rows) _ (omega arith) (λ i a b. and-false (of_process rows p i))
count-last rows p (suc k) = refl

module _ (rows : List Row) (j : ℕ) (h : j < length rows) where
  -- The number l names the last row of row j's process below j.
  abbrev LastOf : ℕ → Type 0
  LastOf l = Last (λ k. (row_at rows k).process) (row_at rows j).process j l

  -- A row up to an earlier row of row j's process is up to the last one.
  last-in : (i k l : ℕ) → LastOf l → k < j → (row_at rows k).process ≡ (row_at rows j).process → up_to (edge rows) i k ≡ true →
      up_to_last (edge rows) l i ≡ true
  last-in i k zero r b s u = absurd (r k b s)
  last-in i k (suc l) r b s u = go (dec_lt k l)
    where
      go : Dec (k < l) → up_to (edge rows) i l ≡ true
      go (yes a) =
          let low = r.0 in
          let e = program-order rows k l a (omega arith) (s ∙ sym r.1) in
          or_right (eqb i l) _ ((hb-iff (edge-forward rows) i l).1 (up_to-edge (edge-forward rows) i k l u e))
      go (no a) =
          let low = r.2 k b s in
          let e : l ≡ k = omega arith in
          ap (λ (x : ℕ). up_to (edge rows) i x) e ∙ u

  -- A row up to the last one happens before row j.
  last_out : (i l : ℕ) → LastOf l → up_to_last (edge rows) l i ≡ true → HB (edge rows) i j
  last_out i zero r u = absurd (false≢true u)
  last_out i (suc l) r u = up_to-edge (edge-forward rows) i l j u (program-order rows l j r.0 h r.1)

  -- The rows that happen before row j are those up to the last row of its process and those up to a row that leads to it.
  hb-union : (i l : ℕ) → LastOf l →
      hb (edge rows) i j ≡ union_to (λ k. crosses (row_at rows) k j) (λ k s. up_to (edge rows) s k) (up_to_last (edge rows) l) j i
  hb-union i l r =
      same_test _ _ (λ b. there (edge-up_to (edge-forward rows) ((hb-iff (edge-forward rows) i j).0 b)))
      (λ b. (hb-iff (edge-forward rows) i j).1 (back (or_out (up_to_last (edge rows) l i) _ b)))
    where
      sent : ℕ → Bool
      sent k = crosses (row_at rows) k j && up_to (edge rows) i k

      there : (k : ℕ) × (edge rows k j ≡ true) × (up_to (edge rows) i k ≡ true) → up_to_last (edge rows) l i || any_below j sent ≡ true
      there (k, e, u) = let o = edge-out rows k j e in go o.2 o.0
        where
          go : ((row_at rows k).process ≡ (row_at rows j).process) ⊎ (crosses (row_at rows) k j ≡ true) → k < j →
              up_to_last (edge rows) l i || any_below j sent ≡ true
          go (inl s) b = rw (last-in i k l r b s u)
          go (inr d) b = or_right (up_to_last (edge rows) l i) _ (any-in j sent k b (rw d u))

      back : (up_to_last (edge rows) l i ≡ true) ⊎ (any_below j sent ≡ true) → HB (edge rows) i j
      back (inl u) = last_out i l r u
      back (inr a) =
          let t = any_out j sent a in
          let b = and_out (crosses (row_at rows) t.0 j) (up_to (edge rows) i t.0) t.2 in
          up_to-edge (edge-forward rows) i t.0 j b.1 (cross_order rows t.0 j t.1 h b.0)

-- The rows of a process that happen before row j are as many as row j's clock says.
count-before : (rows : List Row) (p j : ℕ) → j < length rows →
    count_below (length rows) (λ i. of_process rows p i && hb (edge rows) i j) ≡ clock rows p j
unfolding count clock
count-before rows p j h =
    let is_p = of_process rows p in
    let l = last_of (λ k. (row_at rows k).process) (row_at rows j).process j in
    let r = last-is (λ k. (row_at rows k).process) (row_at rows j).process j in
    let sends : ℕ → Bool = λ k. crosses (row_at rows) k j in
    count_same (length rows) _ _ (λ i b. ap (λ (x : Bool). is_p i && x) (hb-union rows j h i l r))
    ∙ count-joined (length rows) is_p sends (λ k i. up_to (edge rows) i k) (up_to_last (edge rows) l) (last-closed rows p l) (up_to-closed rows p) j
    ∙ ap (λ (x : ℕ). joined_to sends (λ k. count rows p k) x j) (count-last rows p l)

-- The counts of a row are its clock and the row itself.
pub vector_clock : (rows : List Row) (p j : ℕ) → j < length rows →
    count rows p j ≡ clock rows p j + cond (eqb (row_at rows j).process p) 1 0
unfolding count
vector_clock rows p j h =
    let e = count-own (length rows) j (of_process rows p) (λ i. hb (edge rows) i j) h (hb-self (edge-forward rows) j) in
    rw (count-before rows p j h) at e

-- The place of row k among the rows of its process, from 1.
unfoldable pub place_of : List Row → ℕ → ℕ
place_of rows k = count_below (suc k) (λ i. eqb (row_at rows i).process (row_at rows k).process)

-- Row k happens before row j or is it exactly when its place among its process's rows is at most row j's count for that process.
pub place-iff : (rows : List Row) (k j : ℕ) → k < length rows → j < length rows →
    (up_to (edge rows) k j ≡ true) ↔ (place_of rows k ≤ count rows (row_at rows k).process j)
unfolding place_of count
place-iff rows k j h g =
    let p = (row_at rows k).process in
    closed-place (length rows) k (of_process rows p) (λ i. up_to (edge rows) i j) (up_to-closed rows p j) h (eq-eqb p p refl)
