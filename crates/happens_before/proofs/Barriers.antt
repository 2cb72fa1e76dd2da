-- The order of barriers in a trace that has a Yes to question 22: each row of a barrier happens before every row that follows a row of that barrier in
-- any process, and nothing more is ordered than the documents' sentences order.
use Rattle.std.proofs.Common.{ℕ, zero, suc, ◌≤◌, ◌<◌, arith, ◌≡◌, refl, sym, ◌∙◌, ◌↔◌, ◌⊎◌, inl, inr, Bool, true, ◌&&◌, ◌||◌, List, length, lt-ltb, ltb-true, eq-eqb, eqb-true}
use native.Mathlib.Decide.{dec_lt}
use mathlib.Core.Bool.{false≢true}
use lib.Dec.{ltb, eqb}
use Rattle.rows.specs.declared.row.Row.{Row}
use Rattle.rows.specs.Kinds.{BARRIER}
use Rattle.rows.specs.Rows.{row_at}
use Rattle.rows.proofs.Bools.{and_out, or_out, or_right}
use Rattle.rows.proofs.Below.{any-in, any_out}
use Rattle.barriers.proofs.Kept.{Meet, meet_other, Kept, barrier_first}
use Rattle.happens_before.specs.Order.{same_process, delivers, same_barrier, last_before, passes, crosses, edge, HB, one, more}
use Rattle.happens_before.specs.Sentences.{follows, literal_edge}
use Rattle.happens_before.proofs.Clocks.{HB-trans, Last, last-is, edge-out, edge_by, program-order, cross_order, message-order}

-- Two rows of one barrier pass the test.
pub meet_in : (r s : Row) → Meet r s → same_barrier r s ≡ true
meet_in r s m = rw (eq-eqb r.kind BARRIER m.first, eq-eqb s.kind BARRIER m.second) (eq-eqb r.message s.message m.number)

-- Two rows that pass the test are of one barrier.
pub meet_out : (r s : Row) → same_barrier r s ≡ true → Meet r s
meet_out r s e =
    let a = and_out (eqb r.kind BARRIER) _ e in
    let b = and_out (eqb s.kind BARRIER) _ a.1 in
    record { first = eqb-true _ _ a.0; second = eqb-true _ _ b.0; number = eqb-true _ _ b.1 }

-- A row of the barrier just after which row j stands is of one barrier with the row of j's process before j.
pub passes-out : (rows : List Row) (i j : ℕ) → passes (row_at rows) i (last_before (row_at rows) j) ≡ true →
    (k : ℕ) × (k < j) × ((row_at rows k).process ≡ (row_at rows j).process) × Meet (row_at rows k) (row_at rows i)
unfolding passes
passes-out rows i j e = go (last_before (row_at rows) j) (last-is (λ x. (row_at rows x).process) (row_at rows j).process j) e
  where
    go : (l : ℕ) → Last (λ x. (row_at rows x).process) (row_at rows j).process j l → passes (row_at rows) i l ≡ true →
        (k : ℕ) × (k < j) × ((row_at rows k).process ≡ (row_at rows j).process) × Meet (row_at rows k) (row_at rows i)
    go zero r q = absurd (false≢true q)
    go (suc k) r q = (k, r.0, r.1, meet_other (meet_out (row_at rows i) (row_at rows k) q))

module _ (rows : List Row) (kept : Kept rows) where
  -- The sentence of barriers, for rows up to a bound.
  barrier_within : (n i k j : ℕ) → j ≤ n → i < length rows → k < j → j < length rows → Meet (row_at rows k) (row_at rows i) →
      (row_at rows k).process ≡ (row_at rows j).process → HB (edge rows) i j
  unfolding crosses passes
  barrier_within zero i k j t h l b m s = absurd (omega arith)
  barrier_within (suc n) i k j t h l b m s =
      go (last_before (row_at rows) j) refl (last-is (λ x. (row_at rows x).process) (row_at rows j).process j) (barrier_within n i k)
    where
      go : (e : ℕ) → last_before (row_at rows) j ≡ e → Last (λ x. (row_at rows x).process) (row_at rows j).process j e →
          ((c : ℕ) → c ≤ n → i < length rows → k < c → c < length rows → Meet (row_at rows k) (row_at rows i) →
          (row_at rows k).process ≡ (row_at rows c).process → HB (edge rows) i c) → HB (edge rows) i j
      go zero q r ih = absurd (r k l s)
      go (suc c) q r ih = next (dec_lt k c)
        where
          next : Dec (k < c) → HB (edge rows) i j
          next (yes a) =
              more (ih c (omega (arith, r.0)) h a (omega (arith, r.0)) m (s ∙ sym r.1)) (program-order rows c j r.0 b r.1)
          next (no a) =
              let e : c ≡ k = omega (arith, r.2 k l s) in
              let w : same_barrier (row_at rows i) (row_at rows c) ≡ true = rw e (meet_in (row_at rows i) (row_at rows k) (meet_other m)) in
              one {i = i} {j = j} (cross_order rows i j (barrier_first kept i k j h l b m s) b (or_right (delivers (row_at rows i) (row_at rows j)) _ (rw q w)))

  -- Each row of a barrier happens before every row that follows a row of that barrier in any process.
  pub barrier_order : (i k j : ℕ) → i < length rows → k < j → j < length rows → Meet (row_at rows k) (row_at rows i) →
      (row_at rows k).process ≡ (row_at rows j).process → HB (edge rows) i j
  barrier_order i k j h l b m s = barrier_within j i k j (omega arith) h l b m s

-- Where each edge of one sort is a way along edges of another sort, so is the closure.
hb-along : {e f : ℕ → ℕ → Bool} → ((i j : ℕ) → e i j ≡ true → HB f i j) → {i j : ℕ} → HB e i j → HB f i j
hb-along g (one {i} {j} a) = g i j a
hb-along g (more {i} {k} {j} h a) = HB-trans (hb-along g h) (g k j a)

-- A send stands before every row at which its message arrives.
abbrev pub SentFirst : List Row → Type 0
SentFirst rows = (i j : ℕ) → i < length rows → j < length rows → delivers (row_at rows i) (row_at rows j) ≡ true → i < j

module _ (rows : List Row) where
  -- Each direct edge is one of the sentences'.
  edge-literal : (i j : ℕ) → edge rows i j ≡ true → literal_edge rows i j ≡ true
  unfolding literal_edge
  edge-literal i j e =
      let o = edge-out rows i j e in
      let l : i < length rows = omega (arith, o.0, o.1) in
      rw (lt-ltb i (length rows) l, lt-ltb j (length rows) o.1, lt-ltb i j o.0) (go (edge_by rows i j e))
    where
      go : ((row_at rows i).process ≡ (row_at rows j).process)
          ⊎ ((delivers (row_at rows i) (row_at rows j) ≡ true) ⊎ (passes (row_at rows) i (last_before (row_at rows) j) ≡ true)) →
          (same_process (row_at rows i) (row_at rows j) || (delivers (row_at rows i) (row_at rows j) || follows rows i j)) ≡ true
      go (inl q) = rw (eq-eqb (row_at rows i).process (row_at rows j).process q)
      go (inr (inl d)) = or_right (same_process (row_at rows i) (row_at rows j)) _ (rw d)
      go (inr (inr b)) =
          let t = passes-out rows i j b in
          or_right (same_process (row_at rows i) (row_at rows j)) _
          (or_right (delivers (row_at rows i) (row_at rows j)) _
          (any-in j (λ k. same_barrier (row_at rows k) (row_at rows i) && same_process (row_at rows k) (row_at rows j)) t.0 t.1
          (rw (meet_in (row_at rows t.0) (row_at rows i) t.3) (eq-eqb _ _ t.2))))

  -- Each sentence's edge is a way along direct edges.
  literal_way : Kept rows → SentFirst rows → (i j : ℕ) → literal_edge rows i j ≡ true → HB (edge rows) i j
  unfolding literal_edge
  literal_way kept sent i j e =
      let a = and_out (ltb i (length rows)) _ e in
      let b = and_out (ltb j (length rows)) _ a.1 in
      go (ltb-true _ _ a.0) (ltb-true _ _ b.0) (or_out (ltb i j && same_process (row_at rows i) (row_at rows j)) _ b.1)
    where
      rest : i < length rows → j < length rows → (delivers (row_at rows i) (row_at rows j) ≡ true) ⊎ (follows rows i j ≡ true) → HB (edge rows) i j
      rest h g (inl d) = one {i = i} {j = j} (message-order rows i j (sent i j h g d) g d)
      rest h g (inr f) =
          let t = any_out j (λ k. same_barrier (row_at rows k) (row_at rows i) && same_process (row_at rows k) (row_at rows j)) f in
          let c = and_out (same_barrier (row_at rows t.0) (row_at rows i)) _ t.2 in
          barrier_order rows kept i t.0 j h t.1 g (meet_out _ _ c.0) (eqb-true _ _ c.1)

      go : i < length rows → j < length rows → ((ltb i j && same_process (row_at rows i) (row_at rows j)) ≡ true)
          ⊎ ((delivers (row_at rows i) (row_at rows j) || follows rows i j) ≡ true) → HB (edge rows) i j
      go h g (inl q) =
          let c = and_out (ltb i j) _ q in one {i = i} {j = j} (program-order rows i j (ltb-true _ _ c.0) g (eqb-true _ _ c.1))
      go h g (inr q) = rest h g (or_out (delivers (row_at rows i) (row_at rows j)) _ q)

  -- The documents' sentences and the direct edges order the same rows.
  pub literal_order : Kept rows → SentFirst rows → (i j : ℕ) → HB (edge rows) i j ↔ HB (literal_edge rows) i j
  literal_order kept sent i j = (hb-along (λ a b e. one {i = a} {j = b} (edge-literal a b e)), hb-along (literal_way kept sent))
