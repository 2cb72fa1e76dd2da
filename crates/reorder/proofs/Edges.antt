-- The direct edges of rows go along under a new numbering that keeps the order of the rows of every edge.
use Rattle.std.proofs.Common.{ℕ, zero, suc, ◌≤◌, ◌<◌, arith, ◌≡◌, refl, sym, ap, ◌∙◌, ◌⊎◌, inl, inr, true, List, length}
use native.Mathlib.Decide.{dec_lt}
use Rattle.rows.specs.declared.row.Row.{Row}
use Rattle.rows.specs.Rows.{row_at}
use Rattle.rows.proofs.Bools.{or_right}
use Rattle.barriers.proofs.Kept.{Meet, Kept, barrier_first}
use Rattle.happens_before.specs.Order.{delivers, same_barrier, last_before, passes, crosses, edge}
use Rattle.happens_before.proofs.Clocks.{Last, last-is, edge-out, edge_by, program-order, message-order, cross_order}
use Rattle.happens_before.proofs.Barriers.{passes-out, SentFirst}
use Rattle.reorder.specs.Renumbering.{SameRows, Renumbered}

-- ---- What keeps its order

-- Two rows of which the first leads to the second in some way stand in the same order under the new numbers.
abbrev pub Keeps : (ℕ → ℕ → Type 0) → List Row → (ℕ → ℕ) → Type 0
Keeps leads rows to = (i j : ℕ) → i < j → j < length rows → leads i j → to i < to j

-- The rows of each process keep their order.
abbrev pub KeepsProcess : List Row → (ℕ → ℕ) → Type 0
KeepsProcess rows to = Keeps (λ i j. (row_at rows i).process ≡ (row_at rows j).process) rows to

-- A send stays before the row at which its message arrives.
abbrev pub KeepsSends : List Row → (ℕ → ℕ) → Type 0
KeepsSends rows to = Keeps (λ i j. delivers (row_at rows i) (row_at rows j) ≡ true) rows to

-- A row of a barrier stays before a row that stands just after that barrier in its process.
abbrev pub KeepsBarriers : List Row → (ℕ → ℕ) → Type 0
KeepsBarriers rows to = Keeps (λ i j. passes (row_at rows) i (last_before (row_at rows) j) ≡ true) rows to

-- The rows of every direct edge keep their order.
abbrev pub KeepsEdges : List Row → (ℕ → ℕ) → Type 0
KeepsEdges rows to = (i j : ℕ) → edge rows i j ≡ true → to i < to j

-- They do where processes, sends and barriers do.
pub edges_kept : (rows : List Row) (to : ℕ → ℕ) → KeepsProcess rows to → KeepsSends rows to → KeepsBarriers rows to → KeepsEdges rows to
edges_kept rows to p s b i j e = let o = edge-out rows i j e in go o.0 o.1 (edge_by rows i j e)
  where
    go : i < j → j < length rows → ((row_at rows i).process ≡ (row_at rows j).process)
        ⊎ ((delivers (row_at rows i) (row_at rows j) ≡ true) ⊎ (passes (row_at rows) i (last_before (row_at rows) j) ≡ true)) → to i < to j
    go l h (inl q) = p i j l h q
    go l h (inr (inl q)) = s i j l h q
    go l h (inr (inr q)) = b i j l h q

-- ---- The same rows

-- The way back has the same rows too.
pub same-turned : {rows rows' : List Row} {to from : ℕ → ℕ} → SameRows rows rows' to from → SameRows rows' rows from to
same-turned {rows} {rows'} {to} {from} s =
    record {
      to_within = s.from_within;
      from_within = s.to_within;
      from_to = s.to_from;
      to_from = s.from_to;
      same_row = λ k h. sym (s.same_row (from k) (s.from_within k h)) ∙ ap (row_at rows') (s.to_from k h);
    }

-- The last row of a process is one row.
last_one : (at : ℕ → ℕ) (q j l k : ℕ) → Last at q j l → Last at q j k → l ≡ k
last_one at q j zero zero r s = refl
last_one at q j zero (suc k) r s = absurd (r k s.0 s.1)
last_one at q j (suc l) zero r s = absurd (s l r.0 r.1)
last_one at q j (suc l) (suc k) r s =
    let x : l ≤ k = s.2 l r.0 r.1 in
    let y : k ≤ l = r.2 k s.0 s.1 in
    omega arith

-- A row at its new place is of the same process.
pub process-at : {rows rows' : List Row} {to from : ℕ → ℕ} → SameRows rows rows' to from → (k : ℕ) → k < length rows →
    (row_at rows' (to k)).process ≡ (row_at rows k).process
process-at s k h = ap (λ (r : Row). r.process) (s.same_row k h)

module _ {rows rows' : List Row} {to from : ℕ → ℕ} (s : SameRows rows rows' to from) where
  module _ (p : KeepsProcess rows to) where
    -- Rows of one process that stand in some order under the new numbers stand so under the old ones.
    process-back : (i j : ℕ) → i < length rows → j < length rows → (row_at rows i).process ≡ (row_at rows j).process → to i < to j → i < j
    process-back i j h l q o = go (dec_lt i j) (dec_lt j i)
      where
        go : Dec (i < j) → Dec (j < i) → i < j
        go (yes x) y = x
        go (no x) (yes y) = let z = p j i y h (sym q) in absurd (omega arith)
        go (no x) (no y) = let e : i ≡ j = omega arith in let z = ap to e in absurd (omega arith)

    -- Where a row that is named by its index plus one stands under the new numbers, named so; 0 stays.
    abbrev moved_last : ℕ → ℕ
    moved_last zero = 0
    moved_last (suc k) = suc (to k)

    -- A row that stands before row j of its process under the new numbers, by its old place.
    own-before : (j k : ℕ) → j < length rows → k < to j → (row_at rows' k).process ≡ (row_at rows' (to j)).process →
        (from k < j) × ((row_at rows (from k)).process ≡ (row_at rows j).process) × (to (from k) ≡ k)
    own-before j k h b q =
        let low : k < length rows' = omega (arith, b, s.to_within j h) in
        let back = s.to_from k low in
        let inside = s.from_within k low in
        let own = process-at (same-turned s) k low ∙ q ∙ process-at s j h in
        (process-back (from k) j inside h own (rw back b), own, back)

    -- The last row of row j's process before row j is the same row under the new numbers.
    last-moved : (j : ℕ) → j < length rows → (l : ℕ) → Last (λ k. (row_at rows k).process) (row_at rows j).process j l →
        Last (λ k. (row_at rows' k).process) (row_at rows' (to j)).process (to j) (moved_last l)
    last-moved j h zero r = λ k b q. let t = own-before j k h b q in r (from k) t.0 t.1
    last-moved j h (suc i) r =
        let low : i < length rows = omega (arith, r.0) in (
          p i j r.0 h r.1,
          process-at s i low ∙ r.1 ∙ sym (process-at s j h),
          λ k b q.
              let t = own-before j k h b q in
              most k (from k) (r.2 (from k) t.0 t.1) (t.1 ∙ sym r.1) low t.2 (dec_lt (from k) i),
        )
      where
        most : (k c : ℕ) → c ≤ i → (row_at rows c).process ≡ (row_at rows i).process → i < length rows → to c ≡ k → Dec (c < i) → k ≤ to i
        most k c b q low e (yes x) = let z = p c i x low q in omega arith
        most k c b q low e (no x) = let z : c ≡ i = omega arith in let y = ap to z in omega arith

    -- So a row is of the barrier just after which row j stands where it is so under the new numbers.
    passes-moved : (i j : ℕ) → i < length rows → j < length rows → passes (row_at rows) i (last_before (row_at rows) j) ≡ true →
        passes (row_at rows') (to i) (last_before (row_at rows') (to j)) ≡ true
    unfolding passes
    passes-moved i j h g q =
        let last = last-is (λ k. (row_at rows k).process) (row_at rows j).process j in
        let there = last-is (λ k. (row_at rows' k).process) (row_at rows' (to j)).process (to j) in
        let same : last_before (row_at rows') (to j) ≡ moved_last (last_before (row_at rows) j) =
        last_one (λ k. (row_at rows' k).process) (row_at rows' (to j)).process (to j) _ _ there (last-moved j g (last_before (row_at rows) j) last) in
        ap (passes (row_at rows') (to i)) same ∙ go (last_before (row_at rows) j) last q
      where
        go : (l : ℕ) → Last (λ k. (row_at rows k).process) (row_at rows j).process j l → passes (row_at rows) i l ≡ true →
            passes (row_at rows') (to i) (moved_last l) ≡ true
        go zero r q = q
        go (suc k) r q = let low : k < length rows = omega (arith, r.0) in (λ z. same_barrier (s.same_row i h z) (s.same_row k low z)) ∙ q

    -- The rows of each process keep their order on the way back.
    process-turned : KeepsProcess rows' from
    process-turned i j l h q =
        let g : i < length rows' = omega arith in
        process-back (from i) (from j) (s.from_within i g) (s.from_within j h)
        (process-at (same-turned s) i g ∙ q ∙ sym (process-at (same-turned s) j h)) (rw (s.to_from i g, s.to_from j h) l)

  -- A direct edge is one under the new numbers, where the rows of every edge keep their order.
  edge_moved : KeepsEdges rows to → (i j : ℕ) → edge rows i j ≡ true → edge rows' (to i) (to j) ≡ true
  unfolding crosses
  edge_moved o i j e =
      let f = edge-out rows i j e in
      let h : i < length rows = omega (arith, f.0, f.1) in
      go h f.1 (o i j e) (edge_by rows i j e)
    where
      go : i < length rows → j < length rows → to i < to j → ((row_at rows i).process ≡ (row_at rows j).process)
          ⊎ ((delivers (row_at rows i) (row_at rows j) ≡ true) ⊎ (passes (row_at rows) i (last_before (row_at rows) j) ≡ true)) →
          edge rows' (to i) (to j) ≡ true
      go h g l (inl q) = program-order rows' (to i) (to j) l (s.to_within j g) (process-at s i h ∙ q ∙ sym (process-at s j g))
      go h g l (inr (inl q)) =
          message-order rows' (to i) (to j) l (s.to_within j g) ((λ x. delivers (s.same_row i h x) (s.same_row j g x)) ∙ q)
      go h g l (inr (inr q)) =
          cross_order rows' (to i) (to j) l (s.to_within j g)
          (or_right (delivers (row_at rows' (to i)) (row_at rows' (to j))) _
          (passes-moved (λ a b m k w. o a b (program-order rows a b m k w)) i j h g q))

module _ {rows rows' : List Row} {to from : ℕ → ℕ} (s : SameRows rows rows' to from) (f : SentFirst rows) (w : Kept rows) where
  -- Where each send stands before its arrival and the barriers are kept, the rows of every edge keep their order on the way back from a numbering
  -- that keeps the order of each process.
  edges_back : KeepsProcess rows to → KeepsEdges rows' from
  edges_back p = edges_kept rows' from own sends barriers
    where
      own : KeepsProcess rows' from
      own = process-turned s p

      back : SameRows rows' rows from to
      back = same-turned s

      sends : KeepsSends rows' from
      sends i j l h q =
          let g : i < length rows' = omega arith in
          f (from i) (from j) (s.from_within i g) (s.from_within j h)
          ((λ x. delivers (back.same_row i g x) (back.same_row j h x)) ∙ q)

      barriers : KeepsBarriers rows' from
      barriers i j l h q =
          let c = passes-out rows' i j q in
          let g : i < length rows' = omega arith in
          let k : c.0 < length rows' = omega (arith, c.1) in
          let meet : Meet (row_at rows (from c.0)) (row_at rows (from i)) = rw (back.same_row c.0 k, back.same_row i g) c.3 in
          barrier_first w (from i) (from c.0) (from j) (s.from_within i g) (own c.0 j c.1 h c.2) (s.from_within j h) meet
          (process-at back c.0 k ∙ c.2 ∙ sym (process-at back j h))

  -- So the same rows under a numbering that keeps the order of every edge have the same direct edges.
  pub renumbered : KeepsEdges rows to → Renumbered rows rows' to from
  renumbered o =
      record {
        same = s;
        edge_to = edge_moved s o;
        edge_from = edge_moved (same-turned s) (edges_back (λ i j l h q. o i j (program-order rows i j l h q)));
      }
