-- What a Yes to question 22 says of the rows by their places, and the other way: no process has two rows of a barrier, a row behind a barrier row of
-- its process finds that every process of the trace has arrived, and every process arrives at each barrier.
use Rattle.std.proofs.Common.{ℕ, zero, suc, ◌+◌, ◌≤◌, ◌<◌, arith, ◌≡◌, refl, sym, ap, subst, ◌∙◌, ◌↔◌, Bool, true, false, cond, not, ◌&&◌, List, [], ◌∷◌, ◌++◌, append-nil, length, take, length-take, length-append, get_or-take, length-take-le, eq-eqb, eqb-true}
use native.Mathlib.Decide.{dec_lt}
use mathlib.Core.Bool.{false≢true}
use lib.Seq.{append_snoc}
use lib.Dec.{eqb}
use borrow.Author.Tests.{eqb-false, not-true}
use Rattle.rows.specs.declared.row.Row.{Row}
use Rattle.rows.specs.Kinds.{BARRIER}
use Rattle.rows.specs.Rows.{row_at, no_row}
use Rattle.rows.specs.Tests.{any, carries_by}
use Rattle.rows.proofs.Bools.{and_out, not_passed, not_both}
use Rattle.rows.proofs.Tests.{some_out, some_in, carries_by-iff}
use Rattle.barriers.specs.Barriers.{is_barrier, arrived, all_arrived, goes_on, repeats, out_of_turn, first_out, unfinished, barrier_place}
use Rattle.barriers.specs.Participants.{has_row}
use Rattle.barriers.proofs.Arrivals.{all-out, all_in, waited_for_lem, not_early, arrived-out}
use Rattle.barriers.proofs.Telling.{in_turn}

-- ---- Rows of one barrier

-- Two rows are of one barrier.
pub record Meet (r s : Row) : Type 0 where
  pub first : r.kind ≡ BARRIER
  pub second : s.kind ≡ BARRIER
  pub number : r.message ≡ s.message

-- The other way round they are too.
pub meet_other : {r s : Row} → Meet r s → Meet s r
meet_other m = record { first = m.second; second = m.first; number = sym m.number }

-- What question 22 asks, by the rows' places.
pub record Kept (rows : List Row) : Type 0 where
  pub once : (i k : ℕ) → i < length rows → k < length rows → Meet (row_at rows i) (row_at rows k) → (row_at rows i).process ≡ (row_at rows k).process → i ≡ k
  pub all-before : (k j q : ℕ) → k < j → j < length rows → q < length rows → (row_at rows k).kind ≡ BARRIER → (row_at rows k).process ≡ (row_at rows j).process →
      (i : ℕ) × (i < j) × Meet (row_at rows k) (row_at rows i) × ((row_at rows i).process ≡ (row_at rows q).process)
  pub all-at_end : (k q : ℕ) → k < length rows → q < length rows → (row_at rows k).kind ≡ BARRIER →
      (i : ℕ) × (i < length rows) × Meet (row_at rows k) (row_at rows i) × ((row_at rows i).process ≡ (row_at rows q).process)

-- ---- The first rows

module _ (rows : List Row) (n : ℕ) (h : n < length rows) where
  -- The first n rows are n.
  first-many : length (take n rows) ≡ n
  first-many = length-take-le n rows (omega arith)

  -- Their rows are those of the list.
  first-row : (k : ℕ) → k < n → row_at (take n rows) k ≡ row_at rows k
  first-row k l = get_or-take n rows k no_row l

-- A process that has a row has one by its place.
has-row : (rows : List Row) (q : ℕ) → q < length rows → has_row (row_at rows q).process rows ≡ true
has-row rows q h = some_in (λ r. eqb r.process (row_at rows q).process) rows q h (eq-eqb (row_at rows q).process _ refl)

-- ---- No row is out of turn

-- Where the search finds nothing, no row is out of turn.
pub none_out : (all rest taken : List Row) → first_out all taken rest ≡ 0 → (k : ℕ) → k < length rest → out_of_turn all (taken ++ take k rest) (row_at rest k) ≡ false
unfolding first_out
none_out all [] taken e k h = absurd (omega arith)
none_out all (r ∷ rest) taken e k h = go (out_of_turn all taken r) refl e k h (none_out all rest (taken ++ (r ∷ [])))
  where
    go : (b : Bool) → out_of_turn all taken r ≡ b → cond b (suc (length taken)) (first_out all (taken ++ (r ∷ [])) rest) ≡ 0 → (k : ℕ) → k < suc (length rest) →
        (first_out all (taken ++ (r ∷ [])) rest ≡ 0 → (k : ℕ) → k < length rest → out_of_turn all ((taken ++ (r ∷ [])) ++ take k rest) (row_at rest k) ≡ false) →
        out_of_turn all (taken ++ take k (r ∷ rest)) (row_at (r ∷ rest) k) ≡ false
    go true q z k l ih = absurd (omega arith)
    go false q z zero l ih = rw append-nil q
    go false q z (suc k) l ih =
        subst (λ (x : List Row). out_of_turn all x (row_at rest k) ≡ false) (append_snoc taken r (take k rest)) (ih z k (omega arith))

-- Where no row is out of turn, the search finds nothing.
pub out_none : (all rest taken : List Row) → ((k : ℕ) → k < length rest → out_of_turn all (taken ++ take k rest) (row_at rest k) ≡ false) → first_out all taken rest ≡ 0
unfolding first_out
out_none all [] taken f = refl
out_none all (r ∷ rest) taken f =
    rw (rw append-nil at (f 0 (omega arith)))
    (out_none all rest (taken ++ (r ∷ []))
    (λ k h. subst (λ (x : List Row). out_of_turn all x (row_at rest k) ≡ false) (sym (append_snoc taken r (take k rest))) (f (suc k) (omega arith))))

-- Rows with an unfinished barrier are some rows.
some-rows : (rows : List Row) → unfinished rows ≡ true → length rows ≡ 0 → ⊥
unfolding unfinished
some-rows rows e z = let t = some_out (λ r. is_barrier r && not (all_arrived r.message rows rows)) rows e in omega (arith, t.1)

-- The answer to 22 is Yes exactly where no row is out of turn and no barrier unfinished.
pub place-yes : (rows : List Row) → (barrier_place rows ≡ 0) ↔ ((first_out rows [] rows ≡ 0) × (unfinished rows ≡ false))
unfolding barrier_place
place-yes rows = (λ e. go (eqb (first_out rows [] rows) 0) refl (unfinished rows) refl e, λ (a, b). rw (a, b))
  where
    go : (x : Bool) → eqb (first_out rows [] rows) 0 ≡ x → (y : Bool) → unfinished rows ≡ y →
        cond x (cond y (length rows) 0) (first_out rows [] rows) ≡ 0 → (first_out rows [] rows ≡ 0) × (y ≡ false)
    go true p true q e = absurd (some-rows rows q e)
    go true p false q e = (eqb-true _ _ p, refl)
    go false p y q e = absurd (eqb-false _ _ p e)

-- The first row out of turn is one of the rows.
first-most : (all rest taken : List Row) → first_out all taken rest ≤ length taken + length rest
unfolding first_out
first-most all [] taken = omega arith
first-most all (r ∷ rest) taken = go (out_of_turn all taken r) (first-most all rest (taken ++ (r ∷ []))) (length-append taken (r ∷ []))
  where
    go : (b : Bool) → first_out all (taken ++ (r ∷ [])) rest ≤ length (taken ++ (r ∷ [])) + length rest → length (taken ++ (r ∷ [])) ≡ length taken + 1 →
        cond b (suc (length taken)) (first_out all (taken ++ (r ∷ [])) rest) ≤ length taken + suc (length rest)
    go true h e = omega arith
    go false h e = omega arith

-- The place of a No is one of the rows.
pub place-most : (rows : List Row) → barrier_place rows ≤ length rows
unfolding barrier_place
place-most rows = go (eqb (first_out rows [] rows) 0) (unfinished rows) (first-most rows rows [])
  where
    go : (x y : Bool) → first_out rows [] rows ≤ 0 + length rows → cond x (cond y (length rows) 0) (first_out rows [] rows) ≤ length rows
    go true true h = omega arith
    go true false h = omega arith
    go false y h = omega arith

-- ---- What a Yes says

module _ (rows : List Row) (e : barrier_place rows ≡ 0) where
  -- Each row is in its turn behind the rows before it.
  turn-of : (k : ℕ) → k < length rows → (goes_on rows (take k rows) (row_at rows k) ≡ false) × (repeats (take k rows) (row_at rows k) ≡ false)
  turn-of k h = in_turn rows (take k rows) (row_at rows k) (none_out rows rows [] ((place-yes rows).0 e).0 k h)

  -- A process that has arrived by the first n rows has a row among them.
  by_first : (n m p : ℕ) → n < length rows → arrived m p (take n rows) ≡ true →
      (i : ℕ) × (i < n) × (((row_at rows i).kind ≡ BARRIER) × ((row_at rows i).message ≡ m)) × ((row_at rows i).process ≡ p)
  by_first n m p h a =
      let t = arrived-out m p (take n rows) a in
      let l : t.0 < n = omega (arith, t.1, length-take n rows) in
      let same = first-row rows n h t.0 l in
      (t.0, l, subst (λ (x : Row). (x.kind ≡ BARRIER) × (x.message ≡ m)) same t.2, ap (λ (x : Row). x.process) (sym same) ∙ t.3)

  -- No process has an earlier row of its row's barrier.
  twice : (i k : ℕ) → i < k → k < length rows → Meet (row_at rows i) (row_at rows k) → (row_at rows i).process ≡ (row_at rows k).process → ⊥
  unfolding repeats
  twice i k l h m p =
      let same = first-row rows k h i l in
      let here : i < length (take k rows) = omega (arith, first-many rows k h) in
      let there : carries_by (row_at rows k).process BARRIER (row_at rows k).message (row_at (take k rows) i) ≡ true =
      rw same ((carries_by-iff (row_at rows k).process BARRIER (row_at rows k).message (row_at rows i)).1 ((m.first, m.number), p)) in
      false≢true (sym (turn-of k h).1 ∙ rw (eq-eqb (row_at rows k).kind BARRIER m.second) (some_in _ (take k rows) i here there))

  -- A Yes to question 22 says all of it.
  pub kept : Kept rows
  unfolding unfinished
  kept = record { once = λ i k h g m p. once i k h g m p (dec_lt i k) (dec_lt k i); all-before = before; all-at_end = at-end }
    where
      once : (i k : ℕ) → i < length rows → k < length rows → Meet (row_at rows i) (row_at rows k) → (row_at rows i).process ≡ (row_at rows k).process →
          Dec (i < k) → Dec (k < i) → i ≡ k
      once i k h g m p (yes a) b = absurd (twice i k a g m p)
      once i k h g m p (no a) (yes b) = absurd (twice k i b h (meet_other m) (sym p))
      once i k h g m p (no a) (no b) = omega arith

      before : (k j q : ℕ) → k < j → j < length rows → q < length rows → (row_at rows k).kind ≡ BARRIER → (row_at rows k).process ≡ (row_at rows j).process →
          (i : ℕ) × (i < j) × Meet (row_at rows k) (row_at rows i) × ((row_at rows i).process ≡ (row_at rows q).process)
      before k j q l h g b p =
          let same = first-row rows j h k l in
          let here : k < length (take j rows) = omega (arith, first-many rows j h) in
          let w = waited_for_lem rows (take j rows) (row_at rows j) (turn-of j h).0 k here (rw same p) (rw same b) in
          let a = all-out (row_at rows k).message rows (take j rows) (rw same at w) (row_at rows q).process (has-row rows q g) in
          let t = by_first j (row_at rows k).message (row_at rows q).process h a in
          (t.0, t.1, record { first = b; second = t.2.0; number = sym t.2.1 }, t.3)

      at-end : (k q : ℕ) → k < length rows → q < length rows → (row_at rows k).kind ≡ BARRIER →
          (i : ℕ) × (i < length rows) × Meet (row_at rows k) (row_at rows i) × ((row_at rows i).process ≡ (row_at rows q).process)
      at-end k q h g b = go (all_arrived (row_at rows k).message rows rows) refl
        where
          go : (x : Bool) → all_arrived (row_at rows k).message rows rows ≡ x →
              (i : ℕ) × (i < length rows) × Meet (row_at rows k) (row_at rows i) × ((row_at rows i).process ≡ (row_at rows q).process)
          go true a =
              let t = arrived-out (row_at rows k).message (row_at rows q).process rows (all-out (row_at rows k).message rows rows a _ (has-row rows q g)) in
              (t.0, t.1, record { first = b; second = t.2.0; number = sym t.2.1 }, t.3)
          go false a =
              absurd (false≢true (sym ((place-yes rows).0 e).1
              ∙ some_in (λ r. is_barrier r && not (all_arrived r.message rows rows)) rows k h (rw (eq-eqb (row_at rows k).kind BARRIER b, a))))

-- ---- The other way

module _ (rows : List Row) (w : Kept rows) where
  -- A process with a row, by its place.
  row-of : (p : ℕ) → has_row p rows ≡ true → (q : ℕ) × (q < length rows) × ((row_at rows q).process ≡ p)
  row-of p e = let t = some_out (λ r. eqb r.process p) rows e in (t.0, t.1, eqb-true _ _ t.2)

  -- A row of the barrier among some rows brings its process.
  brings : (taken : List Row) (i m p : ℕ) → i < length taken → ((row_at taken i).kind ≡ BARRIER) × ((row_at taken i).message ≡ m) → (row_at taken i).process ≡ p →
      arrived m p taken ≡ true
  brings taken i m p h c q = some_in (carries_by p BARRIER m) taken i h ((carries_by-iff p BARRIER m (row_at taken i)).1 (c, q))

  -- Each row is in its turn.
  row-turn : (k : ℕ) → k < length rows → out_of_turn rows (take k rows) (row_at rows k) ≡ false
  unfolding out_of_turn repeats
  row-turn k h =
      rw (not_early rows (take k rows) (row_at rows k) early)
      (not_both _ _ (λ b a.
      let t = arrived-out (row_at rows k).message (row_at rows k).process (take k rows) a in
      let l : t.0 < k = omega (arith, t.1, length-take k rows) in
      let same = first-row rows k h t.0 l in
      let one = w.once t.0 k (omega arith) h
      (record { first = rw same at t.2.0; second = eqb-true _ _ b; number = rw same at t.2.1 }) (rw same at t.3) in
      omega arith))
    where
      early : (i : ℕ) → i < length (take k rows) → (row_at (take k rows) i).process ≡ (row_at rows k).process → (row_at (take k rows) i).kind ≡ BARRIER →
          all_arrived (row_at (take k rows) i).message rows (take k rows) ≡ true
      early i l p b =
          let low : i < k = omega (arith, l, length-take k rows) in
          let same = first-row rows k h i low in
          rw same
          (all_in (row_at rows i).message rows (take k rows)
          (λ p' e.
          let q = row-of p' e in
          let t = w.all-before i k q.0 low h q.1 (rw same at b) (rw same at p) in
          let there = first-row rows k h t.0 t.1 in
          brings (take k rows) t.0 (row_at rows i).message p' (omega (arith, t.1, first-many rows k h))
          (rw there (t.2.second, sym t.2.number)) (rw there (t.3 ∙ q.2))))

  -- No barrier is unfinished.
  all_done : unfinished rows ≡ false
  unfolding unfinished
  all_done =
      not_passed _
      (λ e. let t = some_out (λ r. is_barrier r && not (all_arrived r.message rows rows)) rows e in
      let a = and_out (is_barrier (row_at rows t.0)) _ t.2 in
      let full = all_in (row_at rows t.0).message rows rows
      (λ p f. let q = row-of p f in
      let i = w.all-at_end t.0 q.0 t.1 q.1 (eqb-true _ _ a.0) in
      brings rows i.0 (row_at rows t.0).message p i.1 (i.2.second, sym i.2.number) (i.3 ∙ q.2)) in
      false≢true (sym (not-true _ a.1) ∙ full))

  -- Rows that are kept so have a Yes to question 22.
  pub kept-yes : barrier_place rows ≡ 0
  kept-yes = (place-yes rows).1 (out_none rows rows [] row-turn, all_done)

-- The answer to question 22 is Yes exactly where the rows are kept so.
pub kept-iff : (rows : List Row) → (barrier_place rows ≡ 0) ↔ Kept rows
kept-iff rows = (kept rows, kept-yes rows)

-- Every process that has a row in the trace has one row of each barrier, and no other.
pub one-row_each : {rows : List Row} → Kept rows → (k q : ℕ) → k < length rows → q < length rows → (row_at rows k).kind ≡ BARRIER →
    (i : ℕ) × (i < length rows) × Meet (row_at rows k) (row_at rows i) × ((row_at rows i).process ≡ (row_at rows q).process)
    × ((j : ℕ) → j < length rows → Meet (row_at rows k) (row_at rows j) → (row_at rows j).process ≡ (row_at rows q).process → j ≡ i)
one-row_each w k q h g b =
    let t = w.all-at_end k q h g b in (
      t.0,
      t.1,
      t.2,
      t.3,
      λ j l m p. w.once j t.0 l t.1 (record { first = m.second; second = t.2.second; number = sym m.number ∙ t.2.number }) (p ∙ sym t.3),
    )

-- A row of the barrier stands before a row that follows one of the barrier's rows in its process.
pub barrier_first : {rows : List Row} → Kept rows → (i k j : ℕ) → i < length rows → k < j → j < length rows → Meet (row_at rows k) (row_at rows i) →
    (row_at rows k).process ≡ (row_at rows j).process → i < j
barrier_first w i k j h l b m s =
    let t = w.all-before k j i l b h m.first s in
    let e = w.once t.0 i (omega (arith, t.1)) h (record { first = t.2.second; second = m.second; number = sym t.2.number ∙ m.number }) t.3 in
    omega (arith, t.1)

-- ---- Rows of no barrier

-- Rows of no barrier have a Yes to question 22.
pub none-yes : (rows : List Row) → any is_barrier rows ≡ false → barrier_place rows ≡ 0
none-yes rows e =
    kept-yes rows
    record {
      once = λ i k h g m p. absurd (no i h m.first);
      all-before = λ k j q l h g b p. absurd (no k (omega arith) b);
      all-at_end = λ k q h g b. absurd (no k h b);
    }
  where
    no : (k : ℕ) → k < length rows → (row_at rows k).kind ≡ BARRIER → ⊥
    no k h b = false≢true (sym e ∙ some_in is_barrier rows k h (eq-eqb (row_at rows k).kind BARRIER b))
