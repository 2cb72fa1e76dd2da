-- The whole call: the header, the questions 1 to 3, and what the call leaves in the lent slices.
use Rattle.std.proofs.Common.{ℕ, ◌*◌, ◌-◌, ◌≤◌, ◌<◌, arith, ◌≡◌, refl, sym, ap, ◌∙◌, Bool, true, false, cond, List, ◌++◌, length, take, drop, replicate, length-append, eq-eqb, ne_eqb, le-leb, Result, Ok}
use borrow.Rule.Slice.PartMut.{put_mid}
use borrow.Author.Tests.{lt-leb}
use Rattle.csv_records.specs.Reading.{records, Records}
use Rattle.rows.specs.declared.row.Row.{Row}
use Rattle.rows.specs.declared.refusal.Refused.{Refused as Refusing}
use Rattle.trace.specs.Questions.{Accepted, Refused, told}
use Rattle.rows.specs.Limits.{PROCESSES, MESSAGES}
use Rattle.rows.specs.Refusals.{BARRIER_ORDER}
use Rattle.rows.specs.Rows.{numbers, row_in, rows_in}
use Rattle.trace.specs.Questions.{call_questions, in_limits, header_word, Outcome, refused, accepted, read_records, read_trace, check_trace, checked_of, Holds, Leaves}
use Rattle.rows.specs.Questions.{long_enough, first_no}
use Rattle.barriers.specs.Barriers.{barrier_place}
use Rattle.trace.proofs.Barriers.{asked-yes, asked-no, asked-refused}
use Rattle.trace.proofs.Laws.{records-sound}
use Rattle.trace.proofs.Sounds.{sound_fit}
use Rattle.trace.proofs.Turns.{refusal}
use Rattle.rows.proofs.Slices.{length-numbers, rows_back}
use Rattle.rows.proofs.Zeros.{cleared-behind}

-- ---- The questions 1 to 3

module _ (text : List ℕ) (header model R P limit rowsLength countsLength : ℕ) {k : ℕ} (e : k ≡ first_no (call_questions header model R P rowsLength countsLength)) where
  -- the number of a No to the questions 1 to 3
  pub first_three : k ≤ 3
  unfolding first_no call_questions
  first_three = go (long_enough R P rowsLength countsLength) (in_limits model R P) (header_word header) e
    where
      go : (x y z : Bool) → k ≡ cond x (cond y (cond z 0 3) 2) 1 → k ≤ 3
      go true true true q = omega arith
      go true true false q = omega arith
      go true false z q = omega arith
      go false y z q = omega arith

  -- a No to one of the questions 1 to 3 refuses the call
  pub call-refused : (k ≡ 0 → ⊥) → check_trace text header model R P limit rowsLength countsLength ≡ refused k 0
  unfolding check_trace
  call-refused n = rw (← e, ne_eqb k 0 n)

  -- where the questions 1 to 3 have Yes, the text decides
  pub call-passed : k ≡ 0 → check_trace text header model R P limit rowsLength countsLength ≡ read_trace header R P (records text limit)
  unfolding check_trace
  call-passed z = rw (← e, eq-eqb k 0 z)

-- ---- What the call leaves

-- the answer of a refusal tells the outcome
pub refused-told : (o : Outcome) {k p : ℕ} → Refused k p ≡ checked_of o → o ≡ refused k p
refused-told (refused a b) e = cc
refused-told (accepted rows) e = let z : ◌≡◌ {A = ℕ} 0 1 = cc in absurd (omega arith)

-- the answer of an accepted trace tells the outcome
pub accepted-told : (o : Outcome) {n : ℕ} → Accepted n ≡ checked_of o → (rows : List Row) × (o ≡ accepted rows) × (n ≡ length rows)
accepted-told (refused a b) e = let z : ◌≡◌ {A = ℕ} 0 1 = cc in absurd (omega arith)
accepted-told (accepted rows) e = (rows, refl, cc)

-- ---- Question 22 of the rows in the slice

-- a refusal of a record refuses the text
pub record_refused : (R P header : ℕ) (r : Records) (xs ys : List ℕ) {k p : ℕ} → Refused k p ≡ checked_of (read_records header R P r) →
    (Refused k p ≡ checked_of (read_trace header R P r)) × Holds (read_trace header R P r) xs ys
unfolding read_trace
record_refused R P header r xs ys e = refusal xs ys (asked-refused (refused-told (read_records header R P r) e))

module _ (R P header : ℕ) (r : Records) {n : ℕ} (xs ys : List ℕ) (e : Accepted n ≡ checked_of (read_records header R P r)) (h : Holds (read_records header R P r) xs ys) where
  -- the records' rows are the first n of the slice
  first_rows : read_records header R P r ≡ accepted (rows_in n ys)
  first_rows =
      let t = accepted-told (read_records header R P r) e in
      let held : ys ≡ numbers t.0 ++ drop (6 * length t.0) xs = rw t.1 at h in
      t.1 ∙ ap accepted (sym (rows_back t.0 (drop (6 * length t.0) xs)) ∙ sym (λ i. rows_in (t.2 i) (held i)))

  -- each has a process and a message within their ranges
  pub rows_have_room : P ≤ PROCESSES → (k : ℕ) → k < n → ((row_in ys k).process < PROCESSES) × ((row_in ys k).message < MESSAGES)
  rows_have_room few = sound_fit n ys (records-sound header R P r (rows_in n ys) first_rows).1 few

  module _ {place : ℕ} (asked : place ≡ barrier_place (rows_in n ys)) where
    -- where 22 has Yes, the rows are accepted
    pub barriers-passed : place ≡ 0 → (Accepted n ≡ checked_of (read_trace header R P r)) × Holds (read_trace header R P r) xs ys
    unfolding read_trace
    barriers-passed z =
        let same : read_trace header R P r ≡ read_records header R P r = asked-yes first_rows (sym asked ∙ z) ∙ sym first_rows in
        (e ∙ ap checked_of (sym same), rw same h)

    -- where 22 has No, the rows are refused at the place of the No
    pub barriers-refused : (place ≡ 0 → ⊥) →
        (Refused BARRIER_ORDER place ≡ checked_of (read_trace header R P r)) × Holds (read_trace header R P r) xs ys
    unfolding read_trace
    barriers-refused z =
        let no : read_trace header R P r ≡ refused BARRIER_ORDER place =
        asked-no first_rows (λ q. z (asked ∙ q)) ∙ ap (refused BARRIER_ORDER) (sym asked) in
        refusal xs ys no

module _ {o : Outcome} (xs us : List ℕ) where
  -- a refusal 1 to 3 keeps both slices
  pub leaves_all : {k : ℕ} {answer : Result ℕ Refusing} → told answer ≡ Refused k 0 → o ≡ refused k 0 → k ≤ 3 → Leaves o answer xs xs us us
  leaves_all {k} a e h =
      rw e
      (record {
        answered = a;
        rows_after = sym (ap (λ (b : Bool). cond b xs (replicate (length xs) 0)) (le-leb k 3 h));
        counts_after = sym (ap (λ (b : Bool). cond b us (replicate (length us) 0)) (le-leb k 3 h));
      })

  -- a refusal of 4 or more clears both slices
  pub leaves_none : {k p : ℕ} {ys vs : List ℕ} {answer : Result ℕ Refusing} → told answer ≡ Refused k p → o ≡ refused k p → 4 ≤ k →
      ys ≡ replicate (length xs) 0 → vs ≡ replicate (length us) 0 → Leaves o answer xs ys us vs
  leaves_none {k} a e h r c =
      rw e
      (record {
        answered = a;
        rows_after = r ∙ sym (ap (λ (b : Bool). cond b xs (replicate (length xs) 0)) (lt-leb k 3 h));
        counts_after = c ∙ sym (ap (λ (b : Bool). cond b us (replicate (length us) 0)) (lt-leb k 3 h));
      })

  -- an accepted trace leaves its rows
  module _ {n : ℕ} (ys : List ℕ) (t : (rows : List Row) × (o ≡ accepted rows) × (n ≡ length rows)) (h : Holds o xs ys) where
    held : ys ≡ numbers t.0 ++ drop (6 * length t.0) xs
    held = rw t.1 at h

    size : length (numbers t.0) ≡ n * 6
    size = length-numbers t.0 ∙ omega (arith, t.2)

    -- the slice holds the rows
    pub rows_within : n * 6 ≤ length ys
    rows_within = omega (arith, size, ap length held, length-append (numbers t.0) (drop (6 * length t.0) xs))

    -- the rows stay, and the code clears what stands behind them
    pub leaves-rows : {last vs : List ℕ} → last ≡ replicate (length (take (length ys - n * 6) (drop (n * 6) ys))) 0 → vs ≡ replicate (length us) 0 →
        Leaves o (Ok n) xs (put_mid (n * 6) (length ys - n * 6) ys last) us vs
    leaves-rows {last} {vs} l c =
        let p = numbers t.0 in
        let same : n * 6 ≡ 6 * length t.0 = omega (arith, t.2) in
        let there : ys ≡ p ++ drop (n * 6) xs = held ∙ ap (λ (k : ℕ). p ++ drop k xs) (sym same) in
        rw t.1
        (record {
          answered = ap Accepted t.2;
          rows_after = cleared-behind p xs ys size there l ∙ ap (λ (k : ℕ). p ++ replicate (length xs - k) 0) same;
          counts_after = c;
        })
