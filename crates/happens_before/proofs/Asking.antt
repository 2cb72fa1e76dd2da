-- Laws of the questions that filling the counts asks: the processes of the first rows, the first No, and what follows from Yes to all three.
use Rattle.std.proofs.Common.{add-one, ◌+◌, ℕ, zero, suc, ◌*◌, ◌≤◌, ◌<◌, arith, ◌≡◌, refl, sym, true, false, List, length, lt-ltb, ltb-true, le-leb, leb-true}
use native.Mathlib.Decide.{dec_lt}
use lib.ListN.{get_or}
use lib.Dec.{leb, ltb}
use Rattle.rows.specs.Limits.{ROWS, PROCESSES}
use Rattle.rows.specs.Rows.{row_in}
use Rattle.rows.specs.Questions.{is_process_limit, first_no}
use Rattle.rows.proofs.Asking.{all_yes}
use Rattle.rows.proofs.Limits.{limit-of, limit-told}
use Rattle.happens_before.specs.Filling.{processes_in, fill_questions}
use Rattle.rows.proofs.Bools.{and_out, not_passed}
use Rattle.happens_before.proofs.Joins.{process-in}

-- ---- Question 10

-- Yes to question 10 says that every process is below the limit.
pub processes-told : (n P : ℕ) (xs : List ℕ) → processes_in n P xs ≡ true → (k : ℕ) → k < n → (row_in xs k).process < P
unfolding processes_in
processes-told zero P xs e k h = absurd (omega arith)
processes-told (suc n) P xs e k h = go (dec_lt k n) (and_out (processes_in n P xs) (ltb (row_in xs n).process P) e) (processes-told n P xs)
  where
    go : Dec (k < n) → (processes_in n P xs ≡ true) × (ltb (row_in xs n).process P ≡ true) →
        (processes_in n P xs ≡ true → (k : ℕ) → k < n → (row_in xs k).process < P) → (row_in xs k).process < P
    go (yes l) a ih = ih a.0 k l
    go (no l) a ih = let q : n ≡ k = omega arith in rw (← q) (ltb-true (row_in xs n).process P a.1)

module _ (P : ℕ) (xs : List ℕ) (i : ℕ) where
  -- One row more whose process is below the limit.
  pub processes-next : processes_in i P xs ≡ true → get_or xs (i * 6) 0 < P → processes_in (i + 1) P xs ≡ true
  unfolding processes_in
  processes-next e l = rw (add-one, e, process-in xs i) (lt-ltb (get_or xs (i * 6) 0) P l)

  -- A row whose process is past the limit gives No.
  pub processes-out : (n : ℕ) → i < n → P ≤ get_or xs (i * 6) 0 → false ≡ processes_in n P xs
  processes-out n h l =
      sym (not_passed (processes_in n P xs) (λ e. let low = rw process-in at (processes-told n P xs e i h) in omega (arith, low, l)))

-- Where every process is below the limit, the answer to question 10 is Yes.
pub processes-pass : (n P : ℕ) (xs : List ℕ) → ((k : ℕ) → k < n → (row_in xs k).process < P) → processes_in n P xs ≡ true
unfolding processes_in
processes-pass zero P xs h = refl
processes-pass (suc n) P xs h = rw (processes-pass n P xs (λ k l. h k (omega arith)), lt-ltb (row_in xs n).process P (h n (omega arith)))

-- ---- The first No

module _ (n P : ℕ) (xs : List ℕ) (L : ℕ) where
  abbrev pub first : ℕ
  first = first_no (fill_questions n P xs L)

-- ---- What follows from Yes to all three

-- What filling relies on: long slices, limits in their ranges, and processes below the limit.
pub record Asked (n P : ℕ) (xs : List ℕ) (L : ℕ) : Type 0 where
  pub rows_have_room : 6 * n ≤ length xs
  pub counts-fit : n * P ≤ L
  pub few-rows : n ≤ ROWS
  pub some-processes : 1 ≤ P
  pub few-processes : P ≤ PROCESSES
  pub below : (k : ℕ) → k < n → (row_in xs k).process < P

-- Where every answer is Yes, filling may rely on all that it asked.
pub asked : (n P : ℕ) (xs : List ℕ) (L : ℕ) → first n P xs L ≡ 0 → Asked n P xs L
unfolding fill_questions
asked n P xs L e =
    let yes = all_yes (fill_questions n P xs L) (omega arith) e in
    let slices = and_out (leb (6 * n) (length xs)) (leb (n * P) L) yes.0 in
    let rows = and_out (leb n ROWS) (is_process_limit P) yes.1.0 in
    let processes = limit-told P rows.1 in
    record {
      rows_have_room = leb-true _ _ slices.0;
      counts-fit = leb-true _ _ slices.1;
      few-rows = leb-true _ _ rows.0;
      some-processes = processes.0;
      few-processes = processes.1;
      below = processes-told n P xs yes.1.1.0;
    }

-- Where all that is told holds, every answer is Yes.
pub all_asked : {n P : ℕ} {xs : List ℕ} {L : ℕ} → Asked n P xs L → first n P xs L ≡ 0
unfolding first_no fill_questions
all_asked {n} {P} {xs} {L} a =
    rw (
      le-leb (6 * n) (length xs) a.rows_have_room,
      le-leb (n * P) L a.counts-fit,
      le-leb n ROWS a.few-rows,
      limit-of P a.some-processes a.few-processes,
      processes-pass n P xs a.below,
    )
