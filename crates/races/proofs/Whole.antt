-- The verdict's call: what the search relies on, and what the call answers and leaves.
use Rattle.std.proofs.Common.{Result, Ok, Err, drop_at, ℕ, suc, ◌+◌, ◌*◌, ◌-◌, ◌≤◌, ◌<◌, mul-le-mul, add-one, arith, ◌≡◌, refl, sym, ap, ◌∙◌, Bool, true, false, cond, List, [], ◌∷◌, ◌++◌, length, drop, replicate, leb-true, ltb-true, lt-ltb, le-ltb, le-leb, ne_eqb}
use lib.ListN.{get_or}
use lib.Dec.{leb, ltb}
use Rattle.rows.specs.Limits.{MODELS, ROWS}
use Rattle.std.specs.Result.{IsErrAnd}
use Rattle.rows.specs.Refusals.{SHORT_SLICE, LIMITS, LIST_SPACE, number_of, refused_at}
use Rattle.rows.specs.declared.refusal.Refused as refused
use Rattle.rows.specs.declared.refusal.Refusal.{Refusal}
use Rattle.rows.specs.Rows.{rows_in}
use Rattle.rows.specs.Questions.{long_enough, is_process_limit, first_no}
use Rattle.rows.proofs.Asking.{all_yes, none-no, none-appended, first-no, rest-decides, number-some}
use Rattle.happens_before.specs.Order.{count, counts_of}
use Rattle.happens_before.specs.Filling.{count_limits, fill_questions, filled_left}
use Rattle.rows.proofs.Bools.{and_out}
use Rattle.rows.proofs.Slices.{length-rows}
use Rattle.happens_before.proofs.Filling.{length-rows_of}
use Rattle.happens_before.proofs.Asking.{Asked, asked}
use Rattle.races_meaning.specs.Races.{verdict_of}
use Rattle.races_meaning.specs.Lists.{RowPair, pairs_with, pairs_below, race_pairs, pair_numbers, first_of}
use Rattle.races_meaning.proofs.Lists.{front_below, first-listed, pairs-most}
use Rattle.races.specs.Answers.{Free, Race, judge_questions, verdict_found, found_of}
use Rattle.races.specs.Given.{Given}
use Rattle.races.specs.Listing as listed
use Rattle.races.specs.Listing.{told_listed, has_room, list_questions, listed_of, list_left, room_answer, room_left, with_pairs}
use Rattle.races.proofs.Putting.{put_all, put_first}

-- ---- The first race

-- A list without a pair is empty.
pub no_pair_lem : (pairs : List RowPair) → length pairs ≤ 0 → pairs ≡ []
no_pair_lem [] h = refl
no_pair_lem (p ∷ pairs) h = absurd (omega arith)

-- Two numbers of a list are all of it where it has two.
two-of : (list : List ℕ) → length list ≡ 2 → list ≡ get_or list 0 0 ∷ (get_or list 1 0 ∷ [])
two-of [] e = absurd (omega arith)
two-of (a ∷ []) e = absurd (omega arith)
two-of (a ∷ (b ∷ [])) e = refl
two-of (a ∷ (b ∷ (c ∷ list))) e = absurd (omega arith)

module _ (n model : ℕ) (xs : List ℕ) where
  -- Before the first row there is no race.
  pub none-start : pairs_below (rows_in n xs) model 0 ≡ []
  unfolding pairs_below
  none-start = refl

  -- Row y has no race, and neither has a row before it.
  pub none-next : (y : ℕ) {found : ℕ} → pairs_below (rows_in n xs) model y ≡ [] → found ≡ 0 + length (pairs_with (rows_in n xs) model y y) → found ≤ 0 →
      pairs_below (rows_in n xs) model (y + 1) ≡ []
  unfolding pairs_below
  none-next y e q z = rw (add-one, e) (no_pair_lem (pairs_with (rows_in n xs) model y y) (omega arith))

  -- Where no row has a race, the answer is free.
  pub answer-free : (y : ℕ) → n ≤ y → y ≤ n → pairs_below (rows_in n xs) model y ≡ [] → Free ≡ verdict_found (verdict_of (rows_in n xs) model)
  unfolding race_pairs
  answer-free y h l e =
      let q : length (rows_in n xs) ≡ y = omega (arith, length-rows n xs) in
      sym (ap verdict_found (first-listed (rows_in n xs) model ∙ ap first_of (ap (pairs_below (rows_in n xs) model) q ∙ e)))

  -- The first row that has a race gives the answer: its first pair, which a list of one pair's length holds.
  pub answer-race : (y : ℕ) {found : ℕ} (before : List ℕ) {pair : List ℕ} → y < n → pairs_below (rows_in n xs) model y ≡ [] → length before ≡ 2 →
      found ≡ 0 + length (pairs_with (rows_in n xs) model y y) → 0 < found → pair ≡ with_pairs 0 (pairs_with (rows_in n xs) model y y) before →
      Race (get_or pair 0 0) (get_or pair 1 0) ≡ verdict_found (verdict_of (rows_in n xs) model)
  unfolding race_pairs pairs_below
  answer-race y {found} before {pair} h e two q z w = go (pairs_with (rows_in n xs) model y y) refl
    where
      go : (pairs : List RowPair) → pairs_with (rows_in n xs) model y y ≡ pairs → Race (get_or pair 0 0) (get_or pair 1 0) ≡ verdict_found (verdict_of (rows_in n xs) model)
      go [] d = absurd (omega (arith, q, z, ap length d))
      go (p ∷ pairs) d =
          let (more, f) = front_below (rows_in n xs) model (suc y) (length (rows_in n xs)) (omega (arith, h, length-rows n xs)) in
          let first : pairs_below (rows_in n xs) model (length (rows_in n xs)) ≡ (p ∷ pairs) ++ more =
          f ∙ (λ i. (e i ++ d i) ++ more) in
          let held : pair ≡ p.earlier ∷ (p.later ∷ []) = w ∙ (λ i. with_pairs 0 (d i) (two-of before two i)) ∙ put_first p pairs (get_or before 0 0) (get_or before 1 0) in
          (λ i. Race (get_or (held i) 0 0) (get_or (held i) 1 0)) ∙ sym (ap verdict_found (first-listed (rows_in n xs) model ∙ ap first_of first))

-- ---- The list of every race

-- The square of a row count is that of the largest row limit at most.
pub square_most : {n : ℕ} → n ≤ ROWS → n * n ≤ ROWS * ROWS
square_most h = mul-le-mul h h

-- Twice the number of pairs and the number of rows are at most that number squared.
pub pairs-in : (n model : ℕ) (xs : List ℕ) → 2 * length (race_pairs (rows_in n xs) model) + n ≤ n * n
pairs-in n model xs = rw (length-rows n xs) at (pairs-most (rows_in n xs) model)

module _ (pairs : List RowPair) (list : List ℕ) where
  -- Where there is room for every pair, the list holds them all.
  pub room_in : 2 * length pairs ≤ length list → {found : ℕ} {after : List ℕ} → found ≡ length pairs → after ≡ with_pairs 0 pairs list →
      (listed.Pairs found ≡ room_answer pairs (length list)) × (after ≡ room_left pairs list)
  room_in h e w = rw (le-leb (2 * length pairs) (length list) h) (ap listed.Pairs e, w ∙ put_all pairs list h)

module _ (n P model : ℕ) (xs : List ℕ) where
  -- The counts of the rows are one for each row and process.
  length-counted : length (counts_of P (rows_in n xs)) ≡ n * P
  unfolding counts_of
  length-counted =
      length-rows_of P (λ k p. count (rows_in n xs) p k) (length (rows_in n xs)) ∙ ap (λ (m : ℕ). m * P) (length-rows n xs)

  -- Once all is asked, the search may rely on what it needs.
  pub given : (L : ℕ) (rest : List ℕ) {counts : List ℕ} → Asked n P xs L → model < MODELS → counts ≡ counts_of P (rows_in n xs) ++ rest →
      Given n P model xs counts
  given L rest t m e =
      record {
        few-rows = t.few-rows;
        few-processes = t.few-processes;
        is_model = m;
        rows_within = omega (arith, t.rows_have_room);
        below = t.below;
        counted =
            e ∙ ap (λ (l : List ℕ). counts_of P (rows_in n xs) ++ l)
            (sym (ap (drop (n * P)) e ∙ drop_at (counts_of P (rows_in n xs)) rest (n * P) length-counted));
      }

  -- ---- The first No

  -- Where the number is a model, the first No is that of filling the counts.
  pub same_first : (L : ℕ) → model < MODELS → first_no (fill_questions n P xs L) ≡ first_no (judge_questions n P model xs L)
  unfolding first_no judge_questions fill_questions
  same_first L m = rw (lt-ltb model MODELS m)

  -- Rows that are judged are at most the largest row limit.
  pub few-judged : (L : ℕ) → first_no (judge_questions n P model xs L) ≡ 0 → n ≤ ROWS
  unfolding judge_questions
  few-judged L e =
      let yes = all_yes (judge_questions n P model xs L) (omega arith) e in
      let limits = (and_out (ltb model MODELS) (count_limits n P) yes.1.0).1 in
      leb-true n ROWS (and_out (leb n ROWS) (is_process_limit P) limits).0

  -- Rows whose races are listed are at most the largest row limit.
  pub few-listed : (L M : ℕ) → first_no (list_questions n P model xs L M) ≡ 0 → n ≤ ROWS
  unfolding list_questions judge_questions
  few-listed L M e = few-judged L (none-no (judge_questions n P model xs L) (none-appended (judge_questions n P model xs L) _ (omega arith) e).0)

  -- ---- Where all but 23 is answered Yes

  module _ (L : ℕ) where
    -- The pairs.
    abbrev pairs : List RowPair
    pairs = race_pairs (rows_in n xs) model

    -- Only 23 can be answered No.
    only-room : (M : ℕ) → first_no (judge_questions n P model xs L) ≡ 0 → first_no (list_questions n P model xs L M) ≡ cond (has_room pairs M) 0 LIST_SPACE
    unfolding list_questions judge_questions first_no
    only-room M e = rest-decides (judge_questions n P model xs L) (record { number = LIST_SPACE; yes = has_room pairs M } ∷ []) (omega arith) e

    -- The answer is the number of pairs, or 23.
    pub asked-answer : (M : ℕ) → first_no (judge_questions n P model xs L) ≡ 0 →
        listed_of (first_no (list_questions n P model xs L M)) pairs ≡ room_answer pairs M
    asked-answer M e = ap (λ (k : ℕ). listed_of k pairs) (only-room M e) ∙ go (has_room pairs M)
      where
        go : (b : Bool) → listed_of (cond b 0 LIST_SPACE) pairs ≡ cond b (listed.Pairs (length pairs)) (listed.Refused LIST_SPACE 0)
        go true = refl
        go false = refl

    -- The list holds the pairs where it has room for them.
    pub asked-left : (list : List ℕ) → first_no (judge_questions n P model xs L) ≡ 0 →
        list_left (first_no (list_questions n P model xs L (length list))) pairs list ≡ room_left pairs list
    asked-left list e = ap (λ (k : ℕ). list_left k pairs list) (only-room (length list) e) ∙ go (has_room pairs (length list))
      where
        go : (b : Bool) → list_left (cond b 0 LIST_SPACE) pairs list ≡ cond b (pair_numbers pairs ++ drop (2 * length pairs) list) list
        go true = refl
        go false = refl

  module _ (counts : List ℕ) where
    abbrev first : ℕ
    first = first_no (judge_questions n P model xs (length counts))

    -- Where the number is no model, the first No is 1 or 2.
    pub no_model : MODELS ≤ model → first ≡ cond (long_enough n P (length xs) (length counts)) LIMITS SHORT_SLICE
    unfolding first_no judge_questions
    no_model h = rw (le-ltb model MODELS h)

    module _ (e : Refusal) (refuses : number_of e ≡ first) (list : List ℕ) where
      -- The first No of a list is that of the verdict.
      list-first : first_no (list_questions n P model xs (length counts) (length list)) ≡ number_of e
      unfolding list_questions
      list-first = first-no (judge_questions n P model xs (length counts)) _ (λ z. omega (arith, number-some e)) ∙ sym refuses

      -- A list is refused with the same number.
      pub list-refuses : (answer : Result ℕ refused.Refused) → IsErrAnd answer (λ r. r ≡ refused_at e 0) →
          told_listed answer ≡ listed_of (first_no (list_questions n P model xs (length counts) (length list))) (race_pairs (rows_in n xs) model)
      list-refuses (Err r) q =
          rw (list-first, ne_eqb (number_of e) 0 (λ z. omega (arith, number-some e)))
          (ap (λ (r : refused.Refused). listed.Refused (number_of r.refusal) r.place) q)
      list-refuses (Ok r) q = absurd q

      -- It stays as it was.
      pub list-stays : list ≡ list_left (first_no (list_questions n P model xs (length counts) (length list))) (race_pairs (rows_in n xs) model) list
      list-stays = rw (list-first, ne_eqb (number_of e) 0 (λ z. omega (arith, number-some e))) refl

    module _ (passed : first ≡ 0) where
      -- A model is known where every answer was Yes.
      known-model : model < MODELS
      unfolding judge_questions
      known-model =
          let yes = all_yes (judge_questions n P model xs (length counts)) (omega arith) passed in
          ltb-true model MODELS (and_out (ltb model MODELS) (count_limits n P) yes.1.0).0

      -- What the search relies on holds.
      pub given-filled : {ys : List ℕ} → ys ≡ filled_left first n P xs counts → Given n P model xs ys
      given-filled l =
          given (length counts) (replicate (length counts - n * P) 0) (asked n P xs (length counts) (same_first (length counts) known-model ∙ passed)) known-model
          (l ∙ ap (λ (number : ℕ). filled_left number n P xs counts) passed)

      -- The verdict on the rows is the answer.
      pub passed_found : verdict_found (verdict_of (rows_in n xs) model) ≡ found_of first xs n model
      passed_found = sym (ap (λ (number : ℕ). found_of number xs n model) passed)
