-- The list of every race: a pair is listed exactly where it is a race, the pairs rise strictly by later row and then by earlier row, the first one is
-- the verdict's, and how many there can be.
use Rattle.std.proofs.Common.{ℕ, zero, suc, ◌+◌, ◌*◌, ◌-◌, ◌≤◌, ◌<◌, suc-mul, mul-suc, arith, ◌≡◌, refl, sym, ap, subst, ◌∙◌, ◌↔◌, ◌⊎◌, inl, inr, Bool, true, false, cond, List, [], ◌∷◌, ◌++◌, append-nil, append_assoc, length, length-append, get_or-append-add}
use native.Mathlib.Decide.{dec_lt}
use lib.ListN.{get_or, get_or-append}
use Rattle.rows.specs.declared.row.Row.{Row}
use Rattle.races_meaning.specs.Races.{race, verdict_of}
use Rattle.races_meaning.specs.Lists.{RowPair, pairs_with, pairs_below, race_pairs, pair_numbers, first_of}
use Rattle.races_meaning.proofs.Verdicts.{race_out, First, free-iff, racing-iff}

-- ---- Lists of pairs

-- The rows at indices x and y, by their numbers.
abbrev pub pair_of : ℕ → ℕ → RowPair
pair_of x y = record { earlier = suc x; later = suc y }

-- What stands behind the end of a list of pairs.
abbrev pub no_pair : RowPair
no_pair = record { earlier = 0; later = 0 }

-- A list has this pair at index k.
abbrev pub Stands : List RowPair → ℕ → RowPair → Type 0
Stands pairs k p = (k < length pairs) × (get_or pairs k no_pair ≡ p)

-- The first pair comes before the second: its later row is smaller, or that is the same and its earlier row is smaller.
abbrev pub Before : RowPair → RowPair → Type 0
Before p q = (p.later < q.later) ⊎ ((p.later ≡ q.later) × (p.earlier < q.earlier))

-- Each pair comes before every pair behind it.
abbrev pub Rising : List RowPair → Type 0
Rising pairs = (i j : ℕ) → i < j → j < length pairs → Before (get_or pairs i no_pair) (get_or pairs j no_pair)

-- A pair stands at one index of a list that rises.
pub rising-once : (pairs : List RowPair) → Rising pairs → (k l : ℕ) → k < length pairs → l < length pairs →
    get_or pairs k no_pair ≡ get_or pairs l no_pair → k ≡ l
rising-once pairs up k l a b e = go (dec_lt k l) (dec_lt l k)
  where
    -- No pair comes before itself.
    apart : (p : RowPair) → Before p p → ⊥
    apart p (inl h) = omega arith
    apart p (inr (q, h)) = omega arith

    go : Dec (k < l) → Dec (l < k) → k ≡ l
    go (yes h) d = absurd (apart _ (rw e at (up k l h b)))
    go (no h) (yes d) = absurd (apart _ (rw (sym e) at (up l k d a)))
    go (no h) (no d) = omega arith

-- Two equal pairs are of the same rows.
pub same-pair : (a b c d : ℕ) → pair_of a b ≡ pair_of c d → (a ≡ c) × (b ≡ d)
same-pair a b c d e =
    let p : suc a ≡ suc c = ap (λ (x : RowPair). x.earlier) e in
    let q : suc b ≡ suc d = ap (λ (x : RowPair). x.later) e in
    (omega arith, omega arith)

module _ (a b : List RowPair) where
  -- A pair of the first part stands in the whole.
  stands-first : {p : RowPair} {k : ℕ} → Stands a k p → Stands (a ++ b) k p
  stands-first {p} {k} s = (omega (arith, s.0, length-append a b), get_or-append a b no_pair k s.0 ∙ s.1)

  -- A pair of the second part stands in the whole, behind the first part.
  stands-second : {p : RowPair} {k : ℕ} → Stands b k p → Stands (a ++ b) (length a + k) p
  stands-second {p} {k} s = (omega (arith, s.0, length-append a b), get_or-append-add a b k no_pair ∙ s.1)

  -- What stands in the whole stands in the first part or in the second.
  stands-out : {p : RowPair} (k : ℕ) → Stands (a ++ b) k p → Stands a k p ⊎ ((i : ℕ) × (k ≡ length a + i) × Stands b i p)
  stands-out {p} k s = go (dec_lt k (length a))
    where
      go : Dec (k < length a) → Stands a k p ⊎ ((i : ℕ) × (k ≡ length a + i) × Stands b i p)
      go (yes l) = inl (l, sym (get_or-append a b no_pair k l) ∙ s.1)
      go (no l) =
          let e : k ≡ length a + (k - length a) = omega arith in
          let h : k - length a < length b = omega (arith, s.0, length-append a b) in
          inr (k - length a, e, (h, sym (get_or-append-add a b (k - length a) no_pair) ∙ ap (λ (i : ℕ). get_or (a ++ b) i no_pair) (sym e) ∙ s.1))

  -- Two parts that rise, each pair of the first before each of the second, rise as a whole.
  rising_whole : Rising a → Rising b → ((i j : ℕ) → i < length a → j < length b → Before (get_or a i no_pair) (get_or b j no_pair)) → Rising (a ++ b)
  rising_whole f g h i j l m = go (stands-out i (omega arith, refl)) (stands-out j (m, refl))
    where
      Part : ℕ → Type 0
      Part k = Stands a k (get_or (a ++ b) k no_pair) ⊎ ((n : ℕ) × (k ≡ length a + n) × Stands b n (get_or (a ++ b) k no_pair))

      go : Part i → Part j → Before (get_or (a ++ b) i no_pair) (get_or (a ++ b) j no_pair)
      go (inl s) (inl t) = rw (← s.1, ← t.1) (f i j l t.0)
      go (inl s) (inr (n, e, t)) = rw (← s.1, ← t.1) (h i n s.0 t.0)
      go (inr (k, e, s)) (inl t) = absurd (omega (arith, e, t.0, l))
      go (inr (k, e, s)) (inr (n, d, t)) = rw (← s.1, ← t.1) (g k n (omega arith) t.0)

module _ (rows : List Row) (model : ℕ) where
  -- ---- The races of one later row

  -- One pair, or none.
  abbrev last : ℕ → ℕ → Bool → List RowPair
  last x y b = cond b (pair_of x y ∷ []) []

  -- A later row that races with no row has no pair.
  pub none-with : (y : ℕ) → ((x : ℕ) → race rows model x y ≡ false) → (k : ℕ) → pairs_with rows model y k ≡ []
  unfolding pairs_with
  none-with y f zero = refl
  none-with y f (suc k) = rw (none-with y f k, f k)

  -- A later row has at most one pair for each row below k.
  pub few-with : (y k : ℕ) → length (pairs_with rows model y k) ≤ k
  unfolding pairs_with
  few-with y zero = omega arith
  few-with y (suc k) = go (race rows model k y) (few-with y k)
    where
      go : (b : Bool) → length (pairs_with rows model y k) ≤ k → length (pairs_with rows model y k ++ last k y b) ≤ suc k
      go true h = omega (arith, length-append (pairs_with rows model y k) (pair_of k y ∷ []))
      go false h = rw append-nil (omega (arith, h))

  -- A race of the later row with a row below k is listed.
  in_with : (y k x : ℕ) → x < k → race rows model x y ≡ true → (i : ℕ) × Stands (pairs_with rows model y k) i (pair_of x y)
  unfolding pairs_with
  in_with y zero x l r = absurd (omega arith)
  in_with y (suc k) x l r = go (dec_lt x k) (λ h. in_with y k x h r)
    where
      before : List RowPair
      before = pairs_with rows model y k

      go : Dec (x < k) → (x < k → (i : ℕ) × Stands before i (pair_of x y)) → (i : ℕ) × Stands (before ++ last k y (race rows model k y)) i (pair_of x y)
      go (yes h) ih = let t = ih h in (t.0, stands-first before (last k y (race rows model k y)) t.1)
      go (no h) ih =
          let e : x ≡ k = omega arith in
          let s : Stands (last k y (race rows model k y)) 0 (pair_of x y) = rw (sym (ap (λ (z : ℕ). race rows model z y) e) ∙ r, e) (omega arith, refl) in
          (length before + 0, stands-second before (last k y (race rows model k y)) s)

  -- What is listed is a race of the later row with a row below k.
  out-with : (y k i : ℕ) (p : RowPair) → Stands (pairs_with rows model y k) i p → (x : ℕ) × (x < k) × (race rows model x y ≡ true) × (pair_of x y ≡ p)
  unfolding pairs_with
  out-with y zero i p s = absurd (omega (arith, s.0))
  out-with y (suc k) i p s = go (race rows model k y) refl (stands-out (pairs_with rows model y k) (last k y (race rows model k y)) i s) (out-with y k i p)
    where
      go : (b : Bool) → race rows model k y ≡ b →
          Stands (pairs_with rows model y k) i p ⊎ ((n : ℕ) × (i ≡ length (pairs_with rows model y k) + n) × Stands (last k y (race rows model k y)) n p) →
          (Stands (pairs_with rows model y k) i p → (x : ℕ) × (x < k) × (race rows model x y ≡ true) × (pair_of x y ≡ p)) →
          (x : ℕ) × (x < suc k) × (race rows model x y ≡ true) × (pair_of x y ≡ p)
      go b e (inl t) ih = let (x, h, r, q) = ih t in (x, omega arith, r, q)
      go true e (inr (n, d, t)) ih = let u = rw e at t in (k, omega arith, e, one n u)
        where
          one : (n : ℕ) → Stands (pair_of k y ∷ []) n p → pair_of k y ≡ p
          one zero u = u.1
          one (suc n) u = absurd (omega (arith, u.0))
      go false e (inr (n, d, t)) ih = let u = rw e at t in absurd (omega (arith, u.0))

  -- The pairs of one later row rise by their earlier rows.
  rising-with : (y k : ℕ) → Rising (pairs_with rows model y k)
  unfolding pairs_with
  rising-with y zero = λ i j l h. absurd (omega arith)
  rising-with y (suc k) = go (race rows model k y) (rising-with y k)
    where
      go : (b : Bool) → Rising (pairs_with rows model y k) → Rising (pairs_with rows model y k ++ last k y b)
      go false f = rw append-nil f
      go true f =
          rising_whole (pairs_with rows model y k) (pair_of k y ∷ []) f (λ i j l h. absurd (omega arith))
          (λ i j l h.
          let (x, m, r, q) = out-with y k i (get_or (pairs_with rows model y k) i no_pair) (l, refl) in
          let z : j ≡ 0 = omega arith in
          rw (z, ← q) (inr (refl, omega arith)))

  -- ---- The races of all later rows below a bound

  -- Twice the number of pairs and the number of later rows are at most that number squared.
  few-below : (y : ℕ) → 2 * length (pairs_below rows model y) + y ≤ y * y
  unfolding pairs_below
  few-below zero = omega arith
  few-below (suc y) =
      omega (
        arith,
        few-below y,
        few-with y y,
        length-append (pairs_below rows model y) (pairs_with rows model y y),
        suc-mul y (suc y),
        mul-suc y y,
      )

  -- A race whose later row stands below the bound is listed.
  in_below : (m x y : ℕ) → y < m → race rows model x y ≡ true → (i : ℕ) × Stands (pairs_below rows model m) i (pair_of x y)
  unfolding pairs_below
  in_below zero x y l r = absurd (omega arith)
  in_below (suc m) x y l r = go (dec_lt y m) (λ h. in_below m x y h r)
    where
      go : Dec (y < m) → (y < m → (i : ℕ) × Stands (pairs_below rows model m) i (pair_of x y)) →
          (i : ℕ) × Stands (pairs_below rows model m ++ pairs_with rows model m m) i (pair_of x y)
      go (yes h) ih = let t = ih h in (t.0, stands-first (pairs_below rows model m) (pairs_with rows model m m) t.1)
      go (no h) ih =
          let e : y ≡ m = omega arith in
          let t = in_with m m x (omega (arith, (race_out rows model x y r).0)) (ap (race rows model x) (sym e) ∙ r) in
          let s = subst (λ (z : ℕ). Stands (pairs_with rows model m m) t.0 (pair_of x z)) (sym e) t.1 in
          (length (pairs_below rows model m) + t.0, stands-second (pairs_below rows model m) (pairs_with rows model m m) s)

  -- What is listed is a race whose later row stands below the bound.
  out_below : (m i : ℕ) (p : RowPair) → Stands (pairs_below rows model m) i p →
      (x : ℕ) × (y : ℕ) × (y < m) × (race rows model x y ≡ true) × (pair_of x y ≡ p)
  unfolding pairs_below
  out_below zero i p s = absurd (omega (arith, s.0))
  out_below (suc m) i p s = go (stands-out (pairs_below rows model m) (pairs_with rows model m m) i s) (out_below m i p)
    where
      go : Stands (pairs_below rows model m) i p ⊎ ((n : ℕ) × (i ≡ length (pairs_below rows model m) + n) × Stands (pairs_with rows model m m) n p) →
          (Stands (pairs_below rows model m) i p → (x : ℕ) × (y : ℕ) × (y < m) × (race rows model x y ≡ true) × (pair_of x y ≡ p)) →
          (x : ℕ) × (y : ℕ) × (y < suc m) × (race rows model x y ≡ true) × (pair_of x y ≡ p)
      go (inl t) ih = let (x, y, h, r, q) = ih t in (x, y, omega arith, r, q)
      go (inr (n, e, t)) ih = let (x, h, r, q) = out-with m m n p t in (x, m, omega arith, r, q)

  -- The pairs rise by their later rows, and those of one later row by their earlier rows.
  rising-below : (m : ℕ) → Rising (pairs_below rows model m)
  unfolding pairs_below
  rising-below zero = λ i j l h. absurd (omega arith)
  rising-below (suc m) =
      rising_whole (pairs_below rows model m) (pairs_with rows model m m) (rising-below m) (rising-with m m)
      (λ i j l h.
      let (x, y, k, r, q) = out_below m i (get_or (pairs_below rows model m) i no_pair) (l, refl) in
      let (w, d, t, u) = out-with m m j (get_or (pairs_with rows model m m) j no_pair) (h, refl) in
      rw (← q, ← u) (inl (omega arith)))

  -- The pairs below a bound stand at the front of those below any larger bound.
  pub front_below : (y m : ℕ) → y ≤ m → (more : List RowPair) × (pairs_below rows model m ≡ pairs_below rows model y ++ more)
  unfolding pairs_below
  front_below y zero l = let e : 0 ≡ y = omega arith in ([], ap (pairs_below rows model) e ∙ sym (append-nil (pairs_below rows model y)))
  front_below y (suc m) l = go (dec_lt y (suc m)) (λ h. front_below y m h)
    where
      go : Dec (y < suc m) → (y ≤ m → (more : List RowPair) × (pairs_below rows model m ≡ pairs_below rows model y ++ more)) →
          (more : List RowPair) × (pairs_below rows model (suc m) ≡ pairs_below rows model y ++ more)
      go (yes h) ih =
          let (more, e) = ih (omega arith) in
          (more ++ pairs_with rows model m m, ap (λ (l : List RowPair). l ++ pairs_with rows model m m) e ∙ append_assoc (pairs_below rows model y) more _)
      go (no h) ih =
          let e : suc m ≡ y = omega arith in
          ([], ap (pairs_below rows model) e ∙ sym (append-nil (pairs_below rows model y)))

  -- ---- Every race

  -- A pair is listed exactly where it is a race.
  pub stands-iff : (x y : ℕ) → (race rows model x y ≡ true) ↔ ((k : ℕ) × Stands (race_pairs rows model) k (pair_of x y))
  unfolding race_pairs
  stands-iff x y = (λ r. in_below (length rows) x y (race_out rows model x y r).1 r, back)
    where
      back : (k : ℕ) × Stands (pairs_below rows model (length rows)) k (pair_of x y) → race rows model x y ≡ true
      back (k, s) =
          let (u, v, h, r, q) = out_below (length rows) k (pair_of x y) s in
          let same = same-pair u v x y q in
          rw (same.0, same.1) at r

  -- Whatever is listed is a race.
  pub listed-race : (k : ℕ) → k < length (race_pairs rows model) →
      (x : ℕ) × (y : ℕ) × (race rows model x y ≡ true) × (get_or (race_pairs rows model) k no_pair ≡ pair_of x y)
  unfolding race_pairs
  listed-race k h = let (x, y, l, r, q) = out_below (length rows) k (get_or (pairs_below rows model (length rows)) k no_pair) (h, refl) in (x, y, r, sym q)

  -- The pairs rise strictly, by later row and then by earlier row; so each is listed once.
  pub listed-rising : Rising (race_pairs rows model)
  unfolding race_pairs
  listed-rising = rising-below (length rows)

  -- Twice the number of pairs and the number of rows are at most the number of rows squared.
  pub pairs-most : 2 * length (race_pairs rows model) + length rows ≤ length rows * length rows
  unfolding race_pairs
  pairs-most = few-below (length rows)

  -- The verdict is the list's first pair, and free where the list is empty.
  pub first-listed : verdict_of rows model ≡ first_of (race_pairs rows model)
  first-listed = go (race_pairs rows model) refl
    where
      go : (pairs : List RowPair) → race_pairs rows model ≡ pairs → verdict_of rows model ≡ first_of pairs
      go [] e = (free-iff rows model).1 (λ x y r. let (k, s) = rw e at ((stands-iff x y).0 r) in omega (arith, s.0))
      go (p ∷ pairs) e =
          let many : 0 < length (race_pairs rows model) = rw e (omega arith) in
          let (x, y, r, q) = listed-race 0 many in
          let same : p ≡ pair_of x y = sym (ap (λ (l : List RowPair). get_or l 0 no_pair) e) ∙ q in
          let a : p.earlier ≡ x + 1 = ap (λ (z : RowPair). z.earlier) same ∙ omega arith in
          let b : p.later ≡ y + 1 = ap (λ (z : RowPair). z.later) same ∙ omega arith in
          (racing-iff rows model p.earlier p.later).1 (x, y, a, b, first x y r q)
        where
          -- Every other race comes behind the first pair.
          behind : (x y : ℕ) → get_or (race_pairs rows model) 0 no_pair ≡ pair_of x y → (x' y' : ℕ) → race rows model x' y' ≡ true →
              (y < y') ⊎ ((y ≡ y') × (x ≤ x'))
          behind x y q x' y' r = by ((stands-iff x' y').0 r)
            where
              by : (k : ℕ) × Stands (race_pairs rows model) k (pair_of x' y') → (y < y') ⊎ ((y ≡ y') × (x ≤ x'))
              by (zero, s) =
                  let same = same-pair x y x' y' (sym q ∙ s.1) in
                  inr (same.1, omega (arith, same.0))
              by (suc k, s) = apart (rw (q, s.1) at (listed-rising 0 (suc k) (omega arith) s.0))
                where
                  apart : Before (pair_of x y) (pair_of x' y') → (y < y') ⊎ ((y ≡ y') × (x ≤ x'))
                  apart (inl l) = inl (omega arith)
                  apart (inr (a, l)) = inr (omega arith, omega arith)

          first : (x y : ℕ) → race rows model x y ≡ true → get_or (race_pairs rows model) 0 no_pair ≡ pair_of x y → First rows model x y
          first x y r q = record { is_race = r; least-later = λ x' y' s. later (behind x y q x' y' s); least-earlier = λ x' s. earlier x' (behind x y q x' y s) }
            where
              later : {x' y' : ℕ} → (y < y') ⊎ ((y ≡ y') × (x ≤ x')) → y ≤ y'
              later (inl l) = omega arith
              later (inr (a, l)) = omega arith

              earlier : (x' : ℕ) → (y < y) ⊎ ((y ≡ y) × (x ≤ x')) → x ≤ x'
              earlier x' (inl l) = absurd (omega arith)
              earlier x' (inr (a, l)) = l

-- ---- The pairs as numbers

-- A list holds two numbers for each pair.
pub length_pairs : (pairs : List RowPair) → length (pair_numbers pairs) ≡ 2 * length pairs
unfolding pair_numbers
length_pairs [] = refl
length_pairs (p ∷ pairs) = omega (arith, length_pairs pairs)

-- Pair k stands at the numbers 2 k and 2 k + 1, the earlier row first.
pub numbers-at : (pairs : List RowPair) (k : ℕ) → k < length pairs →
    (get_or (pair_numbers pairs) (2 * k) 0 ≡ (get_or pairs k no_pair).earlier) × (get_or (pair_numbers pairs) (2 * k + 1) 0 ≡ (get_or pairs k no_pair).later)
unfolding pair_numbers
numbers-at [] k h = absurd (omega arith)
numbers-at (p ∷ pairs) zero h = (refl, refl)
numbers-at (p ∷ pairs) (suc k) h =
    let a : 2 * suc k ≡ suc (suc (2 * k)) = omega arith in
    let b : 2 * suc k + 1 ≡ suc (suc (2 * k + 1)) = omega arith in
    let ih = numbers-at pairs k (omega arith) in
    (rw a ih.0, rw b ih.1)

-- Of the numbers that the list holds: a pair stands there exactly where it is a race.
pub listed-iff : (rows : List Row) (model x y : ℕ) → (race rows model x y ≡ true)
    ↔ ((k : ℕ) × (k < length (race_pairs rows model)) × (get_or (pair_numbers (race_pairs rows model)) (2 * k) 0 ≡ suc x)
    × (get_or (pair_numbers (race_pairs rows model)) (2 * k + 1) 0 ≡ suc y))
listed-iff rows model x y = (to, from)
  where
    pairs : List RowPair
    pairs = race_pairs rows model

    to : race rows model x y ≡ true → (k : ℕ) × (k < length pairs) × (get_or (pair_numbers pairs) (2 * k) 0 ≡ suc x) × (get_or (pair_numbers pairs) (2 * k + 1) 0 ≡ suc y)
    to r =
        let (k, s) = (stands-iff rows model x y).0 r in
        let n = numbers-at pairs k s.0 in
        (k, s.0, n.0 ∙ ap (λ (p : RowPair). p.earlier) s.1, n.1 ∙ ap (λ (p : RowPair). p.later) s.1)

    from : (k : ℕ) × (k < length pairs) × (get_or (pair_numbers pairs) (2 * k) 0 ≡ suc x) × (get_or (pair_numbers pairs) (2 * k + 1) 0 ≡ suc y) → race rows model x y ≡ true
    from (k, h, a, b) =
        let (u, v, r, q) = listed-race rows model k h in
        let n = numbers-at pairs k h in
        let c : suc u ≡ suc x = sym (ap (λ (p : RowPair). p.earlier) q) ∙ sym n.0 ∙ a in
        let d : suc v ≡ suc y = sym (ap (λ (p : RowPair). p.later) q) ∙ sym n.1 ∙ b in
        let e : u ≡ x = omega arith in
        let f : v ≡ y = omega arith in
        rw (e, f) at r
