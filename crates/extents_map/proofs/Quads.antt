-- The runs of a map as arrays of four numbers: a binary search over them.
use Rattle.std.proofs.Common.{ℕ, zero, suc, ◌+◌, ◌*◌, ◌-◌, ◌/◌, ◌≤◌, ◌<◌, arith, ◌≡◌, refl, sym, ap, ◌∙◌, Bool, true, false, true≢false, not, ◌&&◌, List, [], length, take, drop, get_or-drop, drop-drop, leb-true, leb-false, le-leb, ne_eqb}
use lib.Dec.{leb, eqb}
use lib.ListN.{get_or}
use native.Mathlib.Decide.{dec_lt}
use borrow.Author.Tests.{eqb-false, not-true}
use Rattle.rows.specs.Limits.{OFFSET_MAX}
use Rattle.std.specs.Simd.{first_chunks}
use Rattle.std.specs.List.Sorted.{IsPartitionPoint, IsPartitionedBy}
use Rattle.std.proofs.lemmas.List.{get_or-take, length-take-le}
use Rattle.extents_meaning.specs.Runs.{Run, Rising}
use Rattle.extents_meaning.specs.Maps.{runs, lawful}
use Rattle.extents_meaning.proofs.Trips.{lawful-map}
use Rattle.extents_map.specs.Beside.{end_of, run_no, run_before}
use Rattle.extents_map.proofs.Parted.{next-at, before-next, before_last}
use Rattle.extents_map.proofs.Places.{here, count-some}

-- ---- Four numbers

-- the arrays of a slice
abbrev pub quads : List ℕ → List (List ℕ)
quads xs = first_chunks 4 (length xs / 4) xs

-- array i is the four numbers from place 4 * i on
quad_at : (k i : ℕ) (xs : List ℕ) (d : List ℕ) → i < k → get_or (first_chunks 4 k xs) i d ≡ take 4 (drop (4 * i) xs)
quad_at zero i xs d h = absurd (omega arith)
quad_at (suc k) zero xs d h = refl
quad_at (suc k) (suc i) xs d h =
    let e : 4 * suc i ≡ 4 * i + 4 = omega arith in
    quad_at k i (drop 4 xs) d (omega arith) ∙ ap (λ (ys : List ℕ). take 4 ys) (drop-drop (4 * i) 4 xs ∙ ap (λ (j : ℕ). drop j xs) (omega arith))

-- Number j of array i is that at place 4 * i + j.
pub quad_number : (i j : ℕ) (xs : List ℕ) (d : List ℕ) → i < length xs / 4 → j < 4 → get_or (get_or (quads xs) i d) j 0 ≡ get_or xs (4 * i + j) 0
quad_number i j xs d h k =
    ap (λ (ys : List ℕ). get_or ys j 0) (quad_at (length xs / 4) i xs d h) ∙ get_or-take 4 (drop (4 * i) xs) j 0 k ∙ get_or-drop (4 * i) xs j 0

length_quads : (k : ℕ) (xs : List ℕ) → length (first_chunks 4 k xs) ≡ k
length_quads zero xs = refl
length_quads (suc k) xs = ap (λ (j : ℕ). suc j) (length_quads k (drop 4 xs))

-- ---- How many runs there are

-- Four numbers are a run where the second is not 0.
abbrev pub has_length : List ℕ → Bool
has_length run = not (eqb (get_or run 1 0) 0)

module _ (xs : List ℕ) (e : lawful xs ≡ true) where
  -- what the test says of array i
  tests_length : (i : ℕ) (d : List ℕ) → i < length xs / 4 → has_length (get_or (quads xs) i d) ≡ not (eqb (get_or xs (4 * i + 1) 0) 0)
  tests_length i d h = ap (λ (n : ℕ). not (eqb n 0)) (quad_number i 1 xs d h (omega arith))

  -- an array with a length is a run
  length_some : (i : ℕ) (d : List ℕ) → i < length xs / 4 → has_length (get_or (quads xs) i d) ≡ true → i < length (runs xs)
  length_some i d h t =
      let q : i * 4 ≡ 4 * i = omega arith in
      let f = eqb-false (get_or xs (4 * i + 1) 0) 0 (not-true _ (sym (tests_length i d h) ∙ t)) in
      count-some xs e i (rw q f)

  -- a run is an array with a length
  run_has_length : (i : ℕ) (d : List ℕ) → i < length (runs xs) → has_length (get_or (quads xs) i d) ≡ true
  run_has_length i d h =
      let m = lawful-map xs e in
      let f = (here xs i e h).filled in
      tests_length i d (omega (arith, m.fit)) ∙ rw (ne_eqb (get_or xs (4 * i + 1) 0) 0 (λ z. omega (arith, z, f)))

  -- Runs stand before arrays without a length.
  pub lengths_parted : IsPartitionedBy has_length (quads xs)
  lengths_parted i j d h k t =
      let n = length_quads (length xs / 4) xs in
      run_has_length i d (omega (arith, length_some j d (omega arith) t))

  -- The first array without a length stands behind the last run.
  pub runs-end : (r : ℕ) → r ≤ length (quads xs) → IsPartitionPoint (λ run. has_length run ≡ true) (λ run. has_length run ≡ false) (quads xs) r →
      r ≡ length (runs xs)
  runs-end r h p = go (dec_lt (length (runs xs)) r) (dec_lt r (length (runs xs)))
    where
      n : length (quads xs) ≡ length xs / 4
      n = length_quads (length xs / 4) xs

      go : Dec (length (runs xs) < r) → Dec (r < length (runs xs)) → r ≡ length (runs xs)
      go (yes l) q =
          let k = length_some (length (runs xs)) [] (omega (arith, n)) (p.0 (length (runs xs)) [] (omega arith) l) in absurd (omega (arith, k))
      go (no l) (yes q) =
          let m = (lawful-map xs e).fit in
          absurd (true≢false (sym (run_has_length r [] q) ∙ p.1 r [] (omega arith) (omega (arith, n, m, q))))
      go (no l) (no q) = omega arith

-- ---- The first run behind a byte

-- Four numbers are a run that ends at byte x or before.
abbrev pub is_passed : ℕ → List ℕ → Bool
is_passed x run = has_length run && leb (get_or run 0 0 + get_or run 1 0) x

-- both tests pass, so the first does
and-first : (a b : Bool) → a && b ≡ true → a ≡ true
and-first true b e = refl
and-first false b e = e

-- ends rise
ends-rise : (rs : List Run) → Rising OFFSET_MAX 0 0 rs → (i k : ℕ) → i + k < length rs → end_of (run_no rs i) ≤ end_of (run_no rs (i + k))
ends-rise rs g i zero h = let q : i + 0 ≡ i = omega arith in rw q (omega arith)
ends-rise rs g i (suc k) h =
    let q : i + suc k ≡ i + k + 1 = omega arith in
    let n = (next-at rs g (i + k + 1) (omega arith)).0 in
    let b : run_before rs (i + k + 1) ≡ run_no rs (i + k) = before-next rs (i + k) in
    let r = ends-rise rs g i k (omega arith) in
    let s : end_of (run_no rs (i + k)) ≤ (run_no rs (i + k + 1)).start = rw b at n.rising in
    rw q (omega (arith, r, s))

module _ (xs : List ℕ) (e : lawful xs ≡ true) (x : ℕ) where
  -- the end of run i, from its four numbers
  end_there : (i : ℕ) (d : List ℕ) → i < length (runs xs) →
      get_or (get_or (quads xs) i d) 0 0 + get_or (get_or (quads xs) i d) 1 0 ≡ end_of (run_no (runs xs) i)
  end_there i d h =
      let m = (lawful-map xs e).fit in
      let h0 = here xs i e h in
      let z : 4 * i + 0 ≡ 4 * i = omega arith in
      let a = quad_number i 0 xs d (omega arith) (omega arith) in
      let b = quad_number i 1 xs d (omega arith) (omega arith) in
      omega (arith, a, b, ap (λ (j : ℕ). get_or xs j 0) z, h0.end)

  -- what the test says of run i
  passed_there : (i : ℕ) (d : List ℕ) → i < length (runs xs) → is_passed x (get_or (quads xs) i d) ≡ leb (end_of (run_no (runs xs) i)) x
  passed_there i d h = rw (run_has_length xs e i d h) (ap (λ (n : ℕ). leb n x) (end_there i d h))

  -- what passes it is a run
  passed_some : (i : ℕ) (d : List ℕ) → i < length xs / 4 → is_passed x (get_or (quads xs) i d) ≡ true → i < length (runs xs)
  passed_some i d h t = length_some xs e i d h (and-first _ _ t)

  -- Runs that end at the byte or before stand before all else.
  pub passed_parted : IsPartitionedBy (is_passed x) (quads xs)
  passed_parted i j d h k t =
      let n = length_quads (length xs / 4) xs in
      let l = passed_some j d (omega arith) t in
      let g = (lawful-map xs e).lawful-runs.in_order in
      let q : i + (j - i) ≡ j = omega arith in
      let o : end_of (run_no (runs xs) i) ≤ end_of (run_no (runs xs) j) = rw q at (ends-rise (runs xs) g i (j - i) (omega (arith, l))) in
      let p = leb-true _ _ (sym (passed_there j d l) ∙ t) in
      passed_there i d (omega (arith, l)) ∙ le-leb _ x (omega (arith, o, p))

  module _ (r : ℕ) (h : r ≤ length (quads xs))
      (p : IsPartitionPoint (λ run. is_passed x run ≡ true) (λ run. is_passed x run ≡ false) (quads xs) r) where
    -- The first array that does not pass is a run, or the first behind the last run.
    pub past_within : r ≤ length (runs xs)
    past_within = go (dec_lt (length (runs xs)) r)
      where
        go : Dec (length (runs xs) < r) → r ≤ length (runs xs)
        go (yes l) =
            let n = length_quads (length xs / 4) xs in
            let k = passed_some (length (runs xs)) [] (omega (arith, n)) (p.0 (length (runs xs)) [] (omega arith) l) in absurd (omega (arith, k))
        go (no l) = omega arith

    -- The run before the first that ends behind the byte ends at the byte or before.
    pub before-past : end_of (run_before (runs xs) r) ≤ x
    before-past = go (dec_lt 0 r)
      where
        go : Dec (0 < r) → end_of (run_before (runs xs) r) ≤ x
        go (yes l) =
            let w = past_within in
            rw (before_last (runs xs) r l) (leb-true _ x (sym (passed_there (r - 1) [] (omega arith)) ∙ p.0 (r - 1) [] (omega arith) (omega arith)))
        go (no l) = let z : r ≡ 0 = omega arith in rw z (omega arith)

    -- The first run that ends behind the byte does.
    pub at-past : r < length (runs xs) → x < end_of (run_no (runs xs) r)
    at-past l =
        let n = length_quads (length xs / 4) xs in
        let m = (lawful-map xs e).fit in
        leb-false _ x (sym (passed_there r [] l) ∙ p.1 r [] (omega arith) (omega (arith, n, m, l)))

-- ---- The first run behind a byte, among the runs alone

-- Four numbers that end at byte x or before.
abbrev pub is_over : ℕ → List ℕ → Bool
is_over x run = leb (get_or run 0 0 + get_or run 1 0) x

module _ (xs : List ℕ) (e : lawful xs ≡ true) (x n : ℕ) (q : n ≡ length (runs xs)) where
  -- the first arrays, one for each run
  abbrev pub own_quads : List (List ℕ)
  own_quads = take n (quads xs)

  -- there are as many of them
  pub length_own : length own_quads ≡ n
  length_own =
      let m = (lawful-map xs e).fit in
      let k = length_quads (length xs / 4) xs in
      length-take-le n (quads xs) (omega (arith, k, m, q))

  -- what the test says of one of them
  over_there : (i : ℕ) (d : List ℕ) → i < n → is_over x (get_or own_quads i d) ≡ leb (end_of (run_no (runs xs) i)) x
  over_there i d h =
      ap (λ (run : List ℕ). is_over x run) (get_or-take n (quads xs) i d h) ∙ ap (λ (k : ℕ). leb k x) (end_there xs e x i d (omega (arith, q)))

  -- Runs that end at the byte or before stand before the others.
  pub over_parted : IsPartitionedBy (is_over x) own_quads
  over_parted i j d h k t =
      let l : j < n = omega (arith, length_own) in
      let g = (lawful-map xs e).lawful-runs.in_order in
      let s : i + (j - i) ≡ j = omega arith in
      let o : end_of (run_no (runs xs) i) ≤ end_of (run_no (runs xs) j) = rw s at (ends-rise (runs xs) g i (j - i) (omega (arith, l, q))) in
      let p = leb-true _ _ (sym (over_there j d l) ∙ t) in
      over_there i d (omega (arith, l)) ∙ le-leb _ x (omega (arith, o, p))

  module _ (r : ℕ) (h : r ≤ length own_quads)
      (p : IsPartitionPoint (λ run. is_over x run ≡ true) (λ run. is_over x run ≡ false) own_quads r) where
    -- The first that does not pass is one of the runs, or stands behind the last.
    pub over_within : r ≤ n
    over_within = omega (arith, h, length_own)

    -- The run before it ends at the byte or before.
    pub before-over : end_of (run_before (runs xs) r) ≤ x
    before-over = go (dec_lt 0 r)
      where
        go : Dec (0 < r) → end_of (run_before (runs xs) r) ≤ x
        go (yes l) =
            let w = over_within in
            rw (before_last (runs xs) r l) (leb-true _ x (sym (over_there (r - 1) [] (omega arith)) ∙ p.0 (r - 1) [] (omega arith) (omega arith)))
        go (no l) = let z : r ≡ 0 = omega arith in rw z (omega arith)

    -- It ends behind the byte.
    pub at-over : r < n → x < end_of (run_no (runs xs) r)
    at-over l = leb-false _ x (sym (over_there r [] l) ∙ p.1 r [] (omega arith) (omega (arith, length_own, l)))
