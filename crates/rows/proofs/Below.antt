-- Tests on the numbers below a bound: whether one of them passes, which is the last, and how many.
use Rattle.std.proofs.Common.{ℕ, zero, suc, ◌+◌, max, ◌≤◌, ◌<◌, arith, ◌≡◌, refl, sym, ap, ◌∙◌, ◌↔◌, ◌⊎◌, inl, inr, Bool, true, false, cond, not, ◌&&◌, ◌||◌, eq-eqb, ne_eqb}
use native.Mathlib.Decide.{dec_lt}
use mathlib.Core.Bool.{false≢true, and-true, and-false}
use lib.Dec.{eqb}
use Rattle.rows.specs.Counting.{any_below, last_below, count_below}
use Rattle.rows.proofs.Bools.{and_out, or_out, or_right, not_passed}

-- ---- Whether one passes

-- A number that passes below n is some number that passes.
pub any-in : (n : ℕ) (test : ℕ → Bool) (k : ℕ) → k < n → test k ≡ true → any_below n test ≡ true
unfolding any_below
any-in zero test k h e = absurd (omega arith)
any-in (suc n) test k h e = go (dec_lt k n) (any-in n test k)
  where
    go : Dec (k < n) → (k < n → test k ≡ true → any_below n test ≡ true) → any_below n test || test n ≡ true
    go (yes l) rest = rw (rest l e)
    go (no l) rest = let q : n ≡ k = omega arith in or_right (any_below n test) (test n) (ap test q ∙ e)

-- Where some number passes, here is one.
pub any_out : (n : ℕ) (test : ℕ → Bool) → any_below n test ≡ true → (k : ℕ) × (k < n) × (test k ≡ true)
unfolding any_below
any_out zero test e = absurd (false≢true e)
any_out (suc n) test e = go (or_out (any_below n test) (test n) e) (any_out n test)
  where
    go : (any_below n test ≡ true) ⊎ (test n ≡ true) → (any_below n test ≡ true → (k : ℕ) × (k < n) × (test k ≡ true)) →
        (k : ℕ) × (k < suc n) × (test k ≡ true)
    go (inl a) rest = let r = rest a in (r.0, omega arith, r.2)
    go (inr t) rest = (n, omega arith, t)

-- A test that fails at no number below n passes at each.
pub each-passes : (n : ℕ) (test : ℕ → Bool) → any_below n (λ k. not (test k)) ≡ false → (k : ℕ) → k < n → test k ≡ true
each-passes n test e k h = go (test k) refl
  where
    go : (b : Bool) → test k ≡ b → b ≡ true
    go true q = refl
    go false q = absurd (false≢true (sym e ∙ any-in n (λ k. not (test k)) k h (ap not q)))

-- ---- The last that passes

-- The last number that passes, plus one, is at most the bound.
pub last-most : (n : ℕ) (test : ℕ → Bool) → last_below n test ≤ n
unfolding last_below
last-most zero test = omega arith
last-most (suc n) test = go (test n) (last-most n test)
  where
    go : (b : Bool) → last_below n test ≤ n → cond b (suc n) (last_below n test) ≤ suc n
    go true h = omega arith
    go false h = omega arith

-- The last number that passes is found again below itself, plus one.
pub last-again : (n : ℕ) (test : ℕ → Bool) → last_below (last_below n test) test ≡ last_below n test
unfolding last_below
last-again zero test = refl
last-again (suc n) test = go (test n) refl (last-again n test)
  where
    go : (b : Bool) → test n ≡ b → last_below (last_below n test) test ≡ last_below n test →
        last_below (cond b (suc n) (last_below n test)) test ≡ cond b (suc n) (last_below n test)
    go true e rest = rw e
    go false e rest = rest

-- A number that is found below itself, plus one, passes.
pub last-passes : (k : ℕ) (test : ℕ → Bool) → last_below (suc k) test ≡ suc k → test k ≡ true
unfolding last_below
last-passes k test e = go (test k) e
  where
    go : (b : Bool) → cond b (suc k) (last_below k test) ≡ suc k → b ≡ true
    go true h = refl
    go false h = absurd (omega (arith, last-most k test))

-- ---- How many pass

-- Equal tests have equal counts.
pub count_same : (n : ℕ) (f g : ℕ → Bool) → ((i : ℕ) → i < n → f i ≡ g i) → count_below n f ≡ count_below n g
unfolding count_below
count_same zero f g h = refl
count_same (suc n) f g h = rw (count_same n f g (λ i l. h i (omega arith)), h n (omega arith))

-- One more number keeps the order of two counts, if the second test is weaker.
step : {a b : ℕ} → a ≤ b → (x y : Bool) → (x ≡ true → y ≡ true) → a + cond x 1 0 ≤ b + cond y 1 0
step h true true f = omega arith
step h true false f = absurd (false≢true (f refl))
step h false true f = omega arith
step h false false f = omega arith

-- A weaker test has at least the count.
pub count_less : (n : ℕ) (f g : ℕ → Bool) → ((i : ℕ) → i < n → f i ≡ true → g i ≡ true) → count_below n f ≤ count_below n g
unfolding count_below
count_less zero f g h = omega arith
count_less (suc n) f g h = step (count_less n f g (λ i l. h i (omega arith))) (f n) (g n) (h n (omega arith))

-- A weaker test that passes at one number more has a larger count.
pub count-fewer : (n : ℕ) (f g : ℕ → Bool) → ((i : ℕ) → i < n → f i ≡ true → g i ≡ true) → (k : ℕ) → k < n → f k ≡ false → g k ≡ true →
    count_below n f < count_below n g
unfolding count_below
count-fewer zero f g h k l e d = absurd (omega arith)
count-fewer (suc n) f g h k l e d = go (dec_lt k n) (count-fewer n f g (λ i b. h i (omega arith)) k)
  where
    go : Dec (k < n) → (k < n → f k ≡ false → g k ≡ true → count_below n f < count_below n g) → count_below n f + cond (f n) 1 0 < count_below n g + cond (g n) 1 0
    go (yes b) rest = let more = step (rest b e d) (f n) (g n) (h n (omega arith)) in omega arith
    go (no b) rest =
        let q : n ≡ k = omega arith in
        let w = count_less n f g (λ i b. h i (omega arith)) in
        rw (ap f q ∙ e, ap g q ∙ d) (omega arith)

-- A count is at most the bound.
pub count-below : (n : ℕ) (f : ℕ → Bool) → count_below n f ≤ n
unfolding count_below
count-below zero f = omega arith
count-below (suc n) f = go (f n) (count-below n f)
  where
    go : (x : Bool) → count_below n f ≤ n → count_below n f + cond x 1 0 ≤ suc n
    go true h = omega arith
    go false h = omega arith

-- A larger bound has at least the count.
pub count-up : (m n : ℕ) (f : ℕ → Bool) → m ≤ n → count_below m f ≤ count_below n f
unfolding count_below
count-up m zero f h = let q : m ≡ 0 = omega arith in rw q (omega arith)
count-up m (suc n) f h = go (dec_lt n m) (count-up m n f)
  where
    go : Dec (n < m) → (m ≤ n → count_below m f ≤ count_below n f) → count_below m f ≤ count_below n f + cond (f n) 1 0
    go (yes l) rest = let q : m ≡ suc n = omega arith in rw q (omega arith)
    go (no l) rest = omega (arith, rest (omega arith))

-- Numbers that fail from k on do not count.
pub count_cut : (k n : ℕ) (f : ℕ → Bool) → k ≤ n → ((i : ℕ) → k ≤ i → i < n → f i ≡ false) → count_below n f ≡ count_below k f
unfolding count_below
count_cut k zero f h out = let q : k ≡ 0 = omega arith in rw q
count_cut k (suc n) f h out = go (dec_lt n k) (count_cut k n f)
  where
    go : Dec (n < k) → (k ≤ n → ((i : ℕ) → k ≤ i → i < n → f i ≡ false) → count_below n f ≡ count_below k f) →
        count_below n f + cond (f n) 1 0 ≡ count_below k f
    go (yes l) rest = let q : k ≡ suc n = omega arith in rw q
    go (no l) rest =
        let at : k ≤ n = omega arith in
        let r = rest at (λ i a b. out i a (omega arith)) in
        rw (out n at (omega arith)) (omega arith)

-- One number j that passes beside others counts once.
pub count-own : (n j : ℕ) (is_p f : ℕ → Bool) → j < n → f j ≡ false →
    count_below n (λ i. is_p i && (eqb i j || f i)) ≡ count_below n (λ i. is_p i && f i) + cond (is_p j) 1 0
unfolding count_below
count-own zero j is_p f h e = absurd (omega arith)
count-own (suc n) j is_p f h e = go (dec_lt j n) (count-own n j is_p f)
  where
    go : Dec (j < n) →
        (j < n → f j ≡ false → count_below n (λ i. is_p i && (eqb i j || f i)) ≡ count_below n (λ i. is_p i && f i) + cond (is_p j) 1 0) →
        count_below n (λ i. is_p i && (eqb i j || f i)) + cond (is_p n && (eqb n j || f n)) 1 0
        ≡ count_below n (λ i. is_p i && f i) + cond (is_p n && f n) 1 0 + cond (is_p j) 1 0
    go (yes l) rest = let r = rest l e in rw (ne_eqb n j (omega arith)) (omega arith)
    go (no l) rest =
        let q : n ≡ j = omega arith in
        let r = count_same n (λ i. is_p i && (eqb i j || f i)) (λ i. is_p i && f i) (λ i b. rw (ne_eqb i j (omega arith))) in
        rw (r, eq-eqb n j q, q, e, and-true, and-false) (omega arith)

-- ---- Tests that are closed downward among the numbers of one kind

-- Where a number of the kind passes, every smaller number of the kind passes.
abbrev pub Closed : ℕ → (ℕ → Bool) → (ℕ → Bool) → Type 0
Closed n is_p f = (i k : ℕ) → i < k → k < n → is_p i ≡ true → is_p k ≡ true → f k ≡ true → f i ≡ true

-- Where number n passes a closed test, no other test has a larger count below n.
closed-most : (n : ℕ) (is_p f g : ℕ → Bool) → Closed (suc n) is_p f → is_p n ≡ true → f n ≡ true →
    count_below n (λ i. is_p i && g i) ≤ count_below n (λ i. is_p i && f i)
closed-most n is_p f g c p t = count_less n _ _ (λ i l e. let a = and_out (is_p i) (g i) e in rw a.0 (c i n l (omega arith) a.0 p t))

-- The count of a union of two closed tests is the larger of their counts.
pub count-union : (n : ℕ) (is_p f g : ℕ → Bool) → Closed n is_p f → Closed n is_p g →
    count_below n (λ i. is_p i && (f i || g i)) ≡ max (count_below n (λ i. is_p i && f i)) (count_below n (λ i. is_p i && g i))
unfolding count_below
count-union zero is_p f g c d = omega arith
count-union (suc n) is_p f g c d =
    go (is_p n) (f n) (g n) refl refl refl
    (count-union n is_p f g (λ i k l b. c i k l (omega arith)) (λ i k l b. d i k l (omega arith)))
  where
    F : ℕ
    F = count_below n (λ i. is_p i && f i)

    G : ℕ
    G = count_below n (λ i. is_p i && g i)

    go : (x y z : Bool) → is_p n ≡ x → f n ≡ y → g n ≡ z → count_below n (λ i. is_p i && (f i || g i)) ≡ max F G →
        count_below n (λ i. is_p i && (f i || g i)) + cond (x && (y || z)) 1 0 ≡ max (F + cond (x && y) 1 0) (G + cond (x && z) 1 0)
    go false y z p t u h = omega arith
    go true true true p t u h = omega arith
    go true true false p t u h = let m = closed-most n is_p f g c p t in omega arith
    go true false true p t u h = let m = closed-most n is_p g f d p u in omega arith
    go true false false p t u h = omega arith

-- Where a number of the kind passes a closed test, so does every number of the kind up to that one.
closed_at : (n : ℕ) (is_p f : ℕ → Bool) → Closed n is_p f → (i k : ℕ) → i ≤ k → k < n → is_p i ≡ true → is_p k ≡ true → f k ≡ true → f i ≡ true
closed_at n is_p f c i k l h p q e = go (dec_lt i k)
  where
    go : Dec (i < k) → f i ≡ true
    go (yes b) = c i k b h p q e
    go (no b) = let s : i ≡ k = omega arith in ap f s ∙ e

-- A number k of the kind passes exactly when there are at least as many that pass as there are of the kind up to k.
pub closed-place : (n k : ℕ) (is_p f : ℕ → Bool) → Closed n is_p f → k < n → is_p k ≡ true →
    (f k ≡ true) ↔ (count_below (suc k) is_p ≤ count_below n (λ i. is_p i && f i))
unfolding count_below
closed-place n k is_p f c h p = (there, λ m. back (f k) refl m)
  where
    there : f k ≡ true → count_below (suc k) is_p ≤ count_below n (λ i. is_p i && f i)
    there e =
        let a = count_less (suc k) is_p (λ i. is_p i && f i) (λ i l q. rw q (closed_at n is_p f c i k (omega arith) h q p e)) in
        let b = count-up (suc k) n (λ i. is_p i && f i) h in
        omega arith

    out : f k ≡ false → (i : ℕ) → k ≤ i → i < n → is_p i && f i ≡ false
    out e i l b =
        not_passed (is_p i && f i)
        (λ q. let r = and_out (is_p i) (f i) q in false≢true (sym e ∙ closed_at n is_p f c k i l b p r.0 r.1))

    back : (b : Bool) → f k ≡ b → count_below k is_p + cond (is_p k) 1 0 ≤ count_below n (λ i. is_p i && f i) → b ≡ true
    back true e m = refl
    back false e m =
        let a = count_cut k n (λ i. is_p i && f i) (omega arith) (out e) in
        let b = count_less k (λ i. is_p i && f i) is_p (λ i l q. (and_out (is_p i) (f i) q).0) in
        let m' = rw p at m in
        absurd (omega arith)
