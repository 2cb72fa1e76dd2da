-- Rows selected by a test, in trace order, which are an allowed order where the test passes with every row its direct predecessors.
use Rattle.std.proofs.Common.{ℕ, zero, suc, ◌≤◌, ◌<◌, arith, ◌≡◌, refl, sym, ap, ◌∙◌, ◌⊎◌, inl, inr, Bool, true, false, cond, ◌||◌, List, [], ◌∷◌}
use native.Mathlib.Decide.{dec_lt}
use mathlib.Core.Bool.{false≢true}
use Rattle.rows.proofs.Bools.{or_out, or_right}
use Rattle.rows.specs.Lists.{In}
use Rattle.consistency.proofs.Core.{Trace, plain, Ok, none, next}

-- A row before a list, where a test of the row passed.
abbrev pub keep : Bool → ℕ → List ℕ → List ℕ
keep true k l = k ∷ l
keep false k l = l

-- The numbers below n that pass, the largest first.
unfoldable pub select : (ℕ → Bool) → ℕ → List ℕ
select test zero = []
select test (suc n) = keep (test n) n (select test n)

module _ (test : ℕ → Bool) where
  -- A number below n that passes is selected.
  pub select_in : (n k : ℕ) → k < n → test k ≡ true → In k (select test n)
  unfolding select
  select_in zero k l e = absurd (omega arith)
  select_in (suc n) k l e = go (test n) refl (dec_lt k n) (select_in n k)
    where
      go : (b : Bool) → test n ≡ b → Dec (k < n) → (k < n → test k ≡ true → In k (select test n)) → In k (keep b n (select test n))
      go true q (yes a) rest = inr (rest a e)
      go true q (no a) rest = inl (omega arith)
      go false q (yes a) rest = rest a e
      go false q (no a) rest = let s : n ≡ k = omega arith in absurd (false≢true (sym q ∙ (ap test s ∙ e)))

  -- A selected number is below n and passes.
  pub select-out : (n k : ℕ) → In k (select test n) → (k < n) × (test k ≡ true)
  unfolding select
  select-out zero k m = absurd m
  select-out (suc n) k m = go (test n) refl m (select-out n k)
    where
      wider : (k < n) × (test k ≡ true) → (k < suc n) × (test k ≡ true)
      wider r = (omega arith, r.1)

      go : (b : Bool) → test n ≡ b → In k (keep b n (select test n)) → (In k (select test n) → (k < n) × (test k ≡ true)) →
          (k < suc n) × (test k ≡ true)
      go true q (inl s) rest = (omega arith, ap test s ∙ q)
      go true q (inr m) rest = wider (rest m)
      go false q m rest = wider (rest m)

  -- The largest number that passes is the first.
  pub select-top : (y n : ℕ) → y < n → test y ≡ true → ((k : ℕ) → test k ≡ true → k ≤ y) → select test n ≡ y ∷ select test y
  unfolding select
  select-top y zero l e most = absurd (omega arith)
  select-top y (suc n) l e most = go (test n) refl (dec_lt y n) (select-top y n)
    where
      go : (b : Bool) → test n ≡ b → Dec (y < n) →
          (y < n → test y ≡ true → ((k : ℕ) → test k ≡ true → k ≤ y) → select test n ≡ y ∷ select test y) →
          keep b n (select test n) ≡ y ∷ select test y
      go true q (yes a) rest = let m = most n q in absurd (omega arith)
      go true q (no a) rest = let s : n ≡ y = omega arith in rw s
      go false q (yes a) rest = rest a e most
      go false q (no a) rest = let s : n ≡ y = omega arith in absurd (false≢true (sym q ∙ (ap test s ∙ e)))

module _ (t : Trace) where
  -- With every row that passes its direct predecessors pass.
  abbrev pub Closed : (ℕ → Bool) → Type 0
  Closed test = (i j : ℕ) → t.edge i j ≡ true → test j ≡ true → test i ≡ true

  -- Where two tests are closed, passing one of the two is.
  pub closed-or : (f g : ℕ → Bool) → Closed f → Closed g → Closed (λ k. f k || g k)
  closed-or f g c d i j a e = go (or_out (f j) (g j) e)
    where
      go : (f j ≡ true) ⊎ (g j ≡ true) → f i || g i ≡ true
      go (inl b) = rw (c i j a b)
      go (inr b) = or_right (f i) (g i) (d i j a b)

  module _ (test : ℕ → Bool) where
    -- The bound is not selected.
    select-new : (n : ℕ) → In n (select test n) → ⊥
    select-new n m = let r = select-out test n n m in omega arith

    -- The rows that a closed test selects are an allowed order.
    pub select-ok : Closed test → (n : ℕ) → n ≤ t.rows → Ok t (select test n)
    unfolding select
    select-ok c zero l = none
    select-ok c (suc n) l = go (test n) refl (select-ok c n (omega arith))
      where
        go : (b : Bool) → test n ≡ b → Ok t (select test n) → Ok t (keep b n (select test n))
        go true q o = next l (select-new n) (λ k a. select_in test n k (t.forward k n a) (c k n a q)) o
        go false q o = o

    -- What the plain byte says of the selected rows: none writes, or which one is the last that does.
    abbrev pub Latest : ℕ → ℕ → Type 0
    Latest n zero = (k : ℕ) → k < n → test k ≡ true → t.writes k ≡ true → ⊥
    Latest n (suc w) = (w < n) × (test w ≡ true) × (t.writes w ≡ true) × ((k : ℕ) → k < n → test k ≡ true → t.writes k ≡ true → k ≤ w)

    -- One more row, which is not selected or does not write, leaves the last write.
    latest-more : (n v : ℕ) → (test n ≡ true → t.writes n ≡ true → ⊥) → Latest n v → Latest (suc n) v
    latest-more n v f r = go v r
      where
        under : (k : ℕ) → k < suc n → test k ≡ true → t.writes k ≡ true → k < n
        under k l e a = split (dec_lt k n)
          where
            split : Dec (k < n) → k < n
            split (yes b) = b
            split (no b) = let s : n ≡ k = omega arith in absurd (f (ap test s ∙ e) (ap t.writes s ∙ a))

        go : (v : ℕ) → Latest n v → Latest (suc n) v
        go zero r = λ k l e a. r k (under k l e a) e a
        go (suc w) r = (omega arith, r.1, r.2, λ k l e a. r.3 k (under k l e a) e a)

    -- The plain byte says which selected row is the last that writes.
    pub plain-latest : (n : ℕ) → Latest n (plain t (select test n))
    unfolding select plain
    plain-latest zero = λ k l e a. omega arith
    plain-latest (suc n) = go (test n) refl (plain-latest n)
      where
        go : (b : Bool) → test n ≡ b → Latest n (plain t (select test n)) → Latest (suc n) (plain t (keep b n (select test n)))
        go false q r = latest-more n (plain t (select test n)) (λ e a. false≢true (sym q ∙ e)) r
        go true q r = wrote (t.writes n) refl
          where
            wrote : (b : Bool) → t.writes n ≡ b → Latest (suc n) (cond b (suc n) (plain t (select test n)))
            wrote true a = (omega arith, q, a, λ k l e a. omega arith)
            wrote false a = latest-more n (plain t (select test n)) (λ e b. false≢true (sym a ∙ b)) r
