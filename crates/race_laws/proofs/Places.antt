-- Numbers in a list that has each of them once: where each stands, and how many they are.
use Rattle.std.proofs.Common.{ℕ, zero, suc, ◌≤◌, ◌<◌, arith, ◌≡◌, refl, sym, ap, ◌∙◌, ◌⊎◌, inl, inr, Bool, true, false, cond, ◌||◌, List, [], ◌∷◌, map, length, eq-eqb, ne_eqb, eqb-true}
use native.Mathlib.Decide.{ℕ_discrete}
use mathlib.Core.Bool.{false≢true}
use lib.ListN.{get_or}
use lib.Dec.{eqb}
use Rattle.rows.specs.declared.row.Row.{Row}
use Rattle.rows.specs.Rows.{row_at}
use Rattle.rows.specs.Lists.{In, Once}
use Rattle.rows.specs.Counting.{count_below}
use Rattle.rows.proofs.Bools.{or_out, or_right, not_passed}
use Rattle.rows.proofs.Below.{count_same, count-below, count_cut, count-own}
use Rattle.consistency.specs.Orders.{Stands}
use Rattle.race_laws.specs.Reordered.{place_in}

-- ---- Where a number stands

-- A number of a list stands at its place.
pub place-in : (l : List ℕ) (k : ℕ) → In k l → (place_in l k < length l) × (get_or l (place_in l k) 0 ≡ k)
unfolding place_in
place-in [] k m = absurd m
place-in (c ∷ l) k m = go (ℕ_discrete c k) m (place-in l k)
  where
    go : Dec (c ≡ k) → In k (c ∷ l) → (In k l → (place_in l k < length l) × (get_or l (place_in l k) 0 ≡ k)) →
        (cond (eqb c k) 0 (suc (place_in l k)) < suc (length l)) × (get_or (c ∷ l) (cond (eqb c k) 0 (suc (place_in l k))) 0 ≡ k)
    go (yes e) m ih = rw (eq-eqb c k e) (omega arith, e)
    go (no n) (inl e) ih = absurd (n (sym e))
    go (no n) (inr i) ih = let r = ih i in rw (ne_eqb c k n) (omega (arith, r.0), r.1)

-- What stands at a place is in the list.
pub at_in : (l : List ℕ) (a : ℕ) → a < length l → In (get_or l a 0) l
at_in [] a h = absurd (omega arith)
at_in (c ∷ l) zero h = inl refl
at_in (c ∷ l) (suc a) h = inr (at_in l a (omega arith))

-- Two numbers of which only the second is in a list are not equal.
other : (l : List ℕ) (c k : ℕ) → (In c l → ⊥) → In k l → c ≡ k → ⊥
other l c k n m e = n (rw e m)

-- The place of what stands at a place is that place.
pub at_place : (l : List ℕ) (a : ℕ) → Once l → a < length l → place_in l (get_or l a 0) ≡ a
unfolding place_in
at_place [] a o h = absurd (omega arith)
at_place (c ∷ l) zero o h = rw (eq-eqb c c refl)
at_place (c ∷ l) (suc a) o h =
    rw (ne_eqb c (get_or l a 0) (other l c (get_or l a 0) o.0 (at_in l a (omega arith)))) (ap suc (at_place l a o.1 (omega arith)))

-- Two numbers of which one stands before the other are in the list.
stands-both : (a b : ℕ) (l : List ℕ) → Stands a b l → In a l × In b l
stands-both a b [] s = absurd s
stands-both a b (c ∷ l) (inl s) = (inl s.0, inr s.1)
stands-both a b (c ∷ l) (inr s) = let r = stands-both a b l s in (inr r.0, inr r.1)

-- A number that stands before another has the lower place.
pub stands-less : (a b : ℕ) (l : List ℕ) → Once l → Stands a b l → place_in l a < place_in l b
unfolding place_in
stands-less a b [] o s = absurd s
stands-less a b (c ∷ l) o (inl (e, m)) = rw (eq-eqb c a (sym e), ne_eqb c b (other l c b o.0 m)) (omega arith)
stands-less a b (c ∷ l) o (inr s) =
    let r = stands-both a b l s in
    rw (ne_eqb c a (other l c a o.0 r.0), ne_eqb c b (other l c b o.0 r.1)) (omega (arith, stands-less a b l o.1 s))

-- The row at a place of a list of rows' places.
pub row_listed : (rows : List Row) (l : List ℕ) (a : ℕ) → a < length l → row_at (map (row_at rows) l) a ≡ row_at rows (get_or l a 0)
row_listed rows [] a h = absurd (omega arith)
row_listed rows (c ∷ l) zero h = refl
row_listed rows (c ∷ l) (suc a) h = row_listed rows l a (omega arith)

-- ---- How many numbers there are

-- Whether a number is in a list.
holds : List ℕ → ℕ → Bool
holds [] k = false
holds (c ∷ l) k = eqb k c || holds l k

-- A number that passes is in the list.
holds-out : (l : List ℕ) (k : ℕ) → holds l k ≡ true → In k l
unfolding holds
holds-out [] k e = absurd (false≢true e)
holds-out (c ∷ l) k e = go (or_out (eqb k c) (holds l k) e) (holds-out l k)
  where
    go : (eqb k c ≡ true) ⊎ (holds l k ≡ true) → (holds l k ≡ true → In k l) → In k (c ∷ l)
    go (inl q) ih = inl (eqb-true k c q)
    go (inr q) ih = inr (ih q)

-- A number of the list passes.
holds-in : (l : List ℕ) (k : ℕ) → In k l → holds l k ≡ true
unfolding holds
holds-in [] k m = absurd m
holds-in (c ∷ l) k (inl q) = rw (eq-eqb k c q)
holds-in (c ∷ l) k (inr m) = or_right (eqb k c) (holds l k) (holds-in l k m)

-- The numbers of a list that has each once are as many as its length.
once-many : (n : ℕ) (l : List ℕ) → Once l → ((k : ℕ) → In k l → k < n) → count_below n (holds l) ≡ length l
unfolding holds count_below
once-many n [] o b = count_cut 0 n (holds []) (omega arith) (λ i x y. refl)
once-many n (c ∷ l) o b =
    let f = not_passed (holds l c) (λ e. o.0 (holds-out l c e)) in
    let r = once-many n l o.1 (λ k m. b k (inr m)) in
    omega (arith, count-own n c (λ k. true) (holds l) (b c (inl refl)) f)

-- All numbers below a bound are as many as it says.
every-many : (n : ℕ) → count_below n (λ k. true) ≡ n
unfolding count_below
every-many zero = refl
every-many (suc n) = omega (arith, every-many n)

-- A list that has each number below n once, and no other, has n.
pub whole-many : (n : ℕ) (l : List ℕ) → Once l → ((k : ℕ) → In k l → k < n) → ((k : ℕ) → k < n → In k l) → length l ≡ n
whole-many n l o b a = sym (once-many n l o b) ∙ count_same n (holds l) (λ k. true) (λ k h. holds-in l k (a k h)) ∙ every-many n

-- Where each number below m leads to a number below n, and no two lead to one, m is at most n.
pub leads-few : (m n : ℕ) (Leads : ℕ → ℕ → Type 0) → ((k : ℕ) → k < m → (i : ℕ) × (i < n) × Leads k i) →
    ((k l i : ℕ) → k < m → l < m → Leads k i → Leads l i → k ≡ l) → m ≤ n
leads-few m n Leads f one =
    let (l, many, o, b) = reached m (omega arith) in
    omega (arith, many, once-many n l o (λ i h. (b i h).0), count-below n (holds l))
  where
    -- A number below n to which one of the numbers below c leads.
    Reached : ℕ → ℕ → Type 0
    Reached c i = (i < n) × ((k : ℕ) × (k < c) × Leads k i)

    -- The numbers to which those below c lead, each once.
    reached : (c : ℕ) → c ≤ m → (l : List ℕ) × (length l ≡ c) × Once l × ((i : ℕ) → In i l → Reached c i)
    reached zero h = ([], refl, tt, λ i a. absurd a)
    reached (suc c) h =
        let (l, many, o, b) = reached c (omega arith) in
        let (i, low, e) = f c (omega arith) in
        (i ∷ l, ap suc many, (λ a. apart i e (b i a).1, o), in_one l b i low e)
      where
        -- No number below c leads to the number to which c leads.
        apart : (i : ℕ) → Leads c i → ((k : ℕ) × (k < c) × Leads k i) → ⊥
        apart i e (k, d, g) = let q = one k c i (omega arith) (omega arith) g e in omega arith

        -- Each of the numbers, with that of c in front, is reached from below c + 1.
        in_one : (l : List ℕ) → ((i : ℕ) → In i l → Reached c i) → (i : ℕ) → i < n → Leads c i → (j : ℕ) → In j (i ∷ l) → Reached (suc c) j
        in_one l b i low e j (inl q) = rw q (low, (c, omega arith, e))
        in_one l b i low e j (inr a) = let (d, t) = b j a in (d, (t.0, omega (arith, t.1), t.2))
