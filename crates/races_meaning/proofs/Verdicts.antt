-- The verdict is the first race, and overlap is a shared byte.
use Rattle.std.proofs.Common.{ℕ, zero, suc, ◌+◌, ◌≤◌, ◌<◌, arith, ◌≡◌, refl, sym, ap, ◌∙◌, ◌↔◌, Bool, true, false, cond, List, length, ltb-true, eqb-true}
use native.Mathlib.Decide.{dec_lt}
use mathlib.Core.Bool.{false≢true}
use lib.Dec.{ltb, eqb}
use borrow.Author.Tests.{eqb-false}
use Rattle.rows.specs.declared.row.Row.{Row}
use Rattle.rows.specs.Counting.{any_below, least_from}
use Rattle.rows.proofs.Bools.{and_out}
use Rattle.rows.proofs.Below.{any-in, any_out}
use Rattle.ranges.proofs.Overlaps.{shared-iff}
use Rattle.races_meaning.specs.Races.{share_byte, race, Verdict, free, racing, verdict_of}

-- Two ranges overlap exactly where some byte lies in both.
pub share_iff : (r s : Row) →
    (share_byte r s ≡ true) ↔ ((b : ℕ) × (r.offset ≤ b) × (b < r.offset + r.length) × (s.offset ≤ b) × (b < s.offset + s.length))
unfolding share_byte
share_iff r s = (
  λ e. let (b, h, k) = (shared-iff r.offset r.length s.offset s.length).0 e in (b, h.0, h.1, k.0, k.1),
  λ (b, h, i, j, k). (shared-iff r.offset r.length s.offset s.length).1 (b, (h, i), (j, k)),
)

-- ---- The least that passes

-- The number l is the smallest of the n numbers from s on that pass, or s + n where none does.
pub record Least (n s : ℕ) (test : ℕ → Bool) (l : ℕ) : Type 0 where
  pub low : s ≤ l
  pub high : l ≤ s + n
  pub passes : l < s + n → test l ≡ true
  pub least : (k : ℕ) → s ≤ k → test k ≡ true → k < l → ⊥

-- `least_from` finds the smallest number that passes.
pub least-is : (n s : ℕ) (test : ℕ → Bool) → Least n s test (least_from n s test)
unfolding least_from
least-is zero s test = record { low = omega arith; high = omega arith; passes = λ h. absurd (omega arith); least = λ k a e b. omega arith }
least-is (suc n) s test = go (test s) refl (least-is n (suc s) test)
  where
    go : (b : Bool) → test s ≡ b → Least n (suc s) test (least_from n (suc s) test) → Least (suc n) s test (cond b s (least_from n (suc s) test))
    go true e r = record { low = omega arith; high = omega arith; passes = λ h. e; least = λ k a p b. omega arith }
    go false e r =
        record {
          low = omega (arith, r.low);
          high = omega (arith, r.high);
          passes = λ h. r.passes (omega arith);
          least = λ k a p b. rest k a p b (dec_lt s k);
        }
      where
        rest : (k : ℕ) → s ≤ k → test k ≡ true → k < least_from n (suc s) test → Dec (s < k) → ⊥
        rest k a p b (yes l) = r.least k (omega arith) p b
        rest k a p b (no l) = let q : s ≡ k = omega arith in false≢true (sym e ∙ ap test q ∙ p)

-- ---- The verdict

-- A race leads forward, into the trace.
pub race_out : (rows : List Row) (model x y : ℕ) → race rows model x y ≡ true → (x < y) × (y < length rows)
unfolding race
race_out rows model x y e =
    let a = and_out (ltb x y) _ e in
    let b = and_out (ltb y (length rows)) _ a.1 in
    (ltb-true _ _ a.0, ltb-true _ _ b.0)

-- The first race: no race has a smaller later row, and none with this later row a smaller earlier row.
pub record First (rows : List Row) (model x y : ℕ) : Type 0 where
  pub is_race : race rows model x y ≡ true
  pub least-later : (x' y' : ℕ) → race rows model x' y' ≡ true → y ≤ y'
  pub least-earlier : (x' : ℕ) → race rows model x' y ≡ true → x ≤ x'

-- What the verdict says, with the reason.
data Told (rows : List Row) (model : ℕ) : Verdict → Type 0 where
  none : ((x y : ℕ) → race rows model x y ≡ true → ⊥) → Told rows model free
  some : (x y : ℕ) → First rows model x y → Told rows model (racing (x + 1) (y + 1))

-- The verdict is free or names a race, with the reason.
told : (rows : List Row) (model : ℕ) → Told rows model (verdict_of rows model)
unfolding verdict_of
told rows model = go (eqb later n) refl
  where
    n : ℕ
    n = length rows

    test : ℕ → Bool
    test y = any_below y (λ x. race rows model x y)

    later : ℕ
    later = least_from n 0 test

    earlier : ℕ
    earlier = least_from later 0 (λ x. race rows model x later)

    l : Least n 0 test later
    l = least-is n 0 test

    m : Least later 0 (λ x. race rows model x later) earlier
    m = least-is later 0 (λ x. race rows model x later)

    below : (x y : ℕ) → race rows model x y ≡ true → y < later → ⊥
    below x y e h = l.least y (omega arith) (any-in y (λ x. race rows model x y) x (race_out rows model x y e).0 e) h

    under : (x : ℕ) → race rows model x later ≡ true → x < earlier → ⊥
    under x e h = m.least x (omega arith) e h

    is : later < n → race rows model earlier later ≡ true
    is h =
        let a = any_out later (λ x. race rows model x later) (l.passes (omega arith)) in
        let u : a.0 < earlier → ⊥ = under a.0 a.2 in
        let b = a.1 in
        m.passes (omega arith)

    go : (b : Bool) → eqb later n ≡ b → Told rows model (cond b free (racing (earlier + 1) (later + 1)))
    go true e = none (λ x y r. let q = eqb-true later n e in let o = race_out rows model x y r in below x y r (omega arith))
    go false e =
        let q = eqb-false later n e in
        let h = l.high in
        some earlier later
        (record {
          is_race = is (omega arith);
          least-later = λ x y r. omega (arith, below x y r);
          least-earlier = λ x r. omega (arith, under x r);
        })

-- The verdict is free exactly where there is no race.
pub free-iff : (rows : List Row) (model : ℕ) → (verdict_of rows model ≡ free) ↔ ((x y : ℕ) → race rows model x y ≡ true → ⊥)
free-iff rows model = go (verdict_of rows model) (told rows model)
  where
    go : (v : Verdict) → Told rows model v → (v ≡ free) ↔ ((x y : ℕ) → race rows model x y ≡ true → ⊥)
    go free (none f) = (λ e. f, λ g. refl)
    go (racing _ _) (some x y f) = (λ e. let z : ◌≡◌ {A = ℕ} 0 1 = cc in absurd (omega arith), λ g. absurd (g x y f.is_race))

-- The verdict names a pair exactly where that pair is the first race. Row numbers are indices plus one.
pub racing-iff : (rows : List Row) (model earlier later : ℕ) →
    (verdict_of rows model ≡ racing earlier later) ↔ ((x : ℕ) × (y : ℕ) × (earlier ≡ x + 1) × (later ≡ y + 1) × First rows model x y)
racing-iff rows model earlier later = go (verdict_of rows model) (told rows model)
  where
    go : (v : Verdict) → Told rows model v →
        (v ≡ racing earlier later) ↔ ((x : ℕ) × (y : ℕ) × (earlier ≡ x + 1) × (later ≡ y + 1) × First rows model x y)
    go free (none f) = (λ e. let z : ◌≡◌ {A = ℕ} 0 1 = cc in absurd (omega arith), λ (x, y, p, q, g). absurd (f x y g.is_race))
    go (racing _ _) (some x y f) = (λ e. (x, y, cc, cc, f), λ (x', y', p, q, g). same x' y' p q g)
      where
        same : (x' y' : ℕ) → earlier ≡ x' + 1 → later ≡ y' + 1 → First rows model x' y' → racing (x + 1) (y + 1) ≡ racing earlier later
        same x' y' p q g =
            let a = f.least-later x' y' g.is_race in
            let b = g.least-later x y f.is_race in
            let s : y ≡ y' = omega arith in
            let c = f.least-earlier x' (rw s g.is_race) in
            let d = g.least-earlier x (rw s at f.is_race) in
            let t : x ≡ x' = omega arith in
            cc

-- The rows that a verdict names are rows of the trace, the earlier one first.
pub racing-within : (rows : List Row) (model : ℕ) {earlier later : ℕ} → verdict_of rows model ≡ racing earlier later →
    (0 < earlier) × (earlier < later) × (later ≤ length rows)
racing-within rows model {earlier} {later} e =
    let (x, y, p, q, f) = (racing-iff rows model earlier later).0 e in
    let o = race_out rows model x y f.is_race in
    (omega arith, omega arith, omega arith)
