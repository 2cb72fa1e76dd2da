-- How many bytes start a run.
use Rattle.std.proofs.Common.{ℕ, zero, suc, ◌+◌, ◌≤◌, arith, ◌≡◌, refl, ap, ◌∙◌}
use native.Mathlib.Decide.{ℕ_discrete}
use Rattle.extents_meaning.specs.Cells.{Bytes}
use Rattle.extents_meaning.specs.Points.{starts}
use Rattle.extents_meaning.proofs.Points.{begins, begins-zero, begins-one, begins-most}
use Rattle.extents_weave_meaning.specs.Walks.{before, last}

-- one step
pub starts-step : (n s c : ℕ) (f : Bytes) → starts (suc n) s c f ≡ begins (f s) c + starts n (suc s) (f s) f
unfolding starts
starts-step n s c f = refl

-- the cell before matters to the first byte alone: one more or fewer
pub starts-most : (n s c d : ℕ) (f : Bytes) → starts n s c f ≤ suc (starts n s d f)
unfolding starts
starts-most zero s c d f = omega arith
starts-most (suc n) s c d f = omega (arith, begins-most (f s) c)

-- a byte more has no fewer
pub starts_more : (n s : ℕ) (f : Bytes) → starts n (suc s) 0 f ≤ starts (suc n) s 0 f
unfolding starts
starts_more n s f = go (ℕ_discrete (f s) 0)
  where
    go : Dec (f s ≡ 0) → starts n (suc s) 0 f ≤ begins (f s) 0 + starts n (suc s) (f s) f
    go (yes e) = rw e (omega arith)
    go (no e) = omega (arith, begins-one (f s) 0 e e, starts-most n (suc s) 0 (f s) f)

-- the first byte has another cell than p: as if behind 0
pub starts_other : (n s p : ℕ) (f : Bytes) → (f s ≡ p → ⊥) → starts (suc n) s p f ≡ starts (suc n) s 0 f
starts_other n s p f h = go (ℕ_discrete (f s) 0)
  where
    go : Dec (f s ≡ 0) → starts (suc n) s p f ≡ starts (suc n) s 0 f
    go (yes e) = omega (arith, starts-step n s p f, starts-step n s 0 f, begins-zero (f s) p e, begins-zero (f s) 0 e)
    go (no e) = omega (arith, starts-step n s p f, starts-step n s 0 f, begins-one (f s) p e h, begins-one (f s) 0 e e)

-- in two parts
pub starts-split : (n k s c : ℕ) (f : Bytes) → starts (n + k) s c f ≡ starts n s c f + starts k (s + n) (before n s c f) f
unfolding starts before
starts-split zero k s c f =
    let e : s + 0 ≡ s = omega arith in
    let d : 0 + k ≡ k = omega arith in
    rw (e, d) (omega arith)
starts-split (suc n) k s c f =
    let e : s + suc n ≡ suc s + n = omega arith in
    let d : suc n + k ≡ suc (n + k) = omega arith in
    rw (e, d) (omega (arith, starts-split n k (suc s) (f s) f))

-- below byte x and from it on
pub starts-at : (x n : ℕ) (f : Bytes) → starts (x + n) 0 0 f ≡ starts x 0 0 f + starts n x (last f x) f
starts-at x n f =
    let e : 0 + x ≡ x = omega arith in
    starts-split x n 0 0 f ∙ ap (λ (y : ℕ). starts x 0 0 f + starts n y (last f x) f) e

-- the cell before a byte
before-next : (n s c : ℕ) (f : Bytes) → before (suc n) s c f ≡ f (s + n)
unfolding before
before-next zero s c f = let e : s ≡ s + 0 = omega arith in ap f e
before-next (suc n) s c f = let e : suc s + n ≡ s + suc n = omega arith in before-next n (suc s) (f s) f ∙ ap f e

pub last-next : (x : ℕ) (f : Bytes) → last f (suc x) ≡ f x
last-next x f = let e : 0 + x ≡ x = omega arith in before-next x 0 0 f ∙ ap f e

pub last_none : (f : Bytes) → last f 0 ≡ 0
unfolding before
last_none f = refl

-- below the next byte
pub starts-next : (x : ℕ) (f : Bytes) → starts (suc x) 0 0 f ≡ starts x 0 0 f + begins (f x) (last f x)
unfolding starts
starts-next x f =
    let e : x + 1 ≡ suc x = omega arith in
    omega (arith, ap (λ (n : ℕ). starts n 0 0 f) e, starts-at x 1 f)
