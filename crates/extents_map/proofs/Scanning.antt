-- Scans of one map: whether numbers are all 0, and the numbers of a run that may follow.
use Rattle.std.proofs.Common.{ℕ, ◌+◌, ◌*◌, ◌≤◌, ◌<◌, add-one, arith, ◌≡◌, sym, ap, ◌∙◌, Bool, ◌&&◌, List, length, drop, drop_of_length-le, drop-cons, bit_or, eq-eqb, ne_eqb}
use native.Mathlib.Decide.{ℕ_discrete}
use mathlib.Core.Bool.{and-true, and-false, and_assoc}
use lib.ListN.{get_or}
use lib.Dec.{eqb}
use lib.Bits.{or_zero_r, or_add_and, and_le_l}
use Rattle.extents_meaning.specs.Maps.{all_zero, follows}
use Rattle.extents_meaning.proofs.Trips.{follows_at}

-- ---- Zeros

-- bits of two numbers: none where neither has one
bits_none : (a b : ℕ) → eqb (bit_or a b) 0 ≡ eqb a 0 && eqb b 0
bits_none a b = go (ℕ_discrete b 0)
  where
    go : Dec (b ≡ 0) → eqb (bit_or a b) 0 ≡ eqb a 0 && eqb b 0
    go (yes e) = ap (λ (n : ℕ). eqb (bit_or a n) 0) e ∙ ap (λ (n : ℕ). eqb n 0) (or_zero_r a) ∙ sym (rw (eq-eqb b 0 e, and-true))
    go (no n) = ne_eqb (bit_or a b) 0 (λ z. n (omega (arith, z, or_add_and a b, and_le_l a b))) ∙ sym (rw (ne_eqb b 0 n, and-false))

module _ (xs : List ℕ) (bits i : ℕ) where
  -- Behind the end the bits gathered say whether all is 0.
  pub zero_end : length xs ≤ i → eqb bits 0 && all_zero (drop i xs) ≡ eqb bits 0
  unfolding all_zero
  zero_end h = rw (drop_of_length-le xs h, and-true)

  -- A number adds its bits to those gathered.
  pub zero_on : i < length xs → eqb bits 0 && all_zero (drop i xs) ≡ eqb (bit_or bits (get_or xs i 0)) 0 && all_zero (drop (i + 1) xs)
  unfolding all_zero
  zero_on h = rw (add-one, drop-cons xs i 0 h, bits_none bits (get_or xs i 0)) (sym (and_assoc (eqb bits 0) (eqb (get_or xs i 0) 0) _))

-- ---- A run that may follow

-- The test of a run that was read is that of the numbers at its place.
pub follows_read : (xs : List ℕ) (i end cell : ℕ) {s l n k : ℕ} {r : Bool} → r ≡ follows end cell s l n k → s ≡ get_or xs (4 * i) 0 →
    l ≡ get_or xs (4 * i + 1) 0 → n ≡ get_or xs (4 * i + 2) 0 → k ≡ get_or xs (4 * i + 3) 0 → follows_at end cell i xs ≡ r
follows_read xs i end cell t a b d e = sym (t ∙ rw (a, b, d, e))
