-- A difference raised by TOP: its quotient by TOP tells which number is the larger, and its remainder is then how far.
use Rattle.std.proofs.Common.{ℕ, ◌+◌, ◌*◌, ◌-◌, ◌/◌, ◌%◌, ◌<◌, ◌≤◌, max, min, arith, ◌≡◌, Bool, true, false, cond, le-leb, lt-ltb, le-ltb}
use native.Mathlib.Decide.{dec_lt}
use lib.Dec.{leb, ltb}
use borrow.Author.Tests.{lt-leb}
use Rattle.ranges.specs.Ranges.{TOP, overlap_of}

module _ (a b : ℕ) (h : a < TOP) (k : b < TOP) where
  -- The quotient is 1 where a is b or more, else 0.
  pub quotient : (a + TOP - b) / TOP ≡ cond (leb b a) 1 0
  quotient = go (dec_lt a b)
    where
      go : Dec (a < b) → (a + TOP - b) / TOP ≡ cond (leb b a) 1 0
      go (yes l) = rw (lt-leb b a l) (omega (arith, l, h, k))
      go (no n) = rw (le-leb b a (omega (arith, n))) (omega (arith, n, h, k))

  -- The remainder, where the quotient is 1, is a - b.
  pub rise : cond (leb b a) 1 0 * ((a + TOP - b) % TOP) ≡ a - b
  rise = go (dec_lt a b)
    where
      go : Dec (a < b) → cond (leb b a) 1 0 * ((a + TOP - b) % TOP) ≡ a - b
      go (yes l) = rw (lt-leb b a l) (omega (arith, l))
      go (no n) =
          let m : (a + TOP - b) % TOP ≡ a - b = omega (arith, n, h, k) in
          rw (le-leb b a (omega (arith, n)), m) (omega arith)

-- The larger of two numbers is the second, raised by how far the first lies above it.
pub raised : (a b : ℕ) → b + (a - b) ≡ max a b
raised a b = omega arith

-- The smaller of two numbers is the first, lowered by how far it lies above the second.
pub lowered : (a b : ℕ) → a - (a - b) ≡ min a b
lowered a b = omega arith

-- A comparison as a number is at most 1.
pub one-most : (b : Bool) → cond b 1 0 ≤ 1
one-most true = omega arith
one-most false = omega arith

-- What the test answers: 0 where the larger start is the smaller end or more, else 1.
pub told : (a n b m : ℕ) → 1 - cond (leb (min (a + n) (b + m)) (max a b)) 1 0 ≡ overlap_of a n b m
unfolding overlap_of
told a n b m = go (dec_lt start end)
  where
    start : ℕ
    start = max a b

    end : ℕ
    end = min (a + n) (b + m)

    go : Dec (start < end) → 1 - cond (leb end start) 1 0 ≡ cond (ltb start end) 1 0
    go (yes l) = rw (lt-ltb start end l, lt-leb end start l)
    go (no n) = let l : end ≤ start = omega (arith, n) in rw (le-ltb start end l, le-leb end start l)
