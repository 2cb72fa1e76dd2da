-- The test says yes exactly where some byte lies in both ranges.
use Rattle.std.proofs.Common.{ℕ, ◌+◌, ◌≤◌, ◌<◌, max, min, arith, ◌≡◌, refl, ◌↔◌, Bool, true, false, cond, lt-ltb, ltb-true}
use Rattle.rows.specs.Limits.{OFFSET_MAX}
use Rattle.ranges.specs.Ranges.{Within, overlaps, YES, NO, overlap_of}

-- Two ranges overlap exactly where some byte lies in both.
pub shared-iff : (a n b m : ℕ) → (overlaps a n b m ≡ true) ↔ ((x : ℕ) × Within a n x × Within b m x)
shared-iff a n b m = (
  λ e. let h : start < end = ltb-true start end e in (start, (omega arith, omega arith), (omega arith, omega arith)),
  λ (x, h, k). lt-ltb start end (omega (arith, h.0, h.1, k.0, k.1)),
)
  where
    start : ℕ
    start = max a b

    end : ℕ
    end = min (a + n) (b + m)

-- For any two ranges within question 11, `overlap` answers yes exactly where some byte of the file lies in both.
pub overlap_iff : (a n b m : ℕ) → a + n ≤ OFFSET_MAX → b + m ≤ OFFSET_MAX →
    (overlap_of a n b m ≡ YES) ↔ ((x : ℕ) × (x < OFFSET_MAX) × Within a n x × Within b m x)
unfolding overlap_of
overlap_iff a n b m h k = (to, from)
  where
    one : (t : Bool) → cond t YES NO ≡ YES → t ≡ true
    one true e = refl
    one false e = absurd (omega (arith, e))

    to : cond (overlaps a n b m) YES NO ≡ YES → (x : ℕ) × (x < OFFSET_MAX) × Within a n x × Within b m x
    to e = let (x, i, j) = (shared-iff a n b m).0 (one (overlaps a n b m) e) in (x, omega (arith, h, i.1), i, j)

    from : (x : ℕ) × (x < OFFSET_MAX) × Within a n x × Within b m x → cond (overlaps a n b m) YES NO ≡ YES
    from (x, l, i, j) = rw ((shared-iff a n b m).1 (x, i, j))
