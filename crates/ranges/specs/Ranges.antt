-- Whether two ranges of bytes share a byte.
use Rattle.std.specs.Prelude.{ℕ, ◌+◌, ◌≤◌, ◌<◌, max, min, Bool, cond, ltb}

-- Above every start and end of a range, as src/lib.rt has it.
abbrev pub TOP : ℕ
TOP = 9223372036854775808

-- Byte x lies in the range of n bytes from a on.
abbrev pub Within : ℕ → ℕ → ℕ → Type 0
Within a n x = (a ≤ x) × (x < a + n)

-- The range of n bytes from a on and that of m bytes from b on overlap: the larger start lies below the smaller end.
abbrev pub overlaps : ℕ → ℕ → ℕ → ℕ → Bool
overlaps a n b m = ltb (max a b) (min (a + n) (b + m))

-- What the test answers for yes and for no.
abbrev pub YES : ℕ
YES = 1

abbrev pub NO : ℕ
NO = 0

-- What the test answers.
unfoldable pub overlap_of : ℕ → ℕ → ℕ → ℕ → ℕ
overlap_of a n b m = cond (overlaps a n b m) YES NO
