-- Plain decimal numbers as bytes: no sign and no leading zero; 0 itself is "0".
use Rattle.std.specs.Prelude.{ℕ, zero, suc, ◌+◌, ◌/◌, ◌%◌, cond, List, [], ◌∷◌, ◌++◌, ltb}

-- Numbers are decimal.
abbrev pub BASE : ℕ
BASE = 10

-- The byte of the digit 0.
abbrev pub DIGIT_0 : ℕ
DIGIT_0 = 48

-- A 32-bit number has at most so many digits.
abbrev pub WIDTH : ℕ
WIDTH = 10

-- The last k decimal digits of n.
unfoldable pub digits_of : ℕ → ℕ → List ℕ
digits_of zero n = []
digits_of (suc k) n = digits_of k (n / BASE) ++ ((DIGIT_0 + n % BASE) ∷ [])

-- How many digits n has, among at most k.
unfoldable pub width_within : ℕ → ℕ → ℕ
width_within zero n = 0
width_within (suc k) n = cond (ltb n BASE) 1 (suc (width_within k (n / BASE)))

-- How many digits a 32-bit number has.
abbrev pub width_of : ℕ → ℕ
width_of n = width_within WIDTH n

-- The bytes of a number.
unfoldable pub decimal_of : ℕ → List ℕ
decimal_of n = digits_of (width_of n) n
