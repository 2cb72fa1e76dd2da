-- Products of numbers, and blocks of one length that stand one after the other.
use Rattle.std.proofs.Common.{ℕ, ◌+◌, ◌*◌, ◌^◌, ◌≤◌, ◌<◌, suc-mul, mul-le-mul_right, mul-le-mul_left, mul-lt-mul_of_pos_right, lt_of_le_of_lt, le_of_lt, arith}

-- The product of two numbers of 32 bits has at most 64 bits.
pub product : {a b : ℕ} → a < 2 ^ 32 → b < 2 ^ 32 → a * b < 2 ^ 64
product {a} {b} h g = lt_of_le_of_lt (mul-le-mul_left a (le_of_lt g)) (mul-lt-mul_of_pos_right h (omega arith))

-- Of blocks of length P, block k ends where block j begins or earlier, if k is below j.
pub block_before : (P : ℕ) {k j : ℕ} → k < j → k * P + P ≤ j * P
block_before P {k} h = rw suc-mul at (mul-le-mul_right P h)
