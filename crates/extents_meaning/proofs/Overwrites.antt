-- A range written over some bytes.
use Rattle.std.proofs.Common.{ℕ, ◌+◌, ◌≤◌, ◌<◌, ◌≡◌}
use Rattle.extents_meaning.specs.Cells.{Bytes, overwrite}
use Rattle.extents_meaning.proofs.Longest.{range-in, range-before, range-behind}

-- ---- Overwritten bytes

-- An overwritten byte: in the range, before it and behind it.
pub over-in : (s n c : ℕ) (f : Bytes) (b : ℕ) → s ≤ b → b < s + n → overwrite s n c f b ≡ c
over-in s n c f b h k = rw (range-in s n b h k)

-- A byte before the range keeps its cell.
pub over-before : (s n c : ℕ) (f : Bytes) (b : ℕ) → b < s → overwrite s n c f b ≡ f b
over-before s n c f b h = rw (range-before s n b h)

-- A byte behind the range keeps its cell.
pub over-behind : (s n c : ℕ) (f : Bytes) (b : ℕ) → s + n ≤ b → overwrite s n c f b ≡ f b
over-behind s n c f b h = rw (range-behind s n b h)
