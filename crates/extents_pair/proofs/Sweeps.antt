-- A range written over some bytes, and bytes that a map can hold.
use Rattle.std.proofs.Common.{ℕ, ◌-◌, ◌≤◌, ◌<◌, arith, ◌≡◌, ◌∙◌, Bool, true, false, cond, length}
use native.Mathlib.Decide.{dec_lt}
use Rattle.rows.specs.Limits.{OFFSET_MAX}
use Rattle.extents_meaning.specs.Cells.{Bytes, in_range, overwrite}
use Rattle.extents_meaning.specs.Runs.{runs_of}
use Rattle.extents_meaning.proofs.Longest.{Fine}
use Rattle.extents_meaning.proofs.Overwrites.{over-before, over-behind}

-- ---- One range

-- The bytes outside of a range keep their cells.
pub over-out : (from to c : ℕ) (f : Bytes) (b : ℕ) → (from ≤ b → to ≤ b) → overwrite from (to - from) c f b ≡ f b
over-out from to c f b h = go (dec_lt b from)
  where
    go : Dec (b < from) → overwrite from (to - from) c f b ≡ f b
    go (yes l) = over-before from (to - from) c f b l
    go (no l) = let m : to ≤ b = h (omega arith) in over-behind from (to - from) c f b (omega arith)

-- ---- Bytes that a map can hold

-- Good bytes: their cells are fine, and nothing is written from the end of all bytes on.
pub record Good (f : Bytes) : Type 0 where
  pub fine : (b : ℕ) → Fine (f b)
  pub ends : (b : ℕ) → OFFSET_MAX ≤ b → f b ≡ 0

-- a range overwritten with a fine cell keeps them good
pub good-over : (from to c : ℕ) (f : Bytes) → to ≤ OFFSET_MAX → Fine c → Good f → Good (overwrite from (to - from) c f)
good-over from to c f h k g =
    record { fine = λ b. fine b (in_range from (to - from) b); ends = λ b l. over-out from to c f b (λ _. omega arith) ∙ g.ends b l }
  where
    fine : (b : ℕ) (x : Bool) → Fine (cond x c (f b))
    fine b true = k
    fine b false = g.fine b

-- good bytes whose runs fit a space
pub record Fits (space : ℕ) (f : Bytes) : Type 0 where
  pub good : Good f
  pub few : length (runs_of f) ≤ space
