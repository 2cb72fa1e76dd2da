-- What a walk writes at a byte, from what two maps and a range have there.
use Rattle.std.specs.Prelude.{ℕ, ◌*◌, ◌≤◌, ◌<◌, ◌≡◌, Bool, true, cond, not, List, drop, eqb}
use Rattle.rows.specs.Limits.{OFFSET_MAX}
use Rattle.extents_meaning.specs.Maps.{bytes_of}
use Rattle.extents_meaning.specs.Runs.{Open}
use Rattle.extents_map.specs.Cursors.{ahead, Passing}
use Rattle.extents_map.specs.Mixes.{Mix, becomes_in}
use Rattle.extents_weave.specs.declared.Step.{Step}

-- The cell to write, where `to c` is what a cell c of the target becomes and t is the target's: the result, or, of the cell in hand, 0 and t, the
-- first that gives the result.
abbrev pub step_cell : Bool → (ℕ → ℕ) → ℕ → ℕ → ℕ
step_cell keep to hand t = cond keep (cond (eqb (to hand) (to t)) hand (cond (eqb (to 0) (to t)) 0 t)) (to t)

-- Whether the byte needs it: every byte needs its result, and a cell to keep where 0 gives another result.
abbrev pub step_need : Bool → (ℕ → ℕ) → ℕ → Bool
step_need keep to t = cond keep (not (eqb (to 0) (to t))) true

-- a step at byte x, from the runs i and j of both maps on: what it writes, and that both maps and the range stay as they are up to the next byte
pub record Stepped (xs : List ℕ) (i : ℕ) (os : List ℕ) (j : ℕ) (mix : Mix) (hand : ℕ) (keep : Bool) (x : ℕ) (r : Step) : Type 0 where
  pub mine : Passing xs i x r.i
  pub first : Open x (ahead xs r.i)
  pub theirs : Passing os j x r.j
  pub on : x < r.next
  pub most : r.next ≤ OFFSET_MAX
  pub flat : (b : ℕ) → x ≤ b → b < r.next → bytes_of (drop (4 * i) xs) b ≡ bytes_of (drop (4 * i) xs) x
  pub even : (b : ℕ) → x ≤ b → b < r.next → (c : ℕ) → becomes_in mix (bytes_of (drop (4 * j) os)) b c ≡ becomes_in mix (bytes_of (drop (4 * j) os)) x c
  pub cell : r.cell ≡ step_cell keep (becomes_in mix (bytes_of (drop (4 * j) os)) x) hand (bytes_of (drop (4 * i) xs) x)
  pub need : r.need ≡ step_need keep (becomes_in mix (bytes_of (drop (4 * j) os)) x) (bytes_of (drop (4 * i) xs) x)
