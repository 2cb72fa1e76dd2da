-- What must be kept of a target map so that the cells of its bytes can be rewritten in place. `m b c` is the result at byte b from the cell c,
-- `t b` the target's cell: the result is m b (t b).
use Rattle.std.specs.Prelude.{ℕ, zero, suc, ◌+◌, ◌≤◌, ◌≡◌, Bool, cond, not, eqb}
use Rattle.extents_meaning.specs.Cells.{Bytes}
use Rattle.extents_meaning.specs.Points.{starts}
use Rattle.extents_weave_meaning.specs.Walks.{last, trimmed}

-- The result at each byte, for each cell that the target may have there.
abbrev pub Results : Type 0
Results = ℕ → ℕ → ℕ

-- The result at each byte of the target t.
abbrev pub result : Results → Bytes → Bytes
result m t b = m b (t b)

-- The cell in hand behind byte b, from the cell c in hand before it: the first of the cell in hand, 0 and the target's cell that gives the result
unfoldable pub next : Results → Bytes → ℕ → ℕ → ℕ
next m t b c = cond (eqb (m b c) (m b (t b))) c (cond (eqb (m b 0) (m b (t b))) 0 (t b))

-- The cell in hand before byte b, 0 at first.
unfoldable pub hand : Results → Bytes → ℕ → ℕ
hand m t zero = 0
hand m t (suc b) = next m t b (hand m t b)

-- The cell in hand at byte b, behind its turn.
abbrev pub held : Results → Bytes → Bytes
held m t b = hand m t (suc b)

-- A byte needs the cell in hand where 0 does not give the result.
abbrev pub needs : Results → Bytes → ℕ → Bool
needs m t b = not (eqb (m b 0) (m b (t b)))

-- What is kept of the target's bytes below a top.
abbrev pub kept : ℕ → Results → Bytes → Bytes
kept top m t = trimmed top (held m t) (needs m t)

-- Where 0 would give another result than a cell, that result is not 0, and wherever it is the result of any cell, it is that of this cell too.
pub record Lasting (m : Results) : Type 0 where
  pub written : (b c : ℕ) → (m b c ≡ m b 0 → ⊥) → m b c ≡ 0 → ⊥
  pub sticky : (b c : ℕ) → (m b c ≡ m b 0 → ⊥) → (x d : ℕ) → m x d ≡ m b c → m x c ≡ m b c

-- A walk that writes the runs of g in front, and reads those of f behind them, up to a place `all`: where a run of g ends at byte x, the runs of g
-- that began before it, and the runs of f that byte x or a later byte has, are no more.
abbrev pub Roomy : ℕ → ℕ → Bytes → Bytes → Type 0
Roomy top all f g = (x n : ℕ) → x + n ≡ top → (1 ≤ n → g x ≡ last g x → ⊥) → starts x 0 0 g + starts n x 0 f ≤ all
