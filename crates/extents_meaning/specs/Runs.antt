-- Longest runs: how a map stores the bytes other than 0, and how a read lists its pieces.
use Rattle.std.specs.Prelude.{ℕ, zero, suc, ◌+◌, ◌≤◌, ◌<◌, ◌≡◌, cond, ◌&&◌, List, [], ◌∷◌, eqb}
use Rattle.rows.specs.Limits.{ROWS, OFFSET_MAX}
use Rattle.extents_meaning.specs.Cells.{Bytes, number_in, in_range}

-- bytes from a start on that have one cell
pub record Run : Type 0 where
  pub start : ℕ
  pub length : ℕ
  pub cell : ℕ

-- The run of a start, a length and a cell.
abbrev pub run_of : ℕ → ℕ → ℕ → Run
run_of start length cell = record { start = start; length = length; cell = cell }

-- the cell of a byte by a list of runs
unfoldable pub cell_at : List Run → ℕ → ℕ
cell_at [] b = 0
cell_at (r ∷ rs) b = cond (in_range r.start r.length b) r.cell (cell_at rs b)

-- a byte put before the runs behind it: joined to the first where that one follows at once with the same cell
unfoldable pub joined : ℕ → ℕ → List Run → List Run
joined b c [] = run_of b 1 c ∷ []
joined b c (r ∷ rs) = cond (eqb r.start (suc b) && eqb r.cell c) (run_of b (suc r.length) c ∷ rs) (run_of b 1 c ∷ (r ∷ rs))

-- the longest runs of n bytes from s on; bytes of cell 0 are left out
unfoldable pub runs_from : ℕ → ℕ → Bytes → List Run
runs_from zero s f = []
runs_from (suc n) s f = cond (eqb (f s) 0) (runs_from n (suc s) f) (joined s (f s) (runs_from n (suc s) f))

-- the longest runs of all bytes of a file
unfoldable pub runs_of : Bytes → List Run
runs_of f = runs_from OFFSET_MAX 0 f

-- The pieces of a range: neighbours with equal row numbers joined, unwritten bytes as number 0, so each piece is a longest run of numbers and
-- one; the cell of a piece is its number and one.
unfoldable pub pieces_of : Bytes → ℕ → ℕ → List Run
pieces_of f start length = runs_from length start (λ b. suc (number_in (f b)))

-- ---- Lawful runs

-- what a run keeps behind the end of the run before it and that one's cell: rising order, no empty run, an end below a top, a cell other than
-- 0, and no split without need
pub record Next (top end c : ℕ) (r : Run) : Type 0 where
  pub rising : end ≤ r.start
  pub filled : 1 ≤ r.length
  pub inside : r.start + r.length ≤ top
  pub written : 1 ≤ r.cell
  pub longest : r.start ≡ end → r.cell ≡ c → ⊥

-- Each run keeps `Next` behind the run before it; the first behind a run that ends at `end` with cell c.
abbrev pub Rising : ℕ → ℕ → ℕ → List Run → Type 0
Rising top end c [] = Unit {0}
Rising top end c (r ∷ rs) = Next top end c r × Rising top (r.start + r.length) r.cell rs

-- The first of some runs does not end at byte x or before.
abbrev pub Open : ℕ → List Run → Type 0
Open x [] = Unit {0}
Open x (r ∷ rs) = x < r.start + r.length

-- row numbers are 1 to 4,096
abbrev pub NumbersLegal : List Run → Type 0
NumbersLegal [] = Unit {0}
NumbersLegal (r ∷ rs) = (1 ≤ number_in r.cell) × (number_in r.cell ≤ ROWS) × NumbersLegal rs

-- the runs of a lawful map
pub record Lawful (rs : List Run) : Type 0 where
  pub in_order : Rising OFFSET_MAX 0 0 rs
  pub numbered : NumbersLegal rs
