-- A range laid into the runs of a map: where it stands among them, and what lies before it and behind it.
use Rattle.std.specs.Prelude.{ℕ, ◌+◌, ◌≤◌, ◌<◌, ◌≡◌, List, ◌∷◌, ◌++◌, length, get_or, drop}
use Rattle.rows.specs.Limits.{OFFSET_MAX}
use Rattle.extents_meaning.specs.Runs.{Run, run_of, cell_at, Rising}
use Rattle.extents_map.specs.Cursors.{part_of}
use Rattle.extents_map.specs.declared.locate.Side.{Side}

-- The byte behind a run.
abbrev pub end_of : Run → ℕ
end_of r = r.start + r.length

-- run i, and the run before run i; an empty one at 0 where there is none
abbrev pub run_no : List Run → ℕ → Run
run_no rs i = get_or rs i (run_of 0 0 0)

-- The run before run i, an empty run at 0 where there is none.
abbrev pub run_before : List Run → ℕ → Run
run_before rs i = get_or (run_of 0 0 0 ∷ rs) i (run_of 0 0 0)

-- the run that a side is, and the parts of a range: what stays before it, the range, and what stays behind it
abbrev pub side_of : Side → List Run
side_of s = part_of s.start s.length s.cell

-- run `at` is the first that a range from `start` on meets: those before it end earlier, or at the start with another cell
pub record Met (rs : List Run) (start cell at : ℕ) : Type 0 where
  pub most : at ≤ length rs
  pub passed : end_of (run_before rs at) ≤ start
  pub apart : end_of (run_before rs at) ≡ start → (run_before rs at).cell ≡ cell → 1 ≤ cell → ⊥
  pub meets : at < length rs → start ≤ end_of (run_no rs at)

-- run `at` is the first from `first` on that a range up to `end` does not meet: the one before it starts at the end or earlier
pub record Behind (rs : List Run) (first end cell at : ℕ) : Type 0 where
  pub low : first ≤ at
  pub most : at ≤ length rs
  pub reached : first < at → (run_before rs at).start ≤ end
  pub apart : Rising OFFSET_MAX end cell (drop at rs)

-- The runs before a range that is to begin at `bound`: whatever may follow a run with the cell `last` that ends there may follow them. The runs
-- rs have the range's cell from there to its start.
pub record Front (rs : List Run) (start cell : ℕ) (front : List Run) (bound : ℕ) : Type 0 where
  pub last : ℕ
  pub apart : last ≡ cell → 1 ≤ cell → ⊥
  pub near : bound ≤ start
  pub follow : (qs : List Run) → Rising OFFSET_MAX bound last qs → Rising OFFSET_MAX 0 0 (front ++ qs)
  pub ends : (qs : List Run) (b : ℕ) → bound ≤ b → cell_at (front ++ qs) b ≡ cell_at qs b
  pub same : (qs : List Run) (b : ℕ) → b < bound → cell_at qs b ≡ 0 → cell_at (front ++ qs) b ≡ cell_at rs b
  pub join : (b : ℕ) → bound ≤ b → b < start → cell_at rs b ≡ cell

-- The runs behind a range that is to end at `bound`: they may follow a run with its cell that ends there. The runs rs have the range's cell from
-- its end to there.
pub record Back (rs : List Run) (end cell : ℕ) (back : List Run) (bound : ℕ) : Type 0 where
  pub far : end ≤ bound
  pub inside : bound ≤ OFFSET_MAX
  pub in_order : Rising OFFSET_MAX bound cell back
  pub same : (b : ℕ) → bound ≤ b → cell_at back b ≡ cell_at rs b
  pub join : (b : ℕ) → end ≤ b → b < bound → cell_at rs b ≡ cell
