-- Which processes have rows, and how many.
use Rattle.std.specs.Prelude.{ℕ, ◌<◌, ◌≡◌, Bool, true, false, List, [], ◌∷◌, length, get_or, set, eqb}
use Rattle.rows.specs.declared.row.Row.{Row}
use Rattle.rows.specs.Limits.{PROCESSES}
use Rattle.rows.specs.Counting.{count_below}
use Rattle.rows.specs.Tests.{any}

-- Some row is of this process.
abbrev pub has_row : ℕ → List Row → Bool
has_row p rows = any (λ r. eqb r.process p) rows

-- How many processes have a row.
abbrev pub participants : List Row → ℕ
participants rows = count_below PROCESSES (λ p. has_row p rows)

-- A table with one flag for each process: whether the process has a row.
pub record Members (rows : List Row) (flags : List Bool) : Type 0 where
  pub size : length flags ≡ PROCESSES
  pub each : (p : ℕ) → p < PROCESSES → get_or flags p false ≡ has_row p rows

-- The flags with those of the rows' processes set. A process past the flags has none.
unfoldable pub flagged : List Bool → List Row → List Bool
flagged flags [] = flags
flagged flags (r ∷ rs) = flagged (set flags r.process true) rs
