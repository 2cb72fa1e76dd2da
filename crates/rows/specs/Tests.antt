-- Tests on the rows of a list.
use Rattle.std.specs.Prelude.{ℕ, Bool, false, ◌&&◌, ◌||◌, List, [], ◌∷◌, eqb}
use Rattle.rows.specs.declared.row.Row.{Row}

-- Some row passes a test.
unfoldable pub any : (Row → Bool) → List Row → Bool
any test [] = false
any test (r ∷ rs) = test r || any test rs

-- A row of this kind with this message.
abbrev pub carries : ℕ → ℕ → Row → Bool
carries kind message r = eqb r.kind kind && eqb r.message message

-- A row of this kind with this message, by this process.
abbrev pub carries_by : ℕ → ℕ → ℕ → Row → Bool
carries_by process kind message r = carries kind message r && eqb r.process process
