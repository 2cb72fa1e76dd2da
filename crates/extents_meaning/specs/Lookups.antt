-- How far the cell of a byte goes.
use Rattle.std.specs.Prelude.{ℕ, zero, suc, ◌-◌, cond, eqb}
use Rattle.rows.specs.Limits.{OFFSET_MAX}
use Rattle.extents_meaning.specs.Cells.{Bytes}

-- Of n bytes from s on the first whose cell is not c; the byte behind them where all have it.
unfoldable pub change_from : ℕ → ℕ → ℕ → Bytes → ℕ
change_from zero s c f = s
change_from (suc n) s c f = cond (eqb (f s) c) (change_from n (suc s) c f) s

-- The first byte behind byte b that has another cell, so another row number or another mark; the end of all bytes where none has.
unfoldable pub change_of : Bytes → ℕ → ℕ
change_of f b = change_from (OFFSET_MAX - suc b) (suc b) (f b) f
