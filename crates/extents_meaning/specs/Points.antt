-- Where values change, and how many runs that makes.
use Rattle.std.specs.Prelude.{ℕ, zero, suc, ◌+◌, cond, not, ◌&&◌, eqb}
use Rattle.extents_meaning.specs.Cells.{Bytes}

-- how many bytes of n from s on start a run, behind a byte of cell c: their cell is other than 0 and than the one before
unfoldable pub starts : ℕ → ℕ → ℕ → Bytes → ℕ
starts zero s c f = 0
starts (suc n) s c f = cond (not (eqb (f s) 0) && not (eqb (f s) c)) 1 0 + starts n (suc s) (f s) f
