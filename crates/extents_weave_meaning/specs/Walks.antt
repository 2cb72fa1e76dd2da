-- How a walk lists the runs of bytes g: a run in hand grows while its cell stays, but only up to the last byte that needs it.
use Rattle.std.specs.Prelude.{ℕ, zero, suc, ◌-◌, ◌≡◌, Bool, true, cond, List, [], ◌∷◌, eqb}
use Rattle.extents_meaning.specs.Cells.{Bytes}
use Rattle.extents_meaning.specs.Runs.{Run, run_of}

-- The cell of the byte before byte s + n, c where n is 0.
unfoldable pub before : ℕ → ℕ → ℕ → Bytes → ℕ
before zero s c f = c
before (suc n) s c f = before n (suc s) (f s) f

-- The cell of the byte before byte x, 0 for the first byte.
abbrev pub last : Bytes → ℕ → ℕ
last f x = before x 0 0 f

-- 1 where one of n bytes from s on needs the cell c and all bytes up to it have that cell, else 0.
unfoldable pub live : Bytes → (ℕ → Bool) → ℕ → ℕ → ℕ → ℕ
live g need zero s c = 0
live g need (suc n) s c = cond (eqb (g s) c) (cond (need s) 1 (live g need n (suc s) c)) 0

-- The bytes g below a top, with 0 where no byte up to the end of the run needs the cell any more.
unfoldable pub trimmed : ℕ → Bytes → (ℕ → Bool) → Bytes
trimmed top g need b = cond (eqb (live g need (top - b) b (g b)) 0) 0 (g b)

-- A run from a to e of cell c before some others, none where the cell is 0.
unfoldable pub put : ℕ → ℕ → ℕ → List Run → List Run
put a e c rs = cond (eqb c 0) rs (run_of a (e - a) c ∷ rs)

-- What a walk lists of n bytes from s on, with a run from a to e of cell c in hand: the run ends at the last byte that needs it.
unfoldable pub listed : Bytes → (ℕ → Bool) → ℕ → ℕ → ℕ → ℕ → ℕ → List Run
listed g need zero s a e c = put a e c []
listed g need (suc n) s a e c =
    cond (eqb (g s) c) (listed g need n (suc s) a (cond (need s) (suc s) e) c) (put a e c (listed g need n (suc s) s (suc s) (g s)))

-- The first byte of every run needs its cell.
abbrev pub Needed : Bytes → (ℕ → Bool) → Type 0
Needed g need = (b : ℕ) → (g b ≡ last g b → ⊥) → (g b ≡ 0 → ⊥) → need b ≡ true
