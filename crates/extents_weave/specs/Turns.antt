-- What a turn makes of the run in hand and of the map.
use Rattle.std.specs.Prelude.{ℕ, suc, ◌+◌, ◌*◌, ◌-◌, ◌≡◌, Bool, cond, List, [], ◌∷◌, ◌++◌, take, drop, eqb}
use Rattle.extents_meaning.specs.Runs.{run_of}
use Rattle.extents_meaning.specs.Maps.{fours}
use Rattle.extents_weave.specs.declared.Hand.{Hand}

-- The map with the run in hand put down, where another cell begins.
unfoldable pub turned_map : Hand → ℕ → List ℕ → List ℕ
turned_map h cell xs =
    cond (eqb cell h.cell) xs
    (cond (eqb h.cell 0) xs
    ((take (4 * h.written) xs ++ fours (run_of h.start (h.end - h.start) h.cell ∷ [])) ++ drop (4 * h.written + 4) xs))

-- The run in hand behind a stretch from byte x to byte y of one cell, which the stretch needs or not.
pub record Turned (h : Hand) (x y cell : ℕ) (need : Bool) (r : Hand) : Type 0 where
  pub written : r.written ≡ cond (eqb cell h.cell) h.written (cond (eqb h.cell 0) h.written (suc h.written))
  pub start : r.start ≡ cond (eqb cell h.cell) h.start x
  pub end : r.end ≡ cond (eqb cell h.cell) (cond need y h.end) y
  pub has : r.cell ≡ cell
