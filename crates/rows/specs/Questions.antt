-- Questions that are put to an input. The first No decides.
use Rattle.std.specs.Prelude.{ℕ, ◌*◌, Bool, cond, ◌&&◌, List, [], ◌∷◌, leb}
use Rattle.rows.specs.Limits.{FIELDS, PROCESSES}

-- A question's number and its answer.
pub record Question : Type 0 where
  pub number : ℕ
  pub yes : Bool

-- The number of the first No, and 0 where every answer is Yes.
unfoldable pub first_no : List Question → ℕ
first_no [] = 0
first_no (q ∷ qs) = cond q.yes (first_no qs) q.number

-- 1. Are the lent slices long enough (6 × row limit; row limit × process limit)?
abbrev pub long_enough : ℕ → ℕ → ℕ → ℕ → Bool
long_enough rowLimit processLimit rowsLength countsLength =
    leb (FIELDS * rowLimit) rowsLength && leb (rowLimit * processLimit) countsLength

-- Is the number a process limit, 1 to the largest one? Question 2 asks it of a call, and question 13 of a state.
abbrev pub is_process_limit : ℕ → Bool
is_process_limit n = leb 1 n && leb n PROCESSES
