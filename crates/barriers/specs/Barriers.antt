-- Question 22, as document 02 says it: whether a process repeats a barrier number, goes on before all have arrived, or the trace ends with a
-- barrier unfinished. All are the processes that have a row anywhere in the trace.
use Rattle.std.specs.Prelude.{ℕ, suc, ◌≡◌, ◌<◌, Option, MatchOption, Bool, cond, not, ◌&&◌, ◌||◌, List, [], ◌∷◌, ◌++◌, length, eqb}
use Rattle.rows.specs.declared.row.Row.{Row}
use Rattle.rows.specs.Kinds.{BARRIER}
use Rattle.rows.specs.Tests.{any, carries_by}

-- The row is of a barrier.
abbrev pub is_barrier : Row → Bool
is_barrier r = eqb r.kind BARRIER

-- Process p has arrived at barrier m by one of the rows.
abbrev pub arrived : ℕ → ℕ → List Row → Bool
arrived m p rows = any (carries_by p BARRIER m) rows

-- Every process that has a row among `all` has arrived at barrier m by one of the rows taken so far.
unfoldable pub all_arrived : ℕ → List Row → List Row → Bool
all_arrived m all taken = not (any (λ q. not (arrived m q.process taken)) all)

-- The row goes on before all have arrived: a row of its process among those taken so far is of a barrier at which not all have arrived.
unfoldable pub goes_on : List Row → List Row → Row → Bool
goes_on all taken r = any (λ s. eqb s.process r.process && (is_barrier s && not (all_arrived s.message all taken))) taken

-- The row repeats a barrier number: its process has arrived at its barrier by a row taken so far.
unfoldable pub repeats : List Row → Row → Bool
repeats taken r = is_barrier r && arrived r.message r.process taken

-- The row is out of turn behind the rows taken so far.
unfoldable pub out_of_turn : List Row → List Row → Row → Bool
out_of_turn all taken r = goes_on all taken r || repeats taken r

-- The number of the first row out of turn among the rest of the rows, behind those taken so far; 0 where there is none.
unfoldable pub first_out : List Row → List Row → List Row → ℕ
first_out all taken [] = 0
first_out all taken (r ∷ rest) = cond (out_of_turn all taken r) (suc (length taken)) (first_out all (taken ++ (r ∷ [])) rest)

-- A barrier is unfinished at the end of the trace: a row is of a barrier at which not all have arrived.
unfoldable pub unfinished : List Row → Bool
unfinished rows = any (λ r. is_barrier r && not (all_arrived r.message rows rows)) rows

-- 22. Is every row in its turn, and every barrier finished at the end? The place of the No: the first row out of turn, else the last row. 0 where
-- the answer is Yes.
unfoldable pub barrier_place : List Row → ℕ
barrier_place rows = cond (eqb (first_out rows [] rows) 0) (cond (unfinished rows) (length rows) 0) (first_out rows [] rows)

-- The place of a No, as an answer: none where there is no No, whose place as a number is 0.
abbrev pub AtPlace : ℕ → Option ℕ → Type 0
AtPlace place answer = MatchOption answer (place ≡ 0) (λ at. (at ≡ place) × (0 < at))
