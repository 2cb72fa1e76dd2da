-- The tables by which one pass tells who may go on: at which barrier each process stands, and how many rows each barrier has.
use Rattle.std.specs.Prelude.{ℕ, zero, suc, Bool, false, cond, ◌&&◌, ◌||◌, List, [], ◌∷◌, get_or, set, replicate, leb, ltb}
use Rattle.rows.specs.declared.row.Row.{Row}
use Rattle.rows.specs.Limits.{PROCESSES, MESSAGES}
use Rattle.barriers.specs.Barriers.{is_barrier}

-- The barrier at which the row's process stands behind the row, plus one; 0 where the row is of no barrier. Numbers past the largest are of none.
abbrev pub stand_of : Row → ℕ
stand_of r = cond (is_barrier r && ltb r.message MESSAGES) (suc r.message) 0

-- The table by process with a row noted.
abbrev pub noted_stand : List ℕ → Row → List ℕ
noted_stand stands r = set stands r.process (stand_of r)

-- One row more of a barrier. As many as there can be processes are enough, so that a table of small numbers holds them.
abbrev pub one_more : ℕ → ℕ
one_more n = cond (ltb n PROCESSES) (suc n) n

-- The table by barrier with a row noted.
unfoldable pub noted_arrival : List ℕ → Row → List ℕ
noted_arrival arrivals r = cond (is_barrier r) (set arrivals r.message (one_more (get_or arrivals r.message 0))) arrivals

-- A process that stands at this barrier, plus one, may not go on: the barrier has fewer rows than there are processes. 0 stands for none.
abbrev pub open_by : List ℕ → ℕ → ℕ → Bool
open_by arrivals processes zero = false
open_by arrivals processes (suc m) = ltb (get_or arrivals m 0) processes

-- The row goes on before all have arrived, by the tables.
unfoldable pub held_by : List ℕ → List ℕ → ℕ → Row → Bool
held_by stands arrivals processes r = open_by arrivals processes (get_or stands r.process 0)

-- The row is out of turn, by the tables.
unfoldable pub out_by : List ℕ → List ℕ → ℕ → Row → Bool
out_by stands arrivals processes r = held_by stands arrivals processes r || (is_barrier r && leb processes (get_or arrivals r.message 0))

-- The row is of a barrier that is unfinished, by the table.
abbrev pub unfinished_by : List ℕ → ℕ → Row → Bool
unfinished_by arrivals processes r = is_barrier r && ltb (get_or arrivals r.message 0) processes

-- The number of the first row out of turn behind k rows, by the tables; 0 where there is none.
unfoldable pub first_out_by : List ℕ → List ℕ → ℕ → ℕ → List Row → ℕ
first_out_by stands arrivals processes k [] = 0
first_out_by stands arrivals processes k (r ∷ rs) =
    cond (out_by stands arrivals processes r) (suc k) (first_out_by (noted_stand stands r) (noted_arrival arrivals r) processes (suc k) rs)

-- The table by process with rows noted one after the other.
unfoldable pub stands_after : List ℕ → List Row → List ℕ
stands_after stands [] = stands
stands_after stands (r ∷ rs) = stands_after (noted_stand stands r) rs

-- The table by barrier with rows noted one after the other.
unfoldable pub arrivals_after : List ℕ → List Row → List ℕ
arrivals_after arrivals [] = arrivals
arrivals_after arrivals (r ∷ rs) = arrivals_after (noted_arrival arrivals r) rs

-- The tables of rows, from 0.
abbrev pub stands_of : List Row → List ℕ
stands_of rows = stands_after (replicate PROCESSES 0) rows

abbrev pub arrivals_of : List Row → List ℕ
arrivals_of rows = arrivals_after (replicate MESSAGES 0) rows
