-- What filling the counts asks and leaves. Question 1 is the one put to a trace, with the number of rows for the row limit.
use Rattle.std.specs.Prelude.{ℕ, zero, suc, ◌*◌, ◌-◌, Bool, true, cond, ◌&&◌, List, [], ◌∷◌, ◌++◌, length, replicate, leb, ltb, eqb}
use Rattle.rows.specs.Limits.{ROWS}
use Rattle.rows.specs.Refusals.{SHORT_SLICE, LIMITS, RANGE}
use Rattle.rows.specs.Rows.{rows_in, row_in}
use Rattle.rows.specs.Questions.{long_enough, is_process_limit, Question}
use Rattle.happens_before.specs.Order.{counts_of}

-- 2. Are there at most 4,096 rows, and is the process limit within its range?
abbrev pub count_limits : ℕ → ℕ → Bool
count_limits n processLimit = leb n ROWS && is_process_limit processLimit

-- 10. Is the process of each of the first n rows below the limit?
unfoldable pub processes_in : ℕ → ℕ → List ℕ → Bool
processes_in zero processLimit xs = true
processes_in (suc n) processLimit xs = processes_in n processLimit xs && ltb (row_in xs n).process processLimit

-- The questions in their order.
unfoldable pub fill_questions : ℕ → ℕ → List ℕ → ℕ → List Question
fill_questions n processLimit xs countsLength =
    record { number = SHORT_SLICE; yes = long_enough n processLimit (length xs) countsLength }
    ∷ (record { number = LIMITS; yes = count_limits n processLimit } ∷ (record { number = RANGE; yes = processes_in n processLimit xs } ∷ []))

-- The counts of the first n rows, then 0 to the end; the slice as it was where there is a No.
abbrev pub filled_left : ℕ → ℕ → ℕ → List ℕ → List ℕ → List ℕ
filled_left first n processLimit xs counts =
    cond (eqb first 0) (counts_of processLimit (rows_in n xs) ++ replicate (length counts - n * processLimit) 0) counts
