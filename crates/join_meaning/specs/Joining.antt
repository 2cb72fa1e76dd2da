-- Two files joined into one trace, as document 02 says it: which record comes next, which rows wait, the questions of the joined rows, and the
-- whole call.
use Rattle.std.specs.Prelude.{ℕ, zero, suc, ◌+◌, ◌*◌, Bool, cond, not, ◌&&◌, ◌||◌, List, [], ◌∷◌, ◌++◌, length, leb, eqb}
use Rattle.rows.specs.declared.row.Row.{Row}
use Rattle.rows.specs.Kinds.{ARRIVAL}
use Rattle.rows.specs.Questions.{Question, first_no, long_enough}
use Rattle.rows.specs.Refusals.{SHORT_SLICE, LIMITS, HEADER_WORD, ROW_LIMIT, SHARED_PROCESS, STUCK, BARRIER_ORDER}
use Rattle.messages.specs.Questions.{any, sent, message_questions}
use Rattle.barriers.specs.Barriers.{goes_on, barrier_place}
use Rattle.happens_before.specs.Order.{same_process}
use Rattle.trace.specs.Questions.{Outcome, in_limits, header_word, in_row_limit}
use Rattle.trace.specs.Questions as outcome
use Rattle.join_meaning.specs.Files.{Entry, rows_of, read_file, entries_of}

-- ---- Which record comes next

-- A row waits behind the rows taken so far: a message arrives at it that no taken row has sent, or its process stands at a barrier at which a process
-- of either file has not arrived. `both` are the rows of both files. No other definition knows which rows wait.
unfoldable pub waits : List Row → List Row → Row → Bool
waits both taken r = (eqb r.kind ARRIVAL && not (sent r.message taken)) || goes_on both taken r

-- What comes next: both files are at their end; no next row can be taken; or an entry is taken, and this is left of the first and of the second.
pub data Turn : Type 0 where
  over stuck : Turn
  take : (next : Entry) (first second : List Entry) → Turn

-- The next entry comes from the first file, unless that file is at its end or its next row waits; then it comes from the second on the same
-- condition.
unfoldable pub turn_of : List Row → List Row → List Entry → List Entry → Turn
turn_of both taken [] [] = over
turn_of both taken [] (f ∷ b) = cond (waits both taken f.row) stuck (take f [] b)
turn_of both taken (e ∷ a) [] = cond (waits both taken e.row) stuck (take e a [])
turn_of both taken (e ∷ a) (f ∷ b) =
    cond (waits both taken e.row) (cond (waits both taken f.row) stuck (take f (e ∷ a) b)) (take e a (f ∷ b))

-- ---- The join of two lists of entries

-- A refusal's number, its place, and the file whose place it is (0 for none); or the entries of an accepted join.
pub data Joining : Type 0 where
  refused : (number place file : ℕ) → Joining
  joined : List Entry → Joining

-- 6 and the questions from 12 on, put to a row behind the rows taken so far.
unfoldable pub taken_questions : ℕ → List Row → Row → List Question
taken_questions rowLimit taken r = record { number = ROW_LIMIT; yes = in_row_limit rowLimit (length taken) } ∷ message_questions taken r

-- The outcome by what comes next behind the entries taken so far; `on` joins the rest.
unfoldable pub on_turn : ℕ → List Entry → Turn → (List Entry → List Entry → List Entry → Joining) → Joining
on_turn rowLimit taken over on = joined taken
on_turn rowLimit taken stuck on = refused STUCK 0 0
on_turn rowLimit taken (take e a b) on =
    let first = first_no (taken_questions rowLimit (rows_of taken) e.row) in
    cond (eqb first 0) (on (taken ++ (e ∷ [])) a b) (refused first (length taken + 1) 0)

-- The join of the rest of both files behind the entries taken so far. The first number bounds how many entries are taken; one larger than the
-- number of entries left changes nothing.
unfoldable pub join_from : ℕ → ℕ → List Row → List Entry → List Entry → List Entry → Joining
join_from zero rowLimit both taken a b = joined taken
join_from (suc k) rowLimit both taken a b = on_turn rowLimit taken (turn_of both (rows_of taken) a b) (λ t c d. join_from k rowLimit both t c d)

-- 22, put to the joined rows once all are taken.
unfoldable pub ask_joined : Joining → Joining
ask_joined (refused number place file) = refused number place file
ask_joined (joined es) = cond (eqb (barrier_place (rows_of es)) 0) (joined es) (refused BARRIER_ORDER (barrier_place (rows_of es)) 0)

-- Every entry of both files taken in turn.
abbrev pub join_rows : ℕ → List Entry → List Entry → Joining
join_rows rowLimit a b = join_from (suc (length a + length b)) rowLimit (rows_of a ++ rows_of b) [] a b

-- The join of two files' entries.
abbrev pub join_entries : ℕ → List Entry → List Entry → Joining
join_entries rowLimit a b = ask_joined (join_rows rowLimit a b)

-- ---- The whole call

-- 19. Has a process rows in both files?
unfoldable pub shares_process : List Row → List Row → Bool
shares_process a b = any (λ r. any (λ s. same_process r s) b) a

-- How many numbers tell of a joined row where its record stands: the file, its start and its end.
abbrev pub PART : ℕ
PART = 3

-- The questions 1 to 3. 1 also asks of the slice that takes the records' places, and 3 of both header words.
unfoldable pub join_questions : ℕ → ℕ → ℕ → ℕ → ℕ → ℕ → ℕ → ℕ → List Question
join_questions header₁ header₂ model rowLimit processLimit rowsLength countsLength partsLength =
    record { number = SHORT_SLICE; yes = long_enough rowLimit processLimit rowsLength countsLength && leb (PART * rowLimit) partsLength }
    ∷ (record { number = LIMITS; yes = in_limits model rowLimit processLimit }
    ∷ (record { number = HEADER_WORD; yes = header_word header₁ && header_word header₂ } ∷ []))

-- A file that is refused refuses the join with its number and place and the file's number; behind an accepted one `on` decides.
unfoldable pub on_file : ℕ → Outcome → Joining → Joining
on_file file (outcome.refused number place) on = refused number place file
on_file file (outcome.accepted rows) on = on

-- The questions from 4 on: those of the first file, those of the second, 19, and those of the joined rows.
unfoldable pub join_files : ℕ → ℕ → ℕ → ℕ → List ℕ → List ℕ → Joining
join_files header₁ header₂ rowLimit processLimit first second =
    let a = entries_of 1 header₁ first in
    let b = entries_of 2 header₂ second in
    on_file 1 (read_file header₁ rowLimit processLimit first)
    (on_file 2 (read_file header₂ rowLimit processLimit second)
    (cond (shares_process (rows_of a) (rows_of b)) (refused SHARED_PROCESS 0 0) (join_entries rowLimit a b)))

-- The outcome of the whole call.
unfoldable pub join_traces : List ℕ → List ℕ → ℕ → ℕ → ℕ → ℕ → ℕ → ℕ → ℕ → ℕ → Joining
join_traces first second header₁ header₂ model rowLimit processLimit rowsLength countsLength partsLength =
    let no = first_no (join_questions header₁ header₂ model rowLimit processLimit rowsLength countsLength partsLength) in
    cond (eqb no 0) (join_files header₁ header₂ rowLimit processLimit first second) (refused no 0 0)
