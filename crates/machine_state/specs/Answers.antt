-- What the code answers, by the numbers of the definitions.
use Rattle.std.specs.Prelude.{ℕ, ◌+◌, ◌≡◌, true, cond, ◌&&◌, List, [], ◌∷◌, ◌++◌, leb, ltb, eqb, Option, Some, None, Result, Ok, Err}
use Rattle.rows.specs.Limits.{ROWS, OFFSET_MAX}
use Rattle.rows.specs.Questions.{Question, first_no}
use Rattle.rows.specs.Refusals.{number_of}
use Rattle.rows.specs.declared.refusal.Refusal.{Refusal}
use Rattle.rows.specs.declared.row.Row.{Row}
use Rattle.extents.specs.Answers.{Answer, Done, Listed, Refused}
use Rattle.machine_meaning.specs.Layers.{of_file}
use Rattle.machine_meaning.specs.States.{Header, lawful_state}
use Rattle.machine_meaning.specs.Steps.{StepAnswer, refusing, done, listed, Step, row_asked}
use Rattle.machine_state.specs.declared.Machine.{Machine}

-- The header of a machine.
abbrev pub header_of : Machine → Header
header_of m = record { model = m.model; processes = m.process_limit; file = m.file; space = m.map_space }

-- ---- Questions by the fields that a kind uses

-- A row that uses process and file is asked 15, 14 and 10.
abbrev pub file_asked : Header → Row → ℕ → List Question
file_asked h r number =
    record { number = 15; yes = eqb r.file h.file }
    ∷ (record { number = 14; yes = leb 1 number && leb number ROWS }
    ∷ (record { number = 10; yes = ltb r.process h.processes } ∷ []))

-- A row that uses offset and length too is asked 11 behind these.
abbrev pub range_asked : Header → Row → ℕ → List Question
range_asked h r number = file_asked h r number ++ (record { number = 11; yes = leb (r.offset + r.length) OFFSET_MAX } ∷ [])

-- ---- Answers

-- The answer of a step by what the code says of it: nothing to list, a count of pieces, or a refusal's number.
abbrev pub answer_of : StepAnswer → Answer
answer_of (refusing number) = Refused number
answer_of done = Done
answer_of (listed count) = Listed count

-- What the code says of a step.
abbrev pub told_step : Result (Option ℕ) Refusal → Answer
told_step (Ok None) = Done
told_step (Ok (Some count)) = Listed count
told_step (Err refusal) = Refused (number_of refusal)

-- The code answers and leaves what the step does.
pub record Steps (s : Step) (answer : Answer) (maps' out' : List ℕ) : Type 0 where
  pub answered : answer ≡ answer_of s.answer
  pub maps_after : maps' ≡ s.maps
  pub out_after : out' ≡ s.out

-- The state is lawful, and the row passes the questions 15, 14, 10 and 11.
pub record Ready (h : Header) (maps : List ℕ) (r : Row) (number : ℕ) : Type 0 where
  pub lawful : lawful_state h maps ≡ true
  pub asked : first_no (row_asked h r number) ≡ 0

-- The number of a refusal, and 0 for any other answer.
abbrev pub refusal_of : Answer → ℕ
refusal_of Done = 0
refusal_of (Listed count) = 0
refusal_of (Refused number) = number

-- The count of pieces of a read, and 0 for any other answer.
abbrev pub count_of : Answer → ℕ
count_of Done = 0
count_of (Listed count) = count
count_of (Refused number) = 0

-- A row of the file is a step. Any other row changes nothing.
unfoldable pub put_to : (List ℕ → Row → ℕ → List ℕ → Step) → ℕ → List ℕ → Row → ℕ → List ℕ → Step
put_to step file xs r number out = cond (of_file file r) (step xs r number out) (record { answer = done; maps = xs; out = out })
