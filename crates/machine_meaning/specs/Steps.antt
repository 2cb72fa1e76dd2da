-- Making and stepping a machine and a plain file: the questions in document 01's order, and what making and a step answer and leave.
use Rattle.std.specs.Prelude.{ℕ, ◌+◌, ◌*◌, Bool, cond, not, ◌&&◌, ◌||◌, List, [], ◌∷◌, ◌++◌, length, drop, replicate, leb, ltb, eqb}
use Rattle.rows.specs.Limits.{MODELS, ROWS, FILES, OFFSET_MAX}
use Rattle.rows.specs.Kinds.{READ, WRITE}
use Rattle.rows.specs.declared.row.Row.{Row}
use Rattle.rows.specs.Questions.{Question, first_no, is_process_limit}
use Rattle.extents_meaning.specs.Runs.{Run}
use Rattle.extents_meaning.specs.Maps.{threes}
use Rattle.machine_meaning.specs.Layers.{after_row, after_plain, pieces_read, of_file}
use Rattle.machine_meaning.specs.States.{Header, maps_length, lawful_state, layers_in, layers_to, layers_fit, lawful_plain, plain_in, plain_to, plain_fits}

-- ---- Making

-- Making a machine asks 1, 2 and 10: the slice, the model and the process limit, the file.
unfoldable pub making_questions : Header → ℕ → List Question
making_questions h sliceLength =
    record { number = 1; yes = leb (maps_length h) sliceLength }
    ∷ (record { number = 2; yes = ltb h.model MODELS && is_process_limit h.processes }
    ∷ (record { number = 10; yes = ltb h.file FILES } ∷ []))

-- Making a plain file asks 1, 2 and 10: the slice, the process limit, the file.
unfoldable pub plain_making_questions : Header → ℕ → List Question
plain_making_questions h sliceLength =
    record { number = 1; yes = leb (4 * h.space) sliceLength }
    ∷ (record { number = 2; yes = is_process_limit h.processes } ∷ (record { number = 10; yes = ltb h.file FILES } ∷ []))

-- Making leaves 0 everywhere in the maps. A refusal changes nothing.
abbrev pub made_to : ℕ → ℕ → List ℕ → List ℕ
made_to refusal n xs = cond (eqb refusal 0) (replicate n 0 ++ drop n xs) xs

-- ---- Questions of a step behind that of the state

-- A read and a write use offset and length.
abbrev pub uses_range : Row → Bool
uses_range r = eqb r.kind READ || eqb r.kind WRITE

-- A row is asked 15, 14, 10 and 11: its file, its number, its fields, the end of its range.
unfoldable pub row_asked : Header → Row → ℕ → List Question
row_asked h r number =
    record { number = 15; yes = of_file h.file r }
    ∷ (record { number = 14; yes = leb 1 number && leb number ROWS }
    ∷ (record { number = 10; yes = ltb r.process h.processes && (not (uses_range r) || (leb r.offset OFFSET_MAX && leb r.length OFFSET_MAX)) }
    ∷ (record { number = 11; yes = not (uses_range r) || leb (r.offset + r.length) OFFSET_MAX } ∷ [])))

-- A step is asked 16 and 17 last: the space of the maps, the room for the pieces.
abbrev pub room_asked : Bool → List Run → ℕ → List Question
room_asked fit pieces answerLength =
    record { number = 16; yes = fit } ∷ (record { number = 17; yes = leb (3 * length pieces) answerLength } ∷ [])

-- ---- What a step answers and leaves

-- A step answers the number of a refusal, nothing to list, or the count of pieces of a read.
pub data StepAnswer : Type 0 where
  refusing : (number : ℕ) → StepAnswer
  done : StepAnswer
  listed : (count : ℕ) → StepAnswer

-- What a step answers, and what it leaves of the maps and of the answer slice.
pub record Step : Type 0 where
  pub answer : StepAnswer
  pub maps : List ℕ
  pub out : List ℕ

-- A step that is not refused: a read lists its pieces at the front of the answer slice, which keeps the rest.
abbrev pub answered : Row → List Run → List ℕ → List ℕ → Step
answered r pieces maps out =
    record {
      answer = cond (eqb r.kind READ) (listed (length pieces)) done;
      maps = maps;
      out = threes pieces ++ drop (length (threes pieces)) out;
    }

-- A first No other than 0 is a refusal, which changes nothing.
abbrev pub decided : ℕ → Step → List ℕ → List ℕ → Step
decided refusal s maps out = cond (eqb refusal 0) s (record { answer = refusing refusal; maps = maps; out = out })

-- A step of the machine.
unfoldable pub step_of : Header → List ℕ → Row → ℕ → List ℕ → Step
step_of h xs r number out =
    let s = after_row h.model r number (layers_in h xs) in
    let pieces = pieces_read r (s.view r.process) in
    decided
    (first_no (record { number = 13; yes = lawful_state h xs } ∷ (row_asked h r number ++ room_asked (layers_fit h s) pieces (length out))))
    (answered r pieces (layers_to h s xs) out) xs out

-- A step of the plain file.
unfoldable pub plain_step_of : Header → List ℕ → Row → ℕ → List ℕ → Step
plain_step_of h xs r number out =
    let f = after_plain r number (plain_in h xs) in
    let pieces = pieces_read r f in
    decided
    (first_no (record { number = 13; yes = lawful_plain h xs } ∷ (row_asked h r number ++ room_asked (plain_fits h f) pieces (length out))))
    (answered r pieces (plain_to h f xs) out) xs out
