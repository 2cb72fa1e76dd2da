-- A replay steps through the rows of a trace from a place on. Each row of the file is one step, under its number in the trace.
use Rattle.std.specs.Prelude.{ℕ, zero, suc, ◌+◌, ◌*◌, ◌-◌, ◌≡◌, Bool, cond, ◌&&◌, List, [], ◌∷◌, ◌++◌, length, take, drop, set, leb, eqb, Option, Some, None}
use Rattle.rows.specs.declared.row.Row.{Row}
use Rattle.rows.specs.Questions.{Question, first_no}
use Rattle.rows.specs.Refusals.{number_of}
use Rattle.rows.specs.Rows.{row_in}
use Rattle.rows.specs.declared.refusal.Refusal.{Refusal}
use Rattle.machine_meaning.specs.States.{Header, lawful_state, lawful_plain}
use Rattle.machine_meaning.specs.Steps.{StepAnswer, refusing, done, listed, Step, step_of, plain_step_of}
use Rattle.machine_state.specs.Answers.{put_to}
use Rattle.machine_state.specs.declared.files.Replayed.{Replayed}

-- How far a replay is: 0, or the refusal of the next row; the rows gone through; the pieces of its reads; and the slices it leaves.
pub record Replay : Type 0 where
  pub refusal : ℕ
  pub rows : ℕ
  pub pieces : ℕ
  pub maps : List ℕ
  pub counts : List ℕ
  pub out : List ℕ

-- The number of a refusal, and 0 for any other answer.
abbrev pub refusal_in : StepAnswer → ℕ
refusal_in (refusing number) = number
refusal_in done = 0
refusal_in (listed count) = 0

-- The count of pieces of a read, and 0 for any other answer.
abbrev pub count_in : StepAnswer → ℕ
count_in (refusing number) = 0
count_in done = 0
count_in (listed count) = count

module _ (step : List ℕ → Row → ℕ → List ℕ → Step) (file : ℕ) where
  module _ (rows : List ℕ) where
    -- What the next row does.
    abbrev pub tried : Replay → Step
    tried s = put_to step file s.maps (row_in rows s.rows) (suc s.rows) (drop (3 * s.pieces) s.out)

    -- The replay behind a row that is not refused: the row's count is set, and the pieces of a read stand behind those of the reads before it.
    abbrev pub row_passed : Step → Replay → Replay
    row_passed t s =
        record {
          refusal = 0;
          rows = suc s.rows;
          pieces = s.pieces + count_in t.answer;
          maps = t.maps;
          counts = set s.counts s.rows (count_in t.answer);
          out = take (3 * s.pieces) s.out ++ t.out;
        }

    -- The replay at a row that is refused. Nothing but the refusal changes.
    abbrev pub stopped : ℕ → Replay → Replay
    stopped refusal s =
        record { refusal = refusal; rows = s.rows; pieces = s.pieces; maps = s.maps; counts = s.counts; out = s.out }

    -- The replay one row on.
    unfoldable pub onward : Replay → Replay
    onward s = let t = tried s in cond (eqb (refusal_in t.answer) 0) (row_passed t s) (stopped (refusal_in t.answer) s)

    -- The replay n rows on. A refusal ends it.
    unfoldable pub after : ℕ → Replay → Replay
    after zero s = s
    after (suc n) s = cond (eqb s.refusal 0) (after n (onward s)) s

-- A replay asks 1 and 13: six numbers for each row and one for its count, then the state.
unfoldable pub replay_questions : Bool → ℕ → ℕ → ℕ → List Question
replay_questions law n rowsLength countsLength =
    record { number = 1; yes = leb (6 * n) rowsLength && leb n countsLength } ∷ (record { number = 13; yes = law } ∷ [])

-- The replay before its first row.
abbrev pub started : ℕ → ℕ → List ℕ → List ℕ → List ℕ → Replay
started refusal first maps counts out = record { refusal = refusal; rows = first; pieces = 0; maps = maps; counts = counts; out = out }

-- The replay from the row behind the first ones up to row n, by any step.
unfoldable pub replay_by : (List ℕ → Row → ℕ → List ℕ → Step) → Bool → ℕ → List ℕ → ℕ → ℕ → List ℕ → List ℕ → List ℕ → Replay
replay_by step law file rows first n maps counts out =
    let refusal = first_no (replay_questions law n (length rows) (length counts)) in
    cond (eqb refusal 0) (after step file rows (n - first) (started 0 first maps counts out)) (started refusal first maps counts out)

-- A replay of the layered file.
abbrev pub replay_of : Header → List ℕ → ℕ → ℕ → List ℕ → List ℕ → List ℕ → Replay
replay_of h rows first n maps counts out = replay_by (step_of h) (lawful_state h maps) h.file rows first n maps counts out

-- A replay of the plain file.
abbrev pub plain_replay_of : Header → List ℕ → ℕ → ℕ → List ℕ → List ℕ → List ℕ → Replay
plain_replay_of h rows first n maps counts out = replay_by (plain_step_of h) (lawful_plain h maps) h.file rows first n maps counts out

-- What the code says of the end of a replay: 0, or the number of the refusal that ended it.
abbrev pub told_end : Option Refusal → ℕ
told_end None = 0
told_end (Some refusal) = number_of refusal

-- The code answers and leaves what the replay does.
pub record Replays (s : Replay) (r : Replayed) (maps' counts' out' : List ℕ) : Type 0 where
  pub refused : told_end r.refusal ≡ s.refusal
  pub gone : r.rows ≡ s.rows
  pub listed : r.pieces ≡ s.pieces
  pub maps_after : maps' ≡ s.maps
  pub counts_after : counts' ≡ s.counts
  pub out_after : out' ≡ s.out
