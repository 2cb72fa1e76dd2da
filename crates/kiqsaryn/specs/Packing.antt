-- What each exported function answers, as one number for C, and what it leaves in the lent slices.
use Rattle.std.specs.Prelude.{ℕ, ◌+◌, ◌*◌, ◌≡◌, List, length}
use Rattle.extents.specs.Entries.{looked_up}
use Rattle.happens_before.specs.Filling.{filled_left}
use Rattle.races_meaning.specs.Lists.{race_pairs}
use Rattle.races.specs.Answers.{judge_questions, found_of}
use Rattle.races.specs.Listing.{list_questions, listed_of, list_left}
use Rattle.rows.specs.declared.row.Row.{Row}
use Rattle.rows.specs.Rows.{rows_in}
use Rattle.trace.specs.Questions.{Outcome, checked_of, rows_left, counts_left}
use Rattle.rows.specs.Questions.{Question, first_no}
use Rattle.checker.specs.Judging.{judged_of, counts_kept}
use Rattle.checker.specs.Listing as lists
use Rattle.machine_meaning.specs.States.{Header}
use Rattle.machine_meaning.specs.Steps as steps
use Rattle.machine_meaning.specs.Steps.{Step, made_to}
use Rattle.machine_state.specs.Replays.{Replay}
use Rattle.join_meaning.specs.Joining.{Joining}
use Rattle.join.specs.Leaving as joined
use Rattle.join_checker.specs.Judging as joins
use Rattle.writer.specs.Writing.{Writing, written_of, out_left}
use Rattle.kiqsaryn_packing.specs.Packing.{UPPER, packed, packed_judged, packed_join, packed_found, packed_listed, packed_written, packed_lookup}

-- What a check answers and leaves.
pub record Gives (o : Outcome) (answer : ℕ) (rows rows' counts counts' : List ℕ) : Type 0 where
  pub answered : answer ≡ packed (checked_of o)
  pub rows_after : rows' ≡ rows_left o rows
  pub counts_after : counts' ≡ counts_left o counts

-- What the whole call answers and leaves.
pub record JudgeGives (model processLimit : ℕ) (o : Outcome) (answer : ℕ) (rows rows' counts counts' : List ℕ) : Type 0 where
  pub answered : answer ≡ packed_judged (judged_of model o)
  pub rows_after : rows' ≡ rows_left o rows
  pub counts_after : counts' ≡ counts_kept processLimit o counts

-- What reading one file of a join by itself answers and leaves.
pub record FileGives (o : Outcome) (answer : ℕ) (rows rows' : List ℕ) : Type 0 where
  pub answered : answer ≡ packed (checked_of o)
  pub rows_after : rows' ≡ rows_left o rows

-- What the whole call on two files answers and leaves.
pub record JoinGives (model processLimit : ℕ) (o : Joining) (answer : ℕ) (rows rows' counts counts' parts parts' : List ℕ) : Type 0 where
  pub answered : answer ≡ packed_join (joins.judged_of model o)
  pub rows_after : rows' ≡ joined.rows_left o rows
  pub counts_after : counts' ≡ joins.counts_kept processLimit o counts
  pub parts_after : parts' ≡ joined.parts_left o parts

-- What filling the counts answers and leaves: the first No, 0 for none, and the counts.
pub record Fills (questions : List Question) (n processLimit answer : ℕ) (rows counts counts' : List ℕ) : Type 0 where
  pub answered : answer ≡ first_no questions
  pub counts_after : counts' ≡ filled_left (first_no questions) n processLimit rows counts

-- What a verdict answers and leaves.
pub record Judges (questions : List Question) (n processLimit model answer : ℕ) (rows counts counts' : List ℕ) : Type 0 where
  pub answered : answer ≡ packed_found (found_of (first_no questions) rows n model)
  pub counts_after : counts' ≡ filled_left (first_no questions) n processLimit rows counts

-- What the list of a text's races answers and leaves.
pub record ListGives (model processLimit : ℕ) (o : Outcome) (answer : ℕ) (rows rows' counts counts' list list' : List ℕ) : Type 0 where
  pub answered : answer ≡ packed_listed (lists.listed_of model o (length list))
  pub rows_after : rows' ≡ rows_left o rows
  pub counts_after : counts' ≡ counts_kept processLimit o counts
  pub list_after : list' ≡ lists.list_kept model o list

-- What the list of the first n rows' races answers and leaves. The counts are those of the questions before 23.
pub record RowsListGives (n processLimit model answer : ℕ) (rows counts counts' list list' : List ℕ) : Type 0 where
  pub answered : answer ≡ packed_listed (listed_of (first_no (list_questions n processLimit model rows (length counts) (length list))) (race_pairs (rows_in n rows) model))
  pub counts_after : counts' ≡ filled_left (first_no (judge_questions n processLimit model rows (length counts))) n processLimit rows counts
  pub list_after : list' ≡ list_left (first_no (list_questions n processLimit model rows (length counts) (length list))) (race_pairs (rows_in n rows) model) list

-- ---- The machine and the plain file

-- The model of a plain file, which no call reads.
abbrev pub NO_MODEL : ℕ
NO_MODEL = 0

-- A header by its numbers.
abbrev pub header_from : ℕ → ℕ → ℕ → ℕ → Header
header_from model processLimit file mapSpace = record { model = model; processes = processLimit; file = file; space = mapSpace }

-- A row by its numbers, without a message.
abbrev pub row_from : ℕ → ℕ → ℕ → ℕ → ℕ → Row
row_from process kind file offset size = record { process = process; kind = kind; file = file; offset = offset; length = size; message = 0 }

-- What making answers and leaves: the first No, 0 for none, and zeros in the maps.
pub record Makes (questions : List Question) (size answer : ℕ) (maps maps' : List ℕ) : Type 0 where
  pub answered : answer ≡ first_no questions
  pub maps_after : maps' ≡ made_to (first_no questions) size maps

-- A step's answer: the count of pieces, 0 for a row that is no read, or a refusal's number in the upper half.
abbrev pub packed_step : steps.StepAnswer → ℕ
packed_step (steps.refusing number) = number * UPPER
packed_step steps.done = 0
packed_step (steps.listed count) = count

-- What a step answers and leaves.
pub record StepGives (s : Step) (answer : ℕ) (maps' out' : List ℕ) : Type 0 where
  pub answered : answer ≡ packed_step s.answer
  pub maps_after : maps' ≡ s.maps
  pub out_after : out' ≡ s.out

-- What a replay answers and leaves: its refusal in the upper half, and the rows gone through.
pub record ReplayGives (s : Replay) (answer : ℕ) (maps' counts' out' : List ℕ) : Type 0 where
  pub answered : answer ≡ s.refusal * UPPER + s.rows
  pub maps_after : maps' ≡ s.maps
  pub counts_after : counts' ≡ s.counts
  pub out_after : out' ≡ s.out

-- ---- Writing

-- What writing answers and leaves.
pub record WriteGives (w : Writing) (answer place : ℕ) (out out' : List ℕ) : Type 0 where
  pub answered : answer ≡ packed_written (written_of w)
  pub out_after : out' ≡ out_left w place out

-- ---- Looking a byte up

-- What a lookup answers.
abbrev pub LookupGives : List ℕ → ℕ → ℕ → Type 0
LookupGives map byte answer = answer ≡ packed_lookup (looked_up map byte)
