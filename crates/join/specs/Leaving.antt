-- What a join answers, and what it leaves of the lent slices.
use Rattle.std.specs.Prelude.{ℕ, ◌*◌, ◌-◌, ◌≤◌, ◌≡◌, Result, MatchResult, List, ◌++◌, length, drop, replicate}
use Rattle.rows.specs.declared.row.Row.{Row}
use Rattle.rows.specs.Limits.{ROWS, PROCESSES, FIELDS}
use Rattle.rows.specs.Rows.{numbers}
use Rattle.rows.specs.Refusals.{number_of}
use Rattle.trace.specs.Questions.{Outcome, accepted, refusal_leaves, checked_of}
use Rattle.trace.specs.Questions.{rows_left as file_left}
use Rattle.trace.specs.Questions as checked
use Rattle.join_meaning.specs.Files.{rows_of, read_file}
use Rattle.join_meaning.specs.Joining.{Joining, refused, joined, PART}
use Rattle.join.specs.Taking.{part_numbers}
use Rattle.join.specs.declared.JoinCall.{JoinCall}
use Rattle.join.specs.declared.JoinRefused.{JoinRefused}
use Rattle.join.specs.Answers.{Joined, Accepted, Refused, told_joined}

-- The row count, or the refusal's number, place and file.
abbrev pub joined_of : Joining → Joined
joined_of (refused number place file) = Refused number place file
joined_of (joined es) = Accepted (length es)

-- What reading one of the files by itself answers: its row count, or a refusal's number and place.
abbrev pub TellsFile : Outcome → Result ℕ JoinRefused → Type 0
TellsFile o answer = MatchResult answer (λ n. checked.Accepted n ≡ checked_of o) (λ e. checked.Refused (number_of e.refusal) e.place ≡ checked_of o)

-- What it leaves of the slice of rows.
abbrev pub one_left : Outcome → List ℕ → List ℕ
one_left o rows = file_left o rows

-- ---- What the joining itself needs and holds

-- The limits of a call that passed the questions 1 to 3, for slices of these lengths.
pub record Fits (rowLimit processLimit rowsLength partsLength : ℕ) : Type 0 where
  pub few-rows : rowLimit ≤ ROWS
  pub few-processes : processLimit ≤ PROCESSES
  pub rows_have_room : FIELDS * rowLimit ≤ rowsLength
  pub parts_fit : PART * rowLimit ≤ partsLength

-- A call passed the questions 1 to 3, for slices of these lengths.
pub record Passed (call : JoinCall) (rowsLength partsLength : ℕ) : Type 0 where
  pub fits : Fits call.row_limit call.process_limit rowsLength partsLength
  pub some-rows : 1 ≤ call.row_limit
  pub some-processes : 1 ≤ call.process_limit
  pub first_word : call.first_header ≤ 1
  pub second_word : call.second_header ≤ 1

-- A file passed the questions 4 to 11, and these are its rows.
pub record ReadAs (header rowLimit processLimit : ℕ) (text : List ℕ) : Type 0 where
  pub rows : List Row
  pub is_read : read_file header rowLimit processLimit text ≡ accepted rows

-- The rows and the places of an accepted join stand at the front of slices that were xs and ps, whose rest is unchanged.
abbrev pub Holds : Joining → List ℕ → List ℕ → List ℕ → List ℕ → Type 0
Holds (refused number place file) xs xs' ps ps' = Unit {0}
Holds (joined es) xs xs' ps ps' =
    (xs' ≡ numbers (rows_of es) ++ drop (FIELDS * length es) xs) × (ps' ≡ part_numbers es ++ drop (PART * length es) ps)

-- The same, where the slice of rows was used before: the rest of some slice of the same length stands behind the rows.
pub record HeldOver (o : Joining) (xs xs' ps ps' : List ℕ) : Type 0 where
  pub used : List ℕ
  pub same_length : length used ≡ length xs
  pub holds : Holds o used xs' ps ps'

-- ---- What the whole call leaves

-- The joined rows, then 0 to the end. Refusals 1 to 3 keep the slice, and the others fill it with 0.
abbrev pub rows_left : Joining → List ℕ → List ℕ
rows_left (refused number place file) xs = refusal_leaves number xs
rows_left (joined es) xs = numbers (rows_of es) ++ replicate (length xs - FIELDS * length es) 0

-- An accepted join leaves the counts' slice filled with 0.
abbrev pub counts_left : Joining → List ℕ → List ℕ
counts_left (refused number place file) xs = refusal_leaves number xs
counts_left (joined es) xs = replicate (length xs) 0

-- The places of the joined rows' records, then 0 to the end.
abbrev pub parts_left : Joining → List ℕ → List ℕ
parts_left (refused number place file) xs = refusal_leaves number xs
parts_left (joined es) xs = part_numbers es ++ replicate (length xs - PART * length es) 0

-- What a join answers, and what it leaves of the slices of rows, of counts and of places.
pub record Leaves (o : Joining) (answer : Result ℕ JoinRefused) (rows rows' counts counts' parts parts' : List ℕ) : Type 0 where
  pub answered : told_joined answer ≡ joined_of o
  pub rows_after : rows' ≡ rows_left o rows
  pub counts_after : counts' ≡ counts_left o counts
  pub parts_after : parts' ≡ parts_left o parts
