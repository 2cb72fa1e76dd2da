-- What the code answers, by the numbers of the questions and of the files.
use Rattle.std.specs.Prelude.{ℕ, ◌≡◌, Bool, true, false, Option, None, Some, MatchOption, Result, Ok, Err, MatchResult}
use Rattle.rows.specs.declared.refusal.Refusal.{Refusal}
use Rattle.rows.specs.declared.refusal.Refused.{Refused as RefusedAt}
use Rattle.rows.specs.Refusals.{number_of}
use Rattle.join.specs.declared.JoinRefused.{JoinRefused}
use Rattle.join.specs.declared.choosing.File.{File}
use Rattle.join.specs.declared.choosing.File.TheVariants.{First, Second}
use Rattle.join.specs.declared.choosing.Next.{Next as NextRecord}
use Rattle.join.specs.declared.choosing.Choice.{Choice as ChosenRecord}
use Rattle.join.specs.Choosing.{FIRST, SECOND, Next, no_next, Choice, Turn, Over, Stuck, Take}

-- The number of a file.
abbrev pub file_number : File → ℕ
file_number First = FIRST
file_number Second = SECOND

-- The number of a file, and 0 for none.
abbrev pub told_file : Option File → ℕ
told_file None = 0
told_file (Some file) = file_number file

-- What stands next in a file.
abbrev pub told_next : Option NextRecord → Next
told_next None = no_next
told_next (Some next) = record { some = true; row = next.row; start = next.start; end = next.end; behind = next.behind }

-- A choice by the number of its file.
abbrev pub told_choice : ChosenRecord → Choice
told_choice choice = record { file = file_number choice.file; start = choice.start; end = choice.end }

-- The record that stands next in a file, as a choice.
abbrev pub choice_by : File → NextRecord → Choice
choice_by file next = record { file = file_number file; start = next.start; end = next.end }

-- What stands next in a file where it is ready, and nothing where it is not.
abbrev pub Readies : Bool → Option NextRecord → Option NextRecord → Type 0
Readies ready next answer = MatchOption answer (ready ≡ false) (λ found. (ready ≡ true) × (next ≡ Some found))

-- The turn.
abbrev pub told_turn : Result (Option ChosenRecord) Refusal → Turn
told_turn (Ok None) = Over
told_turn (Ok (Some choice)) = Take (told_choice choice)
told_turn (Err _) = Stuck

-- What some questions answer whose first No has this number, 0 where every answer is Yes: that question's refusal at a place.
abbrev pub AsksAt : {T : Type 0} → ℕ → ℕ → Result T RefusedAt → Type 0
AsksAt place first answer = MatchResult answer (λ _. first ≡ 0) (λ e. (number_of e.refusal ≡ first) × (e.place ≡ place))

-- The row count of a join; or the number of the question that was answered No, the place, and the file whose place it is (0 for none).
pub data Joined : Type 0 where
  Accepted : ℕ → Joined
  Refused : (number place file : ℕ) → Joined

-- What a join answers.
abbrev pub told_joined : Result ℕ JoinRefused → Joined
told_joined (Ok count) = Accepted count
told_joined (Err e) = Refused (number_of e.refusal) e.place (told_file e.file)
