-- What the code answers, by the numbers of the questions.
use Rattle.std.specs.Prelude.{ℕ, Result, Ok, Err}
use Rattle.rows.specs.Refusals.{number_of}
use Rattle.rows.specs.declared.refusal.Refused.{Refused as RefusedAt}

-- All rows passed, or the number of the question that was answered No and the row's number.
pub data Asked : Type 0 where
  Passed : Asked
  No : (number place : ℕ) → Asked

-- The length of the text, or the number of the question that was answered No and the row's number, 0 for none.
pub data Written : Type 0 where
  Length : ℕ → Written
  Refused : (number place : ℕ) → Written

-- What asking the rows answers.
abbrev pub told_asked : Result (Unit {0}) RefusedAt → Asked
told_asked (Ok _) = Passed
told_asked (Err e) = No (number_of e.refusal) e.place

-- What writing answers.
abbrev pub told_written : Result ℕ RefusedAt → Written
told_written (Ok length) = Length length
told_written (Err e) = Refused (number_of e.refusal) e.place
