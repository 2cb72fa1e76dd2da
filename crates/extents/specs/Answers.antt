-- What an entry answers, by numbers.
use Rattle.std.specs.Prelude.{ℕ, Result, Ok, Err}
use Rattle.rows.specs.Refusals.{number_of}
use Rattle.rows.specs.declared.refusal.Refusal.{Refusal}

-- Nothing to list, a count of pieces, or a refusal's number.
pub data Answer : Type 0 where
  Done : Answer
  Listed : ℕ → Answer
  Refused : ℕ → Answer

-- the answer of code that lists nothing
abbrev pub told_done : Result Unit Refusal → Answer
told_done (Ok done) = Done
told_done (Err refusal) = Refused (number_of refusal)

-- the answer of code that lists pieces
abbrev pub told_listed : Result ℕ Refusal → Answer
told_listed (Ok count) = Listed count
told_listed (Err refusal) = Refused (number_of refusal)
