-- What a lookup answers, by numbers.
use Rattle.std.specs.Prelude.{ℕ, Result, Ok, Err}
use Rattle.rows.specs.Refusals.{number_of}
use Rattle.rows.specs.declared.refusal.Refusal.{Refusal}
use Rattle.extents.specs.declared.Stretch.{Stretch}

-- What stands at a byte, or a refusal's number.
pub data LookupAnswer : Type 0 where
  Found : Stretch → LookupAnswer
  Refused : ℕ → LookupAnswer

-- the answer of code
abbrev pub told_lookup : Result Stretch Refusal → LookupAnswer
told_lookup (Ok stretch) = Found stretch
told_lookup (Err refusal) = Refused (number_of refusal)
