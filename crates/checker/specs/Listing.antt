-- What listing every race of a text answers, and what the call leaves of the lent slices.
use Rattle.std.specs.Prelude.{ℕ, ◌≡◌, List, length, Result}
use Rattle.rows.specs.declared.refusal.Refused as refusal
use Rattle.trace.specs.Questions.{Outcome, refused, accepted, rows_left}
use Rattle.races_meaning.specs.Lists.{race_pairs}
use Rattle.races.specs.Listing.{Listed, Refused, told_listed, room_answer, room_left}
use Rattle.checker.specs.Judging.{counts_kept}

-- the number and place of a refusal; of an accepted trace the number of its races, or 23 where the list has no room for them
abbrev pub listed_of : ℕ → Outcome → ℕ → Listed
listed_of model (refused number place) listLength = Refused number place
listed_of model (accepted rows) listLength = room_answer (race_pairs rows model) listLength

-- the races of an accepted trace, then the list's own numbers; the list as it was where the answer is a refusal
abbrev pub list_kept : ℕ → Outcome → List ℕ → List ℕ
list_kept model (refused number place) list = list
list_kept model (accepted rows) list = room_left (race_pairs rows model) list

-- what a call answers, and what the call leaves of the rows' slice, of the counts' slice and of the list
pub record Lists (model processLimit : ℕ) (o : Outcome) (answer : Result ℕ refusal.Refused) (rows rows' counts counts' list list' : List ℕ) : Type 0 where
  pub answered : told_listed answer ≡ listed_of model o (length list)
  pub rows_after : rows' ≡ rows_left o rows
  pub counts_after : counts' ≡ counts_kept processLimit o counts
  pub list_after : list' ≡ list_kept model o list
