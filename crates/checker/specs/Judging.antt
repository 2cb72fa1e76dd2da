-- What the whole call on a text answers, and what the call leaves of the lent slices.
use Rattle.std.specs.Prelude.{ℕ, ◌-◌, ◌*◌, ◌≡◌, List, ◌++◌, length, replicate, Option, None, Some, Result, Ok, Err}
use Rattle.rows.specs.Refusals.{number_of}
use Rattle.rows.specs.declared.refusal.Refused as refusal
use Rattle.trace.specs.Questions.{Outcome, refused, accepted, refusal_leaves, rows_left}
use Rattle.happens_before.specs.Order.{counts_of}
use Rattle.races_meaning.specs.Races.{Verdict, free, racing, verdict_of}
use Rattle.races.specs.declared.Race as race
use Rattle.checker.specs.declared.Judged as judged

-- what the whole call comes to: the row count of an accepted trace that is free; the row count with the numbers of the earlier and the later row of
-- the first race; or the number and place of a refusal
pub data Judged : Type 0 where
  Free : (count : ℕ) → Judged
  Race : (count earlier later : ℕ) → Judged
  Refused : (number place : ℕ) → Judged

-- a row count with the first race
abbrev pub told_rows : ℕ → Option race.Race → Judged
told_rows n None = Free n
told_rows n (Some r) = Race n r.earlier r.later

-- what the call's answer says
abbrev pub told_judged : Result judged.Judged refusal.Refused → Judged
told_judged (Ok j) = told_rows j.rows j.race
told_judged (Err e) = Refused (number_of e.refusal) e.place

-- the row count of an accepted trace with its verdict
abbrev pub judged_rows : ℕ → Verdict → Judged
judged_rows n free = Free n
judged_rows n (racing earlier later) = Race n earlier later

-- the number and place of a refusal, or the row count and the verdict under the model
abbrev pub judged_of : ℕ → Outcome → Judged
judged_of model (refused number place) = Refused number place
judged_of model (accepted rows) = judged_rows (length rows) (verdict_of rows model)

-- the counts of an accepted trace, then 0 to the end
abbrev pub counts_kept : ℕ → Outcome → List ℕ → List ℕ
counts_kept processLimit (refused number place) xs = refusal_leaves number xs
counts_kept processLimit (accepted rows) xs = counts_of processLimit rows ++ replicate (length xs - length rows * processLimit) 0

-- what a call answers, and what the call leaves of the rows' slice and of the counts' slice
pub record Decides (model processLimit : ℕ) (o : Outcome) (answer : Result judged.Judged refusal.Refused) (rows rows' counts counts' : List ℕ) : Type 0 where
  pub answered : told_judged answer ≡ judged_of model o
  pub rows_after : rows' ≡ rows_left o rows
  pub counts_after : counts' ≡ counts_kept processLimit o counts
