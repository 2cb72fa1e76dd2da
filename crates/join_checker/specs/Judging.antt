-- What the whole call on two files answers, and what the call leaves of the lent slices.
use Rattle.std.specs.Prelude.{ℕ, ◌-◌, ◌*◌, ◌≡◌, List, ◌++◌, length, replicate, Option, None, Some, Result, Ok, Err}
use Rattle.rows.specs.Refusals.{number_of}
use Rattle.trace.specs.Questions.{refusal_leaves}
use Rattle.happens_before.specs.Order.{counts_of}
use Rattle.races_meaning.specs.Races.{Verdict, free, racing, verdict_of}
use Rattle.join_meaning.specs.Files.{rows_of}
use Rattle.join_meaning.specs.Joining.{Joining, refused, joined}
use Rattle.join.specs.Leaving.{rows_left, parts_left}
use Rattle.join.specs.Answers.{told_file}
use Rattle.join.specs.declared.JoinRefused.{JoinRefused}
use Rattle.races.specs.declared.Race as race
use Rattle.checker.specs.declared.Judged.{Judged}

-- What the whole call comes to: the row count of an accepted join that is free; the row count with the numbers of the earlier and the later row of
-- the first race; or the number, place and file of a refusal.
pub data JudgedJoin : Type 0 where
  Free : (count : ℕ) → JudgedJoin
  Race : (count earlier later : ℕ) → JudgedJoin
  Refused : (number place file : ℕ) → JudgedJoin

-- A row count with the first race.
abbrev pub told_rows : ℕ → Option race.Race → JudgedJoin
told_rows n None = Free n
told_rows n (Some r) = Race n r.earlier r.later

-- What the call's answer says.
abbrev pub told_judged : Result Judged JoinRefused → JudgedJoin
told_judged (Ok j) = told_rows j.rows j.race
told_judged (Err e) = Refused (number_of e.refusal) e.place (told_file e.file)

-- The row count of an accepted join with its verdict.
abbrev pub judged_rows : ℕ → Verdict → JudgedJoin
judged_rows n free = Free n
judged_rows n (racing earlier later) = Race n earlier later

-- The number, place and file of a refusal, or the row count and the verdict under the model.
abbrev pub judged_of : ℕ → Joining → JudgedJoin
judged_of model (refused number place file) = Refused number place file
judged_of model (joined es) = judged_rows (length es) (verdict_of (rows_of es) model)

-- The counts of an accepted join, then 0 to the end.
abbrev pub counts_kept : ℕ → Joining → List ℕ → List ℕ
counts_kept processLimit (refused number place file) xs = refusal_leaves number xs
counts_kept processLimit (joined es) xs = counts_of processLimit (rows_of es) ++ replicate (length xs - length es * processLimit) 0

-- What a call answers, and what it leaves of the slices of rows, of counts and of places.
pub record Decides (model processLimit : ℕ) (o : Joining) (answer : Result Judged JoinRefused) (rows rows' counts counts' parts parts' : List ℕ) : Type 0 where
  pub answered : told_judged answer ≡ judged_of model o
  pub rows_after : rows' ≡ rows_left o rows
  pub counts_after : counts' ≡ counts_kept processLimit o counts
  pub parts_after : parts' ≡ parts_left o parts
