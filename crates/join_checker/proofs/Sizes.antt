-- The numbers in an answer of the whole call on two files are small.
use Rattle.std.proofs.Common.{ℕ, ◌≤◌, ◌<◌, arith, ◌≡◌, refl, List, length}
use Rattle.rows.specs.Limits.{ROWS}
use Rattle.rows.specs.declared.row.Row.{Row}
use Rattle.races_meaning.specs.Races.{Verdict, free, racing, verdict_of}
use Rattle.races_meaning.proofs.Verdicts.{racing-within}
use Rattle.join_meaning.specs.Files.{rows_of}
use Rattle.join_meaning.specs.Joining.{Joining, refused, joined, join_traces}
use Rattle.join_meaning.proofs.Accepted.{accepted-allowed, accepted-sound}
use Rattle.join_meaning.proofs.Merging.{rows-length}
use Rattle.join_meaning.proofs.Refusals.{Bounded, refusal-bounded}
use Rattle.join_checker.specs.Judging.{JudgedJoin, Free, Race, Refused, judged_rows, judged_of}

-- At most 4,096 rows, the rows of a race among them, and the bounds of a refusal.
abbrev pub Small : JudgedJoin → Type 0
Small (Free n) = n ≤ ROWS
Small (Race n earlier later) = (n ≤ ROWS) × (earlier < later) × (later ≤ n)
Small (Refused number place file) = Bounded number place file

-- The rows of a race are rows of the join.
verdict_small : (rows : List Row) (model n : ℕ) → length rows ≡ n → n ≤ ROWS → Small (judged_rows n (verdict_of rows model))
verdict_small rows model n many h = go (verdict_of rows model) refl
  where
    go : (v : Verdict) → verdict_of rows model ≡ v → Small (judged_rows n v)
    go free e = h
    go (racing earlier later) e =
        let w = racing-within rows model e in
        (h, w.1, omega arith)

-- Every answer of the whole call is small.
pub join-small : (first second : List ℕ) (h₁ h₂ model R P a b c : ℕ) → Small (judged_of model (join_traces first second h₁ h₂ model R P a b c))
join-small first second h₁ h₂ model R P a b c = go (join_traces first second h₁ h₂ model R P a b c) refl
  where
    go : (o : Joining) → join_traces first second h₁ h₂ model R P a b c ≡ o → Small (judged_of model o)
    go (refused number place file) e = refusal-bounded first second h₁ h₂ model R P a b c e
    go (joined es) e =
        let p = (accepted-allowed first second h₁ h₂ model R P a b c es e).one-trace in
        let s = accepted-sound first second h₁ h₂ model R P a b c es e in
        verdict_small (rows_of es) model (length es) (rows-length es) (omega (arith, s.1, p.few-rows))
