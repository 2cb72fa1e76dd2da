-- What a verdict on rows asks, and what the call answers.
use Rattle.std.specs.Prelude.{ℕ, cond, ◌&&◌, List, [], ◌∷◌, length, ltb, eqb, Option, None, Some, Result, Ok, Err}
use Rattle.rows.specs.Limits.{MODELS}
use Rattle.rows.specs.Refusals.{SHORT_SLICE, LIMITS, RANGE, number_of}
use Rattle.rows.specs.declared.refusal.Refusal.{Refusal}
use Rattle.rows.specs.Rows.{rows_in}
use Rattle.rows.specs.Questions.{long_enough, Question}
use Rattle.happens_before.specs.Filling.{count_limits, processes_in}
use Rattle.races_meaning.specs.Races.{Verdict, free, racing, verdict_of}
use Rattle.races.specs.declared.Race as race

-- The questions of filling the counts, and in 2 whether the model is 0 to 3.
unfoldable pub judge_questions : ℕ → ℕ → ℕ → List ℕ → ℕ → List Question
judge_questions n processLimit model xs countsLength =
    record { number = SHORT_SLICE; yes = long_enough n processLimit (length xs) countsLength }
    ∷ (record { number = LIMITS; yes = ltb model MODELS && count_limits n processLimit }
    ∷ (record { number = RANGE; yes = processes_in n processLimit xs } ∷ []))

-- What a verdict on rows comes to: free, the numbers of the first race's rows, or the number of the question that was answered No.
pub data Found : Type 0 where
  Free : Found
  Race : (earlier later : ℕ) → Found
  Refused : (number : ℕ) → Found

-- What the call's answer says.
abbrev pub told_found : Result (Option race.Race) Refusal → Found
told_found (Ok None) = Free
told_found (Ok (Some r)) = Race r.earlier r.later
told_found (Err refusal) = Refused (number_of refusal)

-- A verdict so.
abbrev pub verdict_found : Verdict → Found
verdict_found free = Free
verdict_found (racing earlier later) = Race earlier later

-- The verdict, or the first No.
abbrev pub found_of : ℕ → List ℕ → ℕ → ℕ → Found
found_of first xs n model = cond (eqb first 0) (verdict_found (verdict_of (rows_in n xs) model)) (Refused first)
