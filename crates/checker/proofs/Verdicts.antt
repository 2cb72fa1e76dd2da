-- The whole call and the list of races: an accepted trace passes the questions of the verdict, and the answer on its rows is the call's.
use Rattle.std.proofs.Common.{Option, None, Some, Result, Ok, Err, ℕ, ◌*◌, ◌-◌, ◌≤◌, ◌<◌, arith, mul-le-mul_right, ◌≡◌, refl, sym, ap, ◌∙◌, List, ◌++◌, length, replicate}
use lib.ListN.{length-replicate}
use Rattle.rows.specs.Limits.{MODELS, ROWS}
use Rattle.csv_records.specs.Reading.{records}
use Rattle.rows.specs.declared.row.Row.{Row}
use Rattle.rows.specs.Refusals.{number_of}
use Rattle.rows.specs.declared.refusal.Refusal.{Refusal}
use Rattle.rows.specs.declared.refusal.Refused as refusal
use Rattle.rows.specs.Rows.{numbers, rows_in, row_at}
use Rattle.trace.specs.Questions.{Outcome, refused, accepted, check_trace, rows_left, counts_left, Leaves}
use Rattle.rows.specs.Questions.{first_no}
use Rattle.trace.proofs.Laws.{Legal, Sound, accepted-passed, accepted-sound}
use Rattle.trace.proofs.Whole.{accepted-told, refused-told}
use Rattle.happens_before.specs.Order.{counts_of}
use Rattle.happens_before.specs.Filling.{fill_questions, filled_left}
use Rattle.trace.proofs.Sounds.{sound_row}
use Rattle.races.specs.Answers as found
use Rattle.races_meaning.specs.Races.{Verdict, free, racing, verdict_of}
use Rattle.races.specs.declared.Race as race
use Rattle.races.specs.Answers.{Found, told_found, judge_questions, verdict_found, found_of}
use Rattle.races.proofs.Whole.{same_first}
use Rattle.races.proofs.Held.{rows-held, held-passes, held_found, held-counts, held-listed, held-list}
use Rattle.races_meaning.specs.Lists.{race_pairs}
use Rattle.races.specs.Listing as listing
use Rattle.races.specs.Listing.{list_questions, list_left, told_listed}
use Rattle.checker.specs.Judging.{told_rows, judged_rows, Decides}
use Rattle.checker.specs.Listing.{Lists}

-- ---- The questions of the verdict

-- rows that pass the questions under one model pass them under every other
pub passes-other : (n P model model' : ℕ) (xs : List ℕ) {L L' : ℕ} → model < MODELS → model' < MODELS →
    first_no (judge_questions n P model xs L) ≡ 0 → L' ≡ L → first_no (judge_questions n P model' xs L') ≡ 0
passes-other n P model model' xs {L} {L'} m m' e q =
    sym (same_first n P model' xs L' m') ∙ ap (λ (l : ℕ). first_no (fill_questions n P xs l)) q ∙ same_first n P model xs L m ∙ e

-- ---- What the whole call decides

-- no verdict is told by a refusal
pub never_refused : (v : Verdict) {k : ℕ} → found.Refused k ≡ verdict_found v → ⊥
never_refused free e = let z : ◌≡◌ {A = ℕ} 0 1 = cc in omega arith
never_refused (racing earlier later) e = let z : ◌≡◌ {A = ℕ} 0 1 = cc in omega arith

-- the first race with a row count says what the verdict says
judged-found : (n : ℕ) (r : Option race.Race) (v : Verdict) → told_found (Ok r) ≡ verdict_found v → told_rows n r ≡ judged_rows n v
judged-found n None free e = refl
judged-found n None (racing earlier later) e = let z : ◌≡◌ {A = ℕ} 0 1 = cc in absurd (omega arith)
judged-found n (Some r) free e = let z : ◌≡◌ {A = ℕ} 0 1 = cc in absurd (omega arith)
judged-found n (Some r) (racing earlier later) e = cc

module _ (text : List ℕ) (header model R P limit : ℕ) (xs us : List ℕ) where
  -- the outcome of the text
  abbrev pub outcome : Outcome
  outcome = check_trace text header model R P limit (length xs) (length us)

  module _ {e : refusal.Refused} {ys vs : List ℕ} (l : Leaves outcome (Err e) xs ys us vs) where
    -- the outcome is this refusal
    pub no_trace : outcome ≡ refused (number_of e.refusal) e.place
    no_trace = refused-told outcome l.answered

  module _ {ys vs : List ℕ} {n : ℕ} (l : Leaves outcome (Ok n) xs ys us vs) where
    -- the accepted rows
    pub told : (rows : List Row) × (outcome ≡ accepted rows) × (n ≡ length rows)
    told = accepted-told outcome l.answered

    -- what stands behind the accepted rows
    behind : List ℕ
    behind = replicate (length xs - 6 * length told.0) 0

    -- the rows' slice holds the accepted rows, then 0
    rows-there : ys ≡ numbers told.0 ++ behind
    unfolding behind
    rows-there = l.rows_after ∙ ap (λ (o : Outcome). rows_left o xs) told.1

    -- the first n rows of the slice are the accepted rows
    pub rows-again : rows_in n ys ≡ told.0
    rows-again = rows-held told.0 behind told.2 rows-there

    -- what the call asked of its numbers and slices
    passed : Legal header model R P (length xs) (length us)
    passed = (accepted-passed text header model R P limit (length xs) (length us) told.0 told.1).0

    -- at most as many rows as the row limit, and each is well formed
    fair : (length told.0 ≤ R) × Sound P told.0
    fair = accepted-sound header R P (records text limit) told.0 (accepted-passed text header model R P limit (length xs) (length us) told.0 told.1).1

    -- the row count is within the largest row limit
    few : n ≤ ROWS
    few = omega (arith, fair.0, told.2, passed.few-rows)

    -- each row has its process below the process limit
    below : (k : ℕ) → k < length told.0 → (row_at told.0 k).process < P
    below k h = (sound_row fair.1 k h).process

    -- the counts' slice keeps its length
    counts-length : length vs ≡ length us
    counts-length = ap length (l.counts_after ∙ ap (λ (o : Outcome). counts_left o us) told.1) ∙ length-replicate (length us) 0

    -- the counts' slice has room for the rows
    room : n * P ≤ length vs
    room = let few : n ≤ R = omega (arith, fair.0, told.2) in omega (arith, mul-le-mul_right P few, passed.counts-fit, counts-length)

    -- the accepted rows pass the questions of the verdict with the counts' slice as check_trace leaves it
    pub passes-again : first_no (judge_questions n P model ys (length vs)) ≡ 0
    passes-again =
        held-passes told.0 behind told.2 rows-there P model passed.known-model few room passed.some-processes passed.few-processes below

    -- what the verdict answers is told by the verdict of the rows
    pub found-told : {f : Found} → f ≡ found_of (first_no (judge_questions n P model ys (length vs))) ys n model → f ≡ verdict_found (verdict_of told.0 model)
    found-told e =
        held_found told.0 behind told.2 rows-there P model passed.known-model few room passed.some-processes passed.few-processes below e

    -- the whole call answers and leaves what the verdict answers and leaves
    pub decides : (r : Option race.Race) {ws : List ℕ} →
        told_found (Ok r) ≡ found_of (first_no (judge_questions n P model ys (length vs))) ys n model →
        ws ≡ filled_left (first_no (judge_questions n P model ys (length vs))) n P ys vs →
        Decides model P outcome (Ok (record { rows = n; race = r })) xs ys us ws
    decides r {ws} e f =
        let rows = told.0 in
        rw told.1
        (record {
          answered = judged-found n r (verdict_of rows model) (found-told e) ∙ ap (λ (m : ℕ). judged_rows m (verdict_of rows model)) told.2;
          rows_after = l.rows_after ∙ ap (λ (o : Outcome). rows_left o xs) told.1;
          counts_after =
              held-counts rows behind told.2 rows-there P model passed.known-model few room passed.some-processes passed.few-processes below vs f
              ∙ ap (λ (m : ℕ). counts_of P rows ++ replicate (m - length rows * P) 0) counts-length;
        })

    -- the verdict on accepted rows is not refused
    pub never_err : (e : Refusal) → told_found (Err e) ≡ found_of (first_no (judge_questions n P model ys (length vs))) ys n model → ⊥
    never_err e f = never_refused (verdict_of told.0 model) (found-told f)

    -- the call that lists every race answers and leaves what the list of the rows does
    pub lists : (list : List ℕ) {f : Result ℕ refusal.Refused} {ws after : List ℕ} →
        (told_listed f ≡ listing.listed_of (first_no (list_questions n P model ys (length vs) (length list))) (race_pairs (rows_in n ys) model))
        × ((ws ≡ filled_left (first_no (judge_questions n P model ys (length vs))) n P ys vs)
        × (after ≡ list_left (first_no (list_questions n P model ys (length vs) (length list))) (race_pairs (rows_in n ys) model) list)) →
        Lists model P outcome f xs ys us ws list after
    lists list e =
        let rows = told.0 in
        rw told.1
        (record {
          answered =
              held-listed rows behind told.2 rows-there P model passed.known-model few room passed.some-processes passed.few-processes below
              (length list) e.0;
          rows_after = l.rows_after ∙ ap (λ (o : Outcome). rows_left o xs) told.1;
          counts_after =
              held-counts rows behind told.2 rows-there P model passed.known-model few room passed.some-processes passed.few-processes below vs
              e.1.0
              ∙ ap (λ (m : ℕ). counts_of P rows ++ replicate (m - length rows * P) 0) counts-length;
          list_after =
              held-list rows behind told.2 rows-there P model passed.known-model few room passed.some-processes passed.few-processes below list
              e.1.1;
        })
