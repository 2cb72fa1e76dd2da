-- The whole call: an accepted join passes the questions of the verdict, and the verdict's answer is the call's.
use Rattle.std.proofs.Common.{Option, None, Some, Ok, Err, ℕ, ◌*◌, ◌-◌, ◌≤◌, ◌<◌, arith, mul-le-mul_right, ◌≡◌, refl, sym, ap, ◌∙◌, List, ◌++◌, length, replicate}
use lib.ListN.{length-replicate}
use Rattle.rows.specs.Limits.{ROWS}
use Rattle.rows.specs.Questions.{first_no}
use Rattle.rows.specs.Rows.{numbers, row_at}
use Rattle.trace.proofs.Laws.{Sound}
use Rattle.trace.proofs.Sounds.{sound_row}
use Rattle.happens_before.specs.Order.{counts_of}
use Rattle.happens_before.specs.Filling.{filled_left}
use Rattle.races_meaning.specs.Races.{Verdict, free, racing, verdict_of}
use Rattle.rows.specs.declared.refusal.Refusal.{Refusal}
use Rattle.races.specs.declared.Race as race
use Rattle.races.specs.Answers.{Found, told_found, judge_questions, verdict_found, found_of}
use Rattle.races.proofs.Held.{held_found, held-counts}
use Rattle.join_meaning.specs.Files.{Entry, rows_of}
use Rattle.join_meaning.specs.Joining.{Joining, joined, join_traces}
use Rattle.join_meaning.proofs.Accepted.{Allowed, accepted-allowed, accepted-sound}
use Rattle.join_meaning.proofs.Merging.{rows-length}
use Rattle.join.specs.declared.JoinCall.{JoinCall}
use Rattle.join.specs.Leaving.{rows_left, counts_left, parts_left, Leaves}
use Rattle.join.proofs.Whole.{yes-told}
use Rattle.checker.proofs.Verdicts.{never_refused}
use Rattle.join_checker.specs.Judging.{told_rows, judged_rows, Decides}

-- The first race with a row count says what the verdict says.
judged-found : (n : ℕ) (r : Option race.Race) (v : Verdict) → told_found (Ok r) ≡ verdict_found v → told_rows n r ≡ judged_rows n v
judged-found n None free e = refl
judged-found n None (racing earlier later) e = let z : ◌≡◌ {A = ℕ} 0 1 = cc in absurd (omega arith)
judged-found n (Some r) free e = let z : ◌≡◌ {A = ℕ} 0 1 = cc in absurd (omega arith)
judged-found n (Some r) (racing earlier later) e = cc

module _ (first second : List ℕ) (call : JoinCall) (xs us ps : List ℕ) where
  -- The outcome of the join.
  abbrev pub outcome : Joining
  outcome =
      join_traces first second call.first_header call.second_header call.model call.row_limit call.process_limit (length xs) (length us) (length ps)

  module _ {ys vs qs : List ℕ} {n : ℕ} (l : Leaves outcome (Ok n) xs ys us vs ps qs) where
    -- The joined entries.
    told : (es : List Entry) × (outcome ≡ joined es) × (n ≡ length es)
    told = yes-told outcome l.answered

    -- What stands behind the joined rows.
    behind : List ℕ
    behind = replicate (length xs - 6 * length told.0) 0

    -- The rows' slice holds the joined rows, then 0.
    rows-there : ys ≡ numbers (rows_of told.0) ++ behind
    unfolding behind
    rows-there = l.rows_after ∙ ap (λ (o : Joining). rows_left o xs) told.1

    -- What the call asked of its numbers and slices.
    passed : Allowed call.first_header call.second_header call.model call.row_limit call.process_limit (length xs) (length us) (length ps)
    passed =
        accepted-allowed first second call.first_header call.second_header call.model call.row_limit call.process_limit (length xs) (length us) (length ps)
        told.0 told.1

    -- The joined rows are sound and within the row limit.
    fair : Sound call.process_limit (rows_of told.0) × (length told.0 ≤ call.row_limit)
    fair =
        accepted-sound first second call.first_header call.second_header call.model call.row_limit call.process_limit (length xs) (length us) (length ps)
        told.0 told.1

    -- The rows are as many as the entries.
    many : n ≡ length (rows_of told.0)
    many = told.2 ∙ sym (rows-length told.0)

    -- The row count is within the largest row limit.
    few : n ≤ ROWS
    few = let p = passed.one-trace in omega (arith, fair.1, told.2, p.few-rows)

    -- Each row has its process below the process limit.
    below : (k : ℕ) → k < length (rows_of told.0) → (row_at (rows_of told.0) k).process < call.process_limit
    below k h = (sound_row fair.0 k h).process

    -- The counts' slice keeps its length.
    counts-length : length vs ≡ length us
    counts-length = ap length (l.counts_after ∙ ap (λ (o : Joining). counts_left o us) told.1) ∙ length-replicate (length us) 0

    -- The counts' slice has room for the rows.
    room : n * call.process_limit ≤ length vs
    room =
        let in_limit : n ≤ call.row_limit = omega (arith, fair.1, told.2) in
        let p = passed.one-trace in
        omega (arith, mul-le-mul_right call.process_limit in_limit, p.counts-fit, counts-length)

    -- What the verdict answers is told by the verdict of the rows.
    found-told : {f : Found} → f ≡ found_of (first_no (judge_questions n call.process_limit call.model ys (length vs))) ys n call.model →
        f ≡ verdict_found (verdict_of (rows_of told.0) call.model)
    found-told e =
        let p = passed.one-trace in
        held_found (rows_of told.0) behind many rows-there call.process_limit call.model p.known-model few room p.some-processes p.few-processes below e

    -- The whole call answers and leaves what the verdict answers and leaves.
    pub decides : (r : Option race.Race) {ws : List ℕ} →
        told_found (Ok r) ≡ found_of (first_no (judge_questions n call.process_limit call.model ys (length vs))) ys n call.model →
        ws ≡ filled_left (first_no (judge_questions n call.process_limit call.model ys (length vs))) n call.process_limit ys vs →
        Decides call.model call.process_limit outcome (Ok (record { rows = n; race = r })) xs ys us ws ps qs
    decides r {ws} e f =
        let rows = rows_of told.0 in
        let p = passed.one-trace in
        rw told.1
        (record {
          answered =
              judged-found n r (verdict_of rows call.model) (found-told e) ∙ ap (λ (m : ℕ). judged_rows m (verdict_of rows call.model)) told.2;
          rows_after = l.rows_after ∙ ap (λ (o : Joining). rows_left o xs) told.1;
          counts_after =
              held-counts rows behind many rows-there call.process_limit call.model p.known-model few room p.some-processes p.few-processes below vs f
              ∙ (λ i. counts_of call.process_limit rows ++ replicate (counts-length i - rows-length told.0 i * call.process_limit) 0);
          parts_after = l.parts_after ∙ ap (λ (o : Joining). parts_left o ps) told.1;
        })

    -- The verdict on joined rows is not refused.
    pub never_err : (e : Refusal) → told_found (Err e) ≡ found_of (first_no (judge_questions n call.process_limit call.model ys (length vs))) ys n call.model → ⊥
    never_err e f = never_refused (verdict_of (rows_of told.0) call.model) (found-told f)
