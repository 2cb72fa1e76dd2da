-- Laws of the exported functions: a packed answer tells and leaves what the answer does. Where an answer is packed by words, the words hold every
-- number of it.
use Rattle.std.proofs.Common.{ℕ, ◌+◌, ◌*◌, ◌≡◌, refl, sym, ap, subst, ◌∙◌, List, length, Option, Result, Ok, Err}
use Rattle.rows.specs.Questions.{Question, first_no}
use Rattle.rows.specs.Refusals.{Asks}
use Rattle.rows.specs.Rows.{rows_in}
use Rattle.happens_before.specs.Filling.{filled_left}
use Rattle.races.specs.declared.Race.{Race}
use Rattle.races.specs.Answers.{judge_questions, found_of, told_found}
use Rattle.races.specs.Listing.{list_questions, listed_of, list_left, told_listed}
use Rattle.races_meaning.specs.Lists.{race_pairs}
use Rattle.checker.specs.Listing.{Lists}
use Rattle.join_reading.specs.Reading.{ReadsFile}
use Rattle.machine_meaning.specs.States.{Header}
use Rattle.machine_meaning.specs.Steps as steps
use Rattle.machine_meaning.specs.Steps.{Step, made_to}
use Rattle.machine_state.specs.declared.Machine.{Machine}
use Rattle.machine_state.specs.declared.files.Replayed.{Replayed}
use Rattle.machine_state.specs.Answers.{header_of, answer_of, told_step, Steps}
use Rattle.machine_state.specs.Replays.{Replay, Replays}
use Rattle.writer.specs.Writing.{Writing, Writes}
use Rattle.rows.specs.declared.refusal.Refusal.{Refusal}
use Rattle.rows.specs.declared.refusal.Refused.{Refused}
use Rattle.trace.specs.Questions.{Outcome, Leaves, check_trace}
use Rattle.checker.specs.declared.Judged.{Judged}
use Rattle.checker.specs.Judging.{judged_of, told_judged, Decides}
use Rattle.checker.proofs.Sizes.{judged-small}
use Rattle.extents.specs.declared.Stretch.{Stretch}
use Rattle.extents.specs.Entries.{looked_up}
use Rattle.extents.specs.LookupAnswers.{told_lookup}
use Rattle.extents.proofs.Sizes as lookup
use Rattle.extents.proofs.Sizes.{lookup_small}
use Rattle.join.specs.declared.JoinRefused.{JoinRefused}
use Rattle.join_meaning.specs.Joining.{join_traces}
use Rattle.join_checker.specs.Judging as joins
use Rattle.join_checker.proofs.Sizes.{join-small}
use Rattle.kiqsaryn.specs.Packing.{Gives, FileGives, JudgeGives, JoinGives, Judges, ListGives, RowsListGives, Makes, packed_step, StepGives, ReplayGives, WriteGives, LookupGives}
use Rattle.kiqsaryn_packing.specs.Packing.{UPPER, packed, packed_count, packed_found, packed_verdict, packed_listed, packed_answer, packed_pieces, packed_replay, packed_written, packed_length, number_if, FitsWords, packed_judgement, packed_judged, FitsJoinWords, packed_join_judgement, packed_join, packed_stretch, packed_lookup}
use Rattle.kiqsaryn_packing.proofs.Packs.{small_fits, words-packed, small_join_fits, join-words_packed, lookup_words_packed}

-- A packed answer of the whole call, with what the call leaves.
pub packs-judged : (text : List ℕ) (header model R P limit : ℕ) (xs us : List ℕ) {a : Result Judged Refused} {r : ℕ} {ys vs : List ℕ} →
    Decides model P (check_trace text header model R P limit (length xs) (length us)) a xs ys us vs → r ≡ packed_judgement a →
    JudgeGives model P (check_trace text header model R P limit (length xs) (length us)) r xs ys us vs
packs-judged text header model R P limit xs us {a} l e =
    let o = check_trace text header model R P limit (length xs) (length us) in
    let fits = small_fits (judged_of model o) (judged-small text header model R P limit (length xs) (length us)) in
    record {
      answered = e ∙ words-packed (told_judged a) (subst FitsWords (sym l.answered) fits) ∙ ap packed_judged l.answered;
      rows_after = l.rows_after;
      counts_after = l.counts_after;
    }

-- A packed answer of the whole call on two files, with what the call leaves.
pub packs-join : (first second : List ℕ) (h₁ h₂ model R P : ℕ) (xs us ps : List ℕ) {a : Result Judged JoinRefused} {r : ℕ} {ys vs qs : List ℕ} →
    joins.Decides model P (join_traces first second h₁ h₂ model R P (length xs) (length us) (length ps)) a xs ys us vs ps qs → r ≡ packed_join_judgement a →
    JoinGives model P (join_traces first second h₁ h₂ model R P (length xs) (length us) (length ps)) r xs ys us vs ps qs
packs-join first second h₁ h₂ model R P xs us ps {a} l e =
    let o = join_traces first second h₁ h₂ model R P (length xs) (length us) (length ps) in
    let fits = small_join_fits (joins.judged_of model o) (join-small first second h₁ h₂ model R P (length xs) (length us) (length ps)) in
    record {
      answered = e ∙ join-words_packed (joins.told_judged a) (subst FitsJoinWords (sym l.answered) fits) ∙ ap packed_join l.answered;
      rows_after = l.rows_after;
      counts_after = l.counts_after;
      parts_after = l.parts_after;
    }

-- A packed answer of a lookup.
pub packs-lookup : (map : List ℕ) (byte : ℕ) (a : Result Stretch Refusal) {r : ℕ} → told_lookup a ≡ looked_up map byte → r ≡ packed_stretch a →
    LookupGives map byte r
packs-lookup map byte a e q = q ∙ lookup_words_packed (told_lookup a) (subst lookup.Small (sym e) (lookup_small map byte)) ∙ ap packed_lookup e

-- ---- Answers that are packed by halves

-- A packed answer of a check, with what the check leaves.
pub packs : {o : Outcome} (a : Result ℕ Refused) {r : ℕ} {rows rows' counts counts' : List ℕ} → Leaves o a rows rows' counts counts' →
    r ≡ packed_count a → Gives o r rows rows' counts counts'
packs a l e = record { answered = e ∙ ap packed l.answered; rows_after = l.rows_after; counts_after = l.counts_after }

-- A packed answer of one file, with what the reading leaves.
pub packs-file : {o : Outcome} (a : Result ℕ Refused) {r : ℕ} {rows rows' : List ℕ} → ReadsFile o a rows rows' → r ≡ packed_count a →
    FileGives o r rows rows'
packs-file a l e = record { answered = e ∙ ap packed l.answered; rows_after = l.rows_after }

-- A packed verdict, with the counts that the call leaves.
pub packs-found : (n P model : ℕ) (rows counts : List ℕ) {counts' : List ℕ} (a : Result (Option Race) Refusal) {r : ℕ} →
    told_found a ≡ found_of (first_no (judge_questions n P model rows (length counts))) rows n model →
    counts' ≡ filled_left (first_no (judge_questions n P model rows (length counts))) n P rows counts → r ≡ packed_verdict a →
    Judges (judge_questions n P model rows (length counts)) n P model r rows counts counts'
packs-found n P model rows counts a e l q = record { answered = q ∙ ap packed_found e; counts_after = l }

-- A list's answer is packed as a check's is.
list-packed : (a : Result ℕ Refused) → packed_count a ≡ packed_listed (told_listed a)
list-packed (Ok n) = refl
list-packed (Err e) = refl

-- A packed answer of the list of a text's races, with what the call leaves.
pub packs-listed : {model P : ℕ} {o : Outcome} (a : Result ℕ Refused) {r : ℕ} {rows rows' counts counts' list list' : List ℕ} →
    Lists model P o a rows rows' counts counts' list list' → r ≡ packed_count a → ListGives model P o r rows rows' counts counts' list list'
packs-listed a l e =
    record {
      answered = e ∙ list-packed a ∙ ap packed_listed l.answered;
      rows_after = l.rows_after;
      counts_after = l.counts_after;
      list_after = l.list_after;
    }

-- A packed answer of the list of rows' races, with what the call leaves.
pub packs-rows_listed : (n P model : ℕ) (rows counts list : List ℕ) {counts' list' : List ℕ} (a : Result ℕ Refused) {r : ℕ} →
    told_listed a ≡ listed_of (first_no (list_questions n P model rows (length counts) (length list))) (race_pairs (rows_in n rows) model) →
    counts' ≡ filled_left (first_no (judge_questions n P model rows (length counts))) n P rows counts →
    list' ≡ list_left (first_no (list_questions n P model rows (length counts) (length list))) (race_pairs (rows_in n rows) model) list →
    r ≡ packed_count a → RowsListGives n P model r rows counts counts' list list'
packs-rows_listed n P model rows counts list a e c l q =
    record { answered = q ∙ list-packed a ∙ ap packed_listed e; counts_after = c; list_after = l }

-- ---- The machine and the plain file, under the header that was made

-- Making's number is the first No.
made_told : (first : ℕ) (a : Result Unit Refusal) → Asks first a → number_if a ≡ first
made_told first (Ok done) e = sym e
made_told first (Err refusal) e = e

-- The number of making, with the maps that the call leaves.
pub packs-made : (questions : Header → List Question) (size : Header → ℕ) {h : Header} {m : Machine} → header_of m ≡ h → (a : Result Unit Refusal)
    (xs : List ℕ) {ys : List ℕ} → Asks (first_no (questions (header_of m))) a →
    ys ≡ made_to (first_no (questions (header_of m))) (size (header_of m)) xs → Makes (questions h) (size h) (number_if a) xs ys
packs-made questions size {h} {m} e a xs {ys} answer left =
    subst (λ (k : Header). Makes (questions k) (size k) (number_if a) xs ys) e
    (record { answered = made_told (first_no (questions (header_of m))) a answer; maps_after = left })

step-told : (a : steps.StepAnswer) → packed_answer (answer_of a) ≡ packed_step a
step-told (steps.refusing number) = refl
step-told steps.done = refl
step-told (steps.listed count) = refl

-- The number of a step, with the slices that the call leaves.
pub packs-step : (step : Header → Step) {h : Header} {m : Machine} → header_of m ≡ h → (a : Result (Option ℕ) Refusal) {ys zs : List ℕ} →
    Steps (step (header_of m)) (told_step a) ys zs → StepGives (step h) (packed_pieces a) ys zs
packs-step step {h} {m} e a {ys} {zs} s =
    subst (λ (k : Header). StepGives (step k) (packed_pieces a) ys zs) e
    (record {
      answered = ap packed_answer s.answered ∙ step-told (step (header_of m)).answer;
      maps_after = s.maps_after;
      out_after = s.out_after;
    })

-- The number of a replay, with the slices that the call leaves.
pub packs-replay : (replay : Header → Replay) {h : Header} {m : Machine} → header_of m ≡ h → {r : Replayed} {ys cs zs : List ℕ} →
    Replays (replay (header_of m)) r ys cs zs → ReplayGives (replay h) (packed_replay r) ys cs zs
packs-replay replay {h} {m} e {r} {ys} {cs} {zs} s =
    subst (λ (k : Header). ReplayGives (replay k) (packed_replay r) ys cs zs) e
    (record {
      answered = λ i. s.refused i * UPPER + s.gone i;
      maps_after = s.maps_after;
      counts_after = s.counts_after;
      out_after = s.out_after;
    })

-- ---- Writing

-- A packed answer of writing, with what the call leaves of the slice.
pub packs-written : {w : Writing} (a : Result ℕ Refused) {r place : ℕ} {out out' : List ℕ} → Writes w a place out out' → r ≡ packed_length a →
    WriteGives w r place out out'
packs-written a s e = record { answered = e ∙ ap packed_written s.answered; out_after = s.out_after }
