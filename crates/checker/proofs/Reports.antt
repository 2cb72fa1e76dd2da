-- The report, line after line.
use Rattle.std.proofs.Common.{Ok, Err, subst, ℕ, ◌+◌, ◌*◌, ◌≤◌, ◌<◌, arith, zero-add, ◌≡◌, refl, sym, ap, ◌∙◌, List, [], ◌∷◌, ◌++◌, append-nil, append_assoc, length, take, drop, length-append, length-take-le, le-leb}
use borrow.Author.Tests.{lt-leb}
use Rattle.print.specs.Puts.{lay, put_in, put_end}
use Rattle.print.proofs.Laying.{lay-length}
use Rattle.rows.specs.Rows.{rows_in}
use Rattle.rows.specs.Refusals.{number_of}
use Rattle.rows.specs.declared.row.Row.{Row}
use Rattle.rows.specs.declared.refusal.Refused as refusal
use Rattle.models.specs.declared.Model.{Model}
use Rattle.models.specs.declared.Model.TheVariants.{Posix, Commit, Session, MpiIo}
use Rattle.models.specs.Models.{model_number}
use Rattle.rows.specs.Limits.{MODELS}
use Rattle.trace.specs.Questions.{Outcome, refused, accepted, Leaves}
use Rattle.rows.specs.Questions.{first_no}
use Rattle.races_meaning.specs.Races.{Verdict, free, racing, verdict_of}
use Rattle.races.specs.Answers.{Found, Free, Race, Refused, judge_questions, verdict_found, found_of}
use Rattle.checker.specs.Report.{line_end, heading, posix, commit, session, mpiio, free_words, race_word, refused_word, pair, verdict_words, model_line, model_word, line_of, report_of, read_by_program, report_length, report_in}
use Rattle.print.proofs.Parts.{Laid, put-laid, laid-length, then}
use Rattle.checker.proofs.Lines.{pair-most, line-most}
use Rattle.checker.proofs.Verdicts.{never_refused, outcome, no_trace, told, rows-again}

-- ---- A model's line

-- the answer Free tells the verdict free
free-told : (v : Verdict) → Free ≡ verdict_found v → v ≡ free
free-told free e = refl
free-told (racing earlier later) e = let z : ◌≡◌ {A = ℕ} 0 1 = cc in absurd (omega arith)

-- the answer Race tells the verdict of that race
race_told : (v : Verdict) {earlier later : ℕ} → Race earlier later ≡ verdict_found v → v ≡ racing earlier later
race_told free e = let z : ◌≡◌ {A = ℕ} 0 1 = cc in absurd (omega arith)
race_told (racing earlier later) e = cc

-- a model's word has at most 8 bytes
pub word-most : (m : Model) → length (model_word m) ≤ 8
word-most Posix = omega arith
word-most Commit = omega arith
word-most Session = omega arith
word-most MpiIo = omega arith

module _ (xs : List ℕ) (at : ℕ) (name rows : List ℕ) (n model L : ℕ)
    (pre : ((at + 40 ≤ length xs) × (length name ≤ 8)) × (first_no (judge_questions n 8 model rows L) ≡ 0)) {mid : ℕ} {ys : List ℕ}
    (put : (mid ≡ put_end xs at name) × (ys ≡ put_in xs at name)) where
  -- the verdict of the rows under the model
  abbrev verdict : Verdict
  verdict = verdict_of (rows_in n rows) model

  -- an answer that equals what races::verdict answers tells the verdict
  answer-told : {f : Found} → f ≡ found_of (first_no (judge_questions n 8 model rows L)) rows n model → f ≡ verdict_found verdict
  answer-told e = e ∙ ap (λ (first : ℕ). found_of first rows n model) pre.1

  -- the slice holds the name
  named : Laid xs at name mid ys
  named = put-laid xs at name put (omega arith)

  -- the verdict's words behind the name are the model's line
  line : {v : Verdict} {end : ℕ} {zs : List ℕ} → verdict ≡ v → Laid ys mid (verdict_words v) end zs →
      (end ≡ at + length (model_line name verdict)) × (zs ≡ lay xs at (model_line name verdict))
  line e l = let all = then named l in rw e (all.behind, all.whole)

  -- the line of a free trace
  pub free-line : Free ≡ found_of (first_no (judge_questions n 8 model rows L)) rows n model → {end : ℕ} {zs : List ℕ} →
      (end ≡ put_end ys mid (free_words ++ line_end)) × (zs ≡ put_in ys mid (free_words ++ line_end)) →
      (end ≡ at + length (model_line name verdict)) × (zs ≡ lay xs at (model_line name verdict))
  free-line e p =
      line (free-told verdict (answer-told e))
      (put-laid ys mid (free_words ++ line_end) p (omega (arith, named.behind, laid-length named)))

  module _ {word : ℕ} {zs : List ℕ} (p : (word ≡ put_end ys mid race_word) × (zs ≡ put_in ys mid race_word)) where
    -- the slice holds the word behind the name
    raced : Laid ys mid race_word word zs
    raced = put-laid ys mid race_word p (omega (arith, named.behind, laid-length named))

    -- there is room for the numbers of a race
    pub race-room : word + 23 ≤ length zs
    race-room = omega (arith, named.behind, laid-length named, raced.behind, laid-length raced)

    -- the line of a race
    pub race-line : {earlier later : ℕ} → Race earlier later ≡ found_of (first_no (judge_questions n 8 model rows L)) rows n model →
        {end : ℕ} {ws : List ℕ} → (end ≡ word + length (pair earlier later)) × (ws ≡ lay zs word (pair earlier later)) →
        (end ≡ at + length (model_line name verdict)) × (ws ≡ lay xs at (model_line name verdict))
    race-line {earlier} {later} e q =
        line (race_told verdict (answer-told e))
        (then raced
        (record { fit = omega (arith, race-room, pair-most earlier later); behind = q.0; whole = q.1 }))

  -- rows to judge are not refused
  pub no_refusal : {k : ℕ} → Refused k ≡ found_of (first_no (judge_questions n 8 model rows L)) rows n model → ⊥
  no_refusal e = never_refused verdict (answer-told e)

-- ---- The lines

-- the lines of some models, one behind the other
pub lines : List Row → List Model → List ℕ
lines rows [] = []
lines rows (m ∷ ms) = line_of rows m ++ lines rows ms

-- the line of one model more stands behind the others
lines-snoc : (rows : List Row) (ms : List Model) (m : Model) → lines rows (ms ++ (m ∷ [])) ≡ lines rows ms ++ line_of rows m
unfolding lines
lines-snoc rows [] m = append-nil (line_of rows m)
lines-snoc rows (x ∷ ms) m = ap (λ (l : List ℕ). line_of rows x ++ l) (lines-snoc rows ms m) ∙ sym (append_assoc (line_of rows x) (lines rows ms) (line_of rows m))

-- the heading and the lines of some models have these many bytes at most
lines-most : (rows : List Row) (ms : List Model) → length (heading ++ lines rows ms) ≤ 29 + 37 * length ms
unfolding lines
lines-most rows ms = omega (arith, length-append heading (lines rows ms), go ms)
  where
    go : (ms : List Model) → length (lines rows ms) ≤ 37 * length ms
    go [] = omega arith
    go (m ∷ ms) =
        omega (
          arith,
          go ms,
          length-append (line_of rows m) (lines rows ms),
          line-most (model_word m) (verdict_of rows (model_number m)),
          word-most m,
        )

-- the slice holds the heading and the lines of these models
abbrev pub Sofar : List ℕ → List Row → List Model → ℕ → List ℕ → Type 0
Sofar xs rows ms end ys = Laid xs 0 (heading ++ lines rows ms) end ys

-- before the first model it holds the heading
pub heading_laid : (xs : List ℕ) (rows : List Row) {end : ℕ} {ys : List ℕ} → 256 ≤ length xs → (end ≡ put_end xs 0 heading) × (ys ≡ put_in xs 0 heading) →
    Sofar xs rows [] end ys
unfolding lines
heading_laid xs rows h p = put-laid xs 0 heading p (omega arith)

module _ {xs : List ℕ} (rows : List Row) (ms : List Model) {mid : ℕ} {ys : List ℕ} (s : Sofar xs rows ms mid ys) (room : 256 ≤ length xs)
    (few : length ms ≤ 3) where
  -- there is room for another line
  pub line_room : mid + 40 ≤ length ys
  line_room = omega (arith, s.behind, laid-length s, lines-most rows ms)

  -- a model's line stands behind the others
  pub line_laid : (m : Model) {end : ℕ} {zs : List ℕ} → (end ≡ mid + length (line_of rows m)) × (zs ≡ lay ys mid (line_of rows m)) →
      Sofar xs rows (ms ++ (m ∷ [])) end zs
  line_laid m {end} {zs} p =
      let fit : mid + length (line_of rows m) ≤ length ys =
      omega (arith, line_room, line-most (model_word m) (verdict_of rows (model_number m)), word-most m) in
      let all = then s (record { fit = fit; behind = p.0; whole = p.1 }) in
      subst (λ (w : List ℕ). Laid xs 0 w end zs)
      (append_assoc heading (lines rows ms) (line_of rows m) ∙ sym (ap (λ (l : List ℕ). heading ++ l) (lines-snoc rows ms m))) all

-- every model's number is below their count
pub number-low : (m : Model) → model_number m < MODELS
number-low Posix = omega arith
number-low Commit = omega arith
number-low Session = omega arith
number-low MpiIo = omega arith

-- the heading and the lines of all models are the report
pub lines_laid : {xs : List ℕ} (rows : List Row) {end : ℕ} {ys : List ℕ} → Sofar xs rows (Posix ∷ (Commit ∷ (Session ∷ (MpiIo ∷ [])))) end ys →
    (end ≡ length (report_of (accepted rows))) × (ys ≡ lay xs 0 (report_of (accepted rows)))
unfolding lines report_of
lines_laid {xs} rows s =
    let line : Model → List ℕ = line_of rows in
    let e = ap (λ (last : List ℕ). heading ++ (line Posix ++ (line Commit ++ (line Session ++ last)))) (append-nil (line MpiIo)) in
    (s.behind ∙ zero-add _ ∙ ap length e, s.whole ∙ ap (λ (w : List ℕ). lay xs 0 w) e)

-- ---- The whole report

-- a slice has r bytes at its front
abbrev pub Front : ℕ → List ℕ → Type 0
Front n ys = (n ≤ length ys) × (n ≡ length (take n ys))

front : (n : ℕ) (ys : List ℕ) → n ≤ length ys → Front n ys
front n ys h = (h, sym (length-take-le n ys h))

-- every report has room in 256 bytes
report_most : (o : Outcome) → length (report_of o) ≤ 256
unfolding report_of
report_most (refused k place) = omega (arith, length-append refused_word (pair k place), pair-most k place)
report_most (accepted rows) =
    let d = model_line mpiio (verdict_of rows 3) in
    let c = model_line session (verdict_of rows 2) in
    let b = model_line commit (verdict_of rows 1) in
    let a = model_line posix (verdict_of rows 0) in
    omega (
      arith,
      length-append heading (a ++ (b ++ (c ++ d))),
      length-append a (b ++ (c ++ d)),
      length-append b (c ++ d),
      length-append c d,
      line-most posix (verdict_of rows 0),
      line-most commit (verdict_of rows 1),
      line-most session (verdict_of rows 2),
      line-most mpiio (verdict_of rows 3),
    )

-- the report of a slice that is too short
pub report_short : (text out : List ℕ) → length out < 256 → (0 ≡ report_length text out) × ((out ≡ report_in text out) × Front 0 out)
unfolding report_length report_in
report_short text out h = rw (lt-leb 256 (length out) h) (refl, (refl, front 0 out (omega arith)))

-- the report of an outcome at the front of a slice
report_laid : (text out : List ℕ) {o : Outcome} → 256 ≤ length out → o ≡ read_by_program text → {end : ℕ} {ys : List ℕ} →
    (end ≡ length (report_of o)) × (ys ≡ lay out 0 (report_of o)) → (end ≡ report_length text out) × ((ys ≡ report_in text out) × Front end ys)
unfolding report_length report_in
report_laid text out {o} h q {end} {ys} p =
    let w = report_of o in
    let most = report_most o in
    let long : length ys ≡ length out = ap length p.1 ∙ lay-length out 0 w (omega arith) in
    let r = front end ys (omega (arith, p.0, long, most)) in
    rw (le-leb 256 (length out) h, ← q) (p.0, (p.1 ∙ ap (λ (k : ℕ). w ++ drop k out) (zero-add (length w)), r))

module _ (out : List ℕ) (h : 256 ≤ length out) {mid : ℕ} {us : List ℕ} (p : (mid ≡ put_end out 0 refused_word) × (us ≡ put_in out 0 refused_word)) where
  -- the slice holds the refusal's word
  word : Laid out 0 refused_word mid us
  word = put-laid out 0 refused_word p (omega arith)

  -- there is room for the numbers of a refusal
  pub refusal-room : mid + 23 ≤ length us
  refusal-room = omega (arith, word.behind, laid-length word)

  -- the slice holds the refusal's line
  refusal-laid : (k place : ℕ) {end : ℕ} {ws : List ℕ} → (end ≡ mid + length (pair k place)) × (ws ≡ lay us mid (pair k place)) →
      (end ≡ length (report_of (refused k place))) × (ws ≡ lay out 0 (report_of (refused k place)))
  unfolding report_of
  refusal-laid k place q =
      let all = then word (record { fit = omega (arith, refusal-room, pair-most k place); behind = q.0; whole = q.1 }) in
      (all.behind ∙ zero-add _, all.whole)

-- The report, by what check_trace leaves of the program's slices.
module _ (text out : List ℕ) (h : 256 ≤ length out) (xs us : List ℕ) (rows_long : length xs ≡ 768) (counts-long : length us ≡ 1024) where
  -- the outcome with slices of these lengths is the outcome within the program's limits
  reads : outcome text 1 0 128 8 8192 xs us ≡ read_by_program text
  unfolding read_by_program
  reads = rw (rows_long, counts-long)

  -- the report of a refusal
  pub report_refused : {e : refusal.Refused} {ys vs : List ℕ} → Leaves (outcome text 1 0 128 8 8192 xs us) (Err e) xs ys us vs → {mid end : ℕ} {ts ws : List ℕ} →
      (mid ≡ put_end out 0 refused_word) × (ts ≡ put_in out 0 refused_word) →
      (end ≡ mid + length (pair (number_of e.refusal) e.place)) × (ws ≡ lay ts mid (pair (number_of e.refusal) e.place)) →
      (end ≡ report_length text out) × ((ws ≡ report_in text out) × Front end ws)
  report_refused {e} l p q =
      report_laid text out h (sym (no_trace text 1 0 128 8 8192 xs us l) ∙ reads) (refusal-laid out h p (number_of e.refusal) e.place q)

  -- the report of an accepted trace
  pub report_accepted : {n : ℕ} {ys vs : List ℕ} → Leaves (outcome text 1 0 128 8 8192 xs us) (Ok n) xs ys us vs → {end : ℕ} {ws : List ℕ} →
      (end ≡ length (report_of (accepted (rows_in n ys)))) × (ws ≡ lay out 0 (report_of (accepted (rows_in n ys)))) →
      (end ≡ report_length text out) × ((ws ≡ report_in text out) × Front end ws)
  report_accepted l p =
      report_laid text out h
      (ap accepted (rows-again text 1 0 128 8 8192 xs us l) ∙ sym (told text 1 0 128 8 8192 xs us l).1 ∙ reads) p
