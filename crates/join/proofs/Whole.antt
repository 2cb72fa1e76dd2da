-- The whole join: both files by themselves, question 19, and what the call leaves in the lent slices.
use Rattle.std.proofs.Common.{ℕ, Result, Ok, ◌*◌, ◌-◌, ◌≤◌, arith, ◌≡◌, refl, sym, ap, ◌∙◌, Bool, true, false, cond, List, ◌++◌, length, take, drop, replicate, length-append, eq-eqb, ne_eqb, le-leb}
use lib.Dec.{leb}
use borrow.Author.Tests.{lt-leb}
use borrow.Rule.Slice.PartMut.{put_mid}
use Rattle.rows.specs.declared.row.Row.{Row}
use Rattle.rows.specs.Limits.{PROCESSES}
use Rattle.rows.specs.Questions.{first_no}
use Rattle.rows.specs.Refusals.{SHARED_PROCESS}
use Rattle.rows.specs.Rows.{numbers, rows_in}
use Rattle.rows.proofs.Slices.{rows_back, length-numbers}
use Rattle.rows.proofs.Zeros.{cleared-behind}
use Rattle.trace.specs.Questions as trace
use Rattle.trace.proofs.Whole.{accepted-told, refused-told}
use Rattle.join_meaning.specs.Files.{Entry, rows_of, read_file, entries_of}
use Rattle.join_meaning.specs.Joining.{Joining, refused, joined, join_entries, shares_process, on_file, join_files, join_traces, join_questions}
use Rattle.join_meaning.proofs.Ahead.{file-rows, file-well_formed}
use Rattle.join_meaning.proofs.Merging.{rows-length}
use Rattle.join_reading.specs.Reading.{check_file}
use Rattle.join_reading.proofs.Asking.{all_asked}
use Rattle.join_reading.proofs.Laws.{file-passed}
use Rattle.join.specs.declared.JoinCall.{JoinCall}
use Rattle.join.specs.declared.JoinRefused.{JoinRefused}
use Rattle.join.specs.Answers.{Joined, Accepted, Refused, told_joined}
use Rattle.barriers.specs.Participants.{Members}
use Rattle.join.specs.Sharing.{any_flagged}
use Rattle.join.specs.Taking.{part_numbers}
use Rattle.join.specs.Leaving.{joined_of, Fits, Holds, HeldOver, Leaves}
use Rattle.join.proofs.Flags.{shared-told}
use Rattle.join.proofs.Taking.{length-parts}

-- ---- One file by itself

module _ {R P x y : ℕ} (f : Fits R P x y) (some-rows : 1 ≤ R) (some-processes : 1 ≤ P) (header : ℕ) (word : header ≤ 1) (text : List ℕ) {l : ℕ} (s : l ≡ x) where
  -- A call that passed the join's questions passes those of each file.
  file-is : check_file text header R P l ≡ read_file header R P text
  file-is =
      let fit = f.rows_have_room in
      file-passed text header R P l (sym (all_asked header R P l (omega arith) some-rows f.few-rows some-processes f.few-processes word))

  -- A refusal of the file.
  pub file-refused : {number place : ℕ} → trace.Refused number place ≡ trace.checked_of (check_file text header R P l) →
      read_file header R P text ≡ trace.refused number place
  file-refused q = refused-told (read_file header R P text) (q ∙ ap trace.checked_of file-is)

  -- The rows of an accepted file stand in the slice.
  pub file-accepted : {n : ℕ} → trace.Accepted n ≡ trace.checked_of (check_file text header R P l) → (xs : List ℕ) {ys : List ℕ} →
      ys ≡ trace.rows_left (check_file text header R P l) xs →
      (rows : List Row) × (read_file header R P text ≡ trace.accepted rows) × (rows_in n ys ≡ rows)
  file-accepted {n} q xs {ys} after =
      let t = accepted-told (read_file header R P text) (q ∙ ap trace.checked_of file-is) in
      let left : ys ≡ numbers t.0 ++ replicate (length xs - 6 * length t.0) 0 =
      after ∙ ap (λ (o : trace.Outcome). trace.rows_left o xs) (file-is ∙ t.1) in
      (t.0, t.1, (λ i. rows_in (t.2 i) (left i)) ∙ rows_back t.0 (replicate (length xs - 6 * length t.0) 0))

-- ---- Both files

module _ (h₁ h₂ R P : ℕ) (first second : List ℕ) where
  -- The outcome from question 4 on.
  abbrev pub outcome-of : Joining
  outcome-of = join_files h₁ h₂ R P first second

  -- A refusal of the first file is the join's, with file 1.
  pub first-refused : {number place : ℕ} → read_file h₁ R P first ≡ trace.refused number place → outcome-of ≡ refused number place 1
  unfolding join_files on_file
  first-refused e = rw e

  module _ {a : List Row} (p : read_file h₁ R P first ≡ trace.accepted a) where
    -- A refusal of the second file is the join's, with file 2.
    pub second-refused : {number place : ℕ} → read_file h₂ R P second ≡ trace.refused number place → outcome-of ≡ refused number place 2
    unfolding join_files on_file
    second-refused e = rw (p, e)

    module _ {b : List Row} (q : read_file h₂ R P second ≡ trace.accepted b) where
      -- Where both files are accepted, question 19 decides.
      both_read : {x : Bool} → shares_process a b ≡ x →
          outcome-of ≡ cond x (refused SHARED_PROCESS 0 0) (join_entries R (entries_of 1 h₁ first) (entries_of 2 h₂ second))
      unfolding join_files on_file
      both_read e = rw (p, q, file-rows h₁ R P first p 1, file-rows h₂ R P second q 2, e)

      -- The flags tell of question 19.
      module _ (few : P ≤ PROCESSES) {flags : List Bool} (m : Members a flags) {x : Bool} (e : x ≡ any_flagged flags b) where
        shared : shares_process a b ≡ x
        shared =
            sym (e ∙ shared-told b m (λ k h. let w = file-well_formed h₂ R P second q k h in let l = w.process in omega arith))

        -- A shared process gets 19.
        pub shares : x ≡ true → outcome-of ≡ refused SHARED_PROCESS 0 0
        shares t = both_read (shared ∙ t)

        -- Where no process is shared, the records are joined.
        pub joins : x ≡ false → outcome-of ≡ join_entries R (entries_of 1 h₁ first) (entries_of 2 h₂ second)
        joins t = both_read (shared ∙ t)

-- What join_files answers and holds where the outcome is a refusal.
pub refusal-over : {o : Joining} {k p f : ℕ} {xs xs' ps ps' : List ℕ} → o ≡ refused k p f → (Refused k p f ≡ joined_of o) × HeldOver o xs xs' ps ps'
refusal-over {xs = xs} e = (sym (ap joined_of e), record { used = xs; same_length = refl; holds = rw e tt })

-- What join_files answers and holds where the records are joined.
pub joined-over : {o o' : Joining} {answer : Joined} {xs xs' ps ps' : List ℕ} (used : List ℕ) → o ≡ o' → length used ≡ length xs →
    (answer ≡ joined_of o') × Holds o' used xs' ps ps' → (answer ≡ joined_of o) × HeldOver o xs xs' ps ps'
joined-over used e s h = (h.0 ∙ sym (ap joined_of e), record { used = used; same_length = s; holds = rw e h.1 })

-- ---- The whole call

-- The answer of a refusal tells the outcome.
pub no_told : (o : Joining) {k p f : ℕ} → Refused k p f ≡ joined_of o → o ≡ refused k p f
no_told (refused a b c) e = cc
no_told (joined es) e = let z : ◌≡◌ {A = ℕ} 0 1 = cc in absurd (omega arith)

-- The answer of an accepted join tells the outcome.
pub yes-told : (o : Joining) {n : ℕ} → Accepted n ≡ joined_of o → (es : List Entry) × (o ≡ joined es) × (n ≡ length es)
yes-told (refused a b c) e = let z : ◌≡◌ {A = ℕ} 0 1 = cc in absurd (omega arith)
yes-told (joined es) e = (es, refl, cc)

module _ (first second : List ℕ) (call : JoinCall) (rowsLength countsLength partsLength : ℕ) {no : ℕ}
    (e : no ≡ first_no (join_questions call.first_header call.second_header call.model call.row_limit call.process_limit rowsLength countsLength partsLength)) where
  -- The outcome of the call.
  abbrev called : Joining
  called =
      join_traces first second call.first_header call.second_header call.model call.row_limit call.process_limit rowsLength countsLength partsLength

  -- A No to one of the questions 1 to 3 refuses the call.
  pub call-refused : (no ≡ 0 → ⊥) → called ≡ refused no 0 0
  unfolding join_traces
  call-refused n = rw (← e, ne_eqb no 0 n)

  -- Where they have Yes, the files decide.
  pub call-passed : no ≡ 0 →
      called ≡ join_files call.first_header call.second_header call.row_limit call.process_limit first second
  unfolding join_traces
  call-passed z = rw (← e, eq-eqb no 0 z)

-- ---- What the call leaves

module _ {o : Joining} (xs us ps : List ℕ) where
  -- A refusal 1 to 3 keeps all slices.
  pub leaves_all : {k : ℕ} → o ≡ refused k 0 0 → k ≤ 3 → {answer : Result ℕ JoinRefused} → told_joined answer ≡ Refused k 0 0 → Leaves o answer xs xs us us ps ps
  leaves_all {k} e h a =
      let kept : (l : List ℕ) → l ≡ cond (leb k 3) l (replicate (length l) 0) = λ l. sym (ap (λ (b : Bool). cond b l (replicate (length l) 0)) (le-leb k 3 h)) in
      rw e (record { answered = a; rows_after = kept xs; counts_after = kept us; parts_after = kept ps })

  -- A refusal of 4 or more clears all slices.
  pub leaves_none : {k p f : ℕ} {ys vs qs : List ℕ} → o ≡ refused k p f → 4 ≤ k → ys ≡ replicate (length xs) 0 → vs ≡ replicate (length us) 0 →
      qs ≡ replicate (length ps) 0 → {answer : Result ℕ JoinRefused} → told_joined answer ≡ Refused k p f → Leaves o answer xs ys us vs ps qs
  leaves_none {k} e h r c q a =
      let clear : (l : List ℕ) → replicate (length l) 0 ≡ cond (leb k 3) l (replicate (length l) 0) =
      λ l. sym (ap (λ (b : Bool). cond b l (replicate (length l) 0)) (lt-leb k 3 h)) in
      rw e (record { answered = a; rows_after = r ∙ clear xs; counts_after = c ∙ clear us; parts_after = q ∙ clear ps })

  -- An accepted join leaves its rows and the places of their records.
  module _ {n : ℕ} (ys qs : List ℕ) (t : (es : List Entry) × (o ≡ joined es) × (n ≡ length es)) (h : HeldOver o xs ys ps qs) where
    -- What the slices hold.
    held : Holds (joined t.0) h.used ys ps qs
    held = rw t.1 at h.holds

    -- How many numbers the rows have.
    rows-size : length (numbers (rows_of t.0)) ≡ n * 6
    rows-size = length-numbers (rows_of t.0) ∙ omega (arith, rows-length t.0, t.2)

    -- How many numbers the places have.
    parts-size : length (part_numbers t.0) ≡ n * 3
    parts-size = length-parts t.0 ∙ omega (arith, t.2)

    -- The slices hold the rows and the places.
    pub rows_within : n * 6 ≤ length ys
    rows_within = omega (arith, rows-size, ap length held.0, length-append (numbers (rows_of t.0)) (drop (6 * length t.0) h.used))

    pub parts_in : n * 3 ≤ length qs
    parts_in = omega (arith, parts-size, ap length held.1, length-append (part_numbers t.0) (drop (3 * length t.0) ps))

    -- The code clears what stands behind them.
    pub leaves-joined : {last vs back : List ℕ} → last ≡ replicate (length (take (length ys - n * 6) (drop (n * 6) ys))) 0 → vs ≡ replicate (length us) 0 →
        back ≡ replicate (length (take (length qs - n * 3) (drop (n * 3) qs))) 0 →
        Leaves o (Ok n) xs (put_mid (n * 6) (length ys - n * 6) ys last) us vs ps (put_mid (n * 3) (length qs - n * 3) qs back)
    leaves-joined {last} {vs} {back} l c b =
        let p = numbers (rows_of t.0) in
        let q = part_numbers t.0 in
        let six : 6 * length t.0 ≡ n * 6 = omega (arith, t.2) in
        let three : 3 * length t.0 ≡ n * 3 = omega (arith, t.2) in
        let there : ys ≡ p ++ drop (n * 6) h.used = held.0 ∙ ap (λ (k : ℕ). p ++ drop k h.used) six in
        let placed : qs ≡ q ++ drop (n * 3) ps = held.1 ∙ ap (λ (k : ℕ). q ++ drop k ps) three in
        rw t.1
        (record {
          answered = ap Accepted t.2;
          rows_after =
              cleared-behind p h.used ys rows-size there l
              ∙ (λ i. p ++ replicate (h.same_length i - sym six i) 0);
          counts_after = c;
          parts_after = cleared-behind q ps qs parts-size placed b ∙ ap (λ (k : ℕ). q ++ replicate (length ps - k) 0) (sym three);
        })
