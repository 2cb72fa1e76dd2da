-- An accepted join, from the texts on: what the call asked, and that the joined rows are an allowed merging of the two files, a sound trace, and
-- have the verdict of every other allowed merging. And the way back: where some merging is a sound trace, the join is accepted.
use Rattle.std.proofs.Common.{ℕ, ◌*◌, ◌≤◌, ◌<◌, arith, ◌≡◌, refl, sym, ◌∙◌, ◌↔◌, Bool, true, false, cond, List, length, leb-true, eqb-true, eq-eqb}
use lib.Dec.{eqb}
use Rattle.rows.specs.declared.row.Row.{Row}
use Rattle.rows.specs.Questions.{first_no, long_enough}
use Rattle.rows.specs.Refusals.{SHARED_PROCESS}
use Rattle.rows.specs.Rows.{row_at}
use Rattle.rows.proofs.Asking.{all_yes, none-no}
use Rattle.rows.proofs.Bools.{and_out}
use Rattle.trace.specs.Questions.{Outcome, call_questions, header_word}
use Rattle.trace.specs.Questions as outcome
use Rattle.trace.proofs.Laws.{WellFormed, Sound, Legal, legal}
use Rattle.barriers.specs.Barriers.{barrier_place}
use Rattle.races_meaning.specs.Races.{verdict_of, free}
use Rattle.join_meaning.specs.Files.{Entry, rows_of, read_file, entries_of}
use Rattle.join_meaning.specs.Joining.{Joining, refused, joined, join_questions, PART, shares_process, on_file, join_entries, join_files, join_traces}
use Rattle.join_meaning.specs.Merging.{Merged, AllowedMerging}
use Rattle.join_meaning.proofs.Ahead.{file-rows, file-well_formed}
use Rattle.join_meaning.proofs.Parts.{HandedOver, Every, every-merged, file_text, first-handed, second-handed}
use Rattle.join_meaning.proofs.Taking.{join-merged, join-allowed, join-sound, join-barriers}
use Rattle.join_meaning.proofs.Verdicts.{join-verdict}
use Rattle.join_meaning.proofs.Finding.{join-finds}
use Rattle.join_meaning.proofs.Tests.{apart}

-- ---- The questions 1 to 3

-- What a call that passes the questions 1 to 3 has: those of one trace with the first header word, room for the places, and the second header word.
pub record Allowed (header₁ header₂ model rowLimit processLimit rowsLength countsLength partsLength : ℕ) : Type 0 where
  pub one-trace : Legal header₁ model rowLimit processLimit rowsLength countsLength
  pub parts_fit : PART * rowLimit ≤ partsLength
  pub second_word : header₂ ≤ 1

-- A call that passes the questions 1 to 3 is allowed.
pub allowed : (h₁ h₂ model R P rl cl pl : ℕ) → first_no (join_questions h₁ h₂ model R P rl cl pl) ≡ 0 → Allowed h₁ h₂ model R P rl cl pl
unfolding join_questions call_questions
allowed h₁ h₂ model R P rl cl pl e =
    let y = all_yes (join_questions h₁ h₂ model R P rl cl pl) (omega arith) e in
    let slices = and_out (long_enough R P rl cl) _ y.0 in
    let words = and_out (header_word h₁) _ y.1.1.0 in
    record {
      one-trace = legal h₁ model R P rl cl (none-no (call_questions h₁ model R P rl cl) (slices.0, (y.1.0, (words.0, tt))));
      parts_fit = leb-true _ _ slices.1;
      second_word = leb-true _ _ words.1;
    }

-- ---- Both files

-- Both files are accepted and share no process.
pub record BothRead (h₁ h₂ R P : ℕ) (first second : List ℕ) : Type 0 where
  pub first_rows : List Row
  pub second-rows : List Row
  pub first_read : read_file h₁ R P first ≡ outcome.accepted first_rows
  pub second-read : read_file h₂ R P second ≡ outcome.accepted second-rows
  pub apart : shares_process (rows_of (entries_of 1 h₁ first)) (rows_of (entries_of 2 h₂ second)) ≡ false

module _ {h₁ h₂ R P : ℕ} {first second : List ℕ} (b : BothRead h₁ h₂ R P first second) where
  -- Then the outcome is that of the files' entries.
  pub entries_decide : join_files h₁ h₂ R P first second ≡ join_entries R (entries_of 1 h₁ first) (entries_of 2 h₂ second)
  unfolding join_files on_file
  entries_decide = rw (b.first_read, b.second-read, b.apart)

  -- The rows of the first file are well formed.
  first-well_formed : (k : ℕ) → k < length (rows_of (entries_of 1 h₁ first)) → WellFormed P (row_at (rows_of (entries_of 1 h₁ first)) k)
  first-well_formed = rw (file-rows h₁ R P first b.first_read 1) (file-well_formed h₁ R P first b.first_read)

  -- So are those of the second.
  second-well_formed : (k : ℕ) → k < length (rows_of (entries_of 2 h₂ second)) → WellFormed P (row_at (rows_of (entries_of 2 h₂ second)) k)
  second-well_formed = rw (file-rows h₂ R P second b.second-read 2) (file-well_formed h₂ R P second b.second-read)

-- Where the files' outcome is an accepted join, both are accepted and share no process.
both_read : (h₁ h₂ R P : ℕ) (first second : List ℕ) (es : List Entry) → join_files h₁ h₂ R P first second ≡ joined es →
    BothRead h₁ h₂ R P first second
unfolding join_files on_file
both_read h₁ h₂ R P first second es e =
    go (read_file h₁ R P first) refl (read_file h₂ R P second) refl (shares_process (rows_of (entries_of 1 h₁ first)) (rows_of (entries_of 2 h₂ second))) refl e
  where
    last : Joining
    last = join_entries R (entries_of 1 h₁ first) (entries_of 2 h₂ second)

    go : (o : Outcome) → read_file h₁ R P first ≡ o → (u : Outcome) → read_file h₂ R P second ≡ u → (x : Bool) →
        shares_process (rows_of (entries_of 1 h₁ first)) (rows_of (entries_of 2 h₂ second)) ≡ x →
        on_file 1 o (on_file 2 u (cond x (refused SHARED_PROCESS 0 0) last)) ≡ joined es → BothRead h₁ h₂ R P first second
    go (outcome.refused number place) p u q x s e = let z : ◌≡◌ {A = ℕ} 0 1 = cc in absurd (omega arith)
    go (outcome.accepted rows) p (outcome.refused number place) q x s e = let z : ◌≡◌ {A = ℕ} 0 1 = cc in absurd (omega arith)
    go (outcome.accepted rows) p (outcome.accepted more) q true s e = let z : ◌≡◌ {A = ℕ} 0 1 = cc in absurd (omega arith)
    go (outcome.accepted rows) p (outcome.accepted more) q false s e =
        record { first_rows = rows; second-rows = more; first_read = p; second-read = q; apart = s }

-- ---- The whole call

module _ (first second : List ℕ) (h₁ h₂ model R P rl cl pl : ℕ) where
  -- The outcome of the call.
  abbrev pub called : Joining
  called = join_traces first second h₁ h₂ model R P rl cl pl

  -- The rows of the first file, and of the second.
  abbrev pub first-file : List Row
  first-file = rows_of (entries_of 1 h₁ first)

  abbrev pub second-file : List Row
  second-file = rows_of (entries_of 2 h₂ second)

  module _ (es : List Entry) (e : called ≡ joined es) where
    -- An accepted join passes the questions 1 to 3, and its entries come of the files.
    accepted-passed : (first_no (join_questions h₁ h₂ model R P rl cl pl) ≡ 0) × (join_files h₁ h₂ R P first second ≡ joined es)
    unfolding join_traces
    accepted-passed = go (eqb no 0) refl e
      where
        no : ℕ
        no = first_no (join_questions h₁ h₂ model R P rl cl pl)

        go : (x : Bool) → eqb no 0 ≡ x → cond x (join_files h₁ h₂ R P first second) (refused no 0 0) ≡ joined es →
            (no ≡ 0) × (join_files h₁ h₂ R P first second ≡ joined es)
        go true q f = (eqb-true no 0 q, f)
        go false q f = let z : ◌≡◌ {A = ℕ} 0 1 = cc in absurd (omega arith)

    -- Its numbers and slices are within their ranges.
    pub accepted-allowed : Allowed h₁ h₂ model R P rl cl pl
    accepted-allowed = allowed h₁ h₂ model R P rl cl pl accepted-passed.0

    -- Both files are accepted by themselves and share no process.
    pub accepted-read : BothRead h₁ h₂ R P first second
    accepted-read = both_read h₁ h₂ R P first second es accepted-passed.1

    -- The entries are joined.
    accepted-entries : join_entries R (entries_of 1 h₁ first) (entries_of 2 h₂ second) ≡ joined es
    accepted-entries = sym (entries_decide accepted-read) ∙ accepted-passed.1

    -- The joined entries are a merging of both files' entries: each record is handed over once, in its file's order.
    pub accepted-merged : Merged (entries_of 1 h₁ first) (entries_of 2 h₂ second) es
    accepted-merged = join-merged R (entries_of 1 h₁ first) (entries_of 2 h₂ second) es accepted-entries

    -- Each joined row's record is a part of the file that holds it, without its line end, and read by itself it has the fields that give the row.
    pub accepted-handed : Every (λ e. HandedOver (file_text first second e.file) e) es
    accepted-handed =
        every-merged (λ e. HandedOver (file_text first second e.file) e) accepted-merged
        (first-handed h₁ R P first second accepted-read.first_read) (second-handed h₂ R P first second accepted-read.second-read)

    -- The joined rows are an allowed merging of both files' rows.
    pub accepted-merging : AllowedMerging first-file second-file (rows_of es)
    accepted-merging = join-allowed R (entries_of 1 h₁ first) (entries_of 2 h₂ second) es accepted-entries

    -- The joined rows are a sound trace within the row limit.
    pub accepted-sound : Sound P (rows_of es) × (length es ≤ R)
    accepted-sound =
        join-sound R (entries_of 1 h₁ first) (entries_of 2 h₂ second) es accepted-entries P (first-well_formed accepted-read)
        (second-well_formed accepted-read)

    -- The joined rows have a Yes to question 22.
    pub accepted-barriers : barrier_place (rows_of es) ≡ 0
    accepted-barriers = join-barriers R (entries_of 1 h₁ first) (entries_of 2 h₂ second) es accepted-entries

    -- The verdict on the join is free exactly where that on any other allowed merging of the two files is, under each model.
    pub accepted-verdict : (m : List Row) → AllowedMerging first-file second-file m → (number : ℕ) →
        (verdict_of (rows_of es) number ≡ free) ↔ (verdict_of m number ≡ free)
    accepted-verdict m o =
        join-verdict R P (entries_of 1 h₁ first) (entries_of 2 h₂ second) es m accepted-read.apart (first-well_formed accepted-read)
        (second-well_formed accepted-read) accepted-entries o

  -- Where the call's numbers pass, both files are accepted and share no process, and some merging of them within the row limit is a sound trace with a
  -- Yes to question 22, the join is accepted.
  pub merging_accepted : first_no (join_questions h₁ h₂ model R P rl cl pl) ≡ 0 → BothRead h₁ h₂ R P first second → (m : List Row) →
      Merged first-file second-file m → Sound P m → barrier_place m ≡ 0 → length m ≤ R → (es : List Entry) × (called ≡ joined es)
  unfolding join_traces
  merging_accepted z b m d s y l =
      let f = join-finds R P (entries_of 1 h₁ first) (entries_of 2 h₂ second) m (apart _ _ b.apart) d s y l in
      (f.0, rw (eq-eqb (first_no (join_questions h₁ h₂ model R P rl cl pl)) 0 z) (entries_decide b ∙ f.1))
