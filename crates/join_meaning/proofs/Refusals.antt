-- The number, the place and the file of a refusal are small.
use Rattle.std.proofs.Common.{ℕ, zero, suc, ◌+◌, ◌≤◌, arith, ◌≡◌, refl, subst, Bool, true, false, cond, List, [], ◌∷◌, ◌++◌, length, length-append, ltb-true, eqb-true}
use lib.Dec.{eqb}
use borrow.Author.Tests.{eqb-false}
use Rattle.csv_records.specs.Reading.{Records, records, Ending, all_read, at-malformed, at-limit}
use Rattle.rows.specs.declared.row.Row.{Row}
use Rattle.rows.specs.Limits.{ROWS}
use Rattle.rows.specs.Questions.{Question, first_no}
use Rattle.rows.specs.Refusals.{HEADER, RANGE_END, SHARED_PROCESS, BARRIER_ORDER}
use Rattle.rows.proofs.Asking.{all_yes, no_from}
use Rattle.messages.specs.Questions.{message_questions}
use Rattle.barriers.specs.Barriers.{barrier_place}
use Rattle.barriers.proofs.Kept.{place-most}
use Rattle.trace.specs.Rows.{row_of}
use Rattle.trace.specs.Questions.{Outcome, field_questions, record_questions, is_header}
use Rattle.trace.specs.Questions as outcome
use Rattle.trace.proofs.Refusals.{no_most}
use Rattle.join_meaning.specs.Files.{Entry, rows_of, file_rows, file_header, file_records, read_file, entries_of}
use Rattle.join_meaning.specs.Joining.{Joining, refused, joined, join_questions, turn_of, taken_questions, on_turn, join_from, ask_joined, join_rows, join_entries, shares_process, on_file, join_files, join_traces}
use Rattle.join_meaning.specs.Joining as turn
use Rattle.join_meaning.proofs.Accepted.{allowed}
use Rattle.join_meaning.proofs.Merging.{rows-length}

-- ---- One file

-- A refusal of a file is 4 to 11, and its place at most one past the row limit.
abbrev FileLow : ℕ → Outcome → Type 0
FileLow rowLimit (outcome.refused number place) = (4 ≤ number) × (number ≤ RANGE_END) × (place ≤ rowLimit + 1)
FileLow rowLimit (outcome.accepted rows) = Unit {0}

module _ (rowLimit processLimit : ℕ) where
  -- The records behind some rows.
  low_rows : (before : List Row) (recs : List (List (List ℕ))) (ending : Ending) → length before ≤ rowLimit →
      FileLow rowLimit (file_rows rowLimit processLimit before recs ending)
  unfolding file_rows record_questions field_questions
  low_rows before [] all_read h = tt
  low_rows before [] at-malformed h = omega arith
  low_rows before [] at-limit h = omega arith
  low_rows before (fields ∷ rest) ending h = go (low_rows (before ++ (row_of fields ∷ [])) rest ending) (eqb first 0) refl
    where
      questions : List Question
      questions = record_questions rowLimit processLimit (length before) (length fields) fields

      first : ℕ
      first = first_no questions

      behind : Outcome
      behind = file_rows rowLimit processLimit (before ++ (row_of fields ∷ [])) rest ending

      go : (length (before ++ (row_of fields ∷ [])) ≤ rowLimit → FileLow rowLimit behind) → (b : Bool) → eqb first 0 ≡ b →
          FileLow rowLimit (cond b behind (outcome.refused first (length before + 1)))
      go ih true e =
          let room = ltb-true (length before) rowLimit (all_yes questions (omega arith) (eqb-true first 0 e)).0 in
          ih (simp length-append (omega arith))
      go ih false e = (no_from 4 questions (omega arith) (eqb-false first 0 e), no_most RANGE_END questions (omega arith), omega arith)

  -- The records with a header first.
  low-header : (recs : List (List (List ℕ))) (ending : Ending) → FileLow rowLimit (file_header rowLimit processLimit recs ending)
  unfolding file_header
  low-header [] all_read = omega arith
  low-header [] at-malformed = omega arith
  low-header [] at-limit = omega arith
  low-header (fields ∷ rest) ending = go (is_header fields)
    where
      go : (b : Bool) → FileLow rowLimit (cond b (file_rows rowLimit processLimit [] rest ending) (outcome.refused HEADER 0))
      go true = low_rows [] rest ending (omega arith)
      go false = omega arith

  -- The text of a file.
  low-file : (header : ℕ) (text : List ℕ) → FileLow rowLimit (read_file header rowLimit processLimit text)
  unfolding read_file file_records
  low-file header text = go (eqb header 0)
    where
      r : Records
      r = records text (length text)

      go : (b : Bool) →
          FileLow rowLimit (cond b (file_rows rowLimit processLimit [] r.rows r.ending) (file_header rowLimit processLimit r.rows r.ending))
      go true = low_rows [] r.rows r.ending (omega arith)
      go false = low-header r.rows r.ending

-- A refusal of a file by itself is 4 or more.
pub file_from-four : (header rowLimit processLimit : ℕ) (text : List ℕ) (number place : ℕ) →
    read_file header rowLimit processLimit text ≡ outcome.refused number place → 4 ≤ number
file_from-four header rowLimit processLimit text number place e = (subst (FileLow rowLimit) e (low-file rowLimit processLimit header text)).0

-- ---- The join

-- A refusal of the questions from 4 on is 4 to 22, its place at most one past the row limit, and its file 0, 1 or 2; an accepted join is
-- within the row limit.
abbrev Low : ℕ → Joining → Type 0
Low rowLimit (refused number place file) = (4 ≤ number) × (number ≤ BARRIER_ORDER) × (place ≤ rowLimit + 1) × (file ≤ 2)
Low rowLimit (joined es) = length es ≤ rowLimit

-- One turn.
low_turn : (R : ℕ) (taken : List Entry) (t : turn.Turn) (on : List Entry → List Entry → List Entry → Joining) → length taken ≤ R →
    ((l a b : List Entry) → length l ≤ R → Low R (on l a b)) → Low R (on_turn R taken t on)
unfolding on_turn taken_questions message_questions
low_turn R taken turn.over on l h = l
low_turn R taken turn.stuck on l h = omega arith
low_turn R taken (turn.take e a b) on l h = go (eqb first 0) refl
  where
    questions : List Question
    questions = taken_questions R (rows_of taken) e.row

    first : ℕ
    first = first_no questions

    go : (x : Bool) → eqb first 0 ≡ x → Low R (cond x (on (taken ++ (e ∷ [])) a b) (refused first (length taken + 1) 0))
    go true q =
        let room = ltb-true (length (rows_of taken)) R (all_yes questions (omega arith) (eqb-true first 0 q)).0 in
        let many = rows-length taken in
        h (taken ++ (e ∷ [])) a b (simp length-append (omega arith))
    go false q =
        (no_from 4 questions (omega arith) (eqb-false first 0 q), no_most BARRIER_ORDER questions (omega arith), omega arith, omega arith)

-- The rest of both files.
low-join : (k R : ℕ) (both : List Row) (taken a b : List Entry) → length taken ≤ R → Low R (join_from k R both taken a b)
unfolding join_from
low-join zero R both taken a b l = l
low-join (suc k) R both taken a b l =
    low_turn R taken (turn_of both (rows_of taken) a b) (λ t c d. join_from k R both t c d) l (λ t c d h. low-join k R both t c d h)

-- 22 of the joined rows.
low-asked : (R : ℕ) (o : Joining) → Low R o → Low R (ask_joined o)
unfolding ask_joined
low-asked R (refused number place file) h = h
low-asked R (joined es) h = go (eqb (barrier_place (rows_of es)) 0)
  where
    go : (x : Bool) → Low R (cond x (joined es) (refused BARRIER_ORDER (barrier_place (rows_of es)) 0))
    go true = h
    go false = let most = place-most (rows_of es) in let many = rows-length es in (omega arith, omega arith, omega arith, omega arith)

-- The questions from 4 on.
low-files : (h₁ h₂ R P : ℕ) (first second : List ℕ) → Low R (join_files h₁ h₂ R P first second)
unfolding join_files on_file
low-files h₁ h₂ R P first second = go (read_file h₁ R P first) (low-file R P h₁ first) (read_file h₂ R P second) (low-file R P h₂ second)
    (shares_process (rows_of (entries_of 1 h₁ first)) (rows_of (entries_of 2 h₂ second)))
  where
    last : Joining
    last = join_entries R (entries_of 1 h₁ first) (entries_of 2 h₂ second)

    go : (o : Outcome) → FileLow R o → (u : Outcome) → FileLow R u → (x : Bool) →
        Low R (on_file 1 o (on_file 2 u (cond x (refused SHARED_PROCESS 0 0) last)))
    go (outcome.refused number place) p u q x = (p.0, omega arith, p.2, omega arith)
    go (outcome.accepted rows) p (outcome.refused number place) q x = (q.0, omega arith, q.2, omega arith)
    go (outcome.accepted rows) p (outcome.accepted more) q true = omega arith
    go (outcome.accepted rows) p (outcome.accepted more) q false =
        low-asked R (join_rows R (entries_of 1 h₁ first) (entries_of 2 h₂ second))
        (low-join (suc (length (entries_of 1 h₁ first) + length (entries_of 2 h₂ second))) R (rows_of (entries_of 1 h₁ first) ++ rows_of (entries_of 2 h₂ second)) []
        (entries_of 1 h₁ first) (entries_of 2 h₂ second) (omega arith))

-- A refusal of the questions from 4 on is 4 or more.
pub from_four : (h₁ h₂ R P : ℕ) (first second : List ℕ) {number place file : ℕ} → join_files h₁ h₂ R P first second ≡ refused number place file → 4 ≤ number
from_four h₁ h₂ R P first second e = (subst (Low R) e (low-files h₁ h₂ R P first second)).0

-- The bounds of every refusal.
pub record Bounded (number place file : ℕ) : Type 0 where
  pub some : 1 ≤ number
  pub few : number ≤ BARRIER_ORDER
  pub placed : place ≤ ROWS + 1
  pub filed : file ≤ 2

-- Every refusal of a call is within the bounds.
pub refusal-bounded : (first second : List ℕ) (h₁ h₂ model R P rl cl pl : ℕ) {number place file : ℕ} →
    join_traces first second h₁ h₂ model R P rl cl pl ≡ refused number place file → Bounded number place file
unfolding join_traces join_questions
refusal-bounded first second h₁ h₂ model R P rl cl pl {number} {place} {file} e = go (eqb no 0) refl e
  where
    questions : List Question
    questions = join_questions h₁ h₂ model R P rl cl pl

    no : ℕ
    no = first_no questions

    go : (x : Bool) → eqb no 0 ≡ x → cond x (join_files h₁ h₂ R P first second) (refused no 0 0) ≡ refused number place file → Bounded number place file
    go true q e =
        let l = (allowed h₁ h₂ model R P rl cl pl (eqb-true no 0 q)).one-trace in
        let few = l.few-rows in
        let h = subst (Low R) e (low-files h₁ h₂ R P first second) in
        record { some = omega arith; few = h.1; placed = omega arith; filed = h.3 }
    go false q e =
        let n : no ≡ number = cc in
        let p : ◌≡◌ {A = ℕ} 0 place = cc in
        let f : ◌≡◌ {A = ℕ} 0 file = cc in
        record {
          some = omega (arith, no_from 1 questions (omega arith) (eqb-false no 0 q));
          few = omega (arith, no_most BARRIER_ORDER questions (omega arith));
          placed = omega arith;
          filed = omega arith;
        }
