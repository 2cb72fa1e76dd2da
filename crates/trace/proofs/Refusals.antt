-- The number and the place of a refusal are small.
use Rattle.std.proofs.Common.{ℕ, ◌+◌, ◌≤◌, arith, ◌≡◌, refl, subst, ◌⊎◌, inl, inr, Bool, true, false, cond, List, [], ◌∷◌, ◌++◌, length, length-append, ltb-true, eqb-true}
use lib.Dec.{eqb}
use borrow.Author.Tests.{eqb-false}
use Rattle.csv_records.specs.Reading.{Records, records, Ending, all_read, at-malformed, at-limit}
use Rattle.rows.specs.Limits.{ROWS}
use Rattle.rows.specs.declared.row.Row.{Row}
use Rattle.trace.specs.Rows.{row_of}
use Rattle.trace.specs.Questions.{call_questions, is_header, field_questions, record_questions, row_questions, message_questions, Outcome, refused, accepted, judge_rows, judge_header, read_records, read_trace, check_trace}
use Rattle.rows.specs.Questions.{Question, first_no}
use Rattle.rows.specs.Refusals.{WAIT_ORDER, BARRIER_ORDER}
use Rattle.barriers.specs.Barriers.{barrier_place}
use Rattle.trace.proofs.Barriers.{AskedNo, asked-no_of}
use Rattle.trace.proofs.Laws.{legal, refused-from_four, records-sound}
use Rattle.rows.proofs.Asking.{all_yes, no_from}

-- no question has a number past m
abbrev pub UpTo : ℕ → List Question → Type 0
UpTo m [] = Unit {0}
UpTo m (q ∷ qs) = (q.number ≤ m) × UpTo m qs

-- the first No has no number past m
pub no_most : (m : ℕ) (qs : List Question) → UpTo m qs → first_no qs ≤ m
unfolding first_no
no_most m [] u = omega arith
no_most m (q ∷ qs) u = go q.yes (no_most m qs u.1)
  where
    go : (b : Bool) → first_no qs ≤ m → cond b (first_no qs) q.number ≤ m
    go true h = h
    go false h = u.0

-- the largest number of a refusal
abbrev pub LARGEST : ℕ
LARGEST = BARRIER_ORDER

-- a record's refusal is 21 at most, and its place at most one past the row limit
abbrev Low : ℕ → Outcome → Type 0
Low rowLimit (refused number place) = (number ≤ WAIT_ORDER) × (place ≤ rowLimit + 1)
Low rowLimit (accepted rows) = Unit {0}

module _ (rowLimit processLimit : ℕ) where
  -- the outcome of records behind rows is Low
  low_rows : (before : List Row) (recs : List (List (List ℕ))) (ending : Ending) → length before ≤ rowLimit →
      Low rowLimit (judge_rows rowLimit processLimit before recs ending)
  unfolding judge_rows record_questions row_questions message_questions field_questions
  low_rows before [] all_read h = tt
  low_rows before [] at-malformed h = omega arith
  low_rows before [] at-limit h = omega arith
  low_rows before (fields ∷ rest) ending h = go (low_rows (before ++ (row_of fields ∷ [])) rest ending) (eqb first 0) refl
    where
      questions : List Question
      questions = row_questions rowLimit processLimit before fields

      first : ℕ
      first = first_no questions

      behind : Outcome
      behind = judge_rows rowLimit processLimit (before ++ (row_of fields ∷ [])) rest ending

      go : (length (before ++ (row_of fields ∷ [])) ≤ rowLimit → Low rowLimit behind) → (b : Bool) → eqb first 0 ≡ b →
          Low rowLimit (cond b behind (refused first (length before + 1)))
      go ih true e =
          let room = ltb-true (length before) rowLimit (all_yes questions (omega arith) (eqb-true first 0 e)).0 in
          ih (simp length-append (omega arith))
      go ih false e = (no_most WAIT_ORDER questions (omega arith), omega arith)

  -- the outcome of records with a header first is Low
  low-header : (recs : List (List (List ℕ))) (ending : Ending) → Low rowLimit (judge_header rowLimit processLimit recs ending)
  unfolding judge_header
  low-header [] all_read = omega arith
  low-header [] at-malformed = omega arith
  low-header [] at-limit = omega arith
  low-header (fields ∷ rest) ending = go (is_header fields)
    where
      go : (b : Bool) → Low rowLimit (cond b (judge_rows rowLimit processLimit [] rest ending) (refused 5 0))
      go true = low_rows [] rest ending (omega arith)
      go false = omega arith

  -- the outcome of the records of a text is Low
  low_read : (header : ℕ) (r : Records) → Low rowLimit (read_records header rowLimit processLimit r)
  unfolding read_records
  low_read header r = go (eqb header 0)
    where
      go : (b : Bool) →
          Low rowLimit
          (cond b (judge_rows rowLimit processLimit [] r.rows r.ending) (judge_header rowLimit processLimit r.rows r.ending))
      go true = low_rows [] r.rows r.ending (omega arith)
      go false = low-header r.rows r.ending

  -- The place of a refusal 22 is that of one of the rows, all of whose records have passed.
  pub barrier_refusal : (header : ℕ) (r : Records) {place : ℕ} → read_trace header rowLimit processLimit r ≡ refused BARRIER_ORDER place →
      (rows : List Row) × (read_records header rowLimit processLimit r ≡ accepted rows) × (place ≡ barrier_place rows) × (1 ≤ place) × (place ≤ length rows)
  unfolding read_trace
  barrier_refusal header r {place} e = go (asked-no_of (read_records header rowLimit processLimit r) e)
    where
      Behind : Type 0
      Behind = (rows : List Row) × (read_records header rowLimit processLimit r ≡ accepted rows) × (place ≡ barrier_place rows) × (1 ≤ place) × (place ≤ length rows)

      go : (read_records header rowLimit processLimit r ≡ refused BARRIER_ORDER place)
          ⊎ AskedNo (read_records header rowLimit processLimit r) BARRIER_ORDER place → Behind
      go (inl q) = let low = subst (Low rowLimit) q (low_read header r) in absurd (omega arith)
      go (inr n) = (n.rows, n.passed, n.is_place, n.some, n.few)

  -- a refusal of a text is 22 at most, and its place at most one past the row limit
  read-bounds : (header : ℕ) (r : Records) {number place : ℕ} → read_trace header rowLimit processLimit r ≡ refused number place →
      (number ≤ LARGEST) × (place ≤ rowLimit + 1)
  unfolding read_trace
  read-bounds header r {number} {place} e = go (asked-no_of (read_records header rowLimit processLimit r) e)
    where
      go : (read_records header rowLimit processLimit r ≡ refused number place)
          ⊎ AskedNo (read_records header rowLimit processLimit r) number place → (number ≤ LARGEST) × (place ≤ rowLimit + 1)
      go (inl q) = let low = subst (Low rowLimit) q (low_read header r) in omega arith
      go (inr n) =
          let many = (records-sound header rowLimit processLimit r n.rows n.passed).0 in
          (omega (arith, n.is_number), omega (arith, n.few, many))

-- the bounds of every refusal
pub record Bounded (number place : ℕ) : Type 0 where
  pub some : 1 ≤ number
  pub few : number ≤ LARGEST
  pub placed : place ≤ ROWS + 1

-- every refusal of a call is within the bounds
pub refusal-bounded : (text : List ℕ) (header model R P limit a b : ℕ) {number place : ℕ} →
    check_trace text header model R P limit a b ≡ refused number place → Bounded number place
unfolding check_trace call_questions
refusal-bounded text header model R P limit a b {number} {place} e = go (eqb first 0) refl e
  where
    questions : List Question
    questions = call_questions header model R P a b

    first : ℕ
    first = first_no questions

    go : (x : Bool) → eqb first 0 ≡ x → cond x (read_trace header R P (records text limit)) (refused first 0) ≡ refused number place →
        Bounded number place
    go true q e =
        let l = (legal header model R P a b (eqb-true first 0 q)).few-rows in
        let h = read-bounds R P header (records text limit) e in
        let four = refused-from_four header R P (records text limit) number place e in
        record { some = omega arith; few = h.0; placed = omega arith }
    go false q e =
        let n : first ≡ number = cc in
        let p : ◌≡◌ {A = ℕ} 0 place = cc in
        record {
          some = omega (arith, no_from 1 questions (omega arith) (eqb-false first 0 q));
          few = omega (arith, no_most LARGEST questions (omega arith));
          placed = omega arith;
        }
