-- Laws of reading a trace that other crates cite.
use Rattle.std.proofs.Common.{ℕ, ◌+◌, ◌*◌, ◌≤◌, ◌<◌, arith, ◌≡◌, refl, sym, subst, ◌∙◌, Bool, true, false, cond, List, [], ◌∷◌, ◌++◌, map, append-nil, length, length-append, leb-true, ltb-true, eqb-true}
use mathlib.Core.Bool.{false≢true}
use lib.Seq.{append_snoc}
use lib.Dec.{ltb, eqb}
use borrow.Author.Tests.{eqb-false}
use Rattle.csv_records.specs.Reading.{Records, records, Ending, all_read, at-malformed, at-limit}
use Rattle.rows.specs.Limits.{PROCESSES, ROWS, FILES, MESSAGES, OFFSET_MAX}
use Rattle.rows.specs.declared.row.Row.{Row}
use Rattle.trace.specs.Rows.{kind_of, used_by, is_plain, value, value_from, is_number, field, row_of}
use Rattle.rows.specs.Kinds.{KINDS}
use Rattle.trace.specs.Questions.{call_questions, is_header, kind_known, as_used, filled_as_used, number_if, OFFSETS, numbers_in_range, end_in_range, message_questions, field_questions, record_questions, row_questions, Outcome, refused, accepted, judge_rows, judge_header, read_records, ask_barriers, read_trace, check_trace}
use Rattle.rows.specs.Questions.{first_no}
use Rattle.rows.specs.Refusals.{BARRIER_ORDER}
use Rattle.rows.proofs.Bools.{and_out}
use Rattle.rows.proofs.Limits.{limit-told}
use Rattle.rows.proofs.Asking.{no_from, all_yes, none-appended}
use Rattle.barriers.specs.Barriers.{barrier_place}
use Rattle.barriers.proofs.Kept.{Kept, kept}
use Rattle.trace.proofs.Barriers.{accepted-records, accepted-barriers}

-- the number of a field that is not used is 0
abbrev pub Unless : Bool → ℕ → Type 0
Unless true n = Unit {0}
Unless false n = n ≡ 0

-- A well-formed row: every number within its range, and 0 where the kind does not use the field.
pub record WellFormed (processLimit : ℕ) (r : Row) : Type 0 where
  pub process : r.process < processLimit
  pub kind : r.kind < KINDS
  pub file : r.file < FILES
  pub end : r.offset + r.length ≤ OFFSET_MAX
  pub message : r.message < MESSAGES
  pub no_file : Unless (used_by r.kind).file r.file
  pub no_offset : Unless (used_by r.kind).range r.offset
  pub no_length : Unless (used_by r.kind).range r.length
  pub no_message : Unless (used_by r.kind).message r.message

-- Rows of a trace: each is well formed, and its message is in order behind the rows before.
pub data Sound (processLimit : ℕ) : List Row → Type 0 where
  none : Sound processLimit []
  next : {rows : List Row} {r : Row} → Sound processLimit rows → WellFormed processLimit r → first_no (message_questions rows r) ≡ 0 →
      Sound processLimit (rows ++ (r ∷ []))

-- ---- A row that passes its questions is well formed

-- a number that passes is below its bound
number-below : (below : ℕ) (content : List ℕ) → is_number below content ≡ true → value content < below
number-below below content e = ltb-true (value content) below (and_out (is_plain content) (ltb (value content) below) e).1

-- the number of a field that passes the questions 9 and 10 is in its range, and 0 where the kind does not use the field
field_in : (used : Bool) (below : ℕ) (content : List ℕ) → 0 < below → as_used used content ≡ true → number_if used below content ≡ true →
    (value content < below) × Unless used (value content)
unfolding value_from
field_in true below content h f n = (number-below below content n, tt)
field_in false below [] h f n = (h, refl)
field_in false below (b ∷ t) h f n = absurd (false≢true f)

-- the row of a record that passes the questions 8 to 11 is well formed
pub well-formed : (processLimit : ℕ) (fields : List (List ℕ)) → kind_known fields ≡ true → filled_as_used fields ≡ true →
    numbers_in_range processLimit fields ≡ true → end_in_range (row_of fields) ≡ true → WellFormed processLimit (row_of fields)
unfolding row_of filled_as_used numbers_in_range
well-formed processLimit fields k f n e =
    let u = used_by (kind_of (field fields 1)) in
    let files : 0 < FILES = omega arith in
    let offsets : 0 < OFFSETS = omega arith in
    let messages : 0 < MESSAGES = omega arith in
    let f1 = and_out _ _ (and_out (as_used true (field fields 0)) _ f).1 in
    let f2 = and_out _ _ f1.1 in
    let f3 = and_out _ _ f2.1 in
    let n0 = and_out _ _ n in
    let n1 = and_out _ _ n0.1 in
    let n2 = and_out _ _ n1.1 in
    let n3 = and_out _ _ n2.1 in
    let file = field_in u.file FILES (field fields 2) files f1.0 n1.0 in
    let offset = field_in u.range OFFSETS (field fields 3) offsets f2.0 n2.0 in
    let size = field_in u.range OFFSETS (field fields 4) offsets f3.0 n3.0 in
    let message = field_in u.message MESSAGES (field fields 5) messages f3.1 n3.1 in
    record {
      process = number-below processLimit (field fields 0) n0.0;
      kind = ltb-true _ _ k;
      file = file.0;
      end = leb-true _ _ e;
      message = message.0;
      no_file = file.1;
      no_offset = offset.1;
      no_length = size.1;
      no_message = message.1;
    }

-- ---- What an outcome says

-- a refusal is 4 or more, and accepted rows are as Q says
abbrev Where : (List Row → Type 0) → Outcome → Type 0
Where Q (refused number place) = 4 ≤ number
Where Q (accepted rows) = Q rows

-- an outcome whose rows are as Q says has rows as a weaker Q' says
weaken : {Q Q' : List Row → Type 0} → ((rows : List Row) → Q rows → Q' rows) → (o : Outcome) → Where Q o → Where Q' o
weaken f (refused number place) h = h
weaken f (accepted rows) h = f rows h

-- question 22 refuses by a number past 4, and leaves accepted rows as they are
asked : (Q : List Row → Type 0) (o : Outcome) → Where Q o → Where Q (ask_barriers o)
unfolding ask_barriers
asked Q (refused number place) h = h
asked Q (accepted rows) h = go (eqb (barrier_place rows) 0)
  where
    go : (b : Bool) → Where Q (cond b (accepted rows) (refused BARRIER_ORDER (barrier_place rows)))
    go true = h
    go false = omega arith

module _ (rowLimit processLimit : ℕ) where
  -- the rows of an accepted trace, from records behind the rows before
  record Came (before : List Row) (recs : List (List (List ℕ))) (ending : Ending) (rows : List Row) : Type 0 where
    all : rows ≡ before ++ map row_of recs
    end : ending ≡ all_read
    few : length before ≤ rowLimit → length rows ≤ rowLimit
    sound : Sound processLimit before → Sound processLimit rows

  -- the rows of an accepted trace, from records behind a header
  abbrev Behind : List (List (List ℕ)) → Ending → List Row → Type 0
  Behind recs ending rows = (first : List (List ℕ)) × (rest : List (List (List ℕ))) × (recs ≡ first ∷ rest) × (is_header first ≡ true) × Came [] rest ending rows

  -- sound rows, at most as many as the row limit
  abbrev Fair : List Row → Type 0
  Fair rows = (length rows ≤ rowLimit) × Sound processLimit rows

  -- the rows that come of all records are fair
  fair : {recs : List (List (List ℕ))} {ending : Ending} {rows : List Row} → Came [] recs ending rows → Fair rows
  fair c = (c.few (omega arith), c.sound none)

  -- one more record that passes in front of the records
  came_next : (before : List Row) (fields : List (List ℕ)) (rest : List (List (List ℕ))) (ending : Ending) →
      first_no (row_questions rowLimit processLimit before fields) ≡ 0 → (rows : List Row) →
      Came (before ++ (row_of fields ∷ [])) rest ending rows → Came before (fields ∷ rest) ending rows
  unfolding record_questions row_questions field_questions
  came_next before fields rest ending e rows c =
      let asked =
      none-appended (record_questions rowLimit processLimit (length before) (length fields) fields) (message_questions before (row_of fields)) (omega arith) e in
      let room = ltb-true (length before) rowLimit asked.0.0 in
      let q = asked.0.1.1 in
      record {
        all = c.all ∙ append_snoc before (row_of fields) (map row_of rest);
        end = c.end;
        few = λ h. c.few (simp length-append (omega arith));
        sound =
            λ s. c.sound (next s (well-formed processLimit fields q.0 q.1.0 q.1.1.0 q.1.1.1.0) asked.1);
      }

  -- records behind rows that are accepted give rows as Came says
  judged-rows : (before : List Row) (recs : List (List (List ℕ))) (ending : Ending) →
      Where (Came before recs ending) (judge_rows rowLimit processLimit before recs ending)
  unfolding judge_rows record_questions row_questions message_questions field_questions
  judged-rows before [] all_read = record { all = sym (append-nil before); end = refl; few = λ h. h; sound = λ s. s }
  judged-rows before [] at-malformed = omega arith
  judged-rows before [] at-limit = omega arith
  judged-rows before (fields ∷ rest) ending = go (judged-rows (before ++ (row_of fields ∷ [])) rest ending) (eqb first 0) refl
    where
      first : ℕ
      first = first_no (row_questions rowLimit processLimit before fields)

      behind : Outcome
      behind = judge_rows rowLimit processLimit (before ++ (row_of fields ∷ [])) rest ending

      go : Where (Came (before ++ (row_of fields ∷ [])) rest ending) behind → (b : Bool) → eqb first 0 ≡ b →
          Where (Came before (fields ∷ rest) ending) (cond b behind (refused first (length before + 1)))
      go h true e = weaken (came_next before fields rest ending (eqb-true first 0 e)) behind h
      go h false e = no_from 4 (row_questions rowLimit processLimit before fields) (omega arith) (eqb-false first 0 e)

  -- records with a header first that are accepted give rows as Behind says
  judged-header : (recs : List (List (List ℕ))) (ending : Ending) → Where (Behind recs ending) (judge_header rowLimit processLimit recs ending)
  unfolding judge_header
  judged-header [] all_read = omega arith
  judged-header [] at-malformed = omega arith
  judged-header [] at-limit = omega arith
  judged-header (fields ∷ rest) ending = go (is_header fields) refl
    where
      behind : Outcome
      behind = judge_rows rowLimit processLimit [] rest ending

      go : (b : Bool) → is_header fields ≡ b → Where (Behind (fields ∷ rest) ending) (cond b behind (refused 5 0))
      go true e = weaken (λ rows c. (fields, rest, refl, e, c)) behind (judged-rows [] rest ending)
      go false e = omega arith

  -- the records of a text that pass give fair rows
  judged-records : (header : ℕ) (r : Records) → Where Fair (read_records header rowLimit processLimit r)
  unfolding read_records
  judged-records header r = go (eqb header 0)
    where
      plain : Outcome
      plain = judge_rows rowLimit processLimit [] r.rows r.ending

      behind : Outcome
      behind = judge_header rowLimit processLimit r.rows r.ending

      go : (b : Bool) → Where Fair (cond b plain behind)
      go true = weaken (λ rows c. fair c) plain (judged-rows [] r.rows r.ending)
      go false = weaken (λ rows h. fair h.4) behind (judged-header r.rows r.ending)

  -- so they do once 22 was put
  judged : (header : ℕ) (r : Records) → Where Fair (read_trace header rowLimit processLimit r)
  unfolding read_trace
  judged header r = asked Fair (read_records header rowLimit processLimit r) (judged-records header r)

-- ---- The laws

-- a refusal of a record is 4 or more
pub refused-from_four : (header rowLimit processLimit : ℕ) (r : Records) (number place : ℕ) →
    read_trace header rowLimit processLimit r ≡ refused number place → 4 ≤ number
refused-from_four header rowLimit processLimit r number place e =
    subst (Where (Fair rowLimit processLimit)) e (judged rowLimit processLimit header r)

-- With header word 0 every record of the text is a row, the first one row 1, and all of the text was read.
pub rows-without_header : (rowLimit processLimit : ℕ) (r : Records) (rows : List Row) →
    read_trace 0 rowLimit processLimit r ≡ accepted rows → (rows ≡ map row_of r.rows) × (r.ending ≡ all_read)
unfolding read_records
rows-without_header rowLimit processLimit r rows e =
    let c = subst (Where (Came rowLimit processLimit [] r.rows r.ending)) (accepted-records 0 rowLimit processLimit r e).0 (judged-rows rowLimit processLimit [] r.rows r.ending) in
    (c.all, c.end)

-- With header word 1 the first record is the header, and every other one is a row.
pub rows-behind_header : (rowLimit processLimit : ℕ) (r : Records) (rows : List Row) →
    read_trace 1 rowLimit processLimit r ≡ accepted rows →
    (first : List (List ℕ)) × (rest : List (List (List ℕ))) × (r.rows ≡ first ∷ rest) × (is_header first ≡ true) × (rows ≡ map row_of rest) × (r.ending ≡ all_read)
unfolding read_records
rows-behind_header rowLimit processLimit r rows e =
    let b = subst (Where (Behind rowLimit processLimit r.rows r.ending)) (accepted-records 1 rowLimit processLimit r e).0 (judged-header rowLimit processLimit r.rows r.ending) in
    (b.0, b.1, b.2, b.3, b.4.all, b.4.end)

-- an accepted trace has at most as many rows as the row limit, each well formed, with its message in order
pub accepted-sound : (header rowLimit processLimit : ℕ) (r : Records) (rows : List Row) →
    read_trace header rowLimit processLimit r ≡ accepted rows → (length rows ≤ rowLimit) × (Sound processLimit rows)
accepted-sound header rowLimit processLimit r rows e =
    subst (Where (Fair rowLimit processLimit)) e (judged rowLimit processLimit header r)

-- records that pass give rows, each well formed, with its message in order
pub records-sound : (header rowLimit processLimit : ℕ) (r : Records) (rows : List Row) →
    read_records header rowLimit processLimit r ≡ accepted rows → (length rows ≤ rowLimit) × (Sound processLimit rows)
records-sound header rowLimit processLimit r rows e =
    subst (Where (Fair rowLimit processLimit)) e (judged-records rowLimit processLimit header r)

-- Reading depends on nothing but the text, the header word and the limits: slices that are long enough, and models, make no difference.
pub slices_no_matter : (text : List ℕ) (header model model' rowLimit processLimit byteLimit rowsLength countsLength rowsLength' countsLength' : ℕ) →
    first_no (call_questions header model rowLimit processLimit rowsLength countsLength) ≡ 0 →
    first_no (call_questions header model' rowLimit processLimit rowsLength' countsLength') ≡ 0 →
    check_trace text header model rowLimit processLimit byteLimit rowsLength countsLength
    ≡ check_trace text header model' rowLimit processLimit byteLimit rowsLength' countsLength'
unfolding check_trace
slices_no_matter text header model model' rowLimit processLimit byteLimit rowsLength countsLength rowsLength' countsLength' h g = rw (h, g)

-- What a call that passes the questions 1 to 3 has: limits within their ranges, slices long enough, a header word.
pub record Legal (header model rowLimit processLimit rowsLength countsLength : ℕ) : Type 0 where
  pub rows_have_room : 6 * rowLimit ≤ rowsLength
  pub counts-fit : rowLimit * processLimit ≤ countsLength
  pub some-rows : 1 ≤ rowLimit
  pub few-rows : rowLimit ≤ ROWS
  pub some-processes : 1 ≤ processLimit
  pub few-processes : processLimit ≤ PROCESSES
  pub known-model : model < 4
  pub header-word : header ≤ 1

-- a call that passes the questions 1 to 3 is legal
pub legal : (header model rowLimit processLimit rowsLength countsLength : ℕ) →
    first_no (call_questions header model rowLimit processLimit rowsLength countsLength) ≡ 0 → Legal header model rowLimit processLimit rowsLength countsLength
unfolding call_questions
legal header model rowLimit processLimit rowsLength countsLength e =
    let yes = all_yes (call_questions header model rowLimit processLimit rowsLength countsLength) (omega arith) e in
    let slices = and_out _ _ yes.0 in
    let model_in = and_out _ _ yes.1.0 in
    let rows_within = and_out _ _ model_in.1 in
    let rows-up = and_out _ _ rows_within.1 in
    let processes = limit-told processLimit rows-up.1 in
    record {
      rows_have_room = leb-true _ _ slices.0;
      counts-fit = leb-true _ _ slices.1;
      some-rows = leb-true _ _ rows_within.0;
      few-rows = leb-true _ _ rows-up.0;
      some-processes = processes.0;
      few-processes = processes.1;
      known-model = ltb-true _ _ model_in.0;
      header-word = leb-true _ _ yes.1.1.0;
    }

-- an accepted trace passes the questions 1 to 3, and its rows come of its records
pub accepted-passed : (text : List ℕ) (header model R P limit a b : ℕ) (rows : List Row) → check_trace text header model R P limit a b ≡ accepted rows →
    Legal header model R P a b × (read_trace header R P (records text limit) ≡ accepted rows)
unfolding check_trace
accepted-passed text header model R P limit a b rows e = go (eqb first 0) refl e
  where
    first : ℕ
    first = first_no (call_questions header model R P a b)

    go : (x : Bool) → eqb first 0 ≡ x → cond x (read_trace header R P (records text limit)) (refused first 0) ≡ accepted rows →
        Legal header model R P a b × (read_trace header R P (records text limit) ≡ accepted rows)
    go true q e = (legal header model R P a b (eqb-true first 0 q), e)
    go false q e = let z : ◌≡◌ {A = ℕ} 0 1 = cc in absurd (omega arith)

-- In an accepted trace no process repeats a barrier number or goes on before all have arrived, and every barrier is finished.
pub accepted-kept : (text : List ℕ) (header model R P limit a b : ℕ) (rows : List Row) → check_trace text header model R P limit a b ≡ accepted rows → Kept rows
accepted-kept text header model R P limit a b rows e =
    kept rows (accepted-barriers header R P (records text limit) (accepted-passed text header model R P limit a b rows e).1)
