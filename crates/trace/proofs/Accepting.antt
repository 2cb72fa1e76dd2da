-- A text is accepted, with its rows, exactly where it passes every question.
use Rattle.std.proofs.Common.{ℕ, zero, suc, ◌+◌, ◌≤◌, ◌<◌, arith, ◌≡◌, refl, sym, ap, subst, ◌∙◌, ◌↔◌, Bool, true, false, cond, ◌&&◌, List, [], ◌∷◌, ◌++◌, map, append-nil, length, take, lt-ltb, ltb-true, eq-eqb, eqb-true}
use mathlib.Core.Bool.{false≢true}
use lib.ListN.{get_or}
use lib.Seq.{append_snoc}
use lib.Dec.{eqb}
use Rattle.csv_records.specs.Grammar.{Text}
use Rattle.csv_content.specs.Content.{same_bytes}
use Rattle.csv_records.specs.Reading.{records, Records, Ending, all_read, at-malformed, at-limit}
use Rattle.csv_content.proofs.Contents.{same-iff}
use Rattle.csv_records.proofs.Grammar.{all-read_iff}
use Rattle.rows.specs.declared.row.Row.{Row}
use Rattle.trace.specs.Rows.{header_names, same_fields, row_of}
use Rattle.trace.specs.Questions.{in_row_limit, six_fields, kind_known, filled_as_used, numbers_in_range, end_in_range, message_questions, field_questions, record_questions, row_questions, is_header, Outcome, refused, accepted, judge_rows, judge_header, read_records, read_trace, check_trace}
use Rattle.rows.specs.Questions.{first_no}
use Rattle.rows.proofs.Limits.{limit-of}
use Rattle.barriers.proofs.Kept.{Kept, kept-iff}
use Rattle.trace.proofs.Barriers.{asked-yes, accepted-records}
use Rattle.trace.proofs.Laws.{Legal, accepted-passed}
use Rattle.trace.proofs.Asking.{all_asked}

-- ---- What passing says

-- The questions 6 to 11 of a record and those from 12 on of its row, each answered Yes behind the rows before it.
pub record Passes (rowLimit processLimit : ℕ) (earlier : List Row) (fields : List (List ℕ)) : Type 0 where
  pub within_row_limit : length earlier < rowLimit
  pub six-fields : length fields ≡ 6
  pub kind-known : kind_known fields ≡ true
  pub filled-as_used : filled_as_used fields ≡ true
  pub numbers-in_range : numbers_in_range processLimit fields ≡ true
  pub end-in_range : end_in_range (row_of fields) ≡ true
  pub message-in_order : first_no (message_questions earlier (row_of fields)) ≡ 0

-- Every record passes behind the rows of the records before it; other rows may stand before them all.
abbrev pub AllPass : ℕ → ℕ → List Row → List (List (List ℕ)) → Type 0
AllPass rowLimit processLimit before recs =
    (k : ℕ) → k < length recs → Passes rowLimit processLimit (before ++ map row_of (take k recs)) (get_or recs k [])

-- The records of a text that are rows: with header word 0 all of them, with header word 1 those behind the six names.
pub data RowRecords : ℕ → List (List (List ℕ)) → List (List (List ℕ)) → Type 0 where
  no_header : {recs : List (List (List ℕ))} → RowRecords 0 recs recs
  header : {recs : List (List (List ℕ))} → RowRecords 1 (header_names ∷ recs) recs

-- Every question is answered Yes, and these are the rows: the questions 1 to 3 of the call; the text ends within the byte
-- limit and RFC 4180 derives its records (4); the header is right (5); every record that is a row passes the questions from 6 on; and
-- every barrier is kept (22).
pub record Acceptable (text : List ℕ) (header model rowLimit processLimit byteLimit rowsLength countsLength : ℕ) (rows : List Row) : Type 0 where
  pub call : Legal header model rowLimit processLimit rowsLength countsLength
  pub in_byte_limit : length text ≤ byteLimit
  pub all-records : List (List (List ℕ))
  pub derived : Text text all-records
  pub row-records : List (List (List ℕ))
  pub header-right : RowRecords header all-records row-records
  pub all_pass : AllPass rowLimit processLimit [] row-records
  pub its_rows : rows ≡ map row_of row-records
  pub barriers_kept : Kept rows

-- ---- One record

-- where there is no No, the first question has Yes, and there is no No among the others
first-yes : (b : Bool) {number rest : ℕ} → 0 < number → cond b rest number ≡ 0 → (b ≡ true) × (rest ≡ 0)
first-yes true h e = (refl, e)
first-yes false h e = absurd (omega arith)

module _ (rowLimit processLimit : ℕ) where
  -- a record passes exactly where no question from 6 on is answered No
  pub passes-iff : (earlier : List Row) (fields : List (List ℕ)) →
      (first_no (row_questions rowLimit processLimit earlier fields) ≡ 0) ↔ Passes rowLimit processLimit earlier fields
  unfolding first_no record_questions row_questions field_questions
  passes-iff earlier fields = (to, from)
    where
      to : first_no (row_questions rowLimit processLimit earlier fields) ≡ 0 → Passes rowLimit processLimit earlier fields
      to e =
          let q6 = first-yes (in_row_limit rowLimit (length earlier)) (omega arith) e in
          let q7 = first-yes (six_fields fields) (omega arith) q6.1 in
          let q8 = first-yes (kind_known fields) (omega arith) q7.1 in
          let q9 = first-yes (filled_as_used fields) (omega arith) q8.1 in
          let q10 = first-yes (numbers_in_range processLimit fields) (omega arith) q9.1 in
          let q11 = first-yes (end_in_range (row_of fields)) (omega arith) q10.1 in
          record {
            within_row_limit = ltb-true _ _ q6.0;
            six-fields = eqb-true _ _ q7.0;
            kind-known = q8.0;
            filled-as_used = q9.0;
            numbers-in_range = q10.0;
            end-in_range = q11.0;
            message-in_order = q11.1;
          }

      from : Passes rowLimit processLimit earlier fields → first_no (row_questions rowLimit processLimit earlier fields) ≡ 0
      from p =
          rw (
            lt-ltb (length earlier) rowLimit p.within_row_limit,
            eq-eqb (length fields) 6 p.six-fields,
            p.kind-known,
            p.filled-as_used,
            p.numbers-in_range,
            p.end-in_range,
            p.message-in_order,
          )

  -- ---- Record after record

  -- the first of records that all pass does, and so do the records behind it
  pass_first : (before : List Row) (fields : List (List ℕ)) (rest : List (List (List ℕ))) →
      AllPass rowLimit processLimit before (fields ∷ rest)
      ↔ (Passes rowLimit processLimit before fields × AllPass rowLimit processLimit (before ++ (row_of fields ∷ [])) rest)
  pass_first before fields rest = (to, from)
    where
      behind : (k : ℕ) → (before ++ (row_of fields ∷ [])) ++ map row_of (take k rest) ≡ before ++ (row_of fields ∷ map row_of (take k rest))
      behind k = append_snoc before (row_of fields) (map row_of (take k rest))

      to : AllPass rowLimit processLimit before (fields ∷ rest) →
          Passes rowLimit processLimit before fields × AllPass rowLimit processLimit (before ++ (row_of fields ∷ [])) rest
      to p = (
        subst (λ (l : List Row). Passes rowLimit processLimit l fields) (append-nil before) (p 0 (omega arith)),
        λ k h. subst (λ (l : List Row). Passes rowLimit processLimit l (get_or rest k [])) (sym (behind k)) (p (suc k) (omega arith)),
      )

      from : Passes rowLimit processLimit before fields × AllPass rowLimit processLimit (before ++ (row_of fields ∷ [])) rest →
          AllPass rowLimit processLimit before (fields ∷ rest)
      from p zero h = subst (λ (l : List Row). Passes rowLimit processLimit l fields) (sym (append-nil before)) p.0
      from p (suc k) h = subst (λ (l : List Row). Passes rowLimit processLimit l (get_or rest k [])) (behind k) (p.1 k (omega arith))

  -- all records behind some rows are read, every one of them passes, and these are the rows
  abbrev Read : List Row → List (List (List ℕ)) → Ending → List Row → Type 0
  Read before recs ending rows =
      (ending ≡ all_read) × AllPass rowLimit processLimit before recs × (rows ≡ before ++ map row_of recs)

  -- records that are accepted are as Read says
  read-to : (before : List Row) (recs : List (List (List ℕ))) (ending : Ending) {rows : List Row} →
      judge_rows rowLimit processLimit before recs ending ≡ accepted rows → Read before recs ending rows
  unfolding judge_rows
  read-to before [] all_read {rows} e = let same : rows ≡ before = cc in (refl, λ k h. absurd (omega arith), same ∙ sym (append-nil before))
  read-to before [] at-malformed e = let z : ◌≡◌ {A = ℕ} 0 1 = cc in absurd (omega arith)
  read-to before [] at-limit e = let z : ◌≡◌ {A = ℕ} 0 1 = cc in absurd (omega arith)
  read-to before (fields ∷ rest) ending {rows} e = go (eqb first 0) refl e (λ q. read-to (before ++ (row_of fields ∷ [])) rest ending q)
    where
      first : ℕ
      first = first_no (row_questions rowLimit processLimit before fields)

      behind : Outcome
      behind = judge_rows rowLimit processLimit (before ++ (row_of fields ∷ [])) rest ending

      go : (b : Bool) → eqb first 0 ≡ b → cond b behind (refused first (length before + 1)) ≡ accepted rows →
          (behind ≡ accepted rows → Read (before ++ (row_of fields ∷ [])) rest ending rows) → Read before (fields ∷ rest) ending rows
      go true q e next =
          let r = next e in
          (r.0, (pass_first before fields rest).1 ((passes-iff before fields).0 (eqb-true first 0 q), r.1), r.2 ∙ append_snoc before (row_of fields) (map row_of rest))
      go false q e next = let z : ◌≡◌ {A = ℕ} 0 1 = cc in absurd (omega arith)

  -- records that all pass are accepted
  read-from : (before : List Row) (recs : List (List (List ℕ))) → AllPass rowLimit processLimit before recs →
      judge_rows rowLimit processLimit before recs all_read ≡ accepted (before ++ map row_of recs)
  unfolding judge_rows
  read-from before [] p = ap accepted (sym (append-nil before))
  read-from before (fields ∷ rest) p =
      let q = (pass_first before fields rest).0 p in
      rw (eq-eqb (first_no (row_questions rowLimit processLimit before fields)) 0 ((passes-iff before fields).1 q.0))
      (read-from (before ++ (row_of fields ∷ [])) rest q.1 ∙ ap accepted (append_snoc before (row_of fields) (map row_of rest)))

-- ---- The header

-- lists of the same contents are equal
same-fields : (a b : List (List ℕ)) → same_fields a b ≡ true → a ≡ b
unfolding same_fields
same-fields [] [] e = refl
same-fields [] (w ∷ ws) e = absurd (false≢true e)
same-fields (f ∷ fs) [] e = absurd (false≢true e)
same-fields (f ∷ fs) (w ∷ ws) e = go (same_bytes f w) refl e (same-fields fs ws)
  where
    go : (x : Bool) → same_bytes f w ≡ x → x && same_fields fs ws ≡ true → (same_fields fs ws ≡ true → fs ≡ ws) → f ∷ fs ≡ w ∷ ws
    go true q e rest = λ i. (same-iff f w).0 q i ∷ rest e i
    go false q e rest = absurd (false≢true e)

module _ (rowLimit processLimit : ℕ) where
  -- all records of a text are read, the header is right, every record that is a row passes, and these are the rows
  abbrev ReadAll : ℕ → Records → List Row → Type 0
  ReadAll word r rows =
      (recs : List (List (List ℕ))) × RowRecords word r.rows recs × (r.ending ≡ all_read) × AllPass rowLimit processLimit [] recs × (rows ≡ map row_of recs)

  -- a text with a header that is accepted is as ReadAll says
  header-to : (recs : List (List (List ℕ))) (ending : Ending) {rows : List Row} → judge_header rowLimit processLimit recs ending ≡ accepted rows →
      ReadAll 1 (record { rows = recs; ending = ending }) rows
  unfolding judge_header
  header-to [] all_read e = let z : ◌≡◌ {A = ℕ} 0 1 = cc in absurd (omega arith)
  header-to [] at-malformed e = let z : ◌≡◌ {A = ℕ} 0 1 = cc in absurd (omega arith)
  header-to [] at-limit e = let z : ◌≡◌ {A = ℕ} 0 1 = cc in absurd (omega arith)
  header-to (fields ∷ rest) ending {rows} e = go (is_header fields) refl e
    where
      go : (x : Bool) → is_header fields ≡ x → cond x (judge_rows rowLimit processLimit [] rest ending) (refused 5 0) ≡ accepted rows →
          ReadAll 1 (record { rows = fields ∷ rest; ending = ending }) rows
      go true q e =
          let r = read-to rowLimit processLimit [] rest ending e in
          (rest, subst (λ (f : List (List ℕ)). RowRecords 1 (f ∷ rest) rest) (sym (same-fields fields header_names q)) header, r.0, r.1, r.2)
      go false q e = let z : ◌≡◌ {A = ℕ} 0 1 = cc in absurd (omega arith)

  -- any text whose records are accepted is as ReadAll says
  all-to : (word : ℕ) → word ≤ 1 → (r : Records) {rows : List Row} → read_records word rowLimit processLimit r ≡ accepted rows → ReadAll word r rows
  unfolding read_records
  all-to zero h r e = let t = read-to rowLimit processLimit [] r.rows r.ending e in (r.rows, no_header, t.0, t.1, t.2)
  all-to (suc zero) h r e = header-to r.rows r.ending e
  all-to (suc (suc n)) h r e = absurd (omega arith)

  -- the records of a text whose row records all pass are accepted
  all_from : {word : ℕ} {all recs : List (List (List ℕ))} → RowRecords word all recs → AllPass rowLimit processLimit [] recs →
      read_records word rowLimit processLimit (record { rows = all; ending = all_read }) ≡ accepted (map row_of recs)
  unfolding read_records judge_header same_fields same_bytes
  all_from {recs} no_header p = read-from rowLimit processLimit [] recs p
  all_from {recs} header p = read-from rowLimit processLimit [] recs p

-- ---- The whole call

-- A text is accepted with these rows exactly when every question is answered Yes and these are its rows.
pub accepted-iff : (text : List ℕ) (word model rowLimit processLimit byteLimit rowsLength countsLength : ℕ) (rows : List Row) →
    (check_trace text word model rowLimit processLimit byteLimit rowsLength countsLength ≡ accepted rows)
    ↔ Acceptable text word model rowLimit processLimit byteLimit rowsLength countsLength rows
unfolding check_trace read_trace
accepted-iff text word model rowLimit processLimit byteLimit rowsLength countsLength rows = (
  λ e. let a = accepted-passed text word model rowLimit processLimit byteLimit rowsLength countsLength rows e in
      let r = records text byteLimit in
      let passed = accepted-records word rowLimit processLimit r a.1 in
      let t = all-to rowLimit processLimit word a.0.header-word r passed.0 in
      let d = (all-read_iff text byteLimit r.rows).0 (λ i. record { rows = r.rows; ending = t.2 i }) in
      record {
        call = a.0;
        in_byte_limit = d.0;
        all-records = r.rows;
        derived = d.1;
        row-records = t.0;
        header-right = t.1;
        all_pass = t.3;
        its_rows = t.4;
        barriers_kept = (kept-iff rows).0 passed.1;
      },
  λ a. let l = a.call in
      let no_no =
      all_asked word model rowLimit processLimit rowsLength countsLength (omega (arith, l.rows_have_room)) l.counts-fit l.known-model l.some-rows
      l.few-rows (limit-of processLimit l.some-processes l.few-processes) l.header-word in
      rw (← no_no, (all-read_iff text byteLimit a.all-records).1 (a.in_byte_limit, a.derived))
      (asked-yes (all_from rowLimit processLimit a.header-right a.all_pass ∙ ap accepted (sym a.its_rows)) ((kept-iff rows).1 a.barriers_kept)),
)
