-- Rows that are asked by a table of their messages are judged as the rows before judge them.
use Rattle.std.proofs.Common.{ℕ, ◌+◌, ◌<◌, ◌≤◌, arith, ◌≡◌, refl, sym, ap, ◌∙◌, Bool, true, false, cond, List, [], ◌∷◌, ◌++◌, length, replicate, ne_eqb, eqb-true}
use lib.Dec.{eqb}
use borrow.Author.Tests.{eqb-false}
use Rattle.csv_records.specs.Reading.{Records, records, read_at, Ending, all_read, at-malformed, at-limit}
use Rattle.rows.specs.declared.row.Row.{Row}
use Rattle.rows.specs.Limits.{PROCESSES, MESSAGES}
use Rattle.rows.specs.Questions.{Question, first_no}
use Rattle.rows.proofs.Asking.{all_yes, first-no, rest-decides}
use Rattle.messages.specs.declared.MessageTable.{MessageTable}
use Rattle.messages.specs.Table.{table_after}
use Rattle.messages.proofs.Tables.{Tells, tells_none, tells-asks, tells-next}
use Rattle.trace.specs.Rows.{row_of}
use Rattle.trace.specs.Questions.{field_questions, record_questions, row_questions, message_questions, Outcome, refused, judge_rows, judge_header, read_records}
use Rattle.trace.specs.Reader.{judge_asked, rows_asked, behind_header, read_by, header_no, rows_start}
use Rattle.trace.specs.Reads.{judge_from}
use Rattle.trace.specs.Asked.{table_asked, table_noted}
use Rattle.trace.proofs.Asking.{numbered}
use Rattle.trace.proofs.Laws.{well-formed}
use Rattle.trace.proofs.Turns.{records_at, header-refused, header-passed}

module _ (R : ℕ) {P : ℕ} (few : P ≤ PROCESSES) where
  -- a row that passes 6 to 11 has its process and its message within the table's bounds
  row_fits : (n count : ℕ) (fields : List (List ℕ)) → first_no (record_questions R P n count fields) ≡ 0 →
      ((row_of fields).process < PROCESSES) × ((row_of fields).message < MESSAGES)
  unfolding record_questions field_questions
  row_fits n count fields e =
      let q = (all_yes (record_questions R P n count fields) (numbered R P n count fields) e).1.1 in
      let w = well-formed P fields q.0 q.1.0 q.1.1.0 q.1.1.1.0 in
      (omega (arith, w.process), w.message)

  -- the rest of the records comes to the same by the table as by the rows that it tells of
  pub by_table : (records : List (List (List ℕ))) (ending : Ending) (done : List Row) (table : MessageTable) → Tells table.entries done →
      judge_asked table_asked table_noted R P table done records ending ≡ judge_rows R P done records ending
  unfolding judge_asked judge_rows row_questions
  by_table [] all_read done table t = refl
  by_table [] at-malformed done table t = refl
  by_table [] at-limit done table t = refl
  by_table (fields ∷ rest) ending done table t = go (eqb first 0) refl (λ t'. by_table rest ending (done ++ (row_of fields ∷ [])) (table_noted table (row_of fields)) t')
    where
      asked : List Question
      asked = record_questions R P (length done) (length fields) fields

      first : ℕ
      first = first_no asked

      row : Row
      row = row_of fields

      second : ℕ
      second = first_no (message_questions done row)

      -- all questions have the first No of 6 to 11, where there is one, and else that of the row's message
      both : first_no (row_questions R P done fields) ≡ cond (eqb first 0) second first
      both = choose (eqb first 0) refl
        where
          choose : (x : Bool) → eqb first 0 ≡ x → first_no (asked ++ message_questions done row) ≡ cond x second first
          choose true e = rest-decides asked (message_questions done row) (numbered R P (length done) (length fields) fields) (eqb-true first 0 e)
          choose false e = first-no asked (message_questions done row) (eqb-false first 0 e)

      -- the rest behind the row comes to the same
      Goes : Type 0
      Goes = Tells (table_after table.entries row) (done ++ (row ∷ [])) →
          judge_asked table_asked table_noted R P (table_noted table row) (done ++ (row ∷ [])) rest ending ≡ judge_rows R P (done ++ (row ∷ [])) rest ending

      go : (x : Bool) → eqb first 0 ≡ x → Goes →
          cond x
          (cond (eqb (table_asked table row) 0) (judge_asked table_asked table_noted R P (table_noted table row) (done ++ (row ∷ [])) rest ending)
          (refused (table_asked table row) (length done + 1)))
          (refused first (length done + 1))
          ≡ cond (eqb (first_no (row_questions R P done fields)) 0) (judge_rows R P (done ++ (row ∷ [])) rest ending)
          (refused (first_no (row_questions R P done fields)) (length done + 1))
      go false e goes =
          let b : first_no (row_questions R P done fields) ≡ first = both ∙ rw e in
          rw (b, ne_eqb first 0 (eqb-false first 0 e))
      go true e goes =
          let f = row_fits (length done) (length fields) fields (eqb-true first 0 e) in
          let b : first_no (row_questions R P done fields) ≡ second = both ∙ rw e in
          let a : table_asked table row ≡ second = tells-asks t row f.0 f.1 in
          rw (b, a) (then (eqb second 0) refl f goes)
        where
          then : (y : Bool) → eqb second 0 ≡ y → (row.process < PROCESSES) × (row.message < MESSAGES) → Goes →
              cond y (judge_asked table_asked table_noted R P (table_noted table row) (done ++ (row ∷ [])) rest ending) (refused second (length done + 1))
              ≡ cond y (judge_rows R P (done ++ (row ∷ [])) rest ending) (refused second (length done + 1))
          then false d f goes = refl
          then true d f goes = goes (tells-next t row f.0 f.1 (eqb-true second 0 d))

-- Records are judged by a fresh table as they are by the rows before each.
by_fresh_table : (R P : ℕ) → P ≤ PROCESSES → (table : MessageTable) → table.entries ≡ replicate MESSAGES 0 →
    (recs : List (List (List ℕ))) (ending : Ending) → judge_asked table_asked table_noted R P table [] recs ending ≡ judge_rows R P [] recs ending
by_fresh_table R P few table e recs ending = by_table R few recs ending [] table (rw e tells_none)

-- Rows are read by a fresh table as their records are.
pub fresh_table : (R P : ℕ) → P ≤ PROCESSES → (table : MessageTable) → table.entries ≡ replicate MESSAGES 0 → (text : List ℕ) (limit at : ℕ) →
    rows_asked table_asked table_noted R P text limit table at ≡ judge_from R P text limit at
unfolding rows_asked judge_from
fresh_table R P few table e text limit at =
    let r = records_at text limit at in
    by_fresh_table R P few table e r.rows r.ending

-- Behind a header as without one, the rows of a text are judged as its records are.
judged_by_header : (R P header : ℕ) (r : Records) → read_by (judge_rows R P []) header r ≡ read_records header R P r
unfolding read_by read_records behind_header judge_header
judged_by_header R P header r = ap (λ (o : Outcome). cond (eqb header 0) (judge_rows R P [] r.rows r.ending) o) (headers r.rows r.ending)
  where
    headers : (recs : List (List (List ℕ))) (ending : Ending) → behind_header (judge_rows R P []) recs ending ≡ judge_header R P recs ending
    headers [] all_read = refl
    headers [] at-malformed = refl
    headers [] at-limit = refl
    headers (fields ∷ rest) ending = refl

-- A text is read by a fresh table as its records are.
pub read_records_by : (R P header : ℕ) → P ≤ PROCESSES → (table : MessageTable) → table.entries ≡ replicate MESSAGES 0 → (r : Records) →
    read_by (judge_asked table_asked table_noted R P table []) header r ≡ read_records header R P r
unfolding read_by behind_header
read_records_by R P header few table e r =
    (λ i. cond (eqb header 0) (same r.rows r.ending i) (behind_header (λ recs ending. same recs ending i) r.rows r.ending)) ∙ judged_by_header R P header r
  where
    same : (recs : List (List (List ℕ))) (ending : Ending) → judge_asked table_asked table_noted R P table [] recs ending ≡ judge_rows R P [] recs ending
    same = by_fresh_table R P few table e

module _ (R P header : ℕ) (text : List ℕ) (limit : ℕ) where
  -- A No to the header refuses the text.
  pub records-refused : {k : ℕ} → k ≡ header_no header text (read_at text 0 limit) → (k ≡ 0 → ⊥) → read_records header R P (records text limit) ≡ refused k 0
  records-refused e n = sym (judged_by_header R P header (records text limit)) ∙ header-refused (judge_rows R P []) text limit header e n

  -- Where it has none, the rows decide from their start on.
  pub records-passed : {s : ℕ} → header_no header text (read_at text 0 limit) ≡ 0 → s ≡ rows_start header (read_at text 0 limit) →
      read_records header R P (records text limit) ≡ judge_from R P text limit s
  unfolding judge_from
  records-passed e d = sym (judged_by_header R P header (records text limit)) ∙ header-passed (judge_rows R P []) text limit header e d
