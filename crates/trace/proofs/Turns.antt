-- Reading rows one after the other, whatever is asked of each row: the header, what holds after some rows, and what the next record adds.
use Rattle.std.proofs.Common.{ℕ, suc, ◌+◌, ◌*◌, ◌≤◌, ◌<◌, arith, ◌≡◌, refl, sym, ap, ap₂, ◌∙◌, Bool, true, false, cond, ◌&&◌, List, [], ◌∷◌, ◌++◌, length, take, drop, length-append, eq-eqb, ne_eqb, eqb-true, ltb-true}
use mathlib.Core.Bool.{false≢true}
use lib.ListN.{length-map}
use lib.Dec.{ltb, eqb}
use borrow.Author.Tests.{eqb-false}
use Rattle.csv_content.specs.Content.{content_of, same_bytes}
use Rattle.csv_records.specs.Reading.{read_at, records, records_from, on_found, Finding, nothing, malformed, past-limit, found, Records, Ending, first_six}
use Rattle.csv_field.specs.declared.Span.{Span}
use Rattle.csv_records.specs.declared.Record.{Record}
use Rattle.csv_records.proofs.Limit.{records-next}
use Rattle.csv_records.proofs.Places.{found-places}
use Rattle.csv_records.proofs.Answers.{Told, all-six}
use Rattle.rows.specs.declared.row.Row.{Row}
use Rattle.rows.specs.Rows.{six, numbers}
use Rattle.rows.specs.Questions.{Question, first_no}
use Rattle.rows.proofs.Asking.{all_yes}
use Rattle.rows.proofs.Slices.{numbers-next}
use Rattle.trace_numbers.specs.Numbers.{ReadRow, Kept, No}
use Rattle.trace.specs.Rows.{header_names, same_fields, row_of}
use Rattle.trace.specs.Questions.{field_questions, record_questions, is_header, Outcome, refused, accepted, Accepted, Refused, checked_of, Holds}
use Rattle.trace.specs.Reads.{fields_of, judged_by, headed}
use Rattle.trace.specs.Reader.{judge_asked, behind_header, read_by, first_record_no, behind_first, header_no, rows_start, Step, ended, stopped, taken, step_of, state_asked, state_of}
use Rattle.trace.proofs.Asking.{no_of, kept_of, numbered}

-- the records from a place on
abbrev pub records_at : List ℕ → ℕ → ℕ → Records
records_at text limit at = records_from (suc (length text)) text limit at

-- ---- The header

-- lists of the same fields have one length
same_length : (a b : List (List ℕ)) → same_fields a b ≡ true → length a ≡ length b
unfolding same_fields
same_length [] [] e = refl
same_length [] (w ∷ ws) e = absurd (false≢true e)
same_length (f ∷ fs) [] e = absurd (false≢true e)
same_length (f ∷ fs) (w ∷ ws) e = go (same_bytes f w) (same_length fs ws) e
  where
    go : (x : Bool) → (same_fields fs ws ≡ true → length fs ≡ length ws) → x && same_fields fs ws ≡ true → suc (length fs) ≡ suc (length ws)
    go true rest q = ap suc (rest q)
    go false rest q = absurd (false≢true q)

-- the first six fields are the header exactly where the whole record is
headed-same : (text : List ℕ) (spans : List Span) (count : ℕ) → count ≡ length spans →
    headed count (fields_of text (first_six spans)) ≡ is_header (fields_of text spans)
headed-same text spans count c = go (eqb count 6) refl
  where
    all : eqb count 6 ≡ true → first_six spans ≡ spans
    all e = all-six spans (sym c ∙ eqb-true count 6 e)

    wrong : (x : Bool) → eqb count 6 ≡ false → is_header (fields_of text spans) ≡ x → false ≡ x
    wrong true e q =
        absurd (eqb-false count 6 e (c ∙ sym (length-map spans (content_of text)) ∙ same_length (fields_of text spans) header_names q))
    wrong false e q = refl

    go : (x : Bool) → eqb count 6 ≡ x → x && is_header (fields_of text (first_six spans)) ≡ is_header (fields_of text spans)
    go true e = ap (λ (l : List Span). is_header (fields_of text l)) (all e)
    go false e = wrong (is_header (fields_of text spans)) e refl

-- what records come to, by how the text ends
abbrev pub Judge : Type 0
Judge = List (List (List ℕ)) → Ending → Outcome

-- what the records from a place on come to
abbrev pub judge_at : Judge → List ℕ → ℕ → ℕ → Outcome
judge_at judge text limit at = judge (records_at text limit at).rows (records_at text limit at).ending

module _ (judge : Judge) (text : List ℕ) (limit header : ℕ) where
  -- what the text comes to
  abbrev whole : Outcome
  whole = read_by judge header (records text limit)

  -- with a header, what the text comes to by what the reader finds first
  header-first : (header ≡ 0 → ⊥) → (f : Finding) → read_at text 0 limit ≡ f →
      whole ≡ behind_header judge (on_found text f (λ p. records_at text limit p)).rows (on_found text f (λ p. records_at text limit p)).ending
  unfolding records read_by
  header-first n f e =
      let behind : Records → Outcome = λ r. behind_header judge r.rows r.ending in
      rw (ne_eqb header 0 n) (ap behind (records-next text limit 0) ∙ ap (λ (x : Finding). behind (on_found text x (λ p. records_at text limit p))) e)

  -- the first record refuses the text or starts it
  first-decides : (header ≡ 0 → ⊥) → (f : Finding) → read_at text 0 limit ≡ f →
      whole ≡ cond (eqb (first_record_no text f) 0) (judge_at judge text limit (behind_first f)) (refused (first_record_no text f) 0)
  unfolding on_found behind_header first_record_no
  first-decides n nothing e = header-first n nothing e
  first-decides n malformed e = header-first n malformed e
  first-decides n past-limit e = header-first n past-limit e
  first-decides n (found spans end next) e = header-first n (found spans end next) e ∙ go (is_header (fields_of text spans))
    where
      go : (x : Bool) →
          cond x (judge_at judge text limit next) (refused 5 0) ≡ cond (eqb (cond x 0 5) 0) (judge_at judge text limit next) (refused (cond x 0 5) 0)
      go true = refl
      go false = refl

  -- the No to the header refuses the text
  pub header-refused : {k : ℕ} → k ≡ header_no header text (read_at text 0 limit) → (k ≡ 0 → ⊥) → whole ≡ refused k 0
  header-refused {k} e n = go (eqb header 0) refl e
    where
      go : (x : Bool) → eqb header 0 ≡ x → k ≡ cond x 0 (first_record_no text (read_at text 0 limit)) → whole ≡ refused k 0
      go true q d = absurd (n d)
      go false q d =
          first-decides (eqb-false header 0 q) (read_at text 0 limit) refl ∙ rw (← d, ne_eqb k 0 n)

  -- where it has none, the rows decide from their start on
  pub header-passed : {s : ℕ} → header_no header text (read_at text 0 limit) ≡ 0 → s ≡ rows_start header (read_at text 0 limit) →
      whole ≡ judge_at judge text limit s
  unfolding records read_by
  header-passed {s} e d = go (eqb header 0) refl e d
    where
      go : (x : Bool) → eqb header 0 ≡ x → cond x 0 (first_record_no text (read_at text 0 limit)) ≡ 0 → s ≡ cond x 0 (behind_first (read_at text 0 limit)) →
          whole ≡ judge_at judge text limit s
      go true q n p = rw (p, q)
      go false q n p = rw p (first-decides (eqb-false header 0 q) (read_at text 0 limit) refl ∙ rw n)

-- no record is no header
pub none-first : (text : List ℕ) {f : Finding} → f ≡ nothing → 5 ≡ first_record_no text f
unfolding first_record_no
none-first text e = rw e refl

-- a malformed record is none
pub malformed-first : (text : List ℕ) {f : Finding} → f ≡ malformed → 4 ≡ first_record_no text f
unfolding first_record_no
malformed-first text e = rw e refl

-- a record that meets the byte limit is none
pub limit-first : (text : List ℕ) {f : Finding} → f ≡ past-limit → 5 ≡ first_record_no text f
unfolding first_record_no
limit-first text e = rw e refl

-- the first record, read as r, is the header where the test b passes
pub headed_first : (text : List ℕ) (limit : ℕ) {r : Record} → Told (read_at text 0 limit) r → {b : Bool} → b ≡ headed r.count (fields_of text r.spans) →
    (first_record_no text (read_at text 0 limit) ≡ cond b 0 5) × (behind_first (read_at text 0 limit) ≡ r.next)
unfolding first_record_no
headed_first text limit {r} t {b} e =
    let h : is_header (fields_of text t.spans) ≡ b =
    sym (headed-same text t.spans r.count t.count) ∙ sym (ap (λ (l : List Span). headed r.count (fields_of text l)) t.kept) ∙ sym e in
    (rw (t.is_found, h), rw t.is_found (sym t.place))

-- ---- Row after row

-- The code has read the rows `done` up to place `at`: the outcome is that of the rest behind them. The slice, xs₀ at first, holds their
-- numbers.
pub record Going (judge : List Row → Judge) (o : Outcome) (rowLimit : ℕ) (text : List ℕ) (limit : ℕ) (xs₀ : List ℕ) (done : List Row) (at n : ℕ) (xs : List ℕ) : Type 0 where
  pub whole : o ≡ judge_at (judge done) text limit at
  pub many : n ≡ length done
  pub few : n ≤ rowLimit
  pub held : xs ≡ numbers done ++ drop (6 * n) xs₀

-- before the first row
pub begin : {judge : List Row → Judge} {o : Outcome} {rowLimit : ℕ} {text : List ℕ} {limit : ℕ} {xs₀ : List ℕ} {start : ℕ} →
    o ≡ judge_at (judge []) text limit start → Going judge o rowLimit text limit xs₀ [] start 0 xs₀
unfolding numbers
begin e = record { whole = e; many = refl; few = omega arith; held = refl }

-- The state of what is asked is s behind the n rows `done`, and z behind the last record, where the record behind the rows starts at `at`.
pub record Noting {S : Type 0} (asked : S → Row → ℕ) (noted : S → Row → S) (R P : ℕ) (text : List ℕ) (limit : ℕ) (z s : S) (done : List Row) (at n : ℕ) :
    Type 0 where
  pub many : n ≡ length done
  pub last : z ≡ state_asked asked noted R P s done (records_at text limit at).rows

-- The loop that reads the rows, with the state s of what is asked; z is the state behind the last record that is asked.
pub record Reading {S : Type 0} (asked : S → Row → ℕ) (noted : S → Row → S) (R P : ℕ) (text : List ℕ) (limit : ℕ) (o : Outcome) (z : S) (xs₀ : List ℕ)
    (s : S) (at n : ℕ) (xs : List ℕ) : Type 0 where
  pub done : List Row
  pub going : Going (judge_asked asked noted R P s) o R text limit xs₀ done at n xs
  pub noting : Noting asked noted R P text limit z s done at n

module _ {S : Type 0} (asked : S → Row → ℕ) (noted : S → Row → S) (R P : ℕ) (s : S)
    {o : Outcome} {text : List ℕ} {limit : ℕ} {xs₀ : List ℕ} {done : List Row} {at n : ℕ} {xs : List ℕ}
    (g : Going (judge_asked asked noted R P s) o R text limit xs₀ done at n xs) where
  -- the outcome, by what the reader finds next
  found-next : (f : Finding) → read_at text at limit ≡ f →
      o ≡ judge_asked asked noted R P s done (on_found text f (λ p. records_at text limit p)).rows (on_found text f (λ p. records_at text limit p)).ending
  found-next f e =
      let on : Records → Outcome = λ r. judge_asked asked noted R P s done r.rows r.ending in
      g.whole ∙ ap on (records-next text limit at) ∙ ap (λ (x : Finding). on (on_found text x (λ p. records_at text limit p))) e

  -- the outcome behind a step
  abbrev after : Step → Outcome
  after ended = accepted done
  after (stopped k) = refused k (n + 1)
  after (taken row next) = judge_at (judge_asked asked noted R P (noted s row) (done ++ (row ∷ []))) text limit next

  -- the step decides
  step-decides : (f : Finding) → read_at text at limit ≡ f → o ≡ after (step_of (asked s) R P n text f)
  unfolding on_found judge_asked step_of
  step-decides nothing e = found-next nothing e
  step-decides malformed e = found-next malformed e ∙ ap (λ (k : ℕ). refused 4 (k + 1)) (sym g.many)
  step-decides past-limit e = found-next past-limit e ∙ ap (λ (k : ℕ). refused 6 (k + 1)) (sym g.many)
  step-decides (found spans end next) e =
      found-next (found spans end next) e ∙ rw (← g.many) (go (eqb first 0) (eqb (asked s row) 0))
    where
      fields : List (List ℕ)
      fields = fields_of text spans

      first : ℕ
      first = first_no (record_questions R P n (length fields) fields)

      row : Row
      row = row_of fields

      on : Outcome
      on = judge_at (judge_asked asked noted R P (noted s row) (done ++ (row ∷ []))) text limit next

      go : (x y : Bool) → cond x (cond y on (refused (asked s row) (n + 1))) (refused first (n + 1))
          ≡ after (cond x (cond y (taken row next) (stopped (asked s row))) (stopped first))
      go true true = refl
      go true false = refl
      go false y = refl

  -- at the end of the text the answer is the number of rows, and the slice holds them
  pub at-end : ended ≡ step_of (asked s) R P n text (read_at text at limit) → (Accepted n ≡ checked_of o) × Holds o xs₀ xs
  at-end e =
      let q : o ≡ accepted done = rw (← e) at (step-decides (read_at text at limit) refl) in
      (rw q (ap Accepted g.many), rw q (g.held ∙ ap (λ (k : ℕ). numbers done ++ drop (6 * k) xs₀) g.many))

  -- a No refuses the rows
  pub at-no : {k : ℕ} → stopped k ≡ step_of (asked s) R P n text (read_at text at limit) → o ≡ refused k (n + 1)
  at-no e = rw (← e) at (step-decides (read_at text at limit) refl)

  module _ {row : Row} {next : ℕ} (e : taken row next ≡ step_of (asked s) R P n text (read_at text at limit)) where
    -- a row is within the row limit, and the record behind it starts behind this one
    taken-in : (f : Finding) → read_at text at limit ≡ f → taken row next ≡ step_of (asked s) R P n text f → (n < R) × (at < next) × (next ≤ length text)
    unfolding step_of record_questions
    taken-in nothing r q = let z : ◌≡◌ {A = ℕ} 0 1 = cc in absurd (omega arith)
    taken-in malformed r q = let z : ◌≡◌ {A = ℕ} 0 1 = cc in absurd (omega arith)
    taken-in past-limit r q = let z : ◌≡◌ {A = ℕ} 0 1 = cc in absurd (omega arith)
    taken-in (found spans end to) r q = go (eqb first 0) refl (eqb (asked s (row_of fields)) 0) q
      where
        fields : List (List ℕ)
        fields = fields_of text spans

        first : ℕ
        first = first_no (record_questions R P n (length fields) fields)

        go : (x : Bool) → eqb first 0 ≡ x → (y : Bool) →
            taken row next ≡ cond x (cond y (taken (row_of fields) to) (stopped (asked s (row_of fields)))) (stopped first) → (n < R) × (at < next) × (next ≤ length text)
        go true z true d =
            let to-is : next ≡ to = cc in
            let p = found-places text at limit spans end to r in
            let within = (all_yes (record_questions R P n (length fields) fields) (numbered R P n (length fields) fields) (eqb-true first 0 z)).0 in
            (ltb-true n R within, omega (arith, p.2), omega (arith, p.3))
        go true z false d = let z : ◌≡◌ {A = ℕ} 0 1 = cc in absurd (omega arith)
        go false z y d = let z : ◌≡◌ {A = ℕ} 0 1 = cc in absurd (omega arith)

    pub row_in : (n < R) × (at < next) × (next ≤ length text)
    row_in = taken-in (read_at text at limit) refl e

    -- the loop goes on behind the row
    pub next_row_lem : {ys : List ℕ} → ys ≡ take (n * 6) xs ++ (six row ++ drop (n * 6 + 6) xs) →
        Going (judge_asked asked noted R P (noted s row)) o R text limit xs₀ (done ++ (row ∷ [])) next (n + 1) ys
    next_row_lem l =
        record {
          whole = rw (← e) at (step-decides (read_at text at limit) refl);
          many = omega (arith, g.many, length-append done (row ∷ []));
          few = omega (arith, row_in);
          held = numbers-next done row xs₀ g.many g.held l;
        }

-- ---- One record

-- a record's row or its first No, by the answers to 6 and 7 and the questions behind 11
unfoldable judged : ℕ → (List (List ℕ) → List Question) → Bool → Bool → List (List ℕ) → ReadRow
judged P others x y fields =
    judged_by (first_no (record { number = 6; yes = x } ∷ (record { number = 7; yes = y } ∷ (field_questions P fields ++ others fields)))) fields

-- where there are not six fields, the answer does not depend on the fields
other-fields : (P : ℕ) (others : List (List ℕ) → List Question) (x y : Bool) (a b : List (List ℕ)) → (y ≡ true → a ≡ b) →
    judged P others x y a ≡ judged P others x y b
unfolding judged first_no
other-fields P others x true a b h = ap (judged P others x true) (h refl)
other-fields P others true false a b h = refl
other-fields P others false false a b h = refl

-- the answer of a record is that of its first six fields and their count, whatever else is asked
pub judged-same : (R P : ℕ) (others : List (List ℕ) → List Question) {n m : ℕ} (text : List ℕ) (spans : List Span) (count : ℕ) →
    n ≡ m → count ≡ length spans →
    judged_by (first_no (record_questions R P n count (fields_of text (first_six spans)) ++ others (fields_of text (first_six spans)))) (fields_of text (first_six spans))
    ≡ judged_by (first_no (record_questions R P m (length (fields_of text spans)) (fields_of text spans) ++ others (fields_of text spans))) (fields_of text spans)
unfolding record_questions judged
judged-same R P others {m} text spans count e c =
    let size = c ∙ sym (length-map spans (content_of text)) in
    (λ i. judged P others (ltb (e i) R) (eqb (size i) 6) (fields_of text (first_six spans)))
    ∙ other-fields P others (ltb m R) (eqb (length (fields_of text spans)) 6) (fields_of text (first_six spans)) (fields_of text spans)
    (λ y. ap (fields_of text) (all-six spans (sym c ∙ size ∙ eqb-true (length (fields_of text spans)) 6 y)))

-- ---- A record that was read

-- no record stops the rows at their end
pub end-step : (asked : Row → ℕ) (R P n : ℕ) (text : List ℕ) {f : Finding} → f ≡ nothing → ended ≡ step_of asked R P n text f
unfolding step_of
end-step asked R P n text e = rw e refl

-- a malformed record stops the rows
pub malformed-step : (asked : Row → ℕ) (R P n : ℕ) (text : List ℕ) {f : Finding} → f ≡ malformed → stopped 4 ≡ step_of asked R P n text f
unfolding step_of
malformed-step asked R P n text e = rw e refl

-- a record that meets the byte limit stops them too
pub limit-step : (asked : Row → ℕ) (R P n : ℕ) (text : List ℕ) {f : Finding} → f ≡ past-limit → stopped 6 ≡ step_of asked R P n text f
unfolding step_of
limit-step asked R P n text e = rw e refl

-- r is the record that was read, and j the answer of its first six fields to the questions 6 to 11
module _ (asked : Row → ℕ) (R P n : ℕ) (text : List ℕ) (at limit : ℕ) {r : Record} (t : Told (read_at text at limit) r) {j : ReadRow}
    (e : j ≡ judged_by (first_no (record_questions R P n r.count (fields_of text r.spans))) (fields_of text r.spans)) where
  -- the record's fields
  abbrev all : List (List ℕ)
  all = fields_of text t.spans

  -- the first No to the record
  abbrev first : ℕ
  first = first_no (record_questions R P n (length all) all)

  -- the answer is that of all fields
  whole-record : j ≡ judged_by first all
  unfolding record_questions field_questions
  whole-record =
      e ∙ (λ i. judged_by (first_no (record_questions R P n r.count (fields_of text (t.kept i)))) (fields_of text (t.kept i)))
      ∙ judged-same R P (λ fields. []) text t.spans r.count refl t.count

  -- the step, by the first No of the record and what its row is asked
  here : (x y : Bool) → eqb first 0 ≡ x → eqb (asked (row_of all)) 0 ≡ y →
      step_of asked R P n text (read_at text at limit) ≡ cond x (cond y (taken (row_of all) t.next) (stopped (asked (row_of all)))) (stopped first)
  unfolding step_of
  here x y p q = rw (t.is_found, p, q)

  -- a No of 6 to 11 stops the rows
  pub record-no : {k : ℕ} → j ≡ No k → stopped k ≡ step_of asked R P n text (read_at text at limit)
  record-no q =
      let o = no_of first all (sym whole-record ∙ q) in
      sym (here false (eqb (asked (row_of all)) 0) (ne_eqb first 0 o.1) refl ∙ ap stopped o.0)

  module _ {row : Row} (q : j ≡ Kept row) where
    row-is : (first ≡ 0) × (row ≡ row_of all)
    row-is = kept_of first all (sym whole-record ∙ q)

    -- a No behind them stops the rows
    pub row-no : {k : ℕ} → k ≡ asked row → (k ≡ 0 → ⊥) → stopped k ≡ step_of asked R P n text (read_at text at limit)
    row-no {k} a z =
        let b : k ≡ asked (row_of all) = a ∙ ap asked row-is.1 in
        sym (here true false (eq-eqb first 0 row-is.0) (ne_eqb (asked (row_of all)) 0 (λ d. z (b ∙ d))) ∙ ap stopped (sym b))

    -- without a No the row is taken
    pub row-taken : asked row ≡ 0 → taken row r.next ≡ step_of asked R P n text (read_at text at limit)
    row-taken a =
        sym (here true true (eq-eqb first 0 row-is.0) (eq-eqb (asked (row_of all)) 0 (sym (ap asked row-is.1) ∙ a))
        ∙ ap₂ taken (sym row-is.1) (sym t.place))

  module _ {S : Type 0} (noted : S → Row → S) (s : S) where
    -- the state behind the record, by its first No
    state-here : (x : Bool) → eqb first 0 ≡ x → state_of noted R P n s text (read_at text at limit) ≡ cond x (noted s (row_of all)) s
    unfolding state_of
    state-here x p = rw (t.is_found, p)

    -- a No of 6 to 11 leaves the state
    pub state-no : {k : ℕ} → j ≡ No k → s ≡ state_of noted R P n s text (read_at text at limit)
    state-no q = let o = no_of first all (sym whole-record ∙ q) in sym (state-here false (ne_eqb first 0 o.1))

    -- a row that they let pass is noted
    pub state-noted : {row : Row} → j ≡ Kept row → noted s row ≡ state_of noted R P n s text (read_at text at limit)
    state-noted q = ap (noted s) (row-is q).1 ∙ sym (state-here true (eq-eqb first 0 (row-is q).0))

-- what the reading of rows answers and holds where the outcome is a refusal
pub refusal : {o : Outcome} {k p : ℕ} (xs ys : List ℕ) → o ≡ refused k p → (Refused k p ≡ checked_of o) × Holds o xs ys
refusal xs ys e = (sym (ap checked_of e), rw e tt)
