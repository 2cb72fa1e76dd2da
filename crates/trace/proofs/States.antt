-- The state of what is asked of the rows: behind a header, behind the record that is read, and behind the last one.
use Rattle.std.proofs.Common.{ℕ, ◌+◌, ◌≡◌, refl, sym, ap, ◌∙◌, Bool, true, false, cond, List, [], ◌∷◌, ◌++◌, length, ne_eqb, arith, length-append}
use lib.Dec.{eqb}
use borrow.Author.Tests.{eqb-false}
use Rattle.csv_records.specs.Reading.{read_at, records, on_found, Finding, nothing, malformed, past-limit, found, Records}
use Rattle.csv_records.proofs.Limit.{records-next}
use Rattle.rows.specs.declared.row.Row.{Row}
use Rattle.rows.specs.Questions.{first_no}
use Rattle.trace.specs.Rows.{row_of}
use Rattle.trace.specs.Questions.{record_questions, is_header}
use Rattle.trace.specs.Reads.{fields_of}
use Rattle.trace.specs.Reader.{state_asked, state_behind_header, state_by, first_record_no, behind_first, header_no, rows_start, Step, ended, stopped, taken, step_of, state_of}
use Rattle.trace.proofs.Turns.{records_at, Noting}

-- ---- The header

module _ {S : Type 0} (on : List (List (List ℕ)) → S) (s : S) (text : List ℕ) (limit header : ℕ) where
  -- the state behind the text
  abbrev whole : S
  whole = state_by on s header (records text limit)

  -- with a header, the state behind the text by what the reader finds first
  header-first : (header ≡ 0 → ⊥) → (f : Finding) → read_at text 0 limit ≡ f →
      whole ≡ state_behind_header on s (on_found text f (λ p. records_at text limit p)).rows
  unfolding records state_by
  header-first n f e =
      let behind : Records → S = λ r. state_behind_header on s r.rows in
      rw (ne_eqb header 0 n) (ap behind (records-next text limit 0) ∙ ap (λ (x : Finding). behind (on_found text x (λ p. records_at text limit p))) e)

  -- the first record leaves the state or starts the rows
  first-decides : (header ≡ 0 → ⊥) → (f : Finding) → read_at text 0 limit ≡ f →
      whole ≡ cond (eqb (first_record_no text f) 0) (on (records_at text limit (behind_first f)).rows) s
  unfolding on_found state_behind_header first_record_no
  first-decides n nothing e = header-first n nothing e
  first-decides n malformed e = header-first n malformed e
  first-decides n past-limit e = header-first n past-limit e
  first-decides n (found spans end next) e = header-first n (found spans end next) e ∙ go (is_header (fields_of text spans))
    where
      go : (x : Bool) → cond x (on (records_at text limit next).rows) s ≡ cond (eqb (cond x 0 5) 0) (on (records_at text limit next).rows) s
      go true = refl
      go false = refl

  -- a No to the header leaves the state
  pub state-refused : {k : ℕ} → k ≡ header_no header text (read_at text 0 limit) → (k ≡ 0 → ⊥) → s ≡ whole
  state-refused {k} e n = go (eqb header 0) refl e
    where
      go : (x : Bool) → eqb header 0 ≡ x → k ≡ cond x 0 (first_record_no text (read_at text 0 limit)) → s ≡ whole
      go true q d = absurd (n d)
      go false q d = sym (first-decides (eqb-false header 0 q) (read_at text 0 limit) refl ∙ rw (← d, ne_eqb k 0 n))

  -- where it has none, the state is that behind the rows from their start on
  pub state-passed : {p : ℕ} → header_no header text (read_at text 0 limit) ≡ 0 → p ≡ rows_start header (read_at text 0 limit) →
      whole ≡ on (records_at text limit p).rows
  unfolding records state_by
  state-passed {p} e d = go (eqb header 0) refl e d
    where
      go : (x : Bool) → eqb header 0 ≡ x → cond x 0 (first_record_no text (read_at text 0 limit)) ≡ 0 → p ≡ cond x 0 (behind_first (read_at text 0 limit)) →
          whole ≡ on (records_at text limit p).rows
      go true q n h = rw (h, q)
      go false q n h = rw h (first-decides (eqb-false header 0 q) (read_at text 0 limit) refl ∙ rw n)

-- ---- Row after row

module _ {S : Type 0} (noted : S → Row → S) (R P n : ℕ) (s : S) (text : List ℕ) {f : Finding} where
  -- no record leaves the state
  pub state-none : f ≡ nothing → s ≡ state_of noted R P n s text f
  unfolding state_of
  state-none e = rw e refl

  -- nor does a malformed one change it
  pub state-malformed : f ≡ malformed → s ≡ state_of noted R P n s text f
  unfolding state_of
  state-malformed e = rw e refl

  -- nor one that meets the byte limit
  pub state-limit : f ≡ past-limit → s ≡ state_of noted R P n s text f
  unfolding state_of
  state-limit e = rw e refl

module _ {S : Type 0} (asked : S → Row → ℕ) (noted : S → Row → S) (R P : ℕ) {text : List ℕ} {limit : ℕ} {z s : S} {done : List Row} {at n : ℕ}
    (g : Noting asked noted R P text limit z s done at n) where
  -- the last state, by what the reader finds next
  found-next : (f : Finding) → read_at text at limit ≡ f → z ≡ state_asked asked noted R P s done (on_found text f (λ p. records_at text limit p)).rows
  found-next f e =
      let on : Records → S = λ r. state_asked asked noted R P s done r.rows in
      g.last ∙ ap on (records-next text limit at) ∙ ap (λ (x : Finding). on (on_found text x (λ p. records_at text limit p))) e

  -- the last state, by a step and the state behind its record
  abbrev after : Step → S → S
  after ended x = x
  after (stopped k) x = x
  after (taken row next) x = state_asked asked noted R P x (done ++ (row ∷ [])) (records_at text limit next).rows

  -- the step decides
  step-decides : (f : Finding) → read_at text at limit ≡ f → z ≡ after (step_of (asked s) R P n text f) (state_of noted R P n s text f)
  unfolding on_found state_asked step_of state_of
  step-decides nothing e = found-next nothing e
  step-decides malformed e = found-next malformed e
  step-decides past-limit e = found-next past-limit e
  step-decides (found spans end next) e = found-next (found spans end next) e ∙ rw (← g.many) (go (eqb first 0) (eqb (asked s row) 0))
    where
      fields : List (List ℕ)
      fields = fields_of text spans

      first : ℕ
      first = first_no (record_questions R P n (length fields) fields)

      row : Row
      row = row_of fields

      go : (x y : Bool) →
          cond x (cond y (state_asked asked noted R P (noted s row) (done ++ (row ∷ [])) (records_at text limit next).rows) (noted s row)) s
          ≡ after (cond x (cond y (taken row next) (stopped (asked s row))) (stopped first)) (cond x (noted s row) s)
      go true true = refl
      go true false = refl
      go false y = refl

  module _ {x : S} (here : x ≡ state_of noted R P n s text (read_at text at limit)) where
    -- the state at the end of the text is the last
    pub state-end : ended ≡ step_of (asked s) R P n text (read_at text at limit) → x ≡ z
    state-end e = here ∙ sym (rw (← e) at (step-decides (read_at text at limit) refl))

    -- the state at a No is the last
    pub state-stop : {k : ℕ} → stopped k ≡ step_of (asked s) R P n text (read_at text at limit) → x ≡ z
    state-stop e = here ∙ sym (rw (← e) at (step-decides (read_at text at limit) refl))

    -- behind a row the rest decides
    pub state-next : {row : Row} {next : ℕ} → taken row next ≡ step_of (asked s) R P n text (read_at text at limit) →
        Noting asked noted R P text limit z x (done ++ (row ∷ [])) next (n + 1)
    state-next {row} {next} e =
        record {
          many = omega (arith, g.many, length-append done (row ∷ []));
          last = rw here (rw (← e) at (step-decides (read_at text at limit) refl));
        }
