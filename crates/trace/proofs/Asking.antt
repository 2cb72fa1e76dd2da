-- The first No of the questions: of a call, of a header and of a row's record.
use Rattle.std.proofs.Common.{ℕ, ◌*◌, ◌≤◌, ◌<◌, arith, ◌≡◌, refl, sym, ◌∙◌, Bool, true, false, cond, ◌&&◌, List, [], ◌∷◌, length, lt-ltb, le-leb, eqb-true}
use mathlib.Core.Bool.{and-true}
use lib.ListN.{get_or}
use lib.Dec.{leb, eqb}
use borrow.Author.Tests.{lt-leb, eqb-false}
use Rattle.csv_field.specs.FieldReading.{no_span}
use Rattle.csv_content.specs.Content.{content_of, same_bytes}
use Rattle.csv_field.specs.declared.Span.{Span}
use Rattle.rows.specs.Limits.{MODELS, ROWS}
use Rattle.rows.specs.declared.row.Row.{Row}
use Rattle.trace_numbers.specs.Numbers.{Kept, No}
use Rattle.trace.specs.Rows.{header_names, same_fields, row_of}
use Rattle.trace.specs.Questions.{in_limits, call_questions, field_questions, record_questions}
use Rattle.rows.specs.Questions.{first_no, is_process_limit}
use Rattle.rows.proofs.Asking.{From}
use Rattle.trace.specs.Reads.{fields_of, judged_by, headed}

-- ---- The questions 1 to 3

module _ (header model rowLimit processLimit rowsLength countsLength : ℕ) where
  -- the first No of a call
  abbrev first : ℕ
  first = first_no (call_questions header model rowLimit processLimit rowsLength countsLength)

  -- 1: the rows' slice is too short
  pub few-rows : rowsLength < rowLimit * 6 → 1 ≡ first
  unfolding first_no call_questions
  few-rows h = let g : rowsLength < 6 * rowLimit = omega arith in rw (lt-leb (6 * rowLimit) rowsLength g)

  module _ (r : rowLimit * 6 ≤ rowsLength) where
    long-rows : leb (6 * rowLimit) rowsLength ≡ true
    long-rows = le-leb (6 * rowLimit) rowsLength (omega arith)

    module _ (k : rowLimit * processLimit ≤ countsLength) where
      -- 2: a number is out of its limits
      out : in_limits model rowLimit processLimit ≡ false → 2 ≡ first
      unfolding first_no call_questions
      out h = rw (long-rows, le-leb (rowLimit * processLimit) countsLength k, h)

      module _ (m : model < MODELS) where
        -- 2: the row limit is 0
        pub no_rows : rowLimit < 1 → 2 ≡ first
        no_rows h = out (rw (lt-ltb model MODELS m, lt-leb 1 rowLimit h))

        module _ (o : 1 ≤ rowLimit) where
          -- 2: the row limit is too large
          pub many-rows : ROWS < rowLimit → 2 ≡ first
          many-rows h = out (rw (lt-ltb model MODELS m, le-leb 1 rowLimit o, lt-leb rowLimit ROWS h))

          module _ (w : rowLimit ≤ ROWS) where
            within : in_limits model rowLimit processLimit ≡ is_process_limit processLimit
            within = rw (lt-ltb model MODELS m, le-leb 1 rowLimit o, le-leb rowLimit ROWS w)

            module _ (p : is_process_limit processLimit ≡ true) where
              -- 1 and 2 have Yes, and 3 decides
              third : first ≡ cond (leb header 1) 0 3
              unfolding first_no call_questions
              third = rw (long-rows, le-leb (rowLimit * processLimit) countsLength k, within, p)

              -- every answer is Yes
              pub all_asked : header ≤ 1 → 0 ≡ first
              all_asked h = sym (third ∙ rw (le-leb header 1 h))

-- ---- The header

-- the header by its six names
pub header_by : (text : List ℕ) (count : ℕ) (spans : List Span) → length spans ≡ 6 →
    headed count (fields_of text spans)
    ≡ eqb count 6
    && (same_bytes (content_of text (get_or spans 0 no_span)) (get_or header_names 0 [])
    && (same_bytes (content_of text (get_or spans 1 no_span)) (get_or header_names 1 [])
    && (same_bytes (content_of text (get_or spans 2 no_span)) (get_or header_names 2 [])
    && (same_bytes (content_of text (get_or spans 3 no_span)) (get_or header_names 3 [])
    && (same_bytes (content_of text (get_or spans 4 no_span)) (get_or header_names 4 [])
    && same_bytes (content_of text (get_or spans 5 no_span)) (get_or header_names 5 []))))))
unfolding same_fields
header_by text count [] h = absurd (omega arith)
header_by text count (a ∷ []) h = absurd (omega arith)
header_by text count (a ∷ (b ∷ [])) h = absurd (omega arith)
header_by text count (a ∷ (b ∷ (c ∷ []))) h = absurd (omega arith)
header_by text count (a ∷ (b ∷ (c ∷ (d ∷ [])))) h = absurd (omega arith)
header_by text count (a ∷ (b ∷ (c ∷ (d ∷ (e ∷ []))))) h = absurd (omega arith)
header_by text count (a ∷ (b ∷ (c ∷ (d ∷ (e ∷ (f ∷ [])))))) h = simp and-true
header_by text count (a ∷ (b ∷ (c ∷ (d ∷ (e ∷ (f ∷ (g ∷ rest))))))) h = absurd (omega arith)

-- the header, for a search
pub ruleset by_names = header_by

-- ---- The questions 6 to 11

-- the questions 6 to 11 have numbers
pub numbered : (rowLimit processLimit n count : ℕ) (fields : List (List ℕ)) → From 1 (record_questions rowLimit processLimit n count fields)
unfolding record_questions field_questions
numbered rowLimit processLimit n count fields = (omega arith, (omega arith, (omega arith, (omega arith, (omega arith, (omega arith, tt))))))

-- What an answer tells of the first No.
module _ (first : ℕ) (fields : List (List ℕ)) where
  -- a refusal has the number of the first No
  pub no_of : {k : ℕ} → judged_by first fields ≡ No k → (first ≡ k) × (first ≡ 0 → ⊥)
  no_of {k} e = go (eqb first 0) refl e
    where
      go : (x : Bool) → eqb first 0 ≡ x → cond x (Kept (row_of fields)) (No first) ≡ No k → (first ≡ k) × (first ≡ 0 → ⊥)
      go true q e = let z : ◌≡◌ {A = ℕ} 0 1 = cc in absurd (omega arith)
      go false q e = (cc, eqb-false first 0 q)

  -- a row means that there is no No
  pub kept_of : {row : Row} → judged_by first fields ≡ Kept row → (first ≡ 0) × (row ≡ row_of fields)
  kept_of {row} e = go (eqb first 0) refl e
    where
      go : (x : Bool) → eqb first 0 ≡ x → cond x (Kept (row_of fields)) (No first) ≡ Kept row → (first ≡ 0) × (row ≡ row_of fields)
      go true q e = (eqb-true first 0 q, cc)
      go false q e = let z : ◌≡◌ {A = ℕ} 0 1 = cc in absurd (omega arith)
