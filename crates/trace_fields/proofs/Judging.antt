-- The questions 8 to 11, put to the fields of a record.
use Rattle.std.proofs.Common.{ℕ, ◌+◌, ◌-◌, ◌≤◌, ◌<◌, arith, ◌≡◌, refl, sym, ap, ◌∙◌, Bool, true, false, cond, ◌&&◌, List, [], ◌∷◌, lt-ltb, le-leb}
use mathlib.Core.Bool.{and-eq-true_iff, false≢true}
use lib.Dec.{ltb}
use borrow.Author.Tests.{lt-leb}
use Rattle.csv_field.specs.declared.Span.{Span}
use Rattle.rows.specs.Limits.{OFFSET_MAX}
use Rattle.rows.specs.Kinds.{KINDS, kind_number}
use Rattle.rows.specs.declared.kind.Kind.{Kind}
use Rattle.rows.specs.declared.kind.Kind.TheVariants.{Read, Write, Commit, Open, Close, Sync, Send, Recv, Wait, Barrier}
use Rattle.rows.specs.Questions.{first_no}
use Rattle.rows.specs.declared.row.Row.{Row}
use Rattle.trace_numbers.specs.declared.Used.{Used}
use Rattle.trace_numbers.specs.Numbers.{ReadRow, Kept, No, value, value_from, field, fields_of, value_if, ranged_as, row_using, read_numbers}
use Rattle.trace_numbers.proofs.Reading.{content_at, field_is}
use Rattle.trace_fields.specs.Rows.{kind_of, used_by, row_of}
use Rattle.trace_fields.specs.Questions.{field_questions, kind_known, as_used, filled_as_used, numbers_in_range, end_in_range}
use Rattle.trace_fields.specs.Reads.{fills_as, judged_by, judged_fields}

-- ---- Question 9

module _ (text : List ℕ) (spans : List Span) (u : Used) where
  -- the question, by contents
  pub fills : fills_as u (fields_of text spans)
      ≡ as_used true (content_at text spans 0)
      && (as_used u.file (content_at text spans 2)
      && (as_used u.range (content_at text spans 3) && (as_used u.range (content_at text spans 4) && as_used u.message (content_at text spans 5))))
  unfolding fills_as
  fills = simp field_is

-- question 9 by contents, for a search
pub ruleset by_contents = fills

-- ---- The questions in turn

-- the answer of a record by the answers to the four questions
abbrev outcome : Bool → Bool → Bool → Bool → List (List ℕ) → ReadRow
outcome known filled ranged ended fields = judged_by (cond known (cond filled (cond ranged (cond ended 0 11) 10) 9) 8) fields

-- the answer of a record is that of its questions
judged-by : (limit : ℕ) (fields : List (List ℕ)) →
    judged_fields limit fields
    ≡ outcome (kind_known fields) (filled_as_used fields) (numbers_in_range limit fields) (end_in_range (row_of fields)) fields
unfolding judged_fields first_no field_questions
judged-by limit fields = refl

-- a kind's number is below the number of kinds
below-kinds : (kind : Kind) → kind_number kind < KINDS
below-kinds Read = omega arith
below-kinds Write = omega arith
below-kinds Commit = omega arith
below-kinds Open = omega arith
below-kinds Close = omega arith
below-kinds Sync = omega arith
below-kinds Send = omega arith
below-kinds Recv = omega arith
below-kinds Wait = omega arith
below-kinds Barrier = omega arith

-- 8 is answered No
pub no_kind : (limit : ℕ) (text : List ℕ) (spans : List Span) → KINDS ≡ kind_of (content_at text spans 1) → No 8 ≡ judged_fields limit (fields_of text spans)
no_kind limit text spans e =
    let fs = fields_of text spans in
    let q : kind_known fs ≡ false = ap (λ (n : ℕ). ltb n KINDS) (ap kind_of (field_is text spans 1) ∙ sym e) in
    sym (judged-by limit fs ∙ ap (λ (b : Bool). outcome b (filled_as_used fs) (numbers_in_range limit fs) (end_in_range (row_of fs)) fs) q)

-- a record whose kind is known
pub record Known : Type 0 where
  pub limit : ℕ
  pub text : List ℕ
  pub spans : List Span
  pub of : Kind
  pub kind : ℕ
  pub used : Used
  pub number-is : kind ≡ kind_number of
  pub kind-is : kind_number of ≡ kind_of (content_at text spans 1)
  pub used-is : used ≡ used_by kind

-- the record's fields
abbrev pub fields_in : Known → List (List ℕ)
fields_in k = fields_of k.text k.spans

-- the record's answer to the questions 8 to 11
abbrev pub answer : Known → ReadRow
answer k = judged_fields k.limit (fields_in k)

module _ (k : Known) where
  -- the kind is the kind of the contents
  kind-in : kind_of (field (fields_in k) 1) ≡ k.kind
  kind-in = ap kind_of (field_is k.text k.spans 1) ∙ sym (k.number-is ∙ k.kind-is)

  -- the used fields are those of the kind of the contents
  used-in : used_by (kind_of (field (fields_in k) 1)) ≡ k.used
  used-in = ap used_by kind-in ∙ sym k.used-is

  -- 8 is answered Yes
  known_in : kind_known (fields_in k) ≡ true
  known_in = ap (λ (n : ℕ). ltb n KINDS) kind-in ∙ lt-ltb k.kind KINDS (omega (arith, k.number-is, below-kinds k.of))

  -- 9 is answered as the used fields say
  filled_in : filled_as_used (fields_in k) ≡ fills_as k.used (fields_in k)
  unfolding filled_as_used fills_as
  filled_in = ap (λ (u : Used). fills_as u (fields_in k)) used-in

  -- 9 is answered No
  pub no_filled : fills_as k.used (fields_in k) ≡ false → No 9 ≡ answer k
  no_filled e =
      let fs = fields_in k in
      sym (judged-by k.limit fs
      ∙ (λ i. outcome (known_in i) ((filled_in ∙ e) i) (numbers_in_range k.limit fs) (end_in_range (row_of fs)) fs))

-- a record whose kind is known and whose fields are filled as used
pub record Filled : Type 0 where
  pub of : Known
  pub filled : fills_as of.used (fields_in of) ≡ true

-- ---- The numbers

-- where a used field is filled and any other empty, the number that reading takes is the value of the field
value-used : (used : Bool) (content : List ℕ) → as_used used content ≡ true → value_if used content ≡ value content
unfolding value_from
value-used true content e = refl
value-used false [] e = refl
value-used false (b ∷ t) e = absurd (false≢true e)

module _ (f : Filled) where
  -- the record's fields and used fields
  abbrev fields : List (List ℕ)
  fields = fields_in f.of

  abbrev used : Used
  used = f.of.used

  -- question 10 of the record is question 10 for its used fields
  ranged_in : numbers_in_range f.of.limit fields ≡ ranged_as used f.of.limit fields
  unfolding numbers_in_range ranged_as
  ranged_in = ap (λ (u : Used). ranged_as u f.of.limit fields) (used-in f.of)

  -- 8 and 9 are answered Yes
  judged-filled : {ranged : Bool} → ranged_as used f.of.limit fields ≡ ranged →
      answer f.of ≡ outcome true true ranged (end_in_range (row_of fields)) fields
  judged-filled e =
      let k = f.of in
      judged-by k.limit fields
      ∙ (λ i. outcome (known_in k i) ((filled_in k ∙ f.filled) i) ((ranged_in ∙ e) i) (end_in_range (row_of fields)) fields)

  -- what the numbers were read as
  abbrev pub numbers_read : ReadRow
  numbers_read = read_numbers f.of.kind used f.of.limit fields

  -- the numbers' row is the record's
  row_is : row_using f.of.kind used fields ≡ row_of fields
  unfolding row_of fills_as
  row_is =
      let p = (and-eq-true_iff (as_used true (field fields 0)) _).0 f.filled in
      let q = (and-eq-true_iff _ _).0 p.1 in
      let o = (and-eq-true_iff _ _).0 q.1 in
      let l = (and-eq-true_iff _ _).0 o.1 in
      λ i. record {
        process = value (field fields 0);
        kind = sym (kind-in f.of) i;
        file = value-used used.file (field fields 2) q.0 i;
        offset = value-used used.range (field fields 3) o.0 i;
        length = value-used used.range (field fields 4) l.0 i;
        message = value-used used.message (field fields 5) l.1 i;
      }

  -- 10 is answered No
  pub no_number : {k : ℕ} → No k ≡ numbers_read → No k ≡ answer f.of
  unfolding read_numbers
  no_number {k} e = go (ranged_as used f.of.limit fields) refl e
    where
      go : (x : Bool) → ranged_as used f.of.limit fields ≡ x → No k ≡ cond x (Kept (row_using f.of.kind used fields)) (No 10) → No k ≡ answer f.of
      go true q h = cc h
      go false q h = h ∙ sym (judged-filled q)

  -- 10 is answered Yes, and this is the row
  numbered : {row : Row} → Kept row ≡ numbers_read → (ranged_as used f.of.limit fields ≡ true) × (row ≡ row_of fields)
  unfolding read_numbers
  numbered {row} e = go (ranged_as used f.of.limit fields) refl e
    where
      go : (x : Bool) → ranged_as used f.of.limit fields ≡ x → Kept row ≡ cond x (Kept (row_using f.of.kind used fields)) (No 10) →
          (ranged_as used f.of.limit fields ≡ true) × (row ≡ row_of fields)
      go true q h = let z : row ≡ row_using f.of.kind used fields = cc in (q, z ∙ row_is)
      go false q h = let z : ◌≡◌ {A = ℕ} 0 1 = cc in absurd (omega arith)

  module _ {row : Row} (e : Kept row ≡ numbers_read) where
    -- 8 to 10 are answered Yes
    judged-numbered : answer f.of ≡ outcome true true true (end_in_range row) fields
    judged-numbered =
        let n = numbered e in
        judged-filled n.0 ∙ ap (λ (x : Row). outcome true true true (end_in_range x) fields) (sym n.1)

    -- 11 is answered No
    pub no_end : OFFSET_MAX - row.offset < row.length → No 11 ≡ answer f.of
    no_end h =
        let q : end_in_range row ≡ false = lt-leb (row.offset + row.length) OFFSET_MAX (omega arith) in
        sym (judged-numbered ∙ ap (λ (b : Bool). outcome true true true b fields) q)

    -- 11 is answered Yes
    pub kept : row.offset ≤ OFFSET_MAX → row.length ≤ OFFSET_MAX - row.offset → Kept row ≡ answer f.of
    kept i h =
        let q : end_in_range row ≡ true = le-leb (row.offset + row.length) OFFSET_MAX (omega arith) in
        sym (judged-numbered ∙ ap (λ (b : Bool). outcome true true true b fields) q ∙ ap Kept (sym (numbered e).1))
