-- Question 10, by the numbers that the code read of a record's fields.
use Rattle.std.proofs.Common.{ℕ, arith, ◌≡◌, refl, sym, ap, ◌∙◌, Bool, true, false, cond, ◌&&◌, List}
use mathlib.Core.Bool.{and-false}
use lib.ListN.{get_or, get_or-map}
use Rattle.csv_field.specs.FieldReading.{no_span}
use Rattle.csv_field.specs.declared.Span.{Span}
use Rattle.csv_content.specs.Content.{content_of}
use Rattle.rows.specs.Limits.{FILES, MESSAGES}
use Rattle.trace_numbers.specs.Numbers.{Plain, Bad}
use Rattle.trace_numbers.specs.declared.Used.{Used}
use Rattle.trace_numbers.specs.Numbers.{ReadRow, Kept, No}
use Rattle.trace_numbers.specs.Numbers.{is_number, value, number_below, field, fields_of, OFFSETS, number_if, number_where, value_if, ranged_as, read_numbers}

-- the content of the field at a place
abbrev pub content_at : List ℕ → List Span → ℕ → List ℕ
content_at text spans k = content_of text (get_or spans k no_span)

-- the field of the record at a place has that content
pub field_is : (text : List ℕ) (spans : List Span) (k : ℕ) → field (fields_of text spans) k ≡ content_at text spans k
unfolding content_of
field_is text spans k = get_or-map (content_of text) spans k no_span

-- a number is not Bad
plain-bad : {n : ℕ} → Plain n ≡ Bad → ⊥
plain-bad {n} e = let z : ◌≡◌ {A = ℕ} 0 1 = cc in omega arith

-- two equal numbers
plain-same : {m n : ℕ} → Plain m ≡ Plain n → m ≡ n
plain-same e = cc

-- a used field without a number
bad-number : (used : Bool) (below : ℕ) (content : List ℕ) → number_where used below content ≡ Bad → number_if used below content ≡ false
unfolding number_below
bad-number false below content e = absurd (plain-bad e)
bad-number true below content e = go (is_number below content) e
  where
    go : (x : Bool) → cond x (Plain (value content)) Bad ≡ Bad → x ≡ false
    go true q = absurd (plain-bad q)
    go false q = refl

-- a field's number: the field passes question 10, and has this value where it is used
told : (used : Bool) (below : ℕ) (content : List ℕ) {n : ℕ} → Plain n ≡ number_where used below content →
    (number_if used below content ≡ true) × (value_if used content ≡ n)
unfolding number_below
told false below content e = (refl, plain-same (sym e))
told true below content {n} e = go (is_number below content) refl (sym e)
  where
    go : (x : Bool) → is_number below content ≡ x → cond x (Plain (value content)) Bad ≡ Plain n → (is_number below content ≡ true) × (value content ≡ n)
    go true q r = (q, plain-same r)
    go false q r = absurd (plain-bad (sym r))

-- question 10 is put to a record
module _ (text : List ℕ) (spans : List Span) (kind : ℕ) (used : Used) (limit : ℕ) where
  -- the content of the field at a place
  abbrev at : ℕ → List ℕ
  at k = content_at text spans k

  -- question 10 by contents
  abbrev ranged : Bool
  ranged =
      is_number limit (at 0)
      && (number_if used.file FILES (at 2)
      && (number_if used.range OFFSETS (at 3) && (number_if used.range OFFSETS (at 4) && number_if used.message MESSAGES (at 5))))

  -- question 10 by fields is question 10 by contents
  ranged_is : ranged_as used limit (fields_of text spans) ≡ ranged
  unfolding ranged_as
  ranged_is = simp field_is

  -- what the code answers
  abbrev answer : ReadRow
  answer = read_numbers kind used limit (fields_of text spans)

  -- one of the numbers is none
  no_number : ranged ≡ false → No 10 ≡ answer
  unfolding read_numbers
  no_number e = sym (rw (ranged_is ∙ e))

  -- the process is no number below the process limit
  pub no_process : Bad ≡ number_where true limit (at 0) → No 10 ≡ answer
  no_process e = no_number (rw (bad-number true limit (at 0) (sym e)))

  -- the file is no number of a file
  pub no_file : Bad ≡ number_where used.file FILES (at 2) → No 10 ≡ answer
  no_file e = no_number (simp (bad-number used.file FILES (at 2) (sym e), and-false))

  -- the offset is no offset
  pub no_offset : Bad ≡ number_where used.range OFFSETS (at 3) → No 10 ≡ answer
  no_offset e = no_number (simp (bad-number used.range OFFSETS (at 3) (sym e), and-false))

  -- the length is no length
  pub no_length : Bad ≡ number_where used.range OFFSETS (at 4) → No 10 ≡ answer
  no_length e = no_number (simp (bad-number used.range OFFSETS (at 4) (sym e), and-false))

  -- the message is no message
  pub no_message : Bad ≡ number_where used.message MESSAGES (at 5) → No 10 ≡ answer
  no_message e = no_number (simp (bad-number used.message MESSAGES (at 5) (sym e), and-false))

  -- all five are numbers: the row has them
  pub all-numbers : {p f o l m : ℕ} →
      Plain p ≡ number_where true limit (at 0) → Plain f ≡ number_where used.file FILES (at 2) →
      Plain o ≡ number_where used.range OFFSETS (at 3) → Plain l ≡ number_where used.range OFFSETS (at 4) →
      Plain m ≡ number_where used.message MESSAGES (at 5) →
      Kept (record { process = p; kind = kind; file = f; offset = o; length = l; message = m }) ≡ answer
  unfolding read_numbers
  all-numbers ep ef eo el em =
      let tp = told true limit (at 0) ep in
      let tf = told used.file FILES (at 2) ef in
      let to = told used.range OFFSETS (at 3) eo in
      let tl = told used.range OFFSETS (at 4) el in
      let tm = told used.message MESSAGES (at 5) em in
      let yes10 : ranged ≡ true = rw (tp.0, tf.0, to.0, tl.0, tm.0) in
      let is = field_is text spans in
      sym (rw (ranged_is ∙ yes10)
      (λ i. Kept (record {
        process = (ap value (is 0) ∙ tp.1) i;
        kind = kind;
        file = (ap (value_if used.file) (is 2) ∙ tf.1) i;
        offset = (ap (value_if used.range) (is 3) ∙ to.1) i;
        length = (ap (value_if used.range) (is 4) ∙ tl.1) i;
        message = (ap (value_if used.message) (is 5) ∙ tm.1) i;
      })))
