-- No byte of the text that is written is a quote.
use Rattle.std.proofs.Common.{ℕ, zero, suc, arith, ◌≡◌, refl, Bool, true, false, cond, not, ◌&&◌, List, [], ◌∷◌, ◌++◌}
use lib.ListN.{get_or}
use lib.Dec.{eqb}
use borrow.Author.Tests.{eqb-false, not-true}
use Rattle.csv_field.specs.FieldGrammar.{COMMA, DQUOTE, CRLF, NonEscaped, none, text}
use Rattle.csv_field.proofs.Bytes.{text-unquote}
use Rattle.rows.specs.declared.row.Row.{Row}
use Rattle.rows.proofs.Bools.{and_out}
use Rattle.trace.specs.Rows.{header_names, kind_words, used_by}
use Rattle.writer_line.specs.Lines.{number_field, contents_of, commas, line_of, record_of}
use Rattle.writer_line.proofs.Digits.{decimal_text}
use Rattle.writer.specs.Writing.{lines_of, header_line, header_of, text_of}

-- No byte is a quote.
unfoldable unquoted : List ℕ → Bool
unquoted [] = true
unquoted (b ∷ t) = not (eqb b DQUOTE) && unquoted t

-- No byte of any field is a quote.
unfoldable all_unquoted : List (List ℕ) → Bool
all_unquoted [] = true
all_unquoted (f ∷ fs) = unquoted f && all_unquoted fs

-- No byte at a place is a quote.
none-at : (l : List ℕ) → unquoted l ≡ true → (k : ℕ) → get_or l k 0 ≡ DQUOTE → ⊥
unfolding unquoted
none-at [] e k q = omega arith
none-at (b ∷ t) e zero q = eqb-false b DQUOTE (not-true (eqb b DQUOTE) (and_out (not (eqb b DQUOTE)) (unquoted t) e).0) q
none-at (b ∷ t) e (suc k) q = none-at t (and_out (not (eqb b DQUOTE)) (unquoted t) e).1 k q

-- Bytes without a quote behind bytes without a quote.
both : (l m : List ℕ) → unquoted l ≡ true → unquoted m ≡ true → unquoted (l ++ m) ≡ true
unfolding unquoted
both [] m e f = f
both (b ∷ t) m e f =
    let a = and_out (not (eqb b DQUOTE)) (unquoted t) e in
    rw a.0 (both t m a.1 f)

-- TEXTDATA has no quote.
text-unquoted : {l : List ℕ} → NonEscaped l → unquoted l ≡ true
unfolding unquoted
text-unquoted none = refl
text-unquoted (text {b} h t) = rw (text-unquote h) (text-unquoted t)

-- ---- Fields

-- A number's field has no quote.
number-unquoted : (used : Bool) (n : ℕ) → unquoted (number_field used n) ≡ true
unfolding unquoted
number-unquoted true n = text-unquoted (decimal_text n)
number-unquoted false n = refl

-- A field at a place of fields without a quote has none.
field-unquoted : (fs : List (List ℕ)) (k : ℕ) → all_unquoted fs ≡ true → unquoted (get_or fs k []) ≡ true
unfolding unquoted all_unquoted
field-unquoted [] k e = refl
field-unquoted (f ∷ fs) zero e = (and_out (unquoted f) (all_unquoted fs) e).0
field-unquoted (f ∷ fs) (suc k) e = field-unquoted fs k (and_out (unquoted f) (all_unquoted fs) e).1

-- A kind's word has no quote.
word-unquoted : (k : ℕ) → unquoted (get_or kind_words k []) ≡ true
unfolding unquoted all_unquoted
word-unquoted k = field-unquoted kind_words k refl

-- The fields of a row have no quote.
contents_unquoted : (r : Row) → all_unquoted (contents_of r) ≡ true
unfolding all_unquoted contents_of
contents_unquoted r =
    let u = used_by r.kind in
    rw (
      text-unquoted (decimal_text r.process),
      word-unquoted r.kind,
      number-unquoted u.file r.file,
      number-unquoted u.range r.offset,
      number-unquoted u.range r.length,
      number-unquoted u.message r.message,
    )

-- Fields without a quote have none with commas between them.
commas-unquoted : (fs : List (List ℕ)) → all_unquoted fs ≡ true → unquoted (commas fs) ≡ true
unfolding unquoted all_unquoted commas
commas-unquoted [] e = refl
commas-unquoted (f ∷ []) e = (and_out (unquoted f) true e).0
commas-unquoted (f ∷ (g ∷ fs)) e =
    let a = and_out (unquoted f) (all_unquoted (g ∷ fs)) e in
    both f (COMMA ∷ commas (g ∷ fs)) a.0 (commas-unquoted (g ∷ fs) a.1)

-- ---- The text

-- The lines of rows have no quote.
lines_unquoted : (rows : List Row) → unquoted (lines_of rows) ≡ true
unfolding unquoted lines_of line_of
lines_unquoted [] = refl
lines_unquoted (r ∷ rs) =
    both (record_of r) (lines_of rs) (both (line_of r) (CRLF []) (commas-unquoted (contents_of r) (contents_unquoted r)) refl) (lines_unquoted rs)

-- The header has no quote.
header-unquoted : (header : ℕ) → unquoted (header_of header) ≡ true
unfolding unquoted all_unquoted
header-unquoted header = go (eqb header 1)
  where
    go : (b : Bool) → unquoted (cond b header_line []) ≡ true
    go true = both (commas header_names) (CRLF []) (commas-unquoted header_names refl) refl
    go false = refl

-- No byte of the text is a quote.
pub no_quotes : (header : ℕ) (rows : List Row) (k : ℕ) → get_or (text_of header rows) k 0 ≡ DQUOTE → ⊥
unfolding text_of
no_quotes header rows = none-at _ (both (header_of header) (lines_of rows) (header-unquoted header) (lines_unquoted rows))
