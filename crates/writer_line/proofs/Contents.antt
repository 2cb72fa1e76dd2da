-- A row's line: its length, the parts that it is put together from, and its derivation by the grammar.
use Rattle.std.proofs.Common.{ℕ, ◌+◌, ◌≤◌, ◌<◌, arith, ◌≡◌, refl, sym, ap, ◌∙◌, Bool, true, false, ◌&&◌, List, [], ◌∷◌, ◌++◌, append_assoc, length, length-append, leb-true, eqb-true}
use native.Mathlib.Decide.{dec_lt}
use lib.ListN.{get_or, get_or-eq_default}
use lib.Seq.{take-length}
use lib.Dec.{leb, eqb}
use Rattle.csv_field.specs.FieldGrammar.{COMMA, CRLF, NonEscaped, none, non_escaped}
use Rattle.csv_field.specs.FieldReading.{is_text, text_length}
use Rattle.csv_field.proofs.Runs.{run_text}
use Rattle.csv_content.specs.Content.{same_bytes}
use Rattle.csv_records.specs.Grammar.{Record, one, more}
use Rattle.print.specs.Decimal.{decimal_of, width_of}
use Rattle.print.proofs.Laying.{number-length}
use Rattle.print.proofs.Parts.{number-most}
use Rattle.rows.specs.declared.row.Row.{Row}
use Rattle.rows.specs.Kinds.{KINDS}
use Rattle.rows.specs.Counting.{any_below}
use Rattle.rows.proofs.Bools.{and_out}
use Rattle.rows.proofs.Below.{each-passes}
use Rattle.trace_numbers.specs.declared.Used.{Used}
use Rattle.trace_fields.specs.Rows.{kind_words, word_of, kind_of, used_by}
use Rattle.writer_line.specs.Lines.{number_field, contents_of, commas, line_of, record_of}
use Rattle.writer_line.proofs.Digits.{decimal_text}

-- ---- Words

-- The word of a kind is read back, is TEXTDATA to its end, and has at most seven bytes.
fine : ℕ → List ℕ → Bool
fine k w = eqb (kind_of w) k && (eqb (text_length w) (length w) && leb (length w) 7)

-- The three facts of a kind's word.
record Word (k : ℕ) (w : List ℕ) : Type 0 where
  back : kind_of w ≡ k
  text : text_length w ≡ length w
  most : length w ≤ 7

-- Each kind's word has them.
words : (k : ℕ) → k < KINDS → Word k (get_or kind_words k [])
unfolding any_below fine word_of same_bytes is_text text_length
words k h =
    let w = get_or kind_words k [] in
    let a = and_out (eqb (kind_of w) k) _ (each-passes KINDS (λ i. fine i (get_or kind_words i [])) refl k h) in
    let b = and_out (eqb (text_length w) (length w)) (leb (length w) 7) a.1 in
    record { back = eqb-true (kind_of w) k a.0; text = eqb-true (text_length w) (length w) b.0; most = leb-true (length w) 7 b.1 }

-- A kind's word is read back.
pub kind-back : (k : ℕ) → k < KINDS → kind_of (get_or kind_words k []) ≡ k
kind-back k h = (words k h).back

-- A number that is no kind's has no word.
pub word_none : (k : ℕ) → KINDS ≤ k → get_or kind_words k [] ≡ []
word_none k h = get_or-eq_default kind_words [] h

-- A kind's word is TEXTDATA.
word-text : (k : ℕ) → NonEscaped (get_or kind_words k [])
word-text k = go (dec_lt k KINDS)
  where
    go : Dec (k < KINDS) → NonEscaped (get_or kind_words k [])
    go (yes h) = rw ((words k h).text, take-length) at (run_text (get_or kind_words k []))
    go (no h) = rw (word_none k (omega arith)) none

-- ---- The grammar's record

-- Every field is TEXTDATA.
abbrev AllText : List (List ℕ) → Type 0
AllText [] = Unit {0}
AllText (f ∷ fs) = NonEscaped f × AllText fs

-- Fields of TEXTDATA with commas between them are a record of those fields.
pub commas-record : (f : List ℕ) (fs : List (List ℕ)) → AllText (f ∷ fs) → Record (commas (f ∷ fs)) (f ∷ fs)
unfolding commas
commas-record f [] t = one (non_escaped t.0)
commas-record f (g ∷ gs) t = more (non_escaped t.0) (commas-record g gs t.1)

-- A number's field is TEXTDATA.
number-text : (used : Bool) (n : ℕ) → NonEscaped (number_field used n)
number-text true n = decimal_text n
number-text false n = none

-- The grammar derives a row's line as a record of the row's fields.
pub line-record : (r : Row) → Record (line_of r) (contents_of r)
unfolding line_of contents_of
line-record r =
    let u = used_by r.kind in
    commas-record (decimal_of r.process) _ (
      decimal_text r.process,
      (
        word-text r.kind,
        (
          number-text u.file r.file,
          (number-text u.range r.offset, (number-text u.range r.length, (number-text u.message r.message, tt))),
        ),
      ),
    )

-- ---- Parts and lengths

-- A comma and a number's field.
abbrev pub comma : Bool → ℕ → List ℕ
comma used n = COMMA ∷ number_field used n

-- The bytes of the longest record: five numbers of ten digits, a word of seven letters, five commas and a line end.
abbrev pub RECORD_MOST : ℕ
RECORD_MOST = 64

-- A kind's word has at most seven bytes.
word-most : (k : ℕ) → length (get_or kind_words k []) ≤ 7
word-most k = go (dec_lt k KINDS)
  where
    go : Dec (k < KINDS) → length (get_or kind_words k []) ≤ 7
    go (yes h) = (words k h).most
    go (no h) = rw (word_none k (omega arith)) (omega arith)

-- A number's field has at most ten bytes.
field-most : (used : Bool) (n : ℕ) → length (number_field used n) ≤ 10
field-most true n = number-most n
field-most false n = omega arith

module _ (r : Row) where
  abbrev u : Used
  u = used_by r.kind

  -- A record is its first field, each other with its comma before it, and the line end, one behind the other.
  pub record-parts :
      decimal_of r.process
      ++ ((COMMA ∷ get_or kind_words r.kind [])
      ++ (comma u.file r.file
      ++ (comma u.range r.offset ++ (comma u.range r.length ++ (comma u.message r.message ++ CRLF [])))))
      ≡ record_of r
  unfolding line_of contents_of commas
  record-parts = sym (simp append_assoc)

  -- The length of a record is that of its fields, five commas and a line end.
  pub record-size :
      length (record_of r)
      ≡ length (decimal_of r.process) + length (get_or kind_words r.kind []) + length (number_field u.file r.file)
      + length (number_field u.range r.offset) + length (number_field u.range r.length) + length (number_field u.message r.message) + 7
  record-size = ap length (sym record-parts) ∙ simp length-append (omega arith)

  -- A record has at most 64 bytes.
  pub record_most : length (record_of r) ≤ RECORD_MOST
  record_most =
      omega (
        arith,
        record-size,
        number-most r.process,
        word-most r.kind,
        field-most u.file r.file,
        field-most u.range r.offset,
        field-most u.range r.length,
        field-most u.message r.message,
      )

  -- The lengths of the parts, added up, are the length of the record.
  pub record_added : {v : Used} {process word file offset size message : ℕ} → v ≡ u → process ≡ width_of r.process →
      word ≡ length (get_or kind_words r.kind []) → file ≡ length (number_field v.file r.file) →
      offset ≡ length (number_field v.range r.offset) → size ≡ length (number_field v.range r.length) →
      message ≡ length (number_field v.message r.message) → 7 + process + word + file + offset + size + message ≡ length (record_of r)
  record_added e p w f o s m =
      omega (
        arith,
        record-size,
        number-length r.process,
        p,
        w,
        rw e at f,
        rw e at o,
        rw e at s,
        rw e at m,
      )

  -- The parts, with the fields that the kind uses given.
  pub parts_using : {v : Used} → v ≡ u →
      decimal_of r.process
      ++ ((COMMA ∷ get_or kind_words r.kind [])
      ++ (comma v.file r.file
      ++ (comma v.range r.offset ++ (comma v.range r.length ++ (comma v.message r.message ++ CRLF [])))))
      ≡ record_of r
  parts_using e = rw e record-parts
