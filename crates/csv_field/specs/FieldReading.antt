-- What a reader finds of one field, by its bytes.
use Rattle.std.specs.Prelude.{ℕ, suc, ◌+◌, Bool, true, false, cond, ◌&&◌, ◌||◌, List, [], ◌∷◌, get_or, drop, leb, eqb}
use Rattle.csv_field.specs.FieldGrammar.{COMMA, DQUOTE, CR, LF}
use Rattle.csv_field.specs.declared.Span.{Span}
use Rattle.csv_field.specs.declared.ScannedField.{ScannedField}
use Rattle.csv_field.specs.declared.Quotes.{Quotes}
use Rattle.csv_field.specs.declared.Quotes.TheVariants.{Unclosed, Broken, Closed}
use Rattle.csv_field.specs.declared.Stop.{Stop}
use Rattle.csv_field.specs.declared.Stop.TheVariants.{Comma, LineEnd, TextEnd, Bad, Cut}

-- a byte from low to high
abbrev pub byte_between : ℕ → ℕ → ℕ → Bool
byte_between low high b = leb low b && leb b high

-- TEXTDATA
unfoldable pub is_text : ℕ → Bool
is_text b = byte_between 0x20 0x21 b || byte_between 0x23 0x2B b || byte_between 0x2D 0x7E b

-- what quotes may hold besides the quote: TEXTDATA, comma, CR, LF
unfoldable pub is_quoted : ℕ → Bool
is_quoted b = is_text b || eqb b COMMA || eqb b CR || eqb b LF

-- the number of bytes of TEXTDATA at the front
unfoldable pub text_length : List ℕ → ℕ
text_length [] = 0
text_length (b ∷ t) = cond (is_text b) (suc (text_length t)) 0

-- The bytes after an opening quote: how many stand before the closing quote, and whether two quotes side by side stand among them. n and d
-- are the count and the answer for the bytes before. After a quote, a second quote makes both a part of the content; any other byte makes
-- the first the closing quote.
unfoldable mutual
  pub quotes : ℕ → Bool → List ℕ → Quotes
  quotes n d [] = Unclosed
  quotes n d (b ∷ t) = cond (eqb b DQUOTE) (after_quote n d t) (cond (is_quoted b) (quotes (suc n) d t) Broken)

  pub after_quote : ℕ → Bool → List ℕ → Quotes
  after_quote n d [] = Closed n d
  after_quote n d (b ∷ t) = cond (eqb b DQUOTE) (quotes (suc (suc n)) true t) (Closed n d)

-- What follows a CR outside quotes: an LF ends the record; a lone CR is malformed. A text that is cut has more bytes past the limit; a
-- reader that would have to look at one of them stops with Cut.
unfoldable pub after_cr : Bool → List ℕ → Stop
after_cr cut [] = cond cut Cut Bad
after_cr cut (b ∷ t) = cond (eqb b LF) LineEnd Bad

-- what follows a field
unfoldable pub stop_of : Bool → List ℕ → Stop
stop_of cut [] = cond cut Cut TextEnd
stop_of cut (b ∷ t) = cond (eqb b COMMA) Comma (cond (eqb b CR) (after_cr cut t) Bad)

-- a field: its span, the place after it, and what follows it there
abbrev pub scanned_field : List ℕ → Bool → Span → ℕ → ScannedField
scanned_field s cut span end = record { span = span; end = end; stop = stop_of cut (drop end s) }

-- a field without quotes, from its first byte
abbrev pub bare_at : List ℕ → Bool → ℕ → ScannedField
bare_at s cut at =
    let n = text_length (drop at s) in
    scanned_field s cut (record { start = at; len = n; doubled = false }) (at + n)

-- the span of no byte
abbrev pub no_span : Span
no_span = record { start = 0; len = 0; doubled = false }

-- a field in quotes from the byte after the opening quote, by what stands after that quote
unfoldable pub quoted_to : List ℕ → Bool → ℕ → Quotes → ScannedField
quoted_to s cut at Unclosed = record { span = no_span; end = 0; stop = cond cut Cut Bad }
quoted_to s cut at Broken = record { span = no_span; end = 0; stop = Bad }
quoted_to s cut at (Closed n d) = scanned_field s cut (record { start = at; len = n; doubled = d }) (at + n + 1)

-- a field in quotes from the byte after the opening quote
abbrev pub quoted_at : List ℕ → Bool → ℕ → ScannedField
quoted_at s cut at = quoted_to s cut at (quotes 0 false (drop at s))

-- the field at a place
unfoldable pub field_at : List ℕ → Bool → ℕ → ScannedField
field_at s cut at =
    cond (eqb (get_or s at 0) DQUOTE)
    (quoted_at s cut (at + 1))
    (bare_at s cut at)
