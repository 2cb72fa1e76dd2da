-- The line of a row in plain text: six fields with commas between them, none in quotes.
use Rattle.std.specs.Prelude.{ℕ, Bool, cond, List, [], ◌∷◌, ◌++◌, get_or}
use Rattle.csv_field.specs.FieldGrammar.{COMMA, CRLF}
use Rattle.print.specs.Decimal.{decimal_of}
use Rattle.rows.specs.declared.row.Row.{Row}
use Rattle.trace_numbers.specs.declared.Used.{Used}
use Rattle.trace_fields.specs.Rows.{kind_words, used_by}

-- The digits of a used field's number; any other field is empty.
abbrev pub number_field : Bool → ℕ → List ℕ
number_field used n = cond used (decimal_of n) []

-- The six fields of a row, given the fields that its kind uses.
abbrev pub contents_using : Used → Row → List (List ℕ)
contents_using u r =
    decimal_of r.process
    ∷ (get_or kind_words r.kind []
    ∷ (number_field u.file r.file
    ∷ (number_field u.range r.offset ∷ (number_field u.range r.length ∷ (number_field u.message r.message ∷ [])))))

-- The six fields of a row.
unfoldable pub contents_of : Row → List (List ℕ)
contents_of r = contents_using (used_by r.kind) r

-- Fields with a comma between each two.
unfoldable pub commas : List (List ℕ) → List ℕ
commas [] = []
commas (f ∷ []) = f
commas (f ∷ (g ∷ fs)) = f ++ (COMMA ∷ commas (g ∷ fs))

-- The line of a row, without its line end.
unfoldable pub line_of : Row → List ℕ
line_of r = commas (contents_of r)

-- The line of a row with its line end.
abbrev pub record_of : Row → List ℕ
record_of r = line_of r ++ CRLF []
