-- Plain numbers, the fields of a record by place, and what reading the numbers of a record answers.
use Rattle.std.specs.Prelude.{ℕ, ◌+◌, ◌*◌, ◌-◌, Bool, true, false, cond, not, ◌&&◌, ◌||◌, List, [], ◌∷◌, map, get_or, ltb, eqb, ◌≡◌, Option, Some, None, Result, Ok, Err, MatchResult}
use Rattle.csv_field.specs.FieldReading.{byte_between}
use Rattle.csv_field.specs.declared.Span.{Span}
use Rattle.csv_content.specs.Content.{is_nil, content_of}
use Rattle.rows.specs.Limits.{FILES, MESSAGES, OFFSET_MAX}
use Rattle.rows.specs.declared.row.Row.{Row}
use Rattle.rows.specs.declared.refusal.Refusal.{Refusal}
use Rattle.rows.specs.declared.refusal.Refusal.TheVariants.{Range}
use Rattle.rows.specs.Refusals.{number_of}
use Rattle.trace_numbers.specs.declared.Used.{Used}

-- ---- Numbers

-- decimal digits alone
unfoldable pub all_digits : List ℕ → Bool
all_digits [] = true
all_digits (b ∷ t) = byte_between 0x30 0x39 b && all_digits t

-- at least one byte, and no leading zero; 0 itself is "0"
unfoldable pub starts_plain : List ℕ → Bool
starts_plain [] = false
starts_plain (b ∷ t) = not (eqb b 0x30) || is_nil t

-- a plain number
abbrev pub is_plain : List ℕ → Bool
is_plain content = starts_plain content && all_digits content

-- the value of digits behind a value; that of no digits is 0
unfoldable pub value_from : ℕ → List ℕ → ℕ
value_from v [] = v
value_from v (b ∷ t) = value_from (v * 10 + (b - 0x30)) t

-- the value of a plain number
abbrev pub value : List ℕ → ℕ
value content = value_from 0 content

-- a plain number below a bound
abbrev pub is_number : ℕ → List ℕ → Bool
is_number below content = is_plain content && ltb (value content) below

-- a number below its bound, or bytes that are no such number
pub data Number : Type 0 where
  Plain : ℕ → Number
  Bad : Number

-- the number that an answer gives
abbrev pub told_number : Option ℕ → Number
told_number (Some n) = Plain n
told_number None = Bad

-- the number that a content is, and Bad where it is none
unfoldable pub number_below : ℕ → List ℕ → Number
number_below below content = cond (is_number below content) (Plain (value content)) Bad

-- ---- The numbers of a record

-- a field of a record by its place, empty where the record has none there
abbrev pub field : List (List ℕ) → ℕ → List ℕ
field fields k = get_or fields k []

-- the contents of spans
abbrev pub fields_of : List ℕ → List Span → List (List ℕ)
fields_of text spans = map (content_of text) spans

-- the bound of an offset and of a length, one more than the largest
abbrev pub OFFSETS : ℕ
OFFSETS = OFFSET_MAX + 1

-- a field that is not used has no number to judge
abbrev pub number_if : Bool → ℕ → List ℕ → Bool
number_if true below content = is_number below content
number_if false below content = true

-- the number of a used field, 0 of any other
abbrev pub number_where : Bool → ℕ → List ℕ → Number
number_where used below content = cond used (number_below below content) (Plain 0)

-- what the question of one number answers: the number, or the No to question 10
abbrev pub Ranged : Number → Result ℕ Refusal → Type 0
Ranged number answer = MatchResult answer (λ n. Plain n ≡ number) (λ refusal. (Bad ≡ number) × (refusal ≡ Range))

-- question 10 for given used fields
unfoldable pub ranged_as : Used → ℕ → List (List ℕ) → Bool
ranged_as u processLimit fields =
    is_number processLimit (field fields 0)
    && (number_if u.file FILES (field fields 2)
    && (number_if u.range OFFSETS (field fields 3)
    && (number_if u.range OFFSETS (field fields 4) && number_if u.message MESSAGES (field fields 5))))

-- the value of a used field, 0 of any other
abbrev pub value_if : Bool → List ℕ → ℕ
value_if true content = value content
value_if false content = 0

-- the row of a kind and the numbers of given used fields
abbrev pub row_using : ℕ → Used → List (List ℕ) → Row
row_using kind u fields =
    record {
      process = value (field fields 0);
      kind = kind;
      file = value_if u.file (field fields 2);
      offset = value_if u.range (field fields 3);
      length = value_if u.range (field fields 4);
      message = value_if u.message (field fields 5);
    }

-- a record's row, or the number of the question that was answered No
pub data ReadRow : Type 0 where
  Kept : Row → ReadRow
  No : ℕ → ReadRow

-- the row or the number that an answer gives
abbrev pub told_row : Result Row Refusal → ReadRow
told_row (Ok row) = Kept row
told_row (Err refusal) = No (number_of refusal)

-- the row, or the No to question 10
unfoldable pub read_numbers : ℕ → Used → ℕ → List (List ℕ) → ReadRow
read_numbers kind u processLimit fields = cond (ranged_as u processLimit fields) (Kept (row_using kind u fields)) (No 10)
