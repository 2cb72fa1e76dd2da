-- What a reader finds of records: the functions that the contracts cite. proofs/Grammar.antt proves that a reader finds exactly what the
-- grammar derives.
use Rattle.std.specs.Prelude.{ℕ, suc, zero, ◌+◌, Bool, cond, List, [], ◌∷◌, ◌++◌, map, length, take, replicate, ltb, Option, Some, None, Result, Ok, Err}
use Rattle.csv_field.specs.FieldReading.{no_span, field_at}
use Rattle.csv_field.specs.declared.Span.{Span}
use Rattle.csv_field.specs.declared.Stop.{Stop}
use Rattle.csv_field.specs.declared.Stop.TheVariants.{Comma, LineEnd, TextEnd, Bad, Cut}
use Rattle.csv_content.specs.Content.{content_of}
use Rattle.csv_records.specs.declared.Record.{Record as Whole}
use Rattle.csv_records.specs.declared.Unread.{Unread}
use Rattle.csv_records.specs.declared.Unread.TheVariants as unread

-- What a reader finds at a place: no record, since the text ends there; a malformed record; the limit before the record is decided; or a
-- record, with the spans of its fields, the end before its line end, and the place of the next record.
pub data Finding : Type 0 where
  nothing malformed past-limit : Finding
  found : (spans : List Span) (end next : ℕ) → Finding

-- a finding with one more field in front
unfoldable pub prepend : Span → Finding → Finding
prepend span nothing = nothing
prepend span malformed = malformed
prepend span past-limit = past-limit
prepend span (found spans end next) = found (span ∷ spans) end next

-- what a reader finds behind a field, by what follows the field; `rest` reads on at a place
unfoldable pub on_stop : Stop → Span → ℕ → (ℕ → Finding) → Finding
on_stop Comma span end rest = prepend span (rest (end + 1))
on_stop LineEnd span end rest = found (span ∷ []) end (end + 2)
on_stop TextEnd span end rest = found (span ∷ []) end end
on_stop Bad span end rest = malformed
on_stop Cut span end rest = past-limit

-- The fields from a place on. The first number bounds how many; a number larger than the bytes' number changes nothing.
unfoldable pub fields_from : ℕ → List ℕ → Bool → ℕ → Finding
fields_from zero s cut at = malformed
fields_from (suc k) s cut at =
    let c = field_at s cut at in
    on_stop c.stop c.span c.end (λ p. fields_from k s cut p)

-- The record at a place of the bytes that may be looked at.
abbrev pub record_in : List ℕ → Bool → ℕ → Finding
record_in s cut at = fields_from (suc (length s)) s cut at

-- The record at a place, by a reader that looks at no byte past the limit.
unfoldable pub read_at : List ℕ → ℕ → ℕ → Finding
read_at text at limit =
    cond (ltb at (length text))
    (record_in (take limit text) (ltb limit (length text)) at)
    nothing

-- the first six spans, and empty ones where there are fewer
abbrev pub first_six : List Span → List Span
first_six spans = take 6 (spans ++ replicate 6 no_span)

-- What stands at a place: no record, since the text ends there; a malformed record; a record that only a byte past the limit could
-- decide; a whole record.
pub data Status : Type 0 where
  End Malformed Limit Record : Status

-- The record at a place: the number of fields, the spans of the first six, the end before the line end, and the place of the next record.
pub record Reading : Type 0 where
  pub status : Status
  pub count : ℕ
  pub spans : List Span
  pub end : ℕ
  pub next : ℕ

-- a reading without a record: 0 throughout
abbrev pub without : Status → Reading
without status = record { status = status; count = 0; spans = first_six []; end = 0; next = 0 }

-- a reading of a record by its numbers and its kept spans
abbrev pub whole_record : ℕ → List Span → ℕ → ℕ → Reading
whole_record count spans end next = record { status = Record; count = count; spans = spans; end = end; next = next }

-- what an answer says of the fields of a record
abbrev pub told_fields : Result Whole Unread → Reading
told_fields (Ok r) = whole_record r.count r.spans r.end r.next
told_fields (Err unread.Malformed) = without Malformed
told_fields (Err unread.Limit) = without Limit

-- what an answer says of a place of a text
abbrev pub told_reading : Result (Option Whole) Unread → Reading
told_reading (Ok None) = without End
told_reading (Ok (Some r)) = told_fields (Ok r)
told_reading (Err e) = told_fields (Err e)

-- the reading of a finding
unfoldable pub reading_of : Finding → Reading
reading_of nothing = without End
reading_of malformed = without Malformed
reading_of past-limit = without Limit
reading_of (found spans end next) =
    record { status = Record; count = length spans; spans = first_six spans; end = end; next = next }

-- how the records of a text end: the reader read all of the text, the next record is malformed, or the limit cuts the next record
pub data Ending : Type 0 where
  all_read at-malformed at-limit : Ending

-- the records of a text up to its first malformed one, each field by its content
pub record Records : Type 0 where
  pub rows : List (List (List ℕ))
  pub ending : Ending

-- the records from a finding on; `rest` reads on at a place
unfoldable pub on_found : List ℕ → Finding → (ℕ → Records) → Records
on_found text nothing rest = record { rows = []; ending = all_read }
on_found text malformed rest = record { rows = []; ending = at-malformed }
on_found text past-limit rest = record { rows = []; ending = at-limit }
on_found text (found spans end next) rest =
    let r = rest next in
    record { rows = map (content_of text) spans ∷ r.rows; ending = r.ending }

-- The records from a place on. The first number bounds how many; a number larger than the bytes' number changes nothing.
unfoldable pub records_from : ℕ → List ℕ → ℕ → ℕ → Records
records_from zero text limit at = record { rows = []; ending = all_read }
records_from (suc k) text limit at = on_found text (read_at text at limit) (λ p. records_from k text limit p)

-- all records of a text
unfoldable pub records : List ℕ → ℕ → Records
records text limit = records_from (suc (length text)) text limit 0
