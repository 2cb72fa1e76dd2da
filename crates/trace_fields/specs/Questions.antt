-- The questions 8 to 11, which are put to the fields of one record, each one definition, in document 01's order; the first No decides.
use Rattle.std.specs.Prelude.{ℕ, ◌+◌, Bool, true, false, not, ◌&&◌, List, [], ◌∷◌, leb, ltb}
use Rattle.csv_content.specs.Content.{is_nil}
use Rattle.rows.specs.Limits.{FILES, MESSAGES, OFFSET_MAX}
use Rattle.rows.specs.declared.row.Row.{Row}
use Rattle.trace_numbers.specs.Numbers.{is_number, field, number_if, OFFSETS}
use Rattle.trace_fields.specs.Rows.{kind_of, used_by, row_of}
use Rattle.rows.specs.Kinds.{KINDS}
use Rattle.rows.specs.Questions.{Question}

-- 8. Is the kind known?
abbrev pub kind_known : List (List ℕ) → Bool
kind_known fields = ltb (kind_of (field fields 1)) KINDS

-- filled where used, and empty where not
abbrev pub as_used : Bool → List ℕ → Bool
as_used true content = not (is_nil content)
as_used false content = is_nil content

-- 9. Are the used fields filled and the unused empty?
unfoldable pub filled_as_used : List (List ℕ) → Bool
filled_as_used fields =
    let u = used_by (kind_of (field fields 1)) in
    as_used true (field fields 0)
    && (as_used u.file (field fields 2)
    && (as_used u.range (field fields 3) && (as_used u.range (field fields 4) && as_used u.message (field fields 5))))

-- 10. Is each number plain and within its range?
unfoldable pub numbers_in_range : ℕ → List (List ℕ) → Bool
numbers_in_range processLimit fields =
    let u = used_by (kind_of (field fields 1)) in
    is_number processLimit (field fields 0)
    && (number_if u.file FILES (field fields 2)
    && (number_if u.range OFFSETS (field fields 3)
    && (number_if u.range OFFSETS (field fields 4) && number_if u.message MESSAGES (field fields 5))))

-- 11. Is offset + length at most 4,294,967,295?
abbrev pub end_in_range : Row → Bool
end_in_range r = leb (r.offset + r.length) OFFSET_MAX

-- the questions 8 to 11
unfoldable pub field_questions : ℕ → List (List ℕ) → List Question
field_questions processLimit fields =
    record { number = 8; yes = kind_known fields }
    ∷ (record { number = 9; yes = filled_as_used fields }
    ∷ (record { number = 10; yes = numbers_in_range processLimit fields }
    ∷ (record { number = 11; yes = end_in_range (row_of fields) } ∷ [])))
