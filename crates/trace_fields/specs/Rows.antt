-- Rows of a trace: kinds and their words, the fields that a kind uses, and the row that a record stands for.
use Rattle.std.specs.Prelude.{ℕ, ◌+◌, Bool, true, false, cond, ◌&&◌, List, [], ◌∷◌, get_or, Option, Some, None}
use Rattle.csv_content.specs.Content.{same_bytes}
use Rattle.rows.specs.declared.row.Row.{Row}
use Rattle.rows.specs.declared.kind.Kind.{Kind}
use Rattle.rows.specs.Kinds.{KINDS, kind_number}
use Rattle.trace_numbers.specs.declared.Used.{Used}
use Rattle.trace_numbers.specs.Numbers.{value, field}

-- ---- Kinds

-- the kinds' words, by number, in small letters
abbrev pub kind_words : List (List ℕ)
kind_words =
    (114 ∷ 101 ∷ 97 ∷ 100 ∷ [])  -- read
    ∷ (119 ∷ 114 ∷ 105 ∷ 116 ∷ 101 ∷ [])  -- write
    ∷ (99 ∷ 111 ∷ 109 ∷ 109 ∷ 105 ∷ 116 ∷ [])  -- commit
    ∷ (111 ∷ 112 ∷ 101 ∷ 110 ∷ [])  -- open
    ∷ (99 ∷ 108 ∷ 111 ∷ 115 ∷ 101 ∷ [])  -- close
    ∷ (115 ∷ 121 ∷ 110 ∷ 99 ∷ [])  -- sync
    ∷ (115 ∷ 101 ∷ 110 ∷ 100 ∷ [])  -- send
    ∷ (114 ∷ 101 ∷ 99 ∷ 118 ∷ [])  -- recv
    ∷ (119 ∷ 97 ∷ 105 ∷ 116 ∷ [])  -- wait
    ∷ (98 ∷ 97 ∷ 114 ∷ 114 ∷ 105 ∷ 101 ∷ 114 ∷ [])  -- barrier
    ∷ []

-- the word that stands for a kind in a trace
abbrev pub word : Kind → List ℕ
word kind = get_or kind_words (kind_number kind) []

-- the place of the first word that is the content, and the number of words where none is
unfoldable pub word_of : List (List ℕ) → List ℕ → ℕ
word_of [] content = 0
word_of (w ∷ ws) content = cond (same_bytes content w) 0 (word_of ws content + 1)

-- the number of a kind's word, and KINDS for any other content
abbrev pub kind_of : List ℕ → ℕ
kind_of content = word_of kind_words content

-- the number of the kind that an answer gives, and KINDS where it gives none
abbrev pub told_kind : Option Kind → ℕ
told_kind (Some kind) = kind_number kind
told_kind None = KINDS

-- the header's names
abbrev pub header_names : List (List ℕ)
header_names =
    (112 ∷ 114 ∷ 111 ∷ 99 ∷ 101 ∷ 115 ∷ 115 ∷ [])  -- process
    ∷ (107 ∷ 105 ∷ 110 ∷ 100 ∷ [])  -- kind
    ∷ (102 ∷ 105 ∷ 108 ∷ 101 ∷ [])  -- file
    ∷ (111 ∷ 102 ∷ 102 ∷ 115 ∷ 101 ∷ 116 ∷ [])  -- offset
    ∷ (108 ∷ 101 ∷ 110 ∷ 103 ∷ 116 ∷ 104 ∷ [])  -- length
    ∷ (109 ∷ 101 ∷ 115 ∷ 115 ∷ 97 ∷ 103 ∷ 101 ∷ [])  -- message
    ∷ []

-- two lists have equal contents, place by place
unfoldable pub same_fields : List (List ℕ) → List (List ℕ) → Bool
same_fields [] [] = true
same_fields [] (w ∷ ws) = false
same_fields (f ∷ fs) [] = false
same_fields (f ∷ fs) (w ∷ ws) = same_bytes f w && same_fields fs ws

-- ---- The fields that a kind uses besides process and kind

-- the file and its range
abbrev pub range_used : Used
range_used = record { file = true; range = true; message = false }

-- the file alone
abbrev pub file_used : Used
file_used = record { file = true; range = false; message = false }

-- the message
abbrev pub message_used : Used
message_used = record { file = false; range = false; message = true }

-- no field
abbrev pub none_used : Used
none_used = record { file = false; range = false; message = false }

-- the used fields by the kind's number
abbrev pub used_table : List Used
used_table =
    range_used  -- read
    ∷ range_used  -- write
    ∷ file_used  -- commit
    ∷ file_used  -- open
    ∷ file_used  -- close
    ∷ file_used  -- sync
    ∷ message_used  -- send
    ∷ message_used  -- recv
    ∷ message_used  -- wait
    ∷ message_used  -- barrier
    ∷ []

-- the fields that a kind uses; a number that is no kind's uses none
unfoldable pub used_by : ℕ → Used
used_by kind = get_or used_table kind none_used

-- ---- Rows

-- The row of a record that passes the questions. A field that the kind does not use is empty, and its number 0.
unfoldable pub row_of : List (List ℕ) → Row
row_of fields =
    record {
      process = value (field fields 0);
      kind = kind_of (field fields 1);
      file = value (field fields 2);
      offset = value (field fields 3);
      length = value (field fields 4);
      message = value (field fields 5);
    }
