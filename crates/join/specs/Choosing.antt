-- What the chooser answers: what stands next in a file, whether its row waits by the table of messages, which record comes next, and its part.
use Rattle.std.specs.Prelude.{ℕ, ◌-◌, Bool, true, false, cond, not, ◌&&◌, ◌||◌, List, length, take, drop, eqb}
use Rattle.csv_records.specs.Reading.{Finding, nothing, malformed, past-limit, found, read_at, first_six}
use Rattle.rows.specs.declared.row.Row.{Row}
use Rattle.rows.specs.Kinds.{ARRIVAL}
use Rattle.rows.specs.Rows.{no_row}
use Rattle.messages.specs.Table.{is_sent, entry_for}
use Rattle.barriers.specs.Tables.{held_by}
use Rattle.trace_numbers.specs.Numbers.{fields_of, ReadRow, Kept, No}
use Rattle.trace_fields.specs.Reads.{judged_fields}

-- The number of the first file.
abbrev pub FIRST : ℕ
FIRST = 1

-- The number of the second file.
abbrev pub SECOND : ℕ
SECOND = 2

-- ---- What stands next in a file

-- What stands next in a file: whether there is a record, its row, where it starts, where it ends before its line end, and where the record
-- behind it starts.
pub record Next : Type 0 where
  pub some : Bool
  pub row : Row
  pub start : ℕ
  pub end : ℕ
  pub behind : ℕ

-- The record that comes next: the number of the file that holds it, where it starts there, and where it ends before its line end.
pub record Choice : Type 0 where
  pub file : ℕ
  pub start : ℕ
  pub end : ℕ

-- What comes next: nothing, since both files are at their end; nothing, since no next row can be taken; or a record.
pub data Turn : Type 0 where
  Over : Turn
  Stuck : Turn
  Take : Choice → Turn

-- Nothing stands next.
abbrev pub no_next : Next
no_next = record { some = false; row = no_row; start = 0; end = 0; behind = 0 }

-- A record from `at` to `end` stands next, and behind it the one at `next`, where its fields give a row.
unfoldable pub next_row : ℕ → ℕ → ℕ → ReadRow → Next
next_row at end next (Kept row) = record { some = true; row = row; start = at; end = end; behind = next }
next_row at end next (No number) = no_next

-- What stands next by what a reader finds at a place.
unfoldable pub next_found : ℕ → List ℕ → ℕ → Finding → Next
next_found processLimit text at nothing = no_next
next_found processLimit text at malformed = no_next
next_found processLimit text at past-limit = no_next
next_found processLimit text at (found spans end next) = next_row at end next (judged_fields processLimit (fields_of text (first_six spans)))

-- What stands at a place of a file.
unfoldable pub next_in : ℕ → List ℕ → ℕ → Next
next_in processLimit text at = next_found processLimit text at (read_at text at (length text))

-- What stands next in a file after a turn, by whether the turn took this file's record.
abbrev pub stepped : Bool → ℕ → List ℕ → Next → Next
stepped taken processLimit text x = cond taken (next_in processLimit text x.behind) x

-- ---- Which record comes next

-- A message arrives at the row that no row put to the table has sent.
unfoldable pub unsent_by : List ℕ → Row → Bool
unsent_by table r = eqb r.kind ARRIVAL && not (is_sent (entry_for table r))

-- A row waits by the tables: a message arrives at it that no row put to the table has sent, or its process stands at an unfinished barrier.
unfoldable pub waits_by : List ℕ → List ℕ → List ℕ → ℕ → Row → Bool
waits_by table stands arrivals processes r = unsent_by table r || held_by stands arrivals processes r

-- A file has a next row, and the row does not wait.
unfoldable pub ready_by : List ℕ → List ℕ → List ℕ → ℕ → Next → Bool
ready_by table stands arrivals processes x = x.some && not (waits_by table stands arrivals processes x.row)

-- The record that stands next in a file, as a choice.
abbrev pub choice_in : ℕ → Next → Choice
choice_in file x = record { file = file; start = x.start; end = x.end }

-- The turn: the first file's record where it is ready, else the second's where it is; else one waits, or both files are at their end.
unfoldable pub turn_by : List ℕ → List ℕ → List ℕ → ℕ → Next → Next → Turn
turn_by table stands arrivals processes a b =
    cond (ready_by table stands arrivals processes a) (Take (choice_in FIRST a))
    (cond (ready_by table stands arrivals processes b) (Take (choice_in SECOND b)) (cond (a.some || b.some) Stuck Over))

-- ---- The part handed over

-- The bytes of a text that a choice names.
abbrev pub cut_of : List ℕ → Choice → List ℕ
cut_of text c = take (c.end - c.start) (drop c.start text)

-- The bytes of the file that a choice names: the first where its number is that of the first, else the second.
unfoldable pub part_named : List ℕ → List ℕ → Choice → List ℕ
part_named first second c = cond (eqb c.file FIRST) (cut_of first c) (cut_of second c)
