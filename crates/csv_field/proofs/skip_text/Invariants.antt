-- `csv_field::skip_text` meets its contract.
use Rattle.csv_field.specs.FieldReading.{text_length}
use Rattle.std.proofs.Common.{drop, length, max, ◌+◌, ◌≤◌, ◌≡◌}
use Rattle.csv_field.proofs.skip_text.Given as goal

-- The TEXTDATA from the start on ends where the TEXTDATA from i on ends, and i is at most the end.
abbrev pub invariant-loop-i : goal.invariant-loop-i
invariant-loop-i l = (l.at + text_length (drop l.at l.s) ≡ l.i + text_length (drop l.i l.s)) × (l.i ≤ max l.at (length l.s))
