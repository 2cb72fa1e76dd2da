-- `csv_field::find_quote` meets its contract.
use Rattle.csv_field.specs.FieldReading.{quotes}
use Rattle.std.proofs.Common.{false, length, drop, ◌-◌, ◌≤◌, ◌≡◌}
use Rattle.csv_field.proofs.find_quote.Given as goal

-- What the bytes from the start on hold is what the bytes from i on hold, with those before i counted.
abbrev pub invariant-loop-i : goal.invariant-loop-i
invariant-loop-i l = (l.at ≤ l.i) × (quotes 0 false (drop l.at l.s) ≡ quotes (l.i - l.at) l.doubled (drop l.i l.s))

abbrev pub decreases-loop-i : goal.decreases-loop-i
decreases-loop-i l = length l.s - l.i
