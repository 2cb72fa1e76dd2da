-- `csv_records::read_fields` meets its contract.
use Rattle.csv_records.proofs.Going.{Going}
use Rattle.std.proofs.Common.{length, ◌-◌}
use Rattle.csv_records.proofs.read_fields.Given as goal

-- The record at the start has the fields read so far, whose spans are kept up to the sixth, and the fields from i on.
abbrev pub invariant-loop-count : goal.invariant-loop-count
invariant-loop-count l = Going l.s l.cut l.at l.spans l.count l.i

abbrev pub decreases-loop-count : goal.decreases-loop-count
decreases-loop-count l = length l.s - l.i
