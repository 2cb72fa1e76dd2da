-- `count` bytes stand at the front of `bytes`, whose length stays.
use Rattle.std.proofs.Common.{length, ◌-◌, ◌≤◌}
use Rattle.csv_vectors.proofs.decode.Given as goal

abbrev pub invariant-loop-at : goal.invariant-loop-at
invariant-loop-at l = l.count ≤ length l.bytes

abbrev pub decreases-loop-at : goal.decreases-loop-at
decreases-loop-at l = length l.line - l.at
