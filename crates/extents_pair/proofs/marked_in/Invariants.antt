-- `extents_pair::marked_in` meets its contract.
use Rattle.std.proofs.Common.{◌+◌, ◌*◌, ◌≤◌, ◌≡◌, length, drop}
use Rattle.extents_meaning.specs.Maps.{runs}
use Rattle.extents_pair.specs.Marks.{marked}
use Rattle.extents_pair.proofs.marked_in.Given as goal

-- The slice has four numbers for each run, and the unpublished runs are the n found so far and those from run i on.
abbrev pub invariant-loop-i : goal.invariant-loop-i
invariant-loop-i l = (4 * l.all ≤ length l.numbers) × (l.n + length (marked (drop l.i (runs l.numbers))) ≡ length (marked (runs l.numbers)))
