-- `extents_lay::first_behind` meets its contract.
use Rattle.extents_meaning.specs.Maps.{runs}
use Rattle.extents_map.proofs.Parted.{Reaching}
use Rattle.extents_lay.proofs.first_behind.Given as goal

-- The range meets the runs from run `first` to run i.
abbrev pub invariant-loop-i : goal.invariant-loop-i
invariant-loop-i l = Reaching (runs l.map.numbers.now) l.first l.end l.i
