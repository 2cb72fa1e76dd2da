-- `extents_map::scan::has_no_marks` meets its contract.
use Rattle.std.proofs.Common.{◌*◌, ◌-◌, ◌≡◌, drop}
use Rattle.extents_meaning.specs.Maps.{space_in, runs_in, runs, no_marks}
use Rattle.extents_map.proofs.scan.has_no_marks.Given as goal

-- The map has no marks if the runs from run i on have none.
abbrev pub invariant-loop-i : goal.invariant-loop-i
invariant-loop-i l = no_marks (runs l.map) ≡ no_marks (runs_in (space_in l.map - l.i) (drop (4 * l.i) l.map))
