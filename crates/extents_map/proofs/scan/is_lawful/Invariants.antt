-- `extents_map::scan::is_lawful` meets its contract.
use Rattle.std.proofs.Common.{◌*◌, ◌-◌, ◌≡◌, drop}
use Rattle.extents_meaning.specs.Maps.{lawful_from, lawful}
use Rattle.extents_map.proofs.scan.is_lawful.Given as goal

-- The map is lawful if the runs from run i on are lawful behind a run that ends at `end` with the cell `cell`.
abbrev pub invariant-loop-i : goal.invariant-loop-i
invariant-loop-i l = lawful l.map ≡ lawful_from (l.space - l.i) l.end l.cell (drop (4 * l.i) l.map)
