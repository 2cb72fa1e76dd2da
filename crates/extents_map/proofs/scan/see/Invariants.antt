-- `extents_map::scan::see` meets its contract.
use Rattle.std.proofs.Common.{◌<◌}
use Rattle.rows.specs.Limits.{OFFSET_MAX}
use Rattle.extents_map.specs.Cursors.{Passing}
use Rattle.extents_map.proofs.scan.see.Given as goal

-- The runs from run `from` up to run i end at byte x or before.
abbrev pub invariant-loop-i : goal.invariant-loop-i
invariant-loop-i l = Passing l.map l.from l.x l.i × (l.x < OFFSET_MAX)
