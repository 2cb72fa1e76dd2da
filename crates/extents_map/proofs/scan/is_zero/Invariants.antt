-- `extents_map::scan::is_zero` meets its contract.
use Rattle.std.proofs.Common.{◌≡◌, ◌&&◌, drop}
use lib.Dec.{eqb}
use Rattle.extents_meaning.specs.Maps.{all_zero}
use Rattle.extents_map.proofs.scan.is_zero.Given as goal

-- All numbers are 0 if `bits` is 0 and those that are left are 0.
abbrev pub invariant-loop-number : goal.invariant-loop-number
invariant-loop-number l = all_zero l.numbers ≡ eqb l.bits 0 && all_zero (drop l.number-index l.numbers)
