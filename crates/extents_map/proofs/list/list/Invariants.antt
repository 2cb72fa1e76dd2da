-- `extents_map::list::list` meets its contract.
use Rattle.std.proofs.Common.{◌-◌}
use Rattle.extents_map.specs.Cursors.{Passing}
use Rattle.extents_map.proofs.Listing.{Listing, values_of}
use Rattle.extents_map.proofs.list.list.Given as goal

-- The pieces before the one in hand are in place, its bytes up to x have its value, and the cursor i serves from x on.
abbrev pub invariant-loop-x : goal.invariant-loop-x
invariant-loop-x l = Listing (values_of l.map.numbers.now) l.from l.to l.initial.out l.out l.x l.hand × Passing l.map.numbers.now 0 l.x l.i

abbrev pub decreases-loop-x : goal.decreases-loop-x
decreases-loop-x l = l.to - l.x
