-- `extents_pair::lacks` meets its contract.
use Rattle.std.proofs.Common.{◌-◌, arith, ap}
use lib.Dec.{ltb}
use Rattle.extents_meaning.specs.Cells.{refreshed}
use Rattle.extents_meaning.specs.Runs.{pieces_of}
use Rattle.extents_map.specs.Mixes.{mixed}
use Rattle.extents_pair.specs.InPairs.{view_in, below_in}
use Rattle.extents_pair.proofs.Rooms.{room-enough}
use Rattle.extents_pair.proofs.lacks.Goals as goal

pub returns-then-most_runs-room : goal.returns-then-most_runs-room
unfolding mixed
returns-then-most_runs-room c =
    let a = c.args in
    room-enough (refreshed (view_in a.pair a.maps.now) (below_in a.pair a.maps.now)) a.from (a.to - a.from) a.room
    (omega (arith, c.requires.rising.0, c.ranges.to)) (c.most_runs.ensures 0 0 0) (omega (arith, c.if-most_runs-room.true))

pub returns : goal.returns
unfolding mixed pieces_of
returns c = ap (ltb c.args.room) c.count.ensures
