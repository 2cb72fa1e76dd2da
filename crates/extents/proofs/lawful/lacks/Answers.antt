-- `extents::lawful::lacks` meets its contract.
use Rattle.std.proofs.Common.{◌-◌, arith, ap}
use lib.Dec.{ltb}
use Rattle.extents_meaning.specs.Maps.{bytes_of}
use Rattle.extents_pair.proofs.Rooms.{map_enough, map_counted}
use Rattle.extents.proofs.lawful.lacks.Goals as goal

pub returns-then-runs_in-room : goal.returns-then-runs_in-room
returns-then-runs_in-room c =
    let a = c.args in
    map_enough a.from (a.to - a.from) a.map.numbers.now a.room a.map.lawful (omega (arith, c.requires, c.ranges.to))
    c.runs_in.ensures (omega (arith, c.if-runs_in-room.true))

pub returns : goal.returns
returns c =
    let a = c.args in
    ap (ltb a.room) (map_counted a.from (a.to - a.from) (bytes_of a.map.numbers.now) (bytes_of a.map.numbers.now) c.count.ensures)
