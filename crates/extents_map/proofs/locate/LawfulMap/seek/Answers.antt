-- `extents_map::locate::LawfulMap::seek` meets its contract.
use Rattle.std.proofs.Common.{arith}
use Rattle.extents_meaning.specs.Maps.{runs}
use Rattle.extents_meaning.proofs.Trips.{lawful-map}
use Rattle.extents_map.proofs.Looking.{passing-in}
use Rattle.extents_map.proofs.Parted.{same-behind}
use Rattle.extents_map.proofs.locate.LawfulMap.seek.Goals as goal

pub returns : goal.returns
returns c =
    let map = c.args.self in
    let past = c.first_past.ensures in
    let order = (lawful-map map.numbers.now map.lawful).lawful-runs.in_order in
    passing-in map.lawful past.within (λ b l. same-behind (runs map.numbers.now) order c.first_past.result past.within b (omega (arith, past.passed)))
