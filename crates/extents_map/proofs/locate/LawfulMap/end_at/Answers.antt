-- `extents_map::locate::LawfulMap::end_at` meets its contract.
use Rattle.std.proofs.Common.{arith}
use Rattle.extents_map.proofs.Places.{here}
use Rattle.extents_map.proofs.locate.LawfulMap.end_at.Goals as goal

pub run_at-requires : goal.run_at-requires
run_at-requires c = let h = here c.args.self.numbers.now c.args.i c.args.self.lawful c.requires in omega arith

pub end-requires : goal.end-requires
end-requires c = let h = here c.args.self.numbers.now c.args.i c.args.self.lawful c.requires in omega arith

pub returns : goal.returns
returns c = let h = here c.args.self.numbers.now c.args.i c.args.self.lawful c.requires in omega arith
