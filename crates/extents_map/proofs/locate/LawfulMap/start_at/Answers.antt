-- `extents_map::locate::LawfulMap::start_at` meets its contract.
use Rattle.std.proofs.Common.{arith, ◌∙◌}
use Rattle.extents_map.proofs.Places.{here}
use Rattle.extents_map.proofs.locate.LawfulMap.start_at.Goals as goal

pub run_at-requires : goal.run_at-requires
run_at-requires c = let h = here c.args.self.numbers.now c.args.i c.args.self.lawful c.requires in omega arith

pub returns : goal.returns
returns c = let h = here c.args.self.numbers.now c.args.i c.args.self.lawful c.requires in c.run_at.ensures.start ∙ h.start
