-- `extents::lookup` meets its contract.
use Rattle.extents.proofs.Entering.{untrue, lookup_unlawful}
use Rattle.std.proofs.Common.{arith}
use Rattle.extents.proofs.lookup.Goals as goal

pub returns-in_default : goal.returns-in_default
returns-in_default c = let a = c.args in lookup_unlawful a.map.now a.byte (omega arith) (untrue _ c.in_default.ensures.tested.1)
