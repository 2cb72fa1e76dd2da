-- `barriers::BarrierTable::first_out` meets its contract.
use Rattle.std.proofs.Common.{arith}
use Rattle.std.proofs.lemmas.Grind.{common_steps}
use Rattle.rows.proofs.Slices.{length-rows}
use Rattle.barriers.proofs.BarrierTable.first_out.Goals as goal

pub loop-row-init : goal.loop-row-init
loop-row-init c = let size = length-rows c.args.n c.args.rows.now in grind (arith, common_steps)
