-- `print::put` meets its contract.
use Rattle.std.proofs.Common.{arith}
use Rattle.print.proofs.Laying.{copy_start, copy_next, copy_done}
use Rattle.print.proofs.put.Goals as goal

pub loop-i-init : goal.loop-i-init
loop-i-init c = copy_start _ _ _ (omega arith)

pub loop-i-preserved : goal.loop-i-preserved
loop-i-preserved c = copy_next c.loop-i.invariant c.loop-i-test.true

pub returns : goal.returns
returns c = let both = copy_done c.loop-i.invariant c.loop-i-test.false in record { answer = both.0; left = both.1 }
