-- `print::put` meets its contract.
use Rattle.print.proofs.Laying.{Copying}
use Rattle.print.proofs.put.Given as goal

-- The first i bytes lie in their places, and all other bytes are as they were.
abbrev pub invariant-loop-i : goal.invariant-loop-i
invariant-loop-i l = Copying l.initial.out l.at l.bytes l.out l.i
