-- `print::put_digits` meets its contract.
use Rattle.print.proofs.Laying.{Spelling}
use Rattle.print.proofs.put_digits.Given as goal

-- The digits from index i on lie in their places, and `rest` is the number without them.
abbrev pub invariant-loop-i : goal.invariant-loop-i
invariant-loop-i l = Spelling l.initial.out l.at l.n l.width l.out l.i l.rest
