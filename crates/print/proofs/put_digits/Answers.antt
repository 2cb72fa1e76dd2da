-- `print::put_digits` meets its contract.
use Rattle.print.proofs.Laying.{spell_next, spell_done}
use Rattle.print.proofs.put_digits.Goals as goal

pub loop-i-preserved : goal.loop-i-preserved
loop-i-preserved c = spell_next c.loop-i.invariant c.loop-i-test.true c.digit.ensures

pub returns : goal.returns
returns c = spell_done c.loop-i.invariant c.loop-i-test.false
