-- `extents_map::scan::is_zero` meets its contract.
use Rattle.std.proofs.Common.{sym, ◌∙◌, arith}
use Rattle.extents_map.proofs.Scanning.{zero_end, zero_on}
use Rattle.extents_map.proofs.scan.is_zero.Goals as goal

pub loop-number-preserved : goal.loop-number-preserved
loop-number-preserved c = c.loop-number.invariant ∙ zero_on c.args.numbers.now c.loop-number.bits c.loop-number.number-index (omega arith)

pub returns : goal.returns
returns c = sym (c.loop-number.invariant ∙ zero_end c.args.numbers.now c.loop-number.bits c.loop-number.number-index (omega arith))
