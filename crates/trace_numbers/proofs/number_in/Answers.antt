-- `trace_numbers::number_in` meets its contract.
use Rattle.std.proofs.Common.{◌∙◌}
use Rattle.trace_numbers.proofs.Numbers.{number-used, ranged}
use Rattle.trace_numbers.proofs.number_in.Goals as goal

pub returns : goal.returns
returns c =
    let a = c.args in
    rw c.ok_or.ensures.value
    (ranged c.digits.result (c.digits.ensures ∙ number-used a.below a.text.now a.span c.raw.result.now c.raw.ensures c.if-not-used.false))
