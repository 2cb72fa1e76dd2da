-- `csv_field::skip_text` meets its contract.
use Rattle.csv_field.proofs.Steps.{run_on, run_off, run_end}
use Rattle.std.proofs.Common.{arith, sym, ◌∙◌}
use Rattle.csv_field.proofs.skip_text.Goals as goal

pub returns-then-not-is_text : goal.returns-then-not-is_text
returns-then-not-is_text c =
    let l = c.loop-i in
    omega (arith, l.invariant.0, run_off c.args.s.now l.i c.loop-i-test.true (sym c.is_text.ensures ∙ c.if-not-is_text.true))

pub loop-i-preserved : goal.loop-i-preserved
loop-i-preserved c =
    let l = c.loop-i in
    (omega (arith, l.invariant.0, run_on c.args.s.now l.i c.loop-i-test.true (sym c.is_text.ensures ∙ c.if-not-is_text.false)), omega (arith, c.loop-i-test.true))

pub returns : goal.returns
returns c =
    let l = c.loop-i in
    omega (arith, l.invariant.0, l.invariant.1, c.max.ensures, run_end c.args.s.now l.i c.loop-i-test.false)
