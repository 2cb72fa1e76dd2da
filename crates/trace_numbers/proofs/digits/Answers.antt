-- `trace_numbers::digits` meets its contract.
use Rattle.rows.proofs.Bools.{refused, passed}
use Rattle.trace_numbers.proofs.Numbers.{plain-some, number-start, number-none, digit_other, digit_on, digit_past, digits_end}
use Rattle.std.proofs.Common.{◌<◌, arith, sym, ◌∙◌, not, ap}
use Rattle.trace_numbers.proofs.digits.Goals as goal
use Rattle.trace_numbers.proofs.digits.Goals.{After-loop-b}

pub returns-then-not-starts_plain : goal.returns-then-not-starts_plain
returns-then-not-starts_plain c =
    let a = c.args in
    sym (number-none a.below a.s.now (refused c.starts_plain.ensures (ap not c.if-not-starts_plain.true)))

pub loop-b-init : goal.loop-b-init
loop-b-init c =
    let a = c.args in
    (omega arith, λ h. absurd (omega arith), number-start a.below a.s.now (passed c.starts_plain.ensures (ap not c.if-not-starts_plain.false)))

pub returns-then-not-is_ascii_digit : goal.returns-then-not-is_ascii_digit
returns-then-not-is_ascii_digit c =
    let a = c.args in
    let l = c.loop-b in
    sym (l.invariant.2 ∙ digit_other a.below l.v a.s.now l.b-index c.loop-b-test.true (sym c.is_ascii_digit.ensures.value ∙ c.if-not-is_ascii_digit.true))

pub returns-then-below-v : goal.returns-then-below-v
returns-then-below-v c =
    let a = c.args in
    let l = c.loop-b in
    sym (l.invariant.2 ∙ digit_past a.below l.v a.s.now l.b-index c.loop-b-test.true (sym c.is_ascii_digit.ensures.value ∙ c.if-not-is_ascii_digit.false) c.if-below-v.true)

pub loop-b-preserved : goal.loop-b-preserved
loop-b-preserved c =
    let a = c.args in
    let l = c.loop-b in
    (omega arith, λ h. c.if-below-v.false, l.invariant.2 ∙ digit_on a.below l.v a.s.now l.b-index c.loop-b-test.true (sym c.is_ascii_digit.ensures.value ∙ c.if-not-is_ascii_digit.false))

-- s has a byte, and the value after each byte is below the bound
last-below : (c : After-loop-b) → c.loop-b.v < c.args.below
last-below c =
    let s = c.args.s.now in
    let some = plain-some s (passed c.starts_plain.ensures (ap not c.if-not-starts_plain.false)) in
    c.loop-b.invariant.1 (omega arith)

pub overflow_cast-result : goal.overflow_cast-result
overflow_cast-result c = omega (arith, last-below (goal.at.overflow_cast-result c).After-loop-b)

pub returns : goal.returns
returns c =
    let a = c.args in
    let l = c.loop-b in
    sym (l.invariant.2 ∙ digits_end a.below l.v a.s.now l.b-index c.loop-b-test.false (last-below (goal.at.returns c).After-loop-b))
