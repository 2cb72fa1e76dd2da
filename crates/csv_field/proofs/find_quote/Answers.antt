-- `csv_field::find_quote` meets its contract.
use Rattle.csv_field.specs.FieldReading.{quotes}
use Rattle.std.proofs.Common.{true, drop, ℕ, ◌+◌, ◌-◌, eq-eqb, ne_eqb, arith, ◌≡◌, sym, ap, ◌∙◌}
use Rattle.csv_field.proofs.Steps.{quotes_byte, quotes_bad, quotes_two, quotes_close, quotes_end}
use Rattle.csv_field.proofs.find_quote.Goals as goal

pub returns-then-not-quote_at : goal.returns-then-not-quote_at
returns-then-not-quote_at c =
    let a = c.args in
    let l = c.loop-i in
    sym (l.invariant.1 ∙ quotes_close a.s.now l.i (l.i - a.at) l.doubled c.loop-i-test.true
    (eq-eqb _ _ c.if-b-eq34.true) (sym c.quote_at.ensures ∙ c.if-not-quote_at.true))

pub loop-i-preserved-then-b-eq34 : goal.loop-i-preserved-then-b-eq34
loop-i-preserved-then-b-eq34 c =
    let a = c.args in
    let l = c.loop-i in
    let s = a.s.now in
    let i = l.i in
    let e : i - a.at + 2 ≡ i + 2 - a.at = omega (arith, l.invariant.0) in
    let q = sym c.quote_at.ensures ∙ c.if-not-quote_at.false in (
      omega (arith, l.invariant.0),
      l.invariant.1 ∙ quotes_two s l.i (l.i - a.at) l.doubled c.loop-i-test.true
          (eq-eqb _ _ c.if-b-eq34.true) q ∙ ap (λ (n : ℕ). quotes n true (drop (i + 2) s)) e,
    )

pub returns-then-not-is_quoted : goal.returns-then-not-is_quoted
returns-then-not-is_quoted c =
    let a = c.args in
    let l = c.loop-i in
    sym (l.invariant.1 ∙ quotes_bad a.s.now l.i (l.i - a.at) l.doubled c.loop-i-test.true
    (ne_eqb _ _ c.if-b-eq34.false) (sym c.is_quoted.ensures ∙ c.if-not-is_quoted.true))

pub loop-i-preserved : goal.loop-i-preserved
loop-i-preserved c =
    let a = c.args in
    let l = c.loop-i in
    let s = a.s.now in
    let i = l.i in
    let e : i - a.at + 1 ≡ i + 1 - a.at = omega (arith, l.invariant.0) in
    let q = sym c.is_quoted.ensures ∙ c.if-not-is_quoted.false in (
      omega (arith, l.invariant.0),
      l.invariant.1 ∙ quotes_byte s l.i (l.i - a.at) l.doubled c.loop-i-test.true
          (ne_eqb _ _ c.if-b-eq34.false) q ∙ ap (λ (n : ℕ). quotes n l.doubled (drop (i + 1) s)) e,
    )

pub returns : goal.returns
returns c =
    let a = c.args in
    let l = c.loop-i in
    sym (l.invariant.1 ∙ quotes_end a.s.now l.i (l.i - a.at) l.doubled c.loop-i-test.false)
