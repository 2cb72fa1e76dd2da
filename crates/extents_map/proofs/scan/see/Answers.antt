-- `extents_map::scan::see` meets its contract.
use Rattle.std.proofs.Common.{ℕ, ◌+◌, ap, ◌∙◌, ◌≡◌, ◌/◌, arith, length}
use Rattle.extents_map.proofs.Looking.{passing-start, look_stop, look_end, look-cell, look-inside, look-before, look_in, look-on}
use Rattle.extents_map.proofs.scan.see.Goals as goal

pub loop-i-init : goal.loop-i-init
loop-i-init c = (passing-start c.requires, c.requires.below)

pub returns-then-run-eq0 : goal.returns-then-run-eq0
returns-then-run-eq0 c = look_stop c.loop-i.invariant.0 c.loop-i.invariant.1 c.run_at-run.ensures.length c.if-run-eq0.true

pub returns-then-x-run : goal.returns-then-x-run
returns-then-x-run c =
    let run = c.run_at-run.ensures in
    look-before c.loop-i.invariant.0 c.loop-i.invariant.1 run.length c.loop-i-test.true c.if-run-eq0.false run.start c.if-x-run.true

pub cell-requires : goal.cell-requires
cell-requires c =
    let run = c.run_at-run.ensures in
    omega (arith, look-cell c.loop-i.invariant.0 c.loop-i.invariant.1 run.length c.loop-i-test.true c.if-run-eq0.false)

pub end-requires : goal.end-requires
end-requires c =
    let run = c.run_at-run.ensures in
    omega (arith, look-inside c.loop-i.invariant.0 c.loop-i.invariant.1 run.length c.loop-i-test.true c.if-run-eq0.false)

pub returns-then-x-run-2 : goal.returns-then-x-run-2
returns-then-x-run-2 c =
    let run = c.run_at-run.ensures in
    look_in c.loop-i.invariant.0 c.loop-i.invariant.1 run.length c.loop-i-test.true c.if-run-eq0.false (omega arith) (omega arith) (omega arith)
    (c.end.ensures ∙ ap (λ (n : ℕ). n + c.run_at-run.result.length) run.start)

pub loop-i-preserved : goal.loop-i-preserved
loop-i-preserved c =
    (look-on c.loop-i.invariant.0 c.loop-i.invariant.1 c.run_at-run.ensures.length c.loop-i-test.true c.if-run-eq0.false (omega arith), c.loop-i.invariant.1)

pub returns : goal.returns
returns c =
    let e : length c.args.map.now / 4 ≡ c.loop-i.i = omega arith in
    rw e (look_end c.loop-i.invariant.0 c.loop-i.invariant.1 (omega arith))
