-- `extents_map::scan::has_no_marks` meets its contract.
use Rattle.std.proofs.Common.{◌-◌, ◌%◌, arith, ◌≡◌, sym, ◌∙◌, eq-eqb, ne_eqb}
use Rattle.extents_meaning.specs.Maps.{space_in, runs_in, no_marks}
use Rattle.extents_meaning.proofs.Trips.{run_at, read-stop, read-on}
use Rattle.extents_map.proofs.scan.has_no_marks.Goals as goal

pub returns-then-run-eq0 : goal.returns-then-run-eq0
unfolding no_marks
returns-then-run-eq0 c = sym (c.loop-i.invariant ∙ rw (read-stop _ _ _ (sym c.run_at-run.ensures.length ∙ c.if-run-eq0.true)))

pub returns-then-run-eq1 : goal.returns-then-run-eq1
unfolding no_marks
returns-then-run-eq1 c =
    let map = c.args.map.now in
    let i = c.loop-i.i in
    let more = read-on (space_in map) i map c.loop-i-test.true (λ z. c.if-run-eq0.false (c.run_at-run.ensures.length ∙ z)) in
    sym (c.loop-i.invariant ∙ rw (more, eq-eqb ((run_at i map).cell % 2) 1 (omega arith)))

pub loop-i-preserved : goal.loop-i-preserved
unfolding no_marks
loop-i-preserved c =
    let map = c.args.map.now in
    let i = c.loop-i.i in
    let more = read-on (space_in map) i map c.loop-i-test.true (λ z. c.if-run-eq0.false (c.run_at-run.ensures.length ∙ z)) in
    c.loop-i.invariant ∙ rw (more, ne_eqb ((run_at i map).cell % 2) 1 (λ e. omega (arith, e)))

pub returns : goal.returns
unfolding no_marks runs_in
returns c =
    let e : space_in c.args.map.now - c.loop-i.i ≡ 0 = omega arith in
    sym (c.loop-i.invariant ∙ rw e)
