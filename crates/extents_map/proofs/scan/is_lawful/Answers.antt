-- `extents_map::scan::is_lawful` meets its contract.
use Rattle.std.proofs.Common.{◌*◌, ◌-◌, arith, ◌≡◌, sym, ap, ◌∙◌, length, drop, length-drop, eq-eqb, ne_eqb}
use Rattle.std.proofs.lemmas.List.{take_all}
use native.Mathlib.Nat.{sub-zero}
use Rattle.extents_meaning.specs.Maps.{space_in, all_zero, lawful_from, lawful}
use Rattle.extents_meaning.proofs.Trips.{scan_stop, scan_bad, scan_on}
use Rattle.extents_map.proofs.Scanning.{follows_read}
use Rattle.extents_map.proofs.scan.is_lawful.Goals as goal

pub returns-then-map-ne0 : goal.returns-then-map-ne0
unfolding lawful
returns-then-map-ne0 c = rw (ne_eqb _ 0 c.if-map-ne0.true)

pub loop-i-init : goal.loop-i-init
unfolding lawful
loop-i-init c = rw (eq-eqb _ 0 c.if-map-ne0.false, sub-zero)

pub returns-then-run-eq0 : goal.returns-then-run-eq0
returns-then-run-eq0 c =
    let z = sym c.run_at-run.ensures.length ∙ c.if-run-eq0.true in
    let xs = c.args.map.now in
    let all = take_all (length xs - 4 * c.loop-i.i) (drop (4 * c.loop-i.i) xs) (omega (arith, length-drop (4 * c.loop-i.i) xs)) in
    c.is_zero.ensures ∙ ap all_zero all ∙ sym (c.loop-i.invariant ∙ scan_stop _ _ _ c.loop-i-test.true _ _ z)

pub returns-then-not-may_follow : goal.returns-then-not-may_follow
returns-then-not-may_follow c =
    let run = c.run_at-run.ensures in
    let bad = follows_read c.args.map.now c.loop-i.i _ _ c.may_follow.ensures run.start run.length run.number run.mark ∙ c.if-not-may_follow.true in
    sym (c.loop-i.invariant ∙ scan_bad _ _ _ c.loop-i-test.true _ _ (λ z. c.if-run-eq0.false (run.length ∙ z)) bad)

pub loop-i-preserved : goal.loop-i-preserved
loop-i-preserved c =
    let run = c.run_at-run.ensures in
    let good = follows_read c.args.map.now c.loop-i.i _ _ c.may_follow.ensures run.start run.length run.number run.mark ∙ c.if-not-may_follow.false in
    rw (c.end-end.ensures, c.cell-cell.ensures, run.start, run.length, run.number, run.mark)
    (c.loop-i.invariant ∙ scan_on _ _ _ c.loop-i-test.true _ _ (λ z. c.if-run-eq0.false (run.length ∙ z)) good)

pub returns : goal.returns
unfolding lawful_from
returns c =
    let e : space_in c.args.map.now - c.loop-i.i ≡ 0 = omega arith in
    sym (c.loop-i.invariant ∙ rw e)
