-- `machine_layered::are_lawful` meets its contract.
use Rattle.machine_state.proofs.Maps.{all_none, all_more, all-not}
use Rattle.machine_layered.proofs.Laying.{lent-lawful}
use Rattle.std.proofs.Common.{sym, ◌∙◌, suc, ◌*◌, take, drop}
use Rattle.extents_meaning.specs.Maps.{lawful}
use Rattle.machine_layered.proofs.are_lawful.Goals as goal

pub loop-p-init : goal.loop-p-init
loop-p-init c = let a = c.args in all_none (λ q. lawful (take a.size (drop (suc q * a.size) a.maps.now)))

pub returns-then-not-is_lawful : goal.returns-then-not-is_lawful
returns-then-not-is_lawful c =
    let a = c.args in
    sym (all-not a.n (λ q. lawful (take a.size (drop (suc q * a.size) a.maps.now))) c.loop-p.p c.loop-p-test.true
    (lent-lawful a.size c.loop-p.p a.maps.now c.is_lawful.result c.is_lawful.ensures ∙ c.if-not-is_lawful.true))

pub loop-p-preserved : goal.loop-p-preserved
loop-p-preserved c =
    let a = c.args in
    all_more c.loop-p.p (λ q. lawful (take a.size (drop (suc q * a.size) a.maps.now))) c.loop-p.invariant
    (lent-lawful a.size c.loop-p.p a.maps.now c.is_lawful.result c.is_lawful.ensures ∙ c.if-not-is_lawful.false)
