-- `machine_state::files::replay` meets its contract.
use Rattle.std.proofs.Common.{ap, refl, sym, ◌∙◌}
use Rattle.machine_state.specs.Answers.{header_of, told_step}
use Rattle.machine_state.proofs.Replaying.{start, turn, refused-turn, finish, short, unlawful}
use Rattle.machine_state.proofs.files.replay.Goals as goal

pub returns-then-not-slices_fit : goal.returns-then-not-slices_fit
returns-then-not-slices_fit g c = short _ _ _ _ _ _ _ _ _ (sym c.slices_fit.ensures ∙ c.if-not-slices_fit.true)

pub returns-then-not-is_lawful : goal.returns-then-not-is_lawful
returns-then-not-is_lawful g c =
    unlawful _ _ _ _ _ _ _ _ _ (sym c.slices_fit.ensures ∙ c.if-not-slices_fit.false) (sym c.is_lawful.ensures ∙ c.if-not-is_lawful.true)

pub loop-k-init : goal.loop-k-init
loop-k-init g c = start (sym c.slices_fit.ensures ∙ c.if-not-slices_fit.false) (sym c.is_lawful.ensures ∙ c.if-not-is_lawful.false)

pub put-requires : goal.put-requires
put-requires g c = c.loop-k.invariant.lawful

pub returns-in-Err : goal.returns-in-Err
returns-in-Err g c =
    refused-turn (g.met.F.File.keeps (header_of c.args.machine)) c.loop-k.invariant c.loop-k-test.true c.row_at-row.ensures c.put.ensures refl
    c.in-Err.refusal (ap told_step c.in-Err.is)

pub loop-k-preserved : goal.loop-k-preserved
loop-k-preserved g c =
    turn (g.met.F.File.keeps (header_of c.args.machine)) c.loop-k.invariant c.loop-k-test.true c.row_at-row.ensures c.put.ensures refl
    c.in-Ok.listed (ap told_step c.in-Ok.is) c.unwrap_or-count.ensures c.put.auto.maps

pub returns : goal.returns
returns g c = finish c.loop-k.invariant c.loop-k.auto.k c.loop-k-test.false c.max.ensures
