-- `extents_weave::step_at` meets its contract.
use Rattle.std.proofs.Common.{sym, ◌∙◌}
use Rattle.extents_weave.proofs.Stepping.{step-plain, step_same, step-none, step-taken}
use Rattle.extents_weave.proofs.step_at.Goals as goal

pub returns-then-not-KEEPS : goal.returns-then-not-KEEPS
returns-then-not-KEEPS g c =
    step-plain c.args.map.now c.args.i c.args.other.now c.args.j g.M.Mode.meaning c.args.range c.args.hand g.W.Walk.KEEPS c.args.x c.see_both-s.result c.requires.0.below c.requires.2 c.see_both-s.ensures
    c.becomes-here.ensures (sym c.KEEPS.ensures ∙ c.if-not-KEEPS.true)

pub returns-then-becomes-here : goal.returns-then-becomes-here
returns-then-becomes-here g c =
    step_same c.args.map.now c.args.i c.args.other.now c.args.j g.M.Mode.meaning c.args.range c.args.hand g.W.Walk.KEEPS c.args.x c.see_both-s.result c.requires.0.below c.requires.2 c.see_both-s.ensures
    (sym c.KEEPS.ensures ∙ c.if-not-KEEPS.false) c.becomes-here.ensures c.becomes-bare.ensures c.becomes.ensures c.if-becomes-here.true

pub returns-then-bare-here : goal.returns-then-bare-here
returns-then-bare-here g c =
    step-none c.args.map.now c.args.i c.args.other.now c.args.j g.M.Mode.meaning c.args.range c.args.hand g.W.Walk.KEEPS c.args.x c.see_both-s.result c.requires.0.below c.requires.2 c.see_both-s.ensures
    (sym c.KEEPS.ensures ∙ c.if-not-KEEPS.false) c.becomes-here.ensures c.becomes-bare.ensures c.becomes.ensures c.if-becomes-here.false c.if-bare-here.true

pub returns : goal.returns
returns g c =
    step-taken c.args.map.now c.args.i c.args.other.now c.args.j g.M.Mode.meaning c.args.range c.args.hand g.W.Walk.KEEPS c.args.x c.see_both-s.result c.requires.0.below c.requires.2 c.see_both-s.ensures
    (sym c.KEEPS.ensures ∙ c.if-not-KEEPS.false) c.becomes-here.ensures c.becomes-bare.ensures c.becomes.ensures c.if-becomes-here.false c.if-bare-here.false
