-- `extents_refresh::mark_published` meets its contract.
use Rattle.std.proofs.Common.{arith, refl}
use Rattle.extents_refresh.proofs.Viewing.{ViewCleared, cleared-end, cleared-two, cleared-own, cleared-fits, cleared-woven}
use Rattle.extents_refresh.proofs.mark_published.Goals as goal
use Rattle.extents_refresh.proofs.mark_published.Goals.{After-clear_marks-left}

-- the maps when the marks are cleared
part : (c : After-clear_marks-left) → let a = c.args in let p = a.pair in
    ViewCleared p.space p.view p.below a.maps.now c.clear_marks-left.result c.clear_marks-left.new.map
part c = record { two = c.requires.0; marks = c.clear_marks-left.ensures }

pub returns-then-left-eq0 : goal.returns-then-left-eq0
returns-then-left-eq0 c = cleared-end (part (goal.at.returns-then-left-eq0 c).After-clear_marks-left) c.if-left-eq0.true

pub weave-requires : goal.weave-requires
weave-requires c =
    let k = part (goal.at.weave-requires c).After-clear_marks-left in
    record { lawful_maps = (cleared-two k, cleared-own k); known_mode = (refl, omega arith); runs_fit = cleared-fits k }

pub returns : goal.returns
returns c = cleared-woven (part (goal.at.returns c).After-clear_marks-left) c.weave.ensures
