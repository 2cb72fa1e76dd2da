-- `extents_refresh::refresh` meets its contract.
use Rattle.std.proofs.Common.{arith, refl}
use Rattle.extents_map.specs.Mixes.{mixed}
use Rattle.extents_refresh.proofs.Viewing.{view-copied}
use Rattle.extents_refresh.proofs.refresh.Goals as goal

pub returns-then-pair-eq0 : goal.returns-then-pair-eq0
returns-then-pair-eq0 c =
    let p = c.args.pair in
    view-copied p.space p.view p.below c.args.maps.now c.requires.lawful_maps.0 c.requires.lawful_maps.1 c.if-pair-eq0.true c.copy.ensures

pub weave-requires : goal.weave-requires
unfolding mixed
weave-requires c = record { lawful_maps = c.requires.lawful_maps; known_mode = (refl, omega arith); runs_fit = c.requires.runs_fit }

pub returns : goal.returns
unfolding mixed
returns c = c.weave.ensures
