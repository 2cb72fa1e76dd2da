-- `extents_weave::weave` meets its contract.
use Rattle.std.proofs.Common.{◌-◌, sym, ◌∙◌}
use Rattle.extents_map.specs.Mixes.{mix_for}
use Rattle.extents_weave.proofs.Pairs.{view-weavable, below-weavable}
use Rattle.extents_weave.proofs.weave.Goals as goal

pub weave_map-requires : goal.weave_map-requires
weave_map-requires g c =
    let a = c.args in
    let r = a.range in
    view-weavable a.pair (mix_for g.M.Mode.meaning r) a.maps.now c.requires.lawful_maps.0 c.requires.known_mode.1
    (c.room-room.ensures.fitting_runs r.start (r.end - r.start) r.cell c.requires.runs_fit) c.room-room.ensures.within
    (sym g.met.M.Mode.writes ∙ (sym c.WRITES_VIEW.ensures ∙ c.if-WRITES_VIEW.true))

pub weave_map-requires-else-WRITES_VIEW : goal.weave_map-requires-else-WRITES_VIEW
weave_map-requires-else-WRITES_VIEW g c =
    let a = c.args in
    let r = a.range in
    below-weavable a.pair (mix_for g.M.Mode.meaning r) a.maps.now c.requires.lawful_maps.0 c.requires.known_mode.1
    (c.room-room.ensures.fitting_runs r.start (r.end - r.start) r.cell c.requires.runs_fit) c.room-room.ensures.within
    (sym g.met.M.Mode.writes ∙ (sym c.WRITES_VIEW.ensures ∙ c.if-WRITES_VIEW.false))
