-- `extents_weave::turn` meets its contract.
use Rattle.std.proofs.Common.{◌*◌, ◌-◌, arith, ◌∙◌}
use Rattle.extents_meaning.specs.Maps.{fours}
use Rattle.extents_weave.proofs.Turning.{sets_put, way_grow, way_on, way_begin, way_put}
use Rattle.extents_weave.proofs.turn.Goals as goal

pub returns-then-need : goal.returns-then-need
returns-then-need c = way_grow c.args.h c.args.x c.args.y c.args.cell c.args.need c.args.map.now c.if-cell-h.true c.if-need.true

pub returns-then-cell-h : goal.returns-then-cell-h
returns-then-cell-h c = way_on c.args.h c.args.x c.args.y c.args.cell c.args.need c.args.map.now c.if-cell-h.true c.if-need.false

pub returns-then-h-eq0 : goal.returns-then-h-eq0
returns-then-h-eq0 c = way_begin c.args.h c.args.x c.args.y c.args.cell c.args.need c.args.map.now c.if-cell-h.false c.if-h-eq0.true

pub returns : goal.returns
unfolding fours
returns c =
    let a = c.args in
    let r = c.requires.1 c.if-cell-h.false c.if-h-eq0.false in
    way_put a.h a.x a.y a.cell a.need a.map.now _ c.if-cell-h.false c.if-h-eq0.false
    (c.put_run.ensures ∙ sets_put a.map.now (a.h.written * 4) a.h.start (a.h.end - a.h.start) _ _ (omega (arith, r)))
