-- `extents_publish::put` meets its contract.
use Rattle.std.proofs.Common.{arith, refl, sym}
use Rattle.extents_meaning.specs.Maps.{bytes_of, part_at}
use Rattle.extents_pair.proofs.Sweeps.{over-out}
use Rattle.extents_publish.proofs.Laying.{below-start, put-fits, put-kept}
use Rattle.extents_publish.proofs.put.Goals as goal

pub returns-then-range : goal.returns-then-range
returns-then-range c =
    let a = c.args in
    let f = bytes_of (part_at a.w a.size a.maps.now) in
    record { below = λ _. below-start c.requires.part_inside.0 c.requires.part_inside.1 (λ b. sym (over-out a.range.start a.range.end a.range.cell f b (λ l. omega (arith, c.if-range.true)))); maps_unchanged = λ _. refl }

pub returns : goal.returns
returns c =
    let a = c.args in
    let p = c.requires in
    let l = c.lay.ensures in
    let xs = a.maps.now in record { below = put-fits a.size a.w a.range.start a.range.end a.range.cell xs p.part_inside.0 p.part_inside.1 l.answer l.map_after (omega (arith, c.well_formed)) p.legal_cell; maps_unchanged = put-kept a.size a.w a.range.start a.range.end a.range.cell xs p.part_inside.0 p.part_inside.1 l.answer l.map_after }
