-- `extents::lawful::lookup` meets its contract.
use Rattle.std.proofs.Common.{arith, ap, ◌∙◌}
use Rattle.extents_meaning.specs.Cells.{number_in, mark_in}
use Rattle.extents.proofs.Entering.{lookup-past, lookup-found, looked_whole}
use Rattle.extents.proofs.lawful.lookup.Goals as goal

pub returns-then-byte-eq-OFFSET_MAX : goal.returns-then-byte-eq-OFFSET_MAX
returns-then-byte-eq-OFFSET_MAX c = lookup-past c.args.map.now c.args.byte c.requires c.if-byte-eq-OFFSET_MAX.true

pub returns : goal.returns
returns c =
    let w = looked_whole (omega arith) c.seek-from.ensures c.see-seen.ensures in
    lookup-found c.args.map.now c.args.byte c.requires (omega arith) (c.number_in.ensures ∙ ap number_in w.0)
    (c.mark_in.ensures ∙ ap mark_in w.0) w.1
