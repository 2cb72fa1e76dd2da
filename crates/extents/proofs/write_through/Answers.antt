-- `extents::write_through` meets its contract.
use Rattle.extents.proofs.Doubles.{write-through-unlawful}
use Rattle.extents.specs.Entries.{written_through_maps}
use Rattle.extents.proofs.Entering.{refused}
use Rattle.extents.specs.Answers.{Done}
use Rattle.std.proofs.Common.{sym, ◌∙◌, arith}
use Rattle.extents.proofs.write_through.Goals as goal

pub returns-then-not-two_maps : goal.returns-then-not-two_maps
returns-then-not-two_maps c =
    let a = c.args in
    refused 13 Done (written_through_maps a.space a.view a.below a.maps.now a.start a.length a.number) a.maps.now (write-through-unlawful
    a.space a.view a.below a.maps.now a.start a.length a.number (omega arith) (omega arith) (sym c.two_maps.ensures ∙
    c.if-not-two_maps.true)) (omega arith)
