-- `extents::read` meets its contract.
use Rattle.extents.proofs.Doubles.{refused-read, read-unlawful}
use Rattle.std.proofs.Common.{length, sym, ◌∙◌, arith}
use Rattle.extents.proofs.read.Goals as goal

pub returns-then-not-two_maps : goal.returns-then-not-two_maps
returns-then-not-two_maps c =
    let a = c.args in
    refused-read 13 a.space a.view a.below a.maps.now a.start a.length a.out.now (read-unlawful a.space a.view a.below
    a.maps.now a.start a.length (length a.out.now) (omega arith) (omega arith) (sym c.two_maps.ensures
    ∙ c.if-not-two_maps.true)) (omega arith)
