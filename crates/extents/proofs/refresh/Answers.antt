-- `extents::refresh` meets its contract.
use Rattle.extents.proofs.Doubles.{refresh_unlawful}
use Rattle.extents.specs.Entries.{refreshed_maps}
use Rattle.extents.proofs.Entering.{refused}
use Rattle.extents.specs.Answers.{Done}
use Rattle.std.proofs.Common.{sym, ◌∙◌, arith}
use Rattle.extents.proofs.refresh.Goals as goal

pub returns-then-not-two_maps : goal.returns-then-not-two_maps
returns-then-not-two_maps c =
    let a = c.args in
    refused 13 Done (refreshed_maps a.space a.view a.below a.maps.now) a.maps.now (refresh_unlawful a.space a.view a.below
    a.maps.now (sym c.two_maps.ensures ∙ c.if-not-two_maps.true)) (omega arith)
