-- `extents::lawful::refresh` meets its contract.
use Rattle.extents.proofs.Doubles.{refresh-enough, refresh-short, refresh-full, refresh-done}
use Rattle.extents.specs.Entries.{refreshed_maps}
use Rattle.extents.proofs.Entering.{refused}
use Rattle.extents.specs.Answers.{Done}
use Rattle.std.proofs.Common.{arith, not, ap}
use Rattle.extents.proofs.lawful.refresh.Goals as goal

pub returns-then-not-fits : goal.returns-then-not-fits
returns-then-not-fits c =
    let a = c.args in
    refused 16 Done (refreshed_maps a.space a.view a.below a.maps.now) a.maps.now (refresh-full a.space a.view a.below
    a.maps.now c.requires (refresh-short
    a.space a.view a.below a.maps.now c.fits.ensures (ap not c.if-not-fits.true))) (omega arith)

pub refresh-requires : goal.refresh-requires
refresh-requires c = let a = c.args in record { lawful_maps = (c.requires, c.own_runs-own.ensures); runs_fit = refresh-enough a.space a.view a.below a.maps.now c.fits.ensures (ap not c.if-not-fits.false) }

pub returns : goal.returns
returns c =
    let a = c.args in
    refresh-done a.space a.view a.below a.maps.now c.requires
    (refresh-enough a.space a.view a.below a.maps.now c.fits.ensures (ap not c.if-not-fits.false)) c.refresh.ensures
