-- `extents::lawful::sync` meets its contract.
use Rattle.extents.proofs.Doubles.{publish-enough, publish-short, sync-full, share-fits, sync-done}
use Rattle.extents.specs.Entries.{synced_maps}
use Rattle.extents.proofs.Entering.{refused}
use Rattle.extents.specs.Answers.{Done}
use Rattle.std.proofs.Common.{arith, not, ap}
use Rattle.extents.proofs.lawful.sync.Goals as goal

pub returns-then-not-fits : goal.returns-then-not-fits
returns-then-not-fits c =
    let a = c.args in
    refused 16 Done (synced_maps a.space a.view a.below a.maps.now) a.maps.now (sync-full a.space a.view a.below a.maps.now c.requires (publish-short
    a.space a.view a.below a.maps.now c.fits.ensures (ap not c.if-not-fits.true))) (omega arith)

pub share-requires : goal.share-requires
share-requires c =
    let a = c.args in record {
      lawful_maps = c.requires;
      range_and_number = (omega arith, λ l. absurd (omega (arith, l)), omega arith, c.own_runs-own.ensures);
      runs_fit = share-fits a.space a.view a.below a.maps.now c.requires
          (publish-enough a.space a.view a.below a.maps.now c.fits.ensures (ap not c.if-not-fits.false));
    }

pub returns : goal.returns
returns c =
    let a = c.args in
    sync-done a.space a.view a.below a.maps.now c.requires
    (publish-enough a.space a.view a.below a.maps.now c.fits.ensures (ap not c.if-not-fits.false)) c.share.ensures.maps_after
    c.copy.ensures
