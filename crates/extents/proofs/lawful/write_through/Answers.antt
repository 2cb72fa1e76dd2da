-- `extents::lawful::write_through` meets its contract.
use Rattle.extents.proofs.Doubles.{view-in-as-published, view-law-as-published, write-through-lay, write-through-done, write-through-empty, write-through-enough, write-through-short, mark-published-enough, mark-published-short, cell-zero, write-through-low, write-through-high, write-through-past, write-through-full, write-through-view-full, write-through-share}
use Rattle.extents.proofs.Entering.{cell-fine, refused}
use Rattle.extents.specs.Entries.{written_through_maps}
use Rattle.std.proofs.Common.{false, arith, not, ap}
use Rattle.extents.specs.Answers.{Done}
use Rattle.extents.proofs.lawful.write_through.Goals as goal

pub returns-then-number-lt1 : goal.returns-then-number-lt1
returns-then-number-lt1 c =
    let a = c.args in
    refused 14 Done (written_through_maps a.space a.view a.below a.maps.now a.start a.length a.number) a.maps.now (write-through-low
    a.space a.view a.below a.maps.now a.start a.length a.number (omega arith) (omega arith) c.requires c.if-number-lt1.true) (omega
    arith)

pub returns-then-number-gt-ROWS : goal.returns-then-number-gt-ROWS
returns-then-number-gt-ROWS c =
    let a = c.args in
    refused 14 Done (written_through_maps a.space a.view a.below a.maps.now a.start a.length a.number) a.maps.now (write-through-high
    a.space a.view a.below a.maps.now a.start a.length a.number (omega arith) (omega arith) c.requires c.if-number-gt-ROWS.true) (omega
    arith)

pub returns-then-start-length : goal.returns-then-start-length
returns-then-start-length c =
    let a = c.args in
    refused 11 Done (written_through_maps a.space a.view a.below a.maps.now a.start a.length a.number) a.maps.now (write-through-past
    a.space a.view a.below a.maps.now a.start a.length a.number (omega arith) (omega arith) c.requires (omega (
      arith,
      c.if-number-lt1.false,
    )) (omega (arith, c.if-number-gt-ROWS.false)) (omega (arith, c.if-start-length.true)))
    (omega arith)

pub returns-then-not-fits : goal.returns-then-not-fits
returns-then-not-fits c =
    let a = c.args in
    refused 16 Done (written_through_maps a.space a.view a.below a.maps.now a.start a.length a.number) a.maps.now (write-through-full
    a.space a.view a.below a.maps.now a.start a.length a.number (omega arith) (omega arith) c.requires (omega (
      arith,
      c.if-number-lt1.false,
    )) (omega (arith, c.if-number-gt-ROWS.false)) (omega (arith, c.if-start-length.false))
    (write-through-short a.space a.view a.below a.maps.now a.start a.length a.number (cell-zero
    a.number) c.fits.ensures (ap not c.if-not-fits.true))) (omega arith)

pub returns-then-not-fits-2 : goal.returns-then-not-fits-2
returns-then-not-fits-2 c =
    let a = c.args in
    refused 16 Done (written_through_maps a.space a.view a.below a.maps.now a.start a.length a.number) a.maps.now (write-through-view-full
    a.space a.view a.below a.maps.now a.start a.length a.number (omega arith) (omega arith) c.requires (omega (
      arith,
      c.if-number-lt1.false,
    )) (omega (arith, c.if-number-gt-ROWS.false)) (omega (arith, c.if-start-length.false))
    (mark-published-short a.space a.view a.below a.maps.now a.start a.length a.number (cell-zero
    a.number) c.fits-2.ensures (ap not c.if-not-fits-2.true))) (omega arith)

pub share-requires : goal.share-requires
share-requires c =
    let a = c.args in record {
      lawful_maps = c.requires;
      range_and_number = (
        omega arith,
        λ l. omega (arith, c.if-number-lt1.false),
        omega (arith, c.if-number-gt-ROWS.false),
        c.own_runs-own.ensures,
      );
      runs_fit = write-through-share a.space a.view a.below a.maps.now a.start a.length a.number (omega arith) (omega
          arith) c.requires (omega (arith, c.if-number-lt1.false)) (omega (
            arith,
            c.if-number-gt-ROWS.false,
          )) (omega (arith, c.if-start-length.false)) (write-through-enough a.space a.view a.below a.maps.now
          a.start a.length a.number (cell-zero a.number) c.fits.ensures (ap not c.if-not-fits.false)) (mark-published-enough a.space a.view
          a.below a.maps.now a.start a.length a.number (cell-zero a.number) c.fits-2.ensures (ap not c.if-not-fits-2.false));
    }

pub lay-requires : goal.lay-requires
lay-requires c =
    let a = c.args in record {
      map_inside = view-in-as-published a.space a.view a.below a.maps.now a.start a.length a.number (omega arith) (omega arith) c.requires
          (omega (arith, c.if-number-lt1.false)) (omega (arith, c.if-number-gt-ROWS.false))
          (omega (arith, c.if-start-length.false)) (write-through-enough a.space a.view a.below a.maps.now a.start a.length
          a.number (cell-zero a.number) c.fits.ensures (ap not c.if-not-fits.false)) (mark-published-enough a.space a.view a.below a.maps.now a.start a.length a.number (cell-zero a.number) c.fits-2.ensures (ap not c.if-not-fits-2.false)) c.share.ensures.maps_after
          c.mark_published.ensures;
      lawful_maps = view-law-as-published a.space a.view a.below a.maps.now a.start a.length a.number (omega arith) (omega arith) c.requires
          (omega (arith, c.if-number-lt1.false)) (omega (arith, c.if-number-gt-ROWS.false))
          (omega (arith, c.if-start-length.false)) (write-through-enough a.space a.view a.below a.maps.now a.start a.length
          a.number (cell-zero a.number) c.fits.ensures (ap not c.if-not-fits.false)) (mark-published-enough a.space a.view a.below a.maps.now a.start a.length a.number (cell-zero a.number) c.fits-2.ensures (ap not c.if-not-fits-2.false)) c.share.ensures.maps_after
          c.mark_published.ensures;
      range_and_cell = (c.if-start-end.true, cell-fine a.number false (omega (arith, c.if-number-lt1.false)) (omega (arith, c.if-number-gt-ROWS.false)) (cell-zero a.number));
      runs_fit = write-through-lay
          a.space a.view a.below a.maps.now a.start a.length a.number (omega arith) (omega arith) c.requires (omega
          (arith, c.if-number-lt1.false)) (omega (arith, c.if-number-gt-ROWS.false)) (omega (
            arith,
            c.if-start-length.false,
          )) (write-through-enough a.space a.view a.below a.maps.now a.start a.length a.number
          (cell-zero a.number) c.fits.ensures (ap not c.if-not-fits.false)) (mark-published-enough a.space a.view a.below a.maps.now
          a.start a.length a.number (cell-zero a.number) c.fits-2.ensures (ap not c.if-not-fits-2.false)) c.share.ensures.maps_after
          c.mark_published.ensures (cell-zero
          a.number);
    }

pub returns-then-start-end : goal.returns-then-start-end
returns-then-start-end c =
    let a = c.args in
    write-through-done a.space a.view a.below a.maps.now a.start a.length a.number (omega arith) (omega arith) c.requires (omega
    (arith, c.if-number-lt1.false)) (omega (arith, c.if-number-gt-ROWS.false))
    (omega (arith, c.if-start-length.false)) (write-through-enough a.space a.view a.below a.maps.now a.start a.length
    a.number (cell-zero a.number) c.fits.ensures (ap not c.if-not-fits.false)) (mark-published-enough a.space a.view a.below a.maps.now a.start a.length a.number (cell-zero a.number) c.fits-2.ensures (ap not c.if-not-fits-2.false)) c.share.ensures.maps_after
    c.mark_published.ensures
    (cell-zero a.number) c.lay.ensures

pub returns-else-start-end : goal.returns-else-start-end
returns-else-start-end c =
    let a = c.args in
    write-through-empty a.space a.view a.below a.maps.now a.start a.length a.number (omega arith) (omega arith) c.requires (omega
    (arith, c.if-number-lt1.false)) (omega (arith, c.if-number-gt-ROWS.false))
    (omega (arith, c.if-start-length.false)) (write-through-enough a.space a.view a.below a.maps.now a.start a.length
    a.number (cell-zero a.number) c.fits.ensures (ap not c.if-not-fits.false)) (mark-published-enough a.space a.view a.below a.maps.now a.start a.length a.number (cell-zero a.number) c.fits-2.ensures (ap not c.if-not-fits-2.false)) c.share.ensures.maps_after
    c.mark_published.ensures
    c.if-start-end.false
