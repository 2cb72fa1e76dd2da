-- `extents::lawful::read` meets its contract.
use Rattle.extents.proofs.Doubles.{view-in-fresh, view-law-fresh, pieces-fresh, refused-read, refresh-enough, refresh-short, read_past, read-full, read-long, read_done}
use Rattle.extents.proofs.Entering.{pieces-most}
use Rattle.extents_pair.proofs.Rooms.{slice_short, slice_enough}
use Rattle.extents_meaning.specs.Maps.{listed_in}
use Rattle.extents_meaning.specs.Pairs.{view_of, below_of}
use Rattle.extents_meaning.specs.Runs.{Run}
use Rattle.extents_meaning.specs.Cells.{refreshed}
use Rattle.std.proofs.Common.{length, List, ap, ◌∙◌, arith, not}
use Rattle.extents.proofs.lawful.read.Goals as goal

pub returns-then-start-length : goal.returns-then-start-length
returns-then-start-length c =
    let a = c.args in
    refused-read 11 a.space a.view a.below a.maps.now a.start a.length a.out.now (read_past a.space a.view a.below
    a.maps.now a.start a.length (length a.out.now) (omega arith) (omega arith) c.requires (omega (arith, c.if-start-length.true))) (omega arith)

pub returns-then-not-fits : goal.returns-then-not-fits
returns-then-not-fits c =
    let a = c.args in
    refused-read 16 a.space a.view a.below a.maps.now a.start a.length a.out.now (read-full a.space a.view a.below
    a.maps.now a.start a.length (length a.out.now) (omega arith) (omega arith) c.requires (omega (arith, c.if-start-length.false)) (refresh-short
    a.space a.view a.below a.maps.now c.fits.ensures (ap not c.if-not-fits.true))) (omega arith)

pub returns-then-lacks : goal.returns-then-lacks
returns-then-lacks c =
    let a = c.args in
    let f = refreshed (view_of a.space a.view a.below a.maps.now) (below_of a.space a.view a.below a.maps.now) in
    let fit = refresh-enough a.space a.view a.below a.maps.now c.fits.ensures (ap not c.if-not-fits.false) in
    let short = slice_short f a.start a.length (length a.out.now) c.lacks.ensures c.if-lacks.true in
    refused-read 17 a.space a.view a.below a.maps.now a.start a.length a.out.now (read-long a.space a.view a.below
    a.maps.now a.start a.length (length a.out.now) (omega arith) (omega arith) c.requires (omega (arith, c.if-start-length.false)) fit short)
    (omega arith)

pub refresh-requires : goal.refresh-requires
refresh-requires c = let a = c.args in record { lawful_maps = (c.requires, c.own_runs-own.ensures); runs_fit = refresh-enough a.space a.view a.below a.maps.now c.fits.ensures (ap not c.if-not-fits.false) }

pub list-n-requires : goal.list-n-requires
list-n-requires c =
    let a = c.args in
    let f = refreshed (view_of a.space a.view a.below a.maps.now) (below_of a.space a.view a.below a.maps.now) in
    let fit = refresh-enough a.space a.view a.below a.maps.now c.fits.ensures (ap not c.if-not-fits.false) in
    let enough = slice_enough f a.start a.length (length a.out.now) c.lacks.ensures c.if-lacks.false in
    let fresh = pieces-fresh a.space a.view a.below a.maps.now c.requires fit c.refresh.ensures a.start a.length
    (omega (arith, c.if-start-length.false, c.ranges.start)) in record { map_inside = view-in-fresh a.space a.view a.below a.maps.now c.requires fit c.refresh.ensures; lawful_maps = (view-law-fresh a.space a.view a.below a.maps.now c.requires fit c.refresh.ensures, omega arith); list_room = omega (arith, ap (λ (l : List Run). length l) fresh, enough) }

pub overflow_cast-listed : goal.overflow_cast-listed
overflow_cast-listed c =
    let a = c.args in
    let f = refreshed (view_of a.space a.view a.below a.maps.now) (below_of a.space a.view a.below a.maps.now) in
    let fit = refresh-enough a.space a.view a.below a.maps.now c.fits.ensures (ap not c.if-not-fits.false) in
    let fresh = pieces-fresh a.space a.view a.below a.maps.now c.requires fit c.refresh.ensures a.start a.length
    (omega (arith, c.if-start-length.false, c.ranges.start)) in
    let count = c.list-n.ensures.answer ∙ ap (λ (l : List Run). length l) fresh in
    omega (arith, count, pieces-most f a.start a.length, c.ranges.length)

pub returns : goal.returns
returns c =
    let a = c.args in
    let f = refreshed (view_of a.space a.view a.below a.maps.now) (below_of a.space a.view a.below a.maps.now) in
    let fit = refresh-enough a.space a.view a.below a.maps.now c.fits.ensures (ap not c.if-not-fits.false) in
    let enough = slice_enough f a.start a.length (length a.out.now) c.lacks.ensures c.if-lacks.false in
    let fresh = pieces-fresh a.space a.view a.below a.maps.now c.requires fit c.refresh.ensures a.start a.length
    (omega (arith, c.if-start-length.false, c.ranges.start)) in
    let t = read_done a.space a.view a.below a.maps.now a.start a.length (length a.out.now) (omega (arith, c.ranges.start))
    (omega (arith, c.ranges.length)) c.requires (omega (arith, c.if-start-length.false, c.ranges.start)) fit a.out.now enough
    (c.list-n.ensures.answer ∙ ap (λ (l : List Run). length l) fresh) c.refresh.ensures
    (c.list-n.ensures.out_after ∙ ap (λ (l : List Run). listed_in l a.out.now) fresh) in
    record { answer = t.0; left = t.1.0; listed = t.1.1 }
