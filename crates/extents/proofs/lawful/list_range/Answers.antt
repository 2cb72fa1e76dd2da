-- `extents::lawful::list_range` meets its contract.
use Rattle.extents.proofs.Entering.{refused, list-past, list_full, list-fits, pieces-most, accepted-list}
use Rattle.extents_pair.proofs.Rooms.{slice_short, slice_enough}
use Rattle.extents_meaning.specs.Maps.{listed_in, bytes_of}
use Rattle.extents.specs.Entries.{listed_count}
use Rattle.extents_meaning.specs.Runs.{pieces_of}
use Rattle.std.proofs.Common.{length, arith, ◌+◌, ◌-◌}
use Rattle.extents.proofs.lawful.list_range.Goals as goal

pub returns-then-start-length : goal.returns-then-start-length
returns-then-start-length c =
    let a = c.args in
    refused 11 (listed_count (pieces_of (bytes_of a.map.now) a.start a.length)) (listed_in (pieces_of (bytes_of a.map.now) a.start
    a.length) a.out.now) a.out.now (list-past a.map.now a.start a.length (length a.out.now) (omega arith) (omega arith)
    c.requires (omega (arith, c.if-start-length.true))) (omega arith)

pub returns-then-lacks : goal.returns-then-lacks
returns-then-lacks c =
    let a = c.args in
    let f = bytes_of a.map.now in
    let short = slice_short f a.start a.length (length a.out.now) c.lacks.ensures c.if-lacks.true in
    refused 17 (listed_count (pieces_of f a.start a.length)) (listed_in (pieces_of f a.start a.length) a.out.now) a.out.now
    (list_full a.map.now a.start a.length (length a.out.now) (omega arith) (omega arith) c.requires
    (omega (arith, c.if-start-length.false)) short) (omega arith)

pub overflow_cast-result : goal.overflow_cast-result
overflow_cast-result c =
    let a = c.args in
    let n = a.start + a.length - a.start in
    omega (arith, c.list-n.ensures.answer, pieces-most (bytes_of a.map.now) a.start n, c.ranges.length)

pub returns : goal.returns
returns c =
    let a = c.args in
    let enough = slice_enough (bytes_of a.map.now) a.start a.length (length a.out.now) c.lacks.ensures c.if-lacks.false in
    accepted-list a.map.now a.start a.length a.out.now (list-fits a.map.now a.start a.length (length a.out.now)
    (omega arith) (omega arith) c.requires (omega (arith, c.if-start-length.false)) enough) c.list-n.ensures.answer c.list-n.ensures.out_after
