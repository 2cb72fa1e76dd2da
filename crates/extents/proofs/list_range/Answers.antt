-- `extents::list_range` meets its contract.
use Rattle.extents.proofs.Entering.{refused, untrue, list-unlawful}
use Rattle.extents_meaning.specs.Maps.{listed_in, bytes_of}
use Rattle.extents.specs.Entries.{listed_count}
use Rattle.extents_meaning.specs.Runs.{pieces_of}
use Rattle.std.proofs.Common.{length, arith}
use Rattle.extents.proofs.list_range.Goals as goal

pub returns-in_default : goal.returns-in_default
returns-in_default c =
    let a = c.args in
    refused 13 (listed_count (pieces_of (bytes_of a.map.now) a.start a.length)) (listed_in (pieces_of (bytes_of a.map.now) a.start
    a.length) a.out.now) a.out.now (list-unlawful a.map.now a.start a.length (length a.out.now) (omega arith) (omega
    arith) (untrue _ c.in_default.ensures.tested.1)) (omega arith)
