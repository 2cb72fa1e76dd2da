-- `writer_line::put_record` meets its contract.
use Rattle.std.proofs.Common.{arith}
use Rattle.writer_line.proofs.Contents.{record_most}
use Rattle.writer_line.proofs.Putting.{record_put}
use Rattle.writer_line.proofs.put_record.Goals as goal

pub put_parts-requires : goal.put_parts-requires
put_parts-requires c = omega (arith, c.if-out-lt-LONGEST.false, record_most c.args.row)

pub returns : goal.returns
returns c =
    let both = let a = c.args in
    record_put a.out.now a.row (omega (arith, c.if-out-lt-LONGEST.false, record_most a.row)) (c.put_parts.ensures.answer, c.put_parts.ensures.left) in record { answer = both.0; left = both.1 }
