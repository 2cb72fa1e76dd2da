-- `writer_line::record_length` meets its contract.
use Rattle.std.proofs.Common.{ap, length}
use Rattle.writer_line.proofs.Contents.{record_added}
use Rattle.writer_line.proofs.record_length.Goals as goal

pub returns : goal.returns
returns c =
    let a = c.args in
    record_added a.row c.used_by-used.ensures c.width_of-process.ensures.width (ap length c.word_of-word.ensures.word) c.field_length-file.ensures.length
    c.field_length-offset.ensures.length c.field_length-length.ensures.length c.field_length-message.ensures.length
