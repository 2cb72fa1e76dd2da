-- `writer::putting::put_header` meets its contract.
use Rattle.writer_line.specs.Lines.{commas}
use Rattle.writer.proofs.Lines.{header-put}
use Rattle.writer.proofs.putting.put_header.Goals as goal

pub returns-then-header-eq1 : goal.returns-then-header-eq1
unfolding commas
returns-then-header-eq1 c =
    let both = let a = c.args in
    let pre = c.requires in
    header-put a.out.now a.at a.header c.if-header-eq1.true pre (c.put.ensures.answer, c.put.ensures.left) in record { answer = both.0; left = both.1 }
