-- `writer::sizing::header_length` meets its contract.
use Rattle.writer.proofs.Lines.{header-size}
use Rattle.writer.proofs.sizing.header_length.Goals as goal

pub returns-then-header-eq1 : goal.returns-then-header-eq1
returns-then-header-eq1 c = header-size c.if-header-eq1.true
