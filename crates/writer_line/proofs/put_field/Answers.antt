-- `writer_line::put_field` meets its contract.
use Rattle.writer_line.proofs.Putting.{comma-laid, field-laid}
use Rattle.writer_line.proofs.put_field.Goals as goal

pub returns-then-used : goal.returns-then-used
returns-then-used c =
    let both = let a = c.args in
    let pre = c.requires in
    field-laid a.out.now a.at a.n a.used pre (c.put-digits.ensures.answer, c.put-digits.ensures.left) c.if-used.true (c.put_number.ensures.answer, c.put_number.ensures.left) in record { answer = both.0; left = both.1 }

pub returns-else-used : goal.returns-else-used
returns-else-used c =
    let both = let a = c.args in
    let pre = c.requires in
    comma-laid a.out.now a.at a.n a.used pre (c.put-digits.ensures.answer, c.put-digits.ensures.left) c.if-used.false in record { answer = both.0; left = both.1 }
