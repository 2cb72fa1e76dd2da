-- `checker::put_pair` meets its contract.
use Rattle.checker.proofs.Lines.{pair-laid}
use Rattle.checker.proofs.put_pair.Goals as goal

pub returns : goal.returns
returns c =
    let both = let a = c.args in
    pair-laid a.out.now a.at a.a a.b c.requires
    (c.put_number-first.ensures.answer, c.put_number-first.ensures.left) (c.put-comma.ensures.answer, c.put-comma.ensures.left) (c.put_number-second.ensures.answer, c.put_number-second.ensures.left) (c.put.ensures.answer, c.put.ensures.left) in record { answer = both.0; out_after = both.1 }
