-- `happens_before::are_alike` meets its contract.
use Rattle.happens_before.proofs.Joins.{first-other, second-other, by_message}
use Rattle.happens_before.proofs.are_alike.Goals as goal

pub returns-then-rows-from : goal.returns-then-rows-from
returns-then-rows-from c = let a = c.args in first-other a.one a.other a.rows.now a.k a.t c.if-rows-from.true

pub returns-then-rows-to : goal.returns-then-rows-to
returns-then-rows-to c = let a = c.args in second-other a.one a.other a.rows.now a.k a.t c.if-rows-to.true

pub returns : goal.returns
returns c =
    let a = c.args in
    by_message a.one a.other a.rows.now a.k a.t c.if-rows-from.false c.if-rows-to.false
