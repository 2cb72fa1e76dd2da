-- `rows::FirstRows::next` meets its contract.
use Rattle.std.proofs.Common.{rules}
use Rattle.rows.specs.Rows.{rows_in}
use Rattle.rows.proofs.Slices.{first-apart, length-rows}
use Rattle.rows.proofs.first.FirstRowsIterator.next.Goals as goal

pub returns-then-self-eq0-clause-steps : goal.returns-then-self-eq0-clause-steps
unfolding rows_in
returns-then-self-eq0-clause-steps c = search rules

pub returns-clause-steps : goal.returns-clause-steps
returns-clause-steps c = grind (rules, first-apart c.args.self.now.count c.args.self.now.numbers.now)

pub returns-clause-goes : goal.returns-clause-goes
returns-clause-goes c = search (rules, length-rows)
