-- `races::Later::put_found` meets its contract.
use Rattle.rows.specs.Rows.{rows_in}
use Rattle.races.proofs.Passes.{Putting}
use Rattle.races.proofs.Later.put_found.Given as goal

-- Behind the pairs that were found before, the list holds the races with the rows below x.
abbrev pub invariant-loop-x : goal.invariant-loop-x
invariant-loop-x l = Putting (rows_in l.self.search.n l.self.search.rows.now) l.self.search.model l.self.y l.before l.initial.list l.found l.x l.list
