-- `races::Search::put_races` meets its contract.
use Rattle.rows.specs.Rows.{rows_in}
use Rattle.races.proofs.Passes.{Covering}
use Rattle.races.proofs.Search.put_races.Given as goal

-- The list holds the races whose later rows stand below y.
abbrev pub invariant-loop-y : goal.invariant-loop-y
invariant-loop-y l = Covering (rows_in l.self.n l.self.rows.now) l.self.model l.initial.list l.found l.y l.list
