-- `races::Search::first_race` meets its contract.
use Rattle.std.proofs.Common.{◌≡◌, []}
use Rattle.rows.specs.Rows.{rows_in}
use Rattle.races_meaning.specs.Lists.{pairs_below}
use Rattle.races.proofs.Search.first_race.Given as goal

-- No row below y is the later row of a race.
abbrev pub invariant-loop-y : goal.invariant-loop-y
invariant-loop-y l = pairs_below (rows_in l.self.n l.self.rows.now) l.self.model l.y ≡ []
