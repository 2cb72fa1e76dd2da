-- `races::Search::refresh_at` meets its contract.
use Rattle.std.proofs.Common.{◌≡◌}
use Rattle.rows.specs.Counting.{last_below}
use Rattle.races.proofs.Cells.{refreshing}
use Rattle.races.proofs.Search.refresh_at.Given as goal

-- No row from index i up to row y refreshes for row y, so the rows below i decide.
abbrev pub invariant-loop-i : goal.invariant-loop-i
invariant-loop-i l =
    let test = refreshing l.self.rows.now l.self.n l.self.model l.y in
    last_below l.y test ≡ last_below l.i test
