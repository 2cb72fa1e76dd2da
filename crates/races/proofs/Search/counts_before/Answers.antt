-- `races::Search::counts_before` meets its contract.
use Rattle.std.proofs.Common.{arith}
use Rattle.races.proofs.Passes.{room}
use Rattle.races.proofs.Search.counts_before.Goals as goal

pub bounds-counts-from : goal.bounds-counts-from
bounds-counts-from c = omega (arith, room c.args.self.given c.requires.first, c.requires.process)

pub bounds-counts-to : goal.bounds-counts-to
bounds-counts-to c = omega (arith, room c.args.self.given c.requires.second, c.requires.process)
