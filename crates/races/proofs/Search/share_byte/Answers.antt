-- `races::Search::share_byte` meets its contract.
use Rattle.races.proofs.Cells.{by_overlap}
use Rattle.races.proofs.Search.share_byte.Goals as goal

pub returns : goal.returns
returns c = by_overlap c.args.self.rows.now c.args.x c.args.y c.overlap-shared.ensures
