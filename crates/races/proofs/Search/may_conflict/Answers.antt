-- `races::Search::may_conflict` meets its contract.
use Rattle.races.proofs.Cells.{no_first, no_second, no_write, no_process, by_file}
use Rattle.races.proofs.Search.may_conflict.Goals as goal

pub returns-then-first-gt-WRITE : goal.returns-then-first-gt-WRITE
returns-then-first-gt-WRITE c = no_first c.args.self.rows.now c.args.x c.args.y c.if-first-gt-WRITE.true

pub returns-then-second-gt-WRITE : goal.returns-then-second-gt-WRITE
returns-then-second-gt-WRITE c = no_second c.args.self.rows.now c.args.x c.args.y c.if-second-gt-WRITE.true

pub returns-then-first-second-lt-WRITE : goal.returns-then-first-second-lt-WRITE
returns-then-first-second-lt-WRITE c = no_write c.args.self.rows.now c.args.x c.args.y c.if-first-second-lt-WRITE.true

pub returns-then-rows-a : goal.returns-then-rows-a
returns-then-rows-a c = no_process c.args.self.rows.now c.args.x c.args.y c.if-rows-a.true

pub returns : goal.returns
returns c =
    by_file c.args.self.rows.now c.args.x c.args.y c.if-first-gt-WRITE.false c.if-second-gt-WRITE.false c.if-first-second-lt-WRITE.false c.if-rows-a.false
