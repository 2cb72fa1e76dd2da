-- `races::Search::refreshes` meets its contract.
use Rattle.std.proofs.Common.{◌∙◌}
use Rattle.races.proofs.Cells.{of_process, of_file, by_kind}
use Rattle.races.proofs.Search.refreshes.Goals as goal

pub returns-then-rows-at : goal.returns-then-rows-at
returns-then-rows-at c =
    let s = c.args.self in
    of_process s.rows.now s.n s.model c.args.y c.args.i c.requires.later c.requires.earlier c.if-rows-at.true

pub returns-then-rows-to : goal.returns-then-rows-to
returns-then-rows-to c =
    let s = c.args.self in
    of_file s.rows.now s.n s.model c.args.y c.args.i c.requires.later c.requires.earlier c.if-rows-to.true

pub returns : goal.returns
returns c =
    let s = c.args.self in
    c.is_refresh.ensures
    ∙ by_kind s.rows.now s.n s.model c.args.y c.args.i c.requires.later c.requires.earlier c.if-rows-at.false c.if-rows-to.false
