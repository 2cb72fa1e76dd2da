-- `races::Search::put_races_with` meets its contract.
use Rattle.std.proofs.Common.{arith, sym, ap, List, length}
use Rattle.rows.specs.Rows.{rows_in}
use Rattle.races_meaning.specs.Lists.{RowPair}
use Rattle.races.specs.Listing.{with_pairs}
use Rattle.races.proofs.Passes.{kind_at, no_data}
use Rattle.races.proofs.Search.put_races_with.Goals as goal

pub returns-then-rows-y-gt-WRITE : goal.returns-then-rows-y-gt-WRITE
unfolding with_pairs
returns-then-rows-y-gt-WRITE c =
    let s = c.args.self in
    let none = no_data (rows_in s.n s.rows.now) s.model c.args.y (omega (arith, kind_at s.given c.requires.later_row, c.if-rows-y-gt-WRITE.true)) c.args.y in
    record { answer = omega (arith, ap length none); listed = ap (λ (pairs : List RowPair). with_pairs c.args.found pairs c.args.list.now) (sym none) }
