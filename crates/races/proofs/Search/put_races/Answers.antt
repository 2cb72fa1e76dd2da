-- `races::Search::put_races` meets its contract.
use Rattle.std.proofs.Common.{arith}
use Rattle.rows.specs.Rows.{rows_in}
use Rattle.rows.proofs.Slices.{length-rows}
use Rattle.races.proofs.Passes.{covering_start, covering_few, covering_next, covering_done}
use Rattle.races.proofs.Search.put_races.Goals as goal

pub loop-y-init : goal.loop-y-init
loop-y-init c = let s = c.args.self in covering_start (rows_in s.n s.rows.now) s.model c.args.list.now

pub put_races_with-found-requires-clause-few : goal.put_races_with-found-requires-clause-few
put_races_with-found-requires-clause-few c =
    let s = c.args.self in
    covering_few c.loop-y.invariant (omega (arith, length-rows s.n s.rows.now, s.given.few-rows))

pub loop-y-preserved : goal.loop-y-preserved
loop-y-preserved c =
    let s = c.args.self in
    covering_next c.loop-y.invariant (omega (arith, length-rows s.n s.rows.now, c.loop-y-test.true)) c.put_races_with-found.ensures.answer c.put_races_with-found.ensures.listed

pub returns : goal.returns
returns c =
    let s = c.args.self in
    let both = covering_done c.loop-y.invariant (omega (arith, length-rows s.n s.rows.now, c.loop-y-test.false)) in
    record { answer = both.0; listed = both.1 }
