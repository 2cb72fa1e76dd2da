-- `races::Search::first_race` meets its contract.
use Rattle.std.proofs.Common.{refl}
use Rattle.races.proofs.Whole.{none-start, none-next, answer-free, answer-race}
use Rattle.races.proofs.Search.first_race.Goals as goal

pub loop-y-init : goal.loop-y-init
loop-y-init c = let s = c.args.self in none-start s.n s.model s.rows.now

pub returns-then-found-gt0 : goal.returns-then-found-gt0
returns-then-found-gt0 c =
    let s = c.args.self in
    answer-race s.n s.model s.rows.now c.loop-y.y _ c.loop-y-test.true c.loop-y.invariant refl
    c.put_races_with-found.ensures.answer c.if-found-gt0.true c.put_races_with-found.ensures.listed

pub loop-y-preserved : goal.loop-y-preserved
loop-y-preserved c =
    let s = c.args.self in
    none-next s.n s.model s.rows.now c.loop-y.y c.loop-y.invariant c.put_races_with-found.ensures.answer c.if-found-gt0.false

pub returns : goal.returns
returns c =
    let s = c.args.self in
    answer-free s.n s.model s.rows.now c.loop-y.y c.loop-y-test.false c.loop-y.auto.y-end c.loop-y.invariant
