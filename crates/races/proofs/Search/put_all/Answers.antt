-- `races::Search::put_all` meets its contract.
use Rattle.std.proofs.Common.{◌*◌, ◌≤◌, arith, length}
use Rattle.rows.specs.Rows.{rows_in}
use Rattle.races_meaning.specs.Lists.{race_pairs}
use Rattle.races.proofs.Whole.{square_most, pairs-in, room_in}
use Rattle.races.proofs.Search.put_all.Goals as goal
use Rattle.races.proofs.Search.put_all.Goals.{else-list-n, then-list-n+else-list-needed}

pub overflow_mul-needed : goal.overflow_mul-needed
overflow_mul-needed c =
    let s = c.args.self in
    omega (arith, c.put_races-needed.ensures.answer, pairs-in s.n s.model s.rows.now, square_most s.given.few-rows)

pub overflow_cast-result : goal.overflow_cast-result
overflow_cast-result c =
    let s = c.args.self in
    omega (arith, c.put_races.ensures.answer, pairs-in s.n s.model s.rows.now, square_most s.given.few-rows)

pub returns : goal.returns
returns c =
    let s = c.args.self in
    let pairs = race_pairs (rows_in s.n s.rows.now) s.model in
    let room : 2 * length pairs ≤ length c.args.list.now =
    elim c.if-list-n.branch [
      | then-list-n+else-list-needed w ↦ omega (arith, w.put_races-needed.ensures.answer, w.if-list-needed.false)
      | else-list-n w ↦ omega (arith, w.if-list-n.false, pairs-in s.n s.model s.rows.now)
    ] in
    let both = room_in pairs c.args.list.now room c.put_races.ensures.answer c.put_races.ensures.listed in
    record { answer = both.0; listed = both.1 }
