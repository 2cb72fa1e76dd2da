-- `races::Later::put_found` meets its contract.
use Rattle.std.proofs.Common.{arith, ◌*◌, ◌+◌, ◌<◌, length, inl, inr, ◌∙◌}
use lib.ListN.{get_or}
use Rattle.rows.specs.Limits.{PROCESSES}
use Rattle.rows.specs.Rows.{rows_in}
use Rattle.rows.proofs.Slices.{length-rows}
use Rattle.races.proofs.Putting.{pair_group}
use Rattle.races.proofs.Passes.{process-at, process-low, putting_start, putting_few, putting_next}
use Rattle.races.proofs.Later.put_found.Goals as goal
use Rattle.races.proofs.Later.put_found.Goals.{else-is_race, then-is_race}

pub loop-x-init : goal.loop-x-init
loop-x-init c = let s = c.args.self in putting_start (rows_in s.search.n s.search.rows.now) s.search.model s.y c.args.before c.args.list.now

pub bounds-last-rows : goal.bounds-last-rows
bounds-last-rows c =
    let s = c.args.self in
    let h : c.loop-x.x < s.search.n = omega (arith, c.loop-x-test.true, s.is_row) in
    omega (arith, process-low s.search.given h, s.search.given.few-processes)

pub is_race-requires : goal.is_race-requires
is_race-requires c =
    let s = c.args.self in
    let h : c.loop-x.x < s.search.n = omega (arith, c.loop-x-test.true, s.is_row) in
    let l : get_or s.search.rows.now (c.loop-x.x * 6) 0 < PROCESSES = omega (arith, process-low s.search.given h, s.search.given.few-processes) in
    record { earlier = h; noted_last = λ r q. rw (process-at s.search.given h) (c.requires.noted r q _ l) }

pub overflow_add-found : goal.overflow_add-found
overflow_add-found c =
    let s = c.args.self in
    omega (arith, putting_few c.loop-x.invariant, c.loop-x-test.true, s.is_row, c.requires.few, s.search.given.few-rows)

pub loop-x-preserved : goal.loop-x-preserved
loop-x-preserved c =
    let s = c.args.self in
    let many : s.y < length (rows_in s.search.n s.search.rows.now) = omega (arith, s.is_row, length-rows s.search.n s.search.rows.now) in
    putting_next c.loop-x.invariant s.search.given.is_model c.loop-x-test.true many c.is_race.ensures
    (elim c.if-is_race.branch [
      | then-is_race w ↦ inl (w.if-is_race.true, w.list-is ∙ w.put_group.ensures ∙ pair_group c.loop-x.found (c.loop-x.x + 1) (s.y + 1) c.loop-x.list, w.found-is)
      | else-is_race w ↦ inr (w.if-is_race.false, w.list-is, w.found-is)
    ])
