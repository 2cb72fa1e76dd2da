-- `races::Later::note_rows` meets its contract.
use Rattle.std.proofs.Common.{arith, ◌*◌, ◌<◌, inl, inr}
use lib.ListN.{get_or}
use Rattle.rows.specs.Limits.{PROCESSES}
use Rattle.rows.specs.Rows.{rows_in}
use Rattle.races.proofs.Passes.{process-at, process-low, noting_start, noting_next, noting_done}
use Rattle.races.proofs.Later.note_rows.Goals as goal
use Rattle.races.proofs.Later.note_rows.Goals.{else-is_noted, then-is_noted}

pub loop-c-init : goal.loop-c-init
loop-c-init c = let s = c.args.self in noting_start (rows_in s.search.n s.search.rows.now) s.search.model s.y s.refresh_is

pub bounds-last-rows : goal.bounds-last-rows
bounds-last-rows c =
    let s = c.args.self in
    let h : c.loop-c.c < s.search.n = omega (arith, c.loop-c-test.true, s.is_row) in
    omega (arith, process-low s.search.given h, s.search.given.few-processes)

pub loop-c-preserved : goal.loop-c-preserved
loop-c-preserved c =
    let s = c.args.self in
    let h : c.loop-c.c < s.search.n = omega (arith, c.loop-c-test.true, s.is_row) in
    let l : get_or s.search.rows.now (c.loop-c.c * 6) 0 < PROCESSES = omega (arith, process-low s.search.given h, s.search.given.few-processes) in
    noting_next c.loop-c.invariant c.loop-c-test.true l (process-at s.search.given h) c.is_noted.ensures
    (elim c.if-is_noted.branch [ then-is_noted w ↦ inl (w.if-is_noted.true, w.last-is) | else-is_noted w ↦ inr (w.if-is_noted.false, w.last-is) ])

pub returns : goal.returns
returns c = noting_done c.loop-c.invariant c.loop-c-test.false
