-- `trace::reading::read_rows` meets its contract.
use Rattle.std.proofs.Common.{length, ◌+◌, ◌*◌, ◌≤◌, arith, refl, sym, ◌≡◌, ◌∙◌, [], Some, None, Ok}
use Rattle.std.proofs.lemmas.Result.{err_from_is_err_and}
use Rattle.rows.proofs.Slices.{with_room}
use Rattle.trace.specs.Reader.{rows_asked, rows_state}
use Rattle.trace.proofs.Refusing.{refusal-was, value-was}
use Rattle.trace.proofs.Turns.{begin, at-end, at-no, row_in, next_row_lem, refusal}
use Rattle.trace.proofs.States.{state-end, state-stop, state-next}
use Rattle.trace.proofs.reading.read_rows.Goals as goal

pub loop-found-init : goal.loop-found-init
unfolding rows_asked rows_state
loop-found-init g c = (record { done = []; going = begin refl; noting = record { many = refl; last = refl } }, refl)

pub returns-in_err-found-clause-answer : goal.returns-in_err-found-clause-answer
returns-in_err-found-clause-answer g c =
    let p = err_from_is_err_and c.from_residual.result c.from_residual.ensures.1 in
    let was = refusal-was (c.loop-found.n + 1) c.next_row.result c.in_err-found.field-0.0 c.in_err-found.ensures in
    rw (p.1, p.2, was.2) (refusal c.args.rows.now c.loop-found.rows (at-no _ _ _ _ _ c.loop-found.invariant.0.going (rw was.1 at c.next_row.ensures.answer))).0

pub returns-in_err-found-clause-held : goal.returns-in_err-found-clause-held
returns-in_err-found-clause-held g c =
    let was = refusal-was (c.loop-found.n + 1) c.next_row.result c.in_err-found.field-0.0 c.in_err-found.ensures in
    (refusal c.args.rows.now c.loop-found.rows (at-no _ _ _ _ _ c.loop-found.invariant.0.going (rw was.1 at c.next_row.ensures.answer))).1

pub loop-found-smaller : goal.loop-found-smaller
loop-found-smaller g c =
    let was : c.next_row.result ≡ Ok (Some c.in-Some.found) = rw c.in-Some.is at (value-was (c.loop-found.n + 1) c.next_row.result c.in_ok-found.field-0 c.in_ok-found.ensures) in
    omega (arith, row_in _ _ _ _ _ c.loop-found.invariant.0.going (rw was at c.next_row.ensures.answer))

pub loop-found-preserved : goal.loop-found-preserved
loop-found-preserved g c =
    let was : c.next_row.result ≡ Ok (Some c.in-Some.found) = rw c.in-Some.is at (value-was (c.loop-found.n + 1) c.next_row.result c.in_ok-found.field-0 c.in_ok-found.ensures) in
    let step = rw was at c.next_row.ensures.answer in
    let going = c.loop-found.invariant.0.going in
    let room : c.loop-found.n * 6 + 6 ≤ length c.loop-found.rows =
    omega (arith, row_in _ _ _ _ _ going step, c.loop-found.invariant.1, c.requires.room) in
    let put = c.put_row.ensures ∙ with_room c.loop-found.n c.in-Some.found.row c.loop-found.rows room in
    let left = rw was at c.next_row.ensures.left in
    let noting = state-next _ _ _ _ c.loop-found.invariant.0.noting (sym left ∙ c.next_row.ensures.state) step in
    (rw left (record { done = _; going = next_row_lem _ _ _ _ _ going step put; noting = noting }), c.put_row.auto.rows ∙ c.loop-found.invariant.1)

pub returns-clause-answer : goal.returns-clause-answer
returns-clause-answer g c =
    let was : c.next_row.result ≡ Ok None = rw c.in_default.is at (value-was (c.loop-found.n + 1) c.next_row.result c.in_ok-found.field-0 c.in_ok-found.ensures) in
    (at-end _ _ _ _ _ c.loop-found.invariant.0.going (rw was at c.next_row.ensures.answer)).0

pub returns-clause-held : goal.returns-clause-held
returns-clause-held g c =
    let was : c.next_row.result ≡ Ok None = rw c.in_default.is at (value-was (c.loop-found.n + 1) c.next_row.result c.in_ok-found.field-0 c.in_ok-found.ensures) in
    (at-end _ _ _ _ _ c.loop-found.invariant.0.going (rw was at c.next_row.ensures.answer)).1

pub returns-in_err-found-clause-state : goal.returns-in_err-found-clause-state
returns-in_err-found-clause-state g c =
    let was = refusal-was (c.loop-found.n + 1) c.next_row.result c.in_err-found.field-0.0 c.in_err-found.ensures in
    state-stop _ _ _ _ c.loop-found.invariant.0.noting c.next_row.ensures.state (rw was.1 at c.next_row.ensures.answer)

pub returns-clause-state : goal.returns-clause-state
returns-clause-state g c =
    let was : c.next_row.result ≡ Ok None = rw c.in_default.is at (value-was (c.loop-found.n + 1) c.next_row.result c.in_ok-found.field-0 c.in_ok-found.ensures) in
    state-end _ _ _ _ c.loop-found.invariant.0.noting c.next_row.ensures.state (rw was at c.next_row.ensures.answer)
