-- `writer::write_trace` meets its contract.
use Rattle.std.proofs.Common.{rules, ◌≡◌, length, ap, not}
use Rattle.std.proofs.lemmas.Result.{err_from_is_err_and}
use Rattle.barriers.specs.Barriers.{barrier_place}
use Rattle.rows.specs.Rows.{rows_in}
use Rattle.writer.proofs.Questions.{call-legal}
use Rattle.writer.proofs.Whole.{call-no, row-no, rows_have_room, lines-bound, barriers-no, no-space, header-room, lines-room, text-written}
use Rattle.writer.proofs.write_trace.Goals as goal

pub returns-in_err-ask_call : goal.returns-in_err-ask_call
returns-in_err-ask_call c =
    let a = c.args in
    let p = err_from_is_err_and c.from_residual.result c.from_residual.ensures.1 in
    rw (p.1, p.2) (call-no a.rows.now a.n a.header a.process_limit a.place a.out.now c.in_err-ask_call.field-0.0 c.in_err-ask_call.ensures)

pub ask_rows-requires-clause-few : goal.ask_rows-requires-clause-few
ask_rows-requires-clause-few c =
    let a = c.args in
    (call-legal a.n a.header a.process_limit (length a.rows.now) c.in_ok-ask_call.ensures).2

pub returns-in_err-ask_rows : goal.returns-in_err-ask_rows
returns-in_err-ask_rows c =
    let a = c.args in
    let p = err_from_is_err_and c.from_residual-in_err-ask_rows.result c.from_residual-in_err-ask_rows.ensures.1 in
    rw (p.1, p.2)
    (row-no a.rows.now a.n a.header a.process_limit a.place a.out.now c.in_ok-ask_call.ensures c.in_err-ask_rows.field-0.0 c.in_err-ask_rows.ensures)

pub place_of-requires : goal.place_of-requires
place_of-requires c =
    let a = c.args in
    let legal = call-legal a.n a.header a.process_limit (length a.rows.now) c.in_ok-ask_call.ensures in
    rows_have_room a.rows.now a.n a.header a.process_limit a.place a.out.now c.in_ok-ask_call.ensures c.in_ok-ask_rows.ensures legal.2

pub returns-in-Some : goal.returns-in-Some
returns-in-Some c =
    let a = c.args in
    let no = barriers-no a.rows.now a.n a.header a.process_limit a.place a.out.now c.in_ok-ask_call.ensures c.in_ok-ask_rows.ensures c.in-Some.ensures.0
    c.in-Some.ensures.1 in
    rw c.at.ensures no

pub text_fits-requires : goal.text_fits-requires
text_fits-requires c =
    let a = c.args in
    let legal = call-legal a.n a.header a.process_limit (length a.rows.now) c.in_ok-ask_call.ensures in
    (legal.0, lines-bound a.rows.now a.n a.header a.process_limit a.place a.out.now c.in_ok-ask_call.ensures c.in_ok-ask_rows.ensures legal.2)

pub returns-then-not-text_fits : goal.returns-then-not-text_fits
returns-then-not-text_fits c =
    let a = c.args in
    let kept : barrier_place (rows_in a.n a.rows.now) ≡ 0 = search rules in
    rw c.at-then-not-text_fits.ensures
    (no-space a.rows.now a.n a.header a.process_limit a.place a.out.now c.in_ok-ask_call.ensures c.in_ok-ask_rows.ensures kept c.text_fits.ensures
    (ap not c.if-not-text_fits.true))

pub put_header-at-requires : goal.put_header-at-requires
put_header-at-requires c =
    let a = c.args in
    let kept : barrier_place (rows_in a.n a.rows.now) ≡ 0 = search rules in
    header-room a.rows.now a.n a.header a.process_limit a.place a.out.now c.in_ok-ask_call.ensures c.in_ok-ask_rows.ensures kept c.text_fits.ensures
    (ap not c.if-not-text_fits.false)

pub put_rows-end-requires : goal.put_rows-end-requires
put_rows-end-requires c =
    let a = c.args in
    let kept : barrier_place (rows_in a.n a.rows.now) ≡ 0 = search rules in
    lines-room a.rows.now a.n a.header a.process_limit a.place a.out.now c.in_ok-ask_call.ensures c.in_ok-ask_rows.ensures kept c.text_fits.ensures
    (ap not c.if-not-text_fits.false) (c.put_header-at.ensures.answer, c.put_header-at.ensures.left)

pub returns : goal.returns
returns c =
    let a = c.args in
    let kept : barrier_place (rows_in a.n a.rows.now) ≡ 0 = search rules in
    text-written a.rows.now a.n a.header a.process_limit a.place a.out.now c.in_ok-ask_call.ensures c.in_ok-ask_rows.ensures kept c.text_fits.ensures
    (ap not c.if-not-text_fits.false) (c.put_header-at.ensures.answer, c.put_header-at.ensures.left) (c.put_rows-end.ensures.answer, c.put_rows-end.ensures.left)
