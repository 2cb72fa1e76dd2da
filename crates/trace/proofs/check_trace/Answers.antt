-- `trace::check_trace` meets its contract.
use Rattle.std.proofs.Common.{length, replicate, ℕ, arith, refl, sym, ap, ◌∙◌}
use Rattle.std.proofs.lemmas.Result.{err_from_is_err_and}
use Rattle.csv_records.specs.Reading.{records}
use Rattle.trace.specs.Questions.{check_trace, checked_of, Holds}
use Rattle.rows.proofs.Asking.{number-some}
use Rattle.trace.proofs.Whole.{call-passed, call-refused, first_three, accepted-told, refused-told, leaves_all, leaves_none, leaves-rows, rows_within}
use Rattle.trace.proofs.Laws.{legal, refused-from_four}
use Rattle.trace.proofs.check_trace.Goals as goal

pub returns-in_err-ask_call : goal.returns-in_err-ask_call
returns-in_err-ask_call c =
    let p = err_from_is_err_and c.from_residual.result c.from_residual.ensures.1 in
    leaves_all c.args.rows.now c.args.counts.now (rw (p.1, p.2) refl)
    (call-refused c.args.text.now c.args.call.header c.args.call.model c.args.call.row_limit c.args.call.process_limit c.args.call.byte_limit (length c.args.rows.now) (length c.args.counts.now)
    c.in_err-ask_call.ensures (λ z. omega (arith, number-some c.in_err-ask_call.field-0.0)))
    (first_three c.args.text.now c.args.call.header c.args.call.model c.args.call.row_limit c.args.call.process_limit c.args.call.byte_limit (length c.args.rows.now) (length c.args.counts.now) c.in_err-ask_call.ensures)

pub read_trace-requires-clause-few : goal.read_trace-requires-clause-few
read_trace-requires-clause-few c = (legal c.args.call.header c.args.call.model c.args.call.row_limit c.args.call.process_limit (length c.args.rows.now) (length c.args.counts.now) c.in_ok-ask_call.ensures).few-rows

pub read_trace-requires-clause-room : goal.read_trace-requires-clause-room
read_trace-requires-clause-room c =
    (legal c.args.call.header c.args.call.model c.args.call.row_limit c.args.call.process_limit (length c.args.rows.now) (length c.args.counts.now) c.in_ok-ask_call.ensures).rows_have_room

pub read_trace-requires-clause-processes : goal.read_trace-requires-clause-processes
read_trace-requires-clause-processes c =
    (legal c.args.call.header c.args.call.model c.args.call.row_limit c.args.call.process_limit (length c.args.rows.now) (length c.args.counts.now) c.in_ok-ask_call.ensures).few-processes

pub slice_bounds-fill-count : goal.slice_bounds-fill-count
slice_bounds-fill-count c =
    let p = call-passed c.args.text.now c.args.call.header c.args.call.model c.args.call.row_limit c.args.call.process_limit c.args.call.byte_limit (length c.args.rows.now) (length c.args.counts.now) (sym c.in_ok-ask_call.ensures) refl in
    let o = check_trace c.args.text.now c.args.call.header c.args.call.model c.args.call.row_limit c.args.call.process_limit c.args.call.byte_limit (length c.args.rows.now) (length c.args.counts.now) in
    let t = accepted-told o (c.in-Ok.ensures.answer ∙ ap checked_of (sym p)) in
    let h : Holds o c.args.rows.now c.read_trace.new.rows = rw p c.in-Ok.ensures.held in
    omega (arith, rows_within c.args.rows.now c.args.counts.now c.read_trace.new.rows t h)

pub slice_bounds-fill-start : goal.slice_bounds-fill-start
slice_bounds-fill-start c =
    let p = call-passed c.args.text.now c.args.call.header c.args.call.model c.args.call.row_limit c.args.call.process_limit c.args.call.byte_limit (length c.args.rows.now) (length c.args.counts.now) (sym c.in_ok-ask_call.ensures) refl in
    let o = check_trace c.args.text.now c.args.call.header c.args.call.model c.args.call.row_limit c.args.call.process_limit c.args.call.byte_limit (length c.args.rows.now) (length c.args.counts.now) in
    let t = accepted-told o (c.in-Ok.ensures.answer ∙ ap checked_of (sym p)) in
    let h : Holds o c.args.rows.now c.read_trace.new.rows = rw p c.in-Ok.ensures.held in
    omega (arith, rows_within c.args.rows.now c.args.counts.now c.read_trace.new.rows t h)

pub returns-in-Ok : goal.returns-in-Ok
returns-in-Ok c =
    let p = call-passed c.args.text.now c.args.call.header c.args.call.model c.args.call.row_limit c.args.call.process_limit c.args.call.byte_limit (length c.args.rows.now) (length c.args.counts.now) (sym c.in_ok-ask_call.ensures) refl in
    let o = check_trace c.args.text.now c.args.call.header c.args.call.model c.args.call.row_limit c.args.call.process_limit c.args.call.byte_limit (length c.args.rows.now) (length c.args.counts.now) in
    let t = accepted-told o (c.in-Ok.ensures.answer ∙ ap checked_of (sym p)) in
    let h : Holds o c.args.rows.now c.read_trace.new.rows = rw p c.in-Ok.ensures.held in
    leaves-rows c.args.rows.now c.args.counts.now c.read_trace.new.rows t h (c.fill-in-Ok.ensures.after (λ y e. e)) (c.fill.ensures.after (λ y e. e))

pub returns-in-Err : goal.returns-in-Err
returns-in-Err c =
    let p = call-passed c.args.text.now c.args.call.header c.args.call.model c.args.call.row_limit c.args.call.process_limit c.args.call.byte_limit (length c.args.rows.now) (length c.args.counts.now) (sym c.in_ok-ask_call.ensures) refl in
    let o = check_trace c.args.text.now c.args.call.header c.args.call.model c.args.call.row_limit c.args.call.process_limit c.args.call.byte_limit (length c.args.rows.now) (length c.args.counts.now) in
    let e = refused-told o (c.in-Err.ensures.answer ∙ ap checked_of (sym p)) in
    let four = refused-from_four c.args.call.header c.args.call.row_limit c.args.call.process_limit (records c.args.text.now c.args.call.byte_limit) _ _ (sym p ∙ e) in
    leaves_none c.args.rows.now c.args.counts.now refl e four
    (c.fill-in-Err.ensures.after (λ y q. q) ∙ ap (λ (k : ℕ). replicate k 0) c.read_trace.auto.rows) (c.fill.ensures.after (λ y q. q))
