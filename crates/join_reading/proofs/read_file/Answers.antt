-- `join_reading::read_file` meets its contract.
use Rattle.std.proofs.Common.{arith, length, refl}
use Rattle.std.proofs.lemmas.Result.{err_from_is_err_and}
use Rattle.rows.proofs.Asking.{number-some}
use Rattle.join_reading.proofs.Asking.{file-legal}
use Rattle.join_reading.proofs.Laws.{reads_kept, reads_none, file-rows-in, reads-rows}
use Rattle.join_reading.proofs.read_file.Goals as goal

pub returns-in_err-ask_file : goal.returns-in_err-ask_file
returns-in_err-ask_file c =
    let p = err_from_is_err_and c.from_residual.result c.from_residual.ensures.1 in
    reads_kept c.args.text.now c.args.header c.args.row_limit c.args.process_limit (length c.args.rows.now) c.args.rows.now (rw (p.1, p.2) refl)
    c.in_err-ask_file.ensures (λ z. omega (arith, number-some c.in_err-ask_file.field-0.0))

pub read_text-requires-clause-few : goal.read_text-requires-clause-few
read_text-requires-clause-few c = (file-legal c.args.header c.args.row_limit c.args.process_limit (length c.args.rows.now) c.in_ok-ask_file.ensures).few-rows

pub read_text-requires-clause-room : goal.read_text-requires-clause-room
read_text-requires-clause-room c = (file-legal c.args.header c.args.row_limit c.args.process_limit (length c.args.rows.now) c.in_ok-ask_file.ensures).rows_have_room

pub slice_bounds-fill-count : goal.slice_bounds-fill-count
slice_bounds-fill-count c =
    omega (
      arith,
      file-rows-in c.args.text.now c.args.header c.args.row_limit c.args.process_limit (length c.args.rows.now) c.in_ok-ask_file.ensures c.args.rows.now c.read_text.new.rows
          c.in_ok-n.ensures.held c.in_ok-n.ensures.answer,
    )

pub slice_bounds-fill-start : goal.slice_bounds-fill-start
slice_bounds-fill-start c =
    omega (
      arith,
      file-rows-in c.args.text.now c.args.header c.args.row_limit c.args.process_limit (length c.args.rows.now) c.in_ok-ask_file.ensures c.args.rows.now c.read_text.new.rows
          c.in_ok-n.ensures.held c.in_ok-n.ensures.answer,
    )

pub returns-in_err-n : goal.returns-in_err-n
returns-in_err-n c =
    let p = err_from_is_err_and c.from_residual-in_err-n.result c.from_residual-in_err-n.ensures.1 in
    rw (p.1, p.2)
    (reads_none c.args.text.now c.args.header c.args.row_limit c.args.process_limit (length c.args.rows.now) c.in_ok-ask_file.ensures c.args.rows.now c.args.rows.now
    c.in_err-n.field-0.0 c.in_err-n.ensures.answer refl c.in_err-n.ensures.cleared)

pub returns : goal.returns
returns c =
    reads-rows c.args.text.now c.args.header c.args.row_limit c.args.process_limit (length c.args.rows.now) c.in_ok-ask_file.ensures c.args.rows.now c.read_text.new.rows
    c.in_ok-n.ensures.held c.in_ok-n.ensures.answer (c.fill.ensures.after (λ y e. e))
