-- `trace::read_trace` meets its contract.
use Rattle.std.proofs.Common.{refl, arith}
use Rattle.std.proofs.lemmas.Result.{err_from_is_err_and}
use Rattle.csv_records.specs.Reading.{records}
use Rattle.trace.proofs.Whole.{record_refused, rows_have_room, barriers-passed, barriers-refused}
use Rattle.trace.proofs.read_trace.Goals as goal

pub returns-in_err-n-clause-answer : goal.returns-in_err-n-clause-answer
returns-in_err-n-clause-answer c =
    let p = err_from_is_err_and c.from_residual.result c.from_residual.ensures.1 in
    rw (p.1, p.2)
    (record_refused c.args.call.row_limit c.args.call.process_limit c.args.call.header (records c.args.text.now c.args.call.byte_limit)
    c.args.rows.now c.read_records.new.rows c.in_err-n.ensures.answer).0

pub returns-in_err-n-clause-held : goal.returns-in_err-n-clause-held
returns-in_err-n-clause-held c =
    (record_refused c.args.call.row_limit c.args.call.process_limit c.args.call.header (records c.args.text.now c.args.call.byte_limit)
    c.args.rows.now c.read_records.new.rows c.in_err-n.ensures.answer).1

pub place_of-requires : goal.place_of-requires
place_of-requires c =
    rows_have_room c.args.call.row_limit c.args.call.process_limit c.args.call.header (records c.args.text.now c.args.call.byte_limit)
    c.args.rows.now c.read_records.new.rows c.in_ok-n.ensures.answer c.in_ok-n.ensures.held c.requires.processes

pub returns-in-None-clause-answer : goal.returns-in-None-clause-answer
returns-in-None-clause-answer c =
    (barriers-passed c.args.call.row_limit c.args.call.process_limit c.args.call.header (records c.args.text.now c.args.call.byte_limit)
    c.args.rows.now c.read_records.new.rows c.in_ok-n.ensures.answer c.in_ok-n.ensures.held refl c.in-None.ensures).0

pub returns-in-None-clause-held : goal.returns-in-None-clause-held
returns-in-None-clause-held c =
    (barriers-passed c.args.call.row_limit c.args.call.process_limit c.args.call.header (records c.args.text.now c.args.call.byte_limit)
    c.args.rows.now c.read_records.new.rows c.in_ok-n.ensures.answer c.in_ok-n.ensures.held refl c.in-None.ensures).1

pub returns-in-Some-clause-answer : goal.returns-in-Some-clause-answer
returns-in-Some-clause-answer c =
    rw c.at.ensures (barriers-refused c.args.call.row_limit c.args.call.process_limit c.args.call.header (records c.args.text.now c.args.call.byte_limit)
    c.args.rows.now c.read_records.new.rows c.in_ok-n.ensures.answer c.in_ok-n.ensures.held c.in-Some.ensures.0 (λ z. omega (arith, c.in-Some.ensures.1))).0

pub returns-in-Some-clause-held : goal.returns-in-Some-clause-held
returns-in-Some-clause-held c =
    (barriers-refused c.args.call.row_limit c.args.call.process_limit c.args.call.header (records c.args.text.now c.args.call.byte_limit)
    c.args.rows.now c.read_records.new.rows c.in_ok-n.ensures.answer c.in_ok-n.ensures.held c.in-Some.ensures.0 (λ z. omega (arith, c.in-Some.ensures.1))).1
