-- `trace_numbers::read_numbers` meets its contract.
use Rattle.std.proofs.lemmas.Result.{err_from_is_err_and}
use Rattle.trace_numbers.proofs.Reading.{no_process, no_file, no_offset, no_length, no_message, all-numbers}
use Rattle.trace_numbers.proofs.read_numbers.Goals as goal

pub returns-in_err-number_in : goal.returns-in_err-number_in
returns-in_err-number_in c =
    let p = err_from_is_err_and c.from_residual.result c.from_residual.ensures.1 in
    rw (p.1, p.2, c.in_err-number_in.ensures.1) (no_process _ _ _ _ _ c.in_err-number_in.ensures.0)

pub returns-in_err-number_in-2 : goal.returns-in_err-number_in-2
returns-in_err-number_in-2 c =
    let p = err_from_is_err_and c.from_residual-in_err-number_in-2.result c.from_residual-in_err-number_in-2.ensures.1 in
    rw (p.1, p.2, c.in_err-number_in-2.ensures.1) (no_file _ _ _ _ _ c.in_err-number_in-2.ensures.0)

pub returns-in_err-number_in-3 : goal.returns-in_err-number_in-3
returns-in_err-number_in-3 c =
    let p = err_from_is_err_and c.from_residual-in_err-number_in-3.result c.from_residual-in_err-number_in-3.ensures.1 in
    rw (p.1, p.2, c.in_err-number_in-3.ensures.1) (no_offset _ _ _ _ _ c.in_err-number_in-3.ensures.0)

pub returns-in_err-number_in-4 : goal.returns-in_err-number_in-4
returns-in_err-number_in-4 c =
    let p = err_from_is_err_and c.from_residual-in_err-number_in-4.result c.from_residual-in_err-number_in-4.ensures.1 in
    rw (p.1, p.2, c.in_err-number_in-4.ensures.1) (no_length _ _ _ _ _ c.in_err-number_in-4.ensures.0)

pub returns-in_err-number_in-5 : goal.returns-in_err-number_in-5
returns-in_err-number_in-5 c =
    let p = err_from_is_err_and c.from_residual-in_err-number_in-5.result c.from_residual-in_err-number_in-5.ensures.1 in
    rw (p.1, p.2, c.in_err-number_in-5.ensures.1) (no_message _ _ _ _ _ c.in_err-number_in-5.ensures.0)

pub returns : goal.returns
returns c =
    all-numbers _ _ _ _ _ c.in_ok-number_in.ensures c.in_ok-number_in-2.ensures c.in_ok-number_in-3.ensures
    c.in_ok-number_in-4.ensures c.in_ok-number_in-5.ensures
