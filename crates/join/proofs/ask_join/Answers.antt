-- `join::ask_join` meets its contract.
use Rattle.std.proofs.Common.{arith, ◌≤◌, sym}
use Rattle.std.proofs.lemmas.Result.{err_from_is_err_and}
use Rattle.rows.specs.Refusals.{number_of}
use Rattle.rows.proofs.Asking.{number-some}
use Rattle.join.proofs.Asking.{few-parts, call-no, second-bad, second-good}
use Rattle.join.proofs.ask_join.Goals as goal

pub returns-then-parts_len-call : goal.returns-then-parts_len-call
returns-then-parts_len-call c = few-parts c.args.call c.args.rows_len c.args.counts_len c.args.parts_len c.if-parts_len-call.true

pub returns-in_err-ask_call : goal.returns-in_err-ask_call
returns-in_err-ask_call c =
    let e = c.in_err-ask_call.field-0.0 in
    let low : 1 ≤ number_of e = number-some e in
    let p = err_from_is_err_and c.from_residual.result c.from_residual.ensures.1 in
    rw (p.1, p.2)
    (call-no c.args.call c.args.rows_len c.args.counts_len c.args.parts_len c.if-parts_len-call.false c.in_err-ask_call.ensures (λ z. omega arith))

pub returns-then-call-gt1 : goal.returns-then-call-gt1
returns-then-call-gt1 c =
    second-bad c.args.call c.args.rows_len c.args.counts_len c.args.parts_len c.if-parts_len-call.false c.in_ok-ask_call.ensures c.if-call-gt1.true

pub returns : goal.returns
returns c =
    sym (second-good c.args.call c.args.rows_len c.args.counts_len c.args.parts_len c.if-parts_len-call.false c.in_ok-ask_call.ensures c.if-call-gt1.false)
