-- `join::joining::join_entries` meets its contract.
use Rattle.std.proofs.lemmas.Result.{err_from_is_err_and}
use Rattle.join.proofs.Asked.{asked-refused, asked-no, asked-yes, joined-fit}
use Rattle.join.proofs.Going.{outcome}
use Rattle.join.proofs.joining.join_entries.Goals as goal

pub returns-in_err-n : goal.returns-in_err-n
returns-in_err-n c =
    let a = c.args in
    let p = err_from_is_err_and c.from_residual.result c.from_residual.ensures.1 in
    let both = asked-refused (outcome a.call.row_limit a.call.first_header a.call.second_header a.first.now a.second.now) a.rows.now c.join_records.new.rows
    a.parts.now c.join_records.new.parts c.in_err-n.ensures.answer in
    record { answer = rw (p.1, p.2) both.0; held = both.1 }

pub place_of-requires : goal.place_of-requires
place_of-requires c =
    let a = c.args in
    joined-fit a.call.row_limit a.call.process_limit a.call.first_header a.call.second_header a.first.now a.second.now c.requires.fits.few-processes
    c.requires.first_read c.requires.second_read a.rows.now c.join_records.new.rows a.parts.now c.join_records.new.parts c.in_ok-n.ensures.answer
    c.in_ok-n.ensures.held

pub returns-in-Some : goal.returns-in-Some
returns-in-Some c =
    let a = c.args in
    let both = asked-no (outcome a.call.row_limit a.call.first_header a.call.second_header a.first.now a.second.now) a.rows.now c.join_records.new.rows
    a.parts.now c.join_records.new.parts c.in_ok-n.ensures.answer c.in_ok-n.ensures.held c.in-Some.ensures.0 c.in-Some.ensures.1 in
    record { answer = rw (c.into.ensures, c.at.ensures) both.0; held = both.1 }

pub returns-in-None : goal.returns-in-None
returns-in-None c =
    let a = c.args in
    let both = asked-yes (outcome a.call.row_limit a.call.first_header a.call.second_header a.first.now a.second.now) a.rows.now c.join_records.new.rows
    a.parts.now c.join_records.new.parts c.in_ok-n.ensures.answer c.in_ok-n.ensures.held c.in-None.ensures in
    record { answer = both.0; held = both.1 }
