-- `join::join_files` meets its contract.
use Rattle.std.proofs.Common.{refl, sym, ap, ◌∙◌, ◌++◌}
use Rattle.std.proofs.lemmas.Result.{err_from_is_err_and}
use Rattle.barriers.specs.Participants.{participants}
use Rattle.join_meaning.proofs.Ahead.{file-rows}
use Rattle.join.specs.Sharing.{any_flagged}
use Rattle.join.proofs.Flags.{flags_told, both-counted}
use Rattle.join.proofs.Going.{fits_kept}
use Rattle.join.proofs.Whole.{file-refused, file-accepted, first-refused, second-refused, shares, joins, refusal-over, joined-over}
use Rattle.join.proofs.join_files.Goals as goal

pub returns-in_err-n : goal.returns-in_err-n
returns-in_err-n c =
    let a = c.args in
    let call = a.call in
    let p = c.requires in
    let q = err_from_is_err_and c.from_residual.result c.from_residual.ensures.1 in
    let both = refusal-over (first-refused call.first_header call.second_header call.row_limit call.process_limit a.first.now a.second.now
    (file-refused p.fits p.some-rows p.some-processes call.first_header p.first_word a.first.now refl c.in_err-n.ensures.answer)) in
    record { answer = rw (q.1, q.2, c.in_err-n.ensures.named) both.0; held = both.1 }

pub returns-in_err-m : goal.returns-in_err-m
returns-in_err-m c =
    let a = c.args in
    let call = a.call in
    let p = c.requires in
    let one = file-accepted p.fits p.some-rows p.some-processes call.first_header p.first_word a.first.now refl c.in_ok-n.ensures.answer a.rows.now c.in_ok-n.ensures.left in
    let q = err_from_is_err_and c.from_residual-in_err-m.result c.from_residual-in_err-m.ensures.1 in
    let both = refusal-over (second-refused call.first_header call.second_header call.row_limit call.process_limit a.first.now a.second.now one.1
    (file-refused p.fits p.some-rows p.some-processes call.second_header p.second_word a.second.now c.read_one.auto.rows c.in_err-m.ensures.answer)) in
    record { answer = rw (q.1, q.2, c.in_err-m.ensures.named) both.0; held = both.1 }

pub returns-then-is_any_flagged : goal.returns-then-is_any_flagged
returns-then-is_any_flagged c =
    let a = c.args in
    let call = a.call in
    let p = c.requires in
    let text = a.first.now in
    let more = a.second.now in
    let one = file-accepted p.fits p.some-rows p.some-processes call.first_header p.first_word text refl c.in_ok-n.ensures.answer a.rows.now c.in_ok-n.ensures.left in
    let two = file-accepted p.fits p.some-rows p.some-processes call.second_header p.second_word more c.read_one.auto.rows c.in_ok-m.ensures.answer c.read_one.new.rows c.in_ok-m.ensures.left in
    let flags = flags_told c.flag_processes-flags.ensures one.2 in
    let asked = c.is_any_flagged.ensures ∙ ap (any_flagged c.flag_processes-flags.result) two.2 in
    let both = refusal-over (shares call.first_header call.second_header call.row_limit call.process_limit text more one.1 two.1 p.fits.few-processes flags asked c.if-is_any_flagged.true) in
    record { answer = rw c.into.ensures both.0; held = both.1 }

pub join_entries-requires : goal.join_entries-requires
join_entries-requires c =
    let a = c.args in
    let call = a.call in
    let p = c.requires in
    let text = a.first.now in
    let more = a.second.now in
    let one = file-accepted p.fits p.some-rows p.some-processes call.first_header p.first_word text refl c.in_ok-n.ensures.answer a.rows.now c.in_ok-n.ensures.left in
    let two = file-accepted p.fits p.some-rows p.some-processes call.second_header p.second_word more c.read_one.auto.rows c.in_ok-m.ensures.answer c.read_one.new.rows c.in_ok-m.ensures.left in
    let counted = both-counted (flags_told c.flag_processes-flags.ensures one.2) c.flag_processes-both.ensures two.2 c.count_flags-processes.ensures in record {
      fits = fits_kept p.fits (c.read_one-2.auto.rows ∙ c.read_one.auto.rows) refl;
      first_read = record { rows = one.0; is_read = one.1 };
      second_read = record { rows = two.0; is_read = two.1 };
      told_processes = counted ∙ (λ i. participants (sym (file-rows call.first_header call.row_limit call.process_limit text one.1 1) i
          ++ sym (file-rows call.second_header call.row_limit call.process_limit more two.1 2) i));
    }

pub returns : goal.returns
returns c =
    let a = c.args in
    let call = a.call in
    let p = c.requires in
    let text = a.first.now in
    let more = a.second.now in
    let one = file-accepted p.fits p.some-rows p.some-processes call.first_header p.first_word text refl c.in_ok-n.ensures.answer a.rows.now c.in_ok-n.ensures.left in
    let two = file-accepted p.fits p.some-rows p.some-processes call.second_header p.second_word more c.read_one.auto.rows c.in_ok-m.ensures.answer c.read_one.new.rows c.in_ok-m.ensures.left in
    let flags = flags_told c.flag_processes-flags.ensures one.2 in
    let asked = c.is_any_flagged.ensures ∙ ap (any_flagged c.flag_processes-flags.result) two.2 in
    let both = joined-over c.read_one-2.new.rows (joins call.first_header call.second_header call.row_limit call.process_limit text more one.1 two.1 p.fits.few-processes flags asked c.if-is_any_flagged.false)
    (c.read_one-2.auto.rows ∙ c.read_one.auto.rows) (c.join_entries.ensures.answer, c.join_entries.ensures.held) in
    record { answer = both.0; held = both.1 }
