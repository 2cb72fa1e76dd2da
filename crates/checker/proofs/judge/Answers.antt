-- `checker::judge` meets its contract.
use Rattle.checker.proofs.Verdicts.{decides, never_err}
use Rattle.checker.proofs.judge.Goals as goal

pub returns-in_err-race : goal.returns-in_err-race
returns-in_err-race c =
    let a = c.args in
    absurd (never_err a.text.now a.call.header a.call.model a.call.row_limit a.call.process_limit a.call.byte_limit a.rows.now a.counts.now
    c.in_ok-n.ensures _ c.in_err-race.ensures.answer)

pub returns : goal.returns
returns c =
    let a = c.args in
    decides a.text.now a.call.header a.call.model a.call.row_limit a.call.process_limit a.call.byte_limit a.rows.now a.counts.now
    c.in_ok-n.ensures c.in_ok-race.race c.in_ok-race.ensures.answer c.in_ok-race.ensures.left
