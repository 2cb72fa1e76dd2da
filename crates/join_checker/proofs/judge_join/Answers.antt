-- `join_checker::judge_join` meets its contract.
use Rattle.join_checker.proofs.Verdicts.{decides, never_err}
use Rattle.join_checker.proofs.judge_join.Goals as goal

pub returns-in_err-race : goal.returns-in_err-race
returns-in_err-race c =
    let a = c.args in
    absurd (never_err a.first.now a.second.now a.call a.rows.now a.counts.now a.parts.now c.in_ok-n.ensures _ c.in_err-race.ensures.answer)

pub returns : goal.returns
returns c =
    let a = c.args in
    decides a.first.now a.second.now a.call a.rows.now a.counts.now a.parts.now c.in_ok-n.ensures c.in_ok-race.race c.in_ok-race.ensures.answer c.in_ok-race.ensures.left
