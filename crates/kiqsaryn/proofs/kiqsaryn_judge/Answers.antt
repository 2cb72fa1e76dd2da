-- `kiqsaryn::kiqsaryn_judge` meets its contract.
use Rattle.kiqsaryn.proofs.Packs.{packs-judged}
use Rattle.kiqsaryn.proofs.kiqsaryn_judge.Goals as goal

pub returns : goal.returns
returns c =
    let a = c.args in
    packs-judged a.text.now a.header a.model a.row_limit a.process_limit a.byte_limit a.rows.now a.counts.now c.judge.ensures c.pack.ensures
