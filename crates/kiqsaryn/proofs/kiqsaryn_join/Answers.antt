-- `kiqsaryn::kiqsaryn_join` meets its contract.
use Rattle.kiqsaryn.proofs.Packs.{packs-join}
use Rattle.kiqsaryn.proofs.kiqsaryn_join.Goals as goal

pub returns : goal.returns
returns c =
    let a = c.args in
    packs-join a.first.now a.second.now a.first_header a.second_header a.model a.row_limit a.process_limit a.rows.now a.counts.now a.parts.now
    c.judge_join.ensures c.pack.ensures
