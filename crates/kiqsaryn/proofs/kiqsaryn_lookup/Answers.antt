-- `kiqsaryn::kiqsaryn_lookup` meets its contract.
use Rattle.kiqsaryn.proofs.Packs.{packs-lookup}
use Rattle.kiqsaryn.proofs.kiqsaryn_lookup.Goals as goal

pub returns : goal.returns
returns c = packs-lookup c.args.map.now c.args.byte c.lookup.result c.lookup.ensures c.pack.ensures
