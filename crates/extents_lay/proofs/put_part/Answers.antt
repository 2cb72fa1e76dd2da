-- `extents_lay::put_part` meets its contract.
use Rattle.std.proofs.Common.{arith}
use Rattle.extents_lay.proofs.Moves.{put-none, put_one}
use Rattle.extents_lay.proofs.put_part.Goals as goal

pub returns-then-length-eq0 : goal.returns-then-length-eq0
returns-then-length-eq0 c = let both = put-none _ _ _ _ _ c.if-length-eq0.true in record { answer = both.0; runs_put = both.1 }

pub returns-clause-runs_put : goal.returns-clause-runs_put
returns-clause-runs_put c =
    let f = c.if-length-eq0.false in
    (put_one c.args.map.now c.args.i c.args.start c.args.length c.args.cell (omega arith) (omega (arith, c.requires)) c.put_group.ensures).1
