-- `extents_lay::put_run` meets its contract.
use Rattle.std.proofs.Common.{◌/◌, ◌%◌, arith}
use Rattle.extents_lay.proofs.Moves.{four_stored}
use Rattle.extents_lay.proofs.put_run.Goals as goal

pub returns : goal.returns
returns c =
    let a = c.args in
    four_stored a.map.now a.at a.start a.length (a.cell / 2) (a.cell % 2) (omega arith) c.copy_from_slice.ensures.after
