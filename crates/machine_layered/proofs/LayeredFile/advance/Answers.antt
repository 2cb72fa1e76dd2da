-- `machine_layered::LayeredFile::advance` meets its contract.
use Rattle.std.proofs.Common.{arith}
use Rattle.std.proofs.lemmas.Grind.{common_steps}
use Rattle.machine_state.specs.Answers.{header_of}
use Rattle.machine_layered.proofs.Laying.{asked-step}
use Rattle.machine_layered.proofs.LayeredFile.advance.Goals as goal

pub returns-in_err-ask_row : goal.returns-in_err-ask_row
returns-in_err-ask_row c =
    let a = c.args in
    let stop = asked-step (header_of a.machine) a.maps.now a.row a.number a.out.now c.requires c.in_err-ask_row.field-0.0 c.in_err-ask_row.ensures in
    grind (arith, common_steps)
