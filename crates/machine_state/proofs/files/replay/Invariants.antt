-- `machine_state::files::replay` meets its contract.
use Rattle.machine_state.specs.Answers.{header_of}
use Rattle.machine_state.proofs.Replaying.{Replaying}
use Rattle.machine_state.proofs.files.replay.Given as goal

-- The rest of the replay from row k on gives what the whole replay gives, the maps are lawful, and the slices keep their lengths.
abbrev pub invariant-loop-k : goal.invariant-loop-k
invariant-loop-k g l =
    Replaying (g.F.File.lawful (header_of l.machine)) (g.F.File.step (header_of l.machine)) l.machine.file l.rows l.first l.n
    l.fn.maps l.fn.counts l.fn.out l.maps l.counts l.out l.k l.pieces
