-- `happens_before::processes_in` meets its contract.
use Rattle.happens_before.specs.Filling.{processes_in}
use Rattle.std.proofs.Common.{◌≡◌, true}
use Rattle.happens_before.proofs.processes_in.Given as goal

-- Every row below index i has a process below the limit.
abbrev pub invariant-loop-i : goal.invariant-loop-i
invariant-loop-i l = processes_in l.i l.process_limit l.rows ≡ true
