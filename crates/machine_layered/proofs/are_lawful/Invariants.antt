-- `machine_layered::are_lawful` meets its contract.
use Rattle.std.proofs.Common.{◌≡◌, suc, ◌*◌, true, take, drop}
use Rattle.extents_meaning.specs.Maps.{lawful}
use Rattle.rows.specs.Counting.{all_below}
use Rattle.machine_layered.proofs.are_lawful.Given as goal

-- The maps of the processes below p are lawful.
abbrev pub invariant-loop-p : goal.invariant-loop-p
invariant-loop-p l = all_below l.p (λ q. lawful (take l.size (drop (suc q * l.size) l.maps))) ≡ true
