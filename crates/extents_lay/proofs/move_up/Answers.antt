-- `extents_lay::move_up` meets its contract.
use Rattle.std.proofs.Common.{◌∙◌}
use Rattle.extents_lay.proofs.Moves.{copied_up}
use Rattle.extents_lay.proofs.move_up.Goals as goal

pub returns : goal.returns
returns c = let a = c.args in c.copy_within.ensures.after ∙ copied_up a.map.now a.from a.end a.by c.requires.0 c.requires.1
