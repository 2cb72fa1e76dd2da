-- `extents_lay::move_to` meets its contract.
use Rattle.std.proofs.Common.{ℕ, ◌+◌, ◌-◌, arith, ap, ◌∙◌, List, ◌++◌, take, drop, replicate}
use Rattle.extents_lay.proofs.Moves.{moved_none, moved_up, moved_down}
use Rattle.extents_lay.proofs.move_to.Goals as goal

pub returns-then-from-to : goal.returns-then-from-to
returns-then-from-to c = moved_none _ _ _ _ (c.requires.move_inside, c.requires.zeros_behind) c.if-from-to.true

pub returns-then-to-from : goal.returns-then-to-from
returns-then-to-from c =
    let a = c.args in
    let there = a.to + (a.end - a.from) in
    let cleared = λ (ys : List ℕ). (take there ys ++ replicate (a.end - there) 0) ++ drop a.end ys in
    moved_down _ _ _ _ (c.requires.move_inside, c.requires.zeros_behind) (omega arith) (c.clear_between.ensures ∙ ap cleared c.copy_within.ensures.after)

pub returns-else-to-from : goal.returns-else-to-from
returns-else-to-from c = c.copy_within.ensures.after ∙ moved_up _ _ _ _ (c.requires.move_inside, c.requires.zeros_behind) c.if-to-from.false
