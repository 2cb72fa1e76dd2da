-- `extents_map::list::turn` meets its contract.
use Rattle.extents_map.proofs.Listing.{turn-none, turn-put}
use Rattle.extents_map.proofs.list.turn.Goals as goal

pub returns-then-hand-eq0 : goal.returns-then-hand-eq0
returns-then-hand-eq0 c = turn-none c.if-hand-eq0.true

pub returns : goal.returns
returns c = turn-put c.if-hand-eq0.false c.if-value-hand.false c.copy_from_slice.ensures.after
