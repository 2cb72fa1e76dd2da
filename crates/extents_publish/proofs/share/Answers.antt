-- `extents_publish::share` meets its contract.
use Rattle.std.proofs.Common.{arith, refl}
use Rattle.extents_publish.proofs.Sharing.{Shared, layable, laid_end, kept-two, kept-few, woven-end}
use Rattle.extents_publish.proofs.share.Goals as goal
use Rattle.extents_publish.proofs.share.Goals.{Start}

-- What the contract asks is what a call relies on.
call : (c : Start) → Shared c.args.pair c.args.start c.args.end c.args.number c.args.maps.now
call c =
    let asked = c.requires.range_and_number in
    record { two = c.requires.lawful_maps; order = asked.0; inside = omega (arith, c.ranges.end); low = asked.2; own = asked.3; few = c.requires.runs_fit }

pub lay_all-requires : goal.lay_all-requires
lay_all-requires c = layable (call (goal.at.lay_all-requires c).Start)

pub returns-then-lay_all : goal.returns-then-lay_all
returns-then-lay_all c = let both = laid_end (call (goal.at.returns-then-lay_all c).Start) (c.lay_all.ensures.below c.if-lay_all.true) in record { maps_after = both.0; lawful_after = both.1 }

pub weave-requires : goal.weave-requires
weave-requires c =
    let s = call (goal.at.weave-requires c).Start in
    let d = c.lay_all.ensures.stopped c.if-lay_all.false in
    record { lawful_maps = kept-two s d; known_mode = (refl, s.order); runs_fit = kept-few s d }

pub returns : goal.returns
returns c = let both = woven-end (call (goal.at.returns c).Start) (c.lay_all.ensures.stopped c.if-lay_all.false) c.weave.ensures in record { maps_after = both.0; lawful_after = both.1 }
