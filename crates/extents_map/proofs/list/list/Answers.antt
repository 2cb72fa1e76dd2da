-- `extents_map::list::list` meets its contract.
use Rattle.std.proofs.Common.{arith, refl}
use Rattle.extents_meaning.specs.Runs.{pieces_of}
use Rattle.extents_map.proofs.Listing.{list_start, list_room, list_done, values_of, look_further, look_room, look_next}
use Rattle.extents_map.proofs.list.list.Goals as goal

pub loop-x-init : goal.loop-x-init
unfolding pieces_of
loop-x-init c =
    let a = c.args in
    (list_start (values_of a.map.numbers.now) a.from a.to a.out.now c.requires.rising c.requires.list_room, c.seek-i.ensures)

pub turn-hand-requires : goal.turn-hand-requires
turn-hand-requires c = look_room c.loop-x.invariant c.loop-x-test.true (omega arith) c.see-s.ensures

pub loop-x-smaller : goal.loop-x-smaller
loop-x-smaller c = omega (arith, c.min-x.ensures, look_further c.loop-x.invariant c.loop-x-test.true (omega arith) c.see-s.ensures)

pub loop-x-preserved : goal.loop-x-preserved
loop-x-preserved c = look_next c.loop-x.invariant c.loop-x-test.true (omega arith) c.see-s.ensures c.turn-hand.ensures c.turn-hand.auto.out c.min-x.ensures

pub turn-last-requires : goal.turn-last-requires
turn-last-requires c = list_room c.loop-x.invariant.0 (λ h. absurd (omega (arith, c.loop-x-test.false)))

pub returns : goal.returns
unfolding pieces_of
returns c = let both = list_done c.loop-x.invariant.0 (λ h. absurd (omega (arith, c.loop-x-test.false))) c.turn-last.ensures c.loop-x-test.false refl in record { answer = both.0; out_after = both.1 }
