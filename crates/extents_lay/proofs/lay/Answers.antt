-- `extents_lay::lay` meets its contract.
use Rattle.std.proofs.Common.{arith, refl}
use Rattle.extents_meaning.proofs.Trips.{lawful-map}
use Rattle.extents_lay.proofs.Ranges.{zeros-behind, not-laid, all_laid}
use Rattle.extents_lay.proofs.lay.Goals as goal

pub overflow_add-to : goal.overflow_add-to
overflow_add-to c = let m = lawful-map _ c.requires.lawful_map.0 in omega arith

pub overflow_add-to-2 : goal.overflow_add-to-2
overflow_add-to-2 c = let m = lawful-map _ c.requires.lawful_map.0 in omega arith

pub returns-then-map-to : goal.returns-then-map-to
returns-then-map-to c =
    let m = c.middle_length-middle.ensures in
    let b = c.first_behind-behind.ensures in
    let n = c.runs_in-all.ensures in
    record { answer = not-laid _ c.requires.lawful_map.0 c.left_side-left.result c.right_side-right.result c.requires.lawful_map.1 n b c.left_side-left.ensures c.right_side-right.ensures (m.cleared, m.covered) c.count_parts.ensures c.if-map-to.true; map_after = refl }

pub overflow_mul-behind : goal.overflow_mul-behind
overflow_mul-behind c =
    let m = lawful-map _ c.requires.lawful_map.0 in
    omega (arith, c.first_behind-behind.ensures.most)

pub overflow_mul-all : goal.overflow_mul-all
overflow_mul-all c =
    let m = lawful-map _ c.requires.lawful_map.0 in
    omega (arith, c.runs_in-all.ensures)

pub move_to-requires : goal.move_to-requires
move_to-requires c =
    let m = lawful-map _ c.requires.lawful_map.0 in
    let n = c.runs_in-all.ensures in
    record { move_inside = (omega arith, omega arith, omega arith); zeros_behind = zeros-behind _ c.requires.lawful_map.0 n }

pub returns : goal.returns
returns c =
    let both = let m = c.middle_length-middle.ensures in
    let b = c.first_behind-behind.ensures in
    let n = c.runs_in-all.ensures in
    all_laid _ c.requires.lawful_map.0 c.left_side-left.result c.right_side-right.result c.requires.lawful_map.1 n b c.left_side-left.ensures c.right_side-right.ensures (m.cleared, m.covered) c.count_parts.ensures
    c.if-map-to.false c.put_part-second.new.map c.put_part-third.new.map c.move_to.ensures
    (c.put_part-second.ensures.answer, c.put_part-second.ensures.runs_put) (c.put_part-third.ensures.answer, c.put_part-third.ensures.runs_put) (c.put_part.ensures.answer, c.put_part.ensures.runs_put) in record { answer = both.0; map_after = both.1 }
