-- `extents_refresh::copy` meets its contract.
use Rattle.std.proofs.Common.{◌+◌, ◌-◌, ◌*◌, arith, ◌≡◌, ◌∙◌, drop}
use lib.Seq.{paste}
use Rattle.extents_refresh.proofs.Copying.{copied}
use Rattle.extents_refresh.proofs.copy.Goals as goal

pub overflow_mul-end : goal.overflow_mul-end
overflow_mul-end c =
    let a = c.args in
    let f =
    (copied a.space a.j a.k a.maps.now (c.requires.map_inside, c.requires.lawful_maps) c.runs_in-there.ensures c.runs_in-here.ensures c.max-end.ensures).0 in
    omega (arith, f, c.requires.map_inside.0, c.well_formed)

pub overflow_add-from : goal.overflow_add-from
overflow_add-from c =
    let a = c.args in
    let f =
    (copied a.space a.j a.k a.maps.now (c.requires.map_inside, c.requires.lawful_maps) c.runs_in-there.ensures c.runs_in-here.ensures c.max-end.ensures).0 in
    omega (arith, f, c.requires.map_inside.0, c.well_formed)

pub copy_within-requires-clause-in_bounds : goal.copy_within-requires-clause-in_bounds
copy_within-requires-clause-in_bounds c =
    let a = c.args in
    let f =
    (copied a.space a.j a.k a.maps.now (c.requires.map_inside, c.requires.lawful_maps) c.runs_in-there.ensures c.runs_in-here.ensures c.max-end.ensures).0 in
    omega (arith, f, c.requires.map_inside.0)

pub copy_within-requires-clause-dest_in_bounds : goal.copy_within-requires-clause-dest_in_bounds
copy_within-requires-clause-dest_in_bounds c =
    let a = c.args in
    let f =
    (copied a.space a.j a.k a.maps.now (c.requires.map_inside, c.requires.lawful_maps) c.runs_in-there.ensures c.runs_in-here.ensures c.max-end.ensures).0 in
    omega (arith, f, c.requires.map_inside.1)

pub returns : goal.returns
returns c =
    let a = c.args in
    let from = a.j * (4 * a.space) in
    let n : from + c.max-end.result * 4 - from ≡ c.max-end.result * 4 = omega arith in
    c.copy_within.ensures.after ∙ (λ i. paste a.maps.now (a.k * (4 * a.space)) (drop from a.maps.now) (n i))
    ∙ (copied a.space a.j a.k a.maps.now (c.requires.map_inside, c.requires.lawful_maps) c.runs_in-there.ensures c.runs_in-here.ensures c.max-end.ensures).1
