-- `extents_pair::most_runs` meets its contract.
use Rattle.std.proofs.Common.{ℕ, arith, ◌≡◌, true, List, sym, ◌∙◌}
use Rattle.extents_pair.specs.InPairs.{two_maps_in}
use Rattle.extents_pair.specs.declared.Pair.{Pair}
use Rattle.extents_pair.proofs.Pairing.{Told, two-told, map-few}
use Rattle.extents_pair.proofs.Bounds.{marked-room, most}
use Rattle.extents_pair.proofs.most_runs.Goals as goal

-- Both maps stand inside the slice and are lawful.
told : (p : Pair) (xs : List ℕ) → two_maps_in p xs ≡ true → Told p.space p.view p.below xs
told p xs two = two-told p.space p.view p.below xs two

pub overflow_add-result : goal.overflow_add-result
overflow_add-result g c =
    let p = c.args.pair in
    let t = told p c.args.maps.now c.requires.0 in
    let e = rw c.map_at.ensures at c.runs_in.ensures in
    omega (arith, e, t.view_within, c.well_formed, map-few p.space p.view c.args.maps.now t.view_within t.view-law)

pub returns-then-NEEDS_VIEW_ALONE : goal.returns-then-NEEDS_VIEW_ALONE
returns-then-NEEDS_VIEW_ALONE g c =
    let t = told c.args.pair c.args.maps.now c.requires.0 in
    let q = sym g.met.M.Mode.alone ∙ (sym c.NEEDS_VIEW_ALONE.ensures ∙ c.if-NEEDS_VIEW_ALONE.true) in
    let e = rw c.map_at.ensures at c.runs_in.ensures in
    λ start n cell. omega (arith, e, rw q at (most _ _ t.view-law t.below-law start n cell g.M.Mode.meaning c.requires.1))

pub overflow_add-result-3 : goal.overflow_add-result-3
overflow_add-result-3 g c =
    let p = c.args.pair in
    let t = told p c.args.maps.now c.requires.0 in
    let e = rw c.map_at-2.ensures at c.runs_in-2.ensures in
    let k = map-few p.space p.below c.args.maps.now t.below_within t.below-law in
    let u = marked-room p.space p.view p.below c.args.maps.now c.requires.0 c.requires.2 in
    omega (arith, e, k, u, t.view_within, c.well_formed)

pub overflow_mul-result : goal.overflow_mul-result
overflow_mul-result g c =
    let p = c.args.pair in
    let t = told p c.args.maps.now c.requires.0 in
    let u = marked-room p.space p.view p.below c.args.maps.now c.requires.0 c.requires.2 in
    omega (arith, u, t.view_within, c.well_formed)

pub overflow_add-result-2 : goal.overflow_add-result-2
overflow_add-result-2 g c =
    let p = c.args.pair in
    let t = told p c.args.maps.now c.requires.0 in
    let e = rw c.map_at-2.ensures at c.runs_in-2.ensures in
    let k = map-few p.space p.below c.args.maps.now t.below_within t.below-law in
    let u = marked-room p.space p.view p.below c.args.maps.now c.requires.0 c.requires.2 in
    omega (arith, e, k, u, t.view_within, c.well_formed)

pub returns : goal.returns
returns g c =
    let t = told c.args.pair c.args.maps.now c.requires.0 in
    let q = sym g.met.M.Mode.alone ∙ (sym c.NEEDS_VIEW_ALONE.ensures ∙ c.if-NEEDS_VIEW_ALONE.false) in
    let e = rw c.map_at-2.ensures at c.runs_in-2.ensures in
    λ start n cell. omega (arith, e, c.requires.2, rw q at (most _ _ t.view-law t.below-law start n cell g.M.Mode.meaning c.requires.1))
