-- `extents_map::locate::LawfulMap::first_past_among` meets its contract.
use Rattle.std.proofs.Common.{rules, tests, arith, ◌≡◌, true, false, List, ℕ, length, take, ap, subst, sym, ◌∙◌, ◌≤◌}
use Rattle.std.specs.List.Sorted.{IsPartitionPoint, IsPartitionedBy}
use Rattle.std.proofs.lemmas.List.Sorted.{IsPartitionPoint-from_clause}
use Rattle.extents_map.proofs.Quads.{is_over, own_quads, length_own, over_parted, over_within, before-over, at-over}
use Rattle.extents_map.proofs.locate.LawfulMap.first_past_among.Goals as goal
use Rattle.extents_map.proofs.locate.LawfulMap.first_past_among.Goals.{After-partition_point}

-- the runs' arrays
abbrev own : After-partition_point → List (List ℕ)
own c = let a = c.args in own_quads a.self.numbers.now a.self.lawful a.x a.all c.requires

-- the place that the search finds
point : (c : After-partition_point) →
    IsPartitionPoint (λ run. is_over c.args.x run ≡ true) (λ run. is_over c.args.x run ≡ false) (own c) c.partition_point.result
point c =
    let a = c.args in
    let r = c.partition_point.result in
    let Point : List (List ℕ) → Type 0 =
    λ runs. IsPartitionPoint (λ run. is_over a.x run ≡ true) (λ run. is_over a.x run ≡ false) (take a.all runs) r in
    let Parted : List (List ℕ) → Type 0 = λ runs. IsPartitionedBy (is_over a.x) (take a.all runs) in
    subst Point c.as_chunks.ensures.front
    (IsPartitionPoint-from_clause (is_over a.x) _ _ c.partition_point.ensures.partitioned
    (subst Parted (sym c.as_chunks.ensures.front) (over_parted a.self.numbers.now a.self.lawful a.x a.all c.requires)) (λ a r q k. search (rules, tests)))

-- it lies within them
within : (c : After-partition_point) → c.partition_point.result ≤ length (own c)
within c =
    let a = c.args in
    omega (arith, c.partition_point.ensures.bound, ap (λ (l : List (List ℕ)). length (take a.all l)) c.as_chunks.ensures.front)

pub slice_bounds-partition_point-end : goal.slice_bounds-partition_point-end
slice_bounds-partition_point-end c =
    let a = c.args in
    sym (ap (λ (l : List (List ℕ)). length (take a.all l)) c.as_chunks.ensures.front
    ∙ length_own a.self.numbers.now a.self.lawful a.x a.all c.requires)

pub returns-clause-within : goal.returns-clause-within
returns-clause-within c =
    let a = c.args in over_within a.self.numbers.now a.self.lawful a.x a.all c.requires c.partition_point.result (within c) (point c)

pub returns-clause-passed : goal.returns-clause-passed
returns-clause-passed c =
    let a = c.args in before-over a.self.numbers.now a.self.lawful a.x a.all c.requires c.partition_point.result (within c) (point c)

pub returns-clause-not_passed : goal.returns-clause-not_passed
returns-clause-not_passed c =
    let a = c.args in at-over a.self.numbers.now a.self.lawful a.x a.all c.requires c.partition_point.result (within c) (point c)
