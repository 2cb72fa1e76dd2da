-- `extents_map::locate::LawfulMap::first_past` meets its contract.
use Rattle.std.proofs.Common.{rules, tests, arith, ◌≡◌, true, false, List, ℕ, length, ap, subst, sym, ◌≤◌}
use Rattle.std.specs.List.Sorted.{IsPartitionPoint, IsPartitionedBy}
use Rattle.std.proofs.lemmas.List.Sorted.{IsPartitionPoint-from_clause}
use Rattle.extents_map.proofs.Quads.{quads, is_passed, passed_parted, past_within, before-past, at-past}
use Rattle.extents_map.proofs.locate.LawfulMap.first_past.Goals as goal
use Rattle.extents_map.proofs.locate.LawfulMap.first_past.Goals.{After-partition_point}

-- the place that the search finds
point : (c : After-partition_point) →
    IsPartitionPoint (λ run. is_passed c.args.x run ≡ true) (λ run. is_passed c.args.x run ≡ false) (quads c.args.self.numbers.now)
    c.partition_point.result
point c =
    let a = c.args in
    let r = c.partition_point.result in
    let Point : List (List ℕ) → Type 0 =
    λ runs. IsPartitionPoint (λ run. is_passed a.x run ≡ true) (λ run. is_passed a.x run ≡ false) runs r in
    let Parted : List (List ℕ) → Type 0 = IsPartitionedBy (is_passed a.x) in
    subst Point c.as_chunks.ensures.front
    (IsPartitionPoint-from_clause (is_passed a.x) _ _ c.partition_point.ensures.partitioned
    (subst Parted (sym c.as_chunks.ensures.front) (passed_parted a.self.numbers.now a.self.lawful a.x)) (λ a r q k. search (rules, tests)))

-- it lies within the slice
within : (c : After-partition_point) → c.partition_point.result ≤ length (quads c.args.self.numbers.now)
within c = omega (arith, c.partition_point.ensures.bound, ap (λ (l : List (List ℕ)). length l) c.as_chunks.ensures.front)

pub returns-clause-within : goal.returns-clause-within
returns-clause-within c =
    let a = c.args in past_within a.self.numbers.now a.self.lawful a.x c.partition_point.result (within c) (point c)

pub returns-clause-passed : goal.returns-clause-passed
returns-clause-passed c =
    let a = c.args in before-past a.self.numbers.now a.self.lawful a.x c.partition_point.result (within c) (point c)

pub returns-clause-not_passed : goal.returns-clause-not_passed
returns-clause-not_passed c =
    let a = c.args in at-past a.self.numbers.now a.self.lawful a.x c.partition_point.result (within c) (point c)
