-- `extents_map::locate::LawfulMap::runs_in` meets its contract.
use Rattle.std.proofs.Common.{rules, tests, arith, ◌≡◌, true, false, List, ℕ, length, ap, subst, sym}
use Rattle.std.specs.List.Sorted.{IsPartitionPoint, IsPartitionedBy}
use Rattle.std.proofs.lemmas.List.Sorted.{IsPartitionPoint-from_clause}
use Rattle.extents_map.proofs.Quads.{has_length, lengths_parted, runs-end}
use Rattle.extents_map.proofs.locate.LawfulMap.runs_in.Goals as goal

pub returns : goal.returns
returns c =
    let xs = c.args.self.numbers.now in
    let r = c.partition_point.result in
    let Point : List (List ℕ) → Type 0 = λ runs. IsPartitionPoint (λ run. has_length run ≡ true) (λ run. has_length run ≡ false) runs r in
    let Parted : List (List ℕ) → Type 0 = IsPartitionedBy has_length in
    let point =
    IsPartitionPoint-from_clause has_length _ _ c.partition_point.ensures.partitioned
    (subst Parted (sym c.as_chunks.ensures.front) (lengths_parted xs c.args.self.lawful)) (λ a r q k. search (rules, tests)) in
    runs-end xs c.args.self.lawful r (omega (arith, c.partition_point.ensures.bound, ap (λ (l : List (List ℕ)). length l) c.as_chunks.ensures.front))
    (subst Point c.as_chunks.ensures.front point)
