-- The numbers of a run in a lawful map, and how many runs it has.
use Rattle.std.proofs.Common.{ℕ, suc, ◌+◌, ◌*◌, ◌-◌, ◌≤◌, ◌<◌, arith, ◌≡◌, refl, sym, ap, ◌∙◌, true, List, [], append-nil, length, take, drop, length-take-le, get_or-drop, drop-cons}
use lib.ListN.{get_or}
use lib.Seq.{split_at}
use Rattle.rows.specs.Limits.{OFFSET_MAX}
use Rattle.extents_meaning.specs.Runs.{run_of}
use Rattle.extents_meaning.specs.Maps.{space_in, runs, lawful}
use Rattle.extents_meaning.proofs.Trips.{map_none, lawful-map, rest_at, run_at_lem}
use Rattle.rows.proofs.Zeros.{zeros}
use Rattle.extents_map.specs.Beside.{end_of, run_no}
use Rattle.extents_map.proofs.Parted.{next-at}
use Rattle.extents_map.proofs.Looking.{numbered-drop}

-- what stands at the place of run i
pub record Here (xs : List ℕ) (i : ℕ) : Type 0 where
  pub start : get_or xs (4 * i) 0 ≡ (run_no (runs xs) i).start
  pub end : get_or xs (4 * i) 0 + get_or xs (4 * i + 1) 0 ≡ end_of (run_no (runs xs) i)
  pub cell : get_or xs (4 * i + 2) 0 * 2 + get_or xs (4 * i + 3) 0 ≡ (run_no (runs xs) i).cell
  pub room : 4 * i + 4 ≤ length xs
  pub inside : end_of (run_no (runs xs) i) ≤ OFFSET_MAX
  pub low : (run_no (runs xs) i).cell ≤ 8193
  pub filled : 1 ≤ get_or xs (4 * i + 1) 0

-- At the place of run i stands run i.
pub here : (xs : List ℕ) (i : ℕ) → lawful xs ≡ true → i < length (runs xs) → Here xs i
here xs i e h =
    let m = lawful-map xs e in
    let rs = runs xs in
    let r = run_no rs i in
    let n = (next-at rs m.lawful-runs.in_order i h).0 in
    let k = rw (drop-cons rs i (run_of 0 0 0) h) at (numbered-drop rs m.lawful-runs.numbered i) in
    let a = run_at_lem xs e (take i rs) (drop (suc i) rs) r i (split_at rs i (run_of 0 0 0) h) (length-take-le i rs (omega arith)) in
    record {
      start = a.0;
      end = λ j. a.0 j + a.1 j;
      cell = omega (arith, a.2, a.3);
      room = omega (arith, m.fours-in, m.fit);
      inside = n.inside;
      low = omega (arith, k.1);
      filled = omega (arith, a.1, n.filled);
    }

-- ---- Counting the runs

module _ (xs : List ℕ) (e : lawful xs ≡ true) (i : ℕ) where
  -- behind the last run every length is 0
  length_none : length (runs xs) ≤ i → get_or xs (i * 4 + 1) 0 ≡ 0
  length_none h =
      let n = length (runs xs) in
      let k = 4 * (i - n) + 1 in
      let q : i * 4 + 1 ≡ 4 * n + k = omega arith in
      ap (λ (p : ℕ). get_or xs p 0) q
      ∙ sym (get_or-drop (4 * n) xs k 0)
      ∙ ap (λ (ys : List ℕ). get_or ys k 0) (rest_at xs e (runs xs) [] n (sym (append-nil (runs xs))) refl ∙ map_none (space_in xs - n))
      ∙ zeros (4 * (space_in xs - n)) k

  -- A run stands where the length is other than 0.
  pub count-some : (get_or xs (i * 4 + 1) 0 ≡ 0 → ⊥) → i < length (runs xs)
  count-some f = let some : length (runs xs) ≤ i → ⊥ = λ h. f (length_none h) in omega arith

  -- No run stands where the length is 0.
  pub count_none : get_or xs (i * 4 + 1) 0 ≡ 0 → length (runs xs) ≤ i
  count_none z =
      let q : 4 * i ≡ i * 4 = omega arith in
      let none : i < length (runs xs) → ⊥ = λ h. omega (arith, rw q at (here xs i e h).filled) in omega arith
