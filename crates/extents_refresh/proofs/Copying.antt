-- A map copied over another of the slice, as far as one of them has runs.
use Rattle.std.proofs.Common.{ℕ, ◌+◌, ◌*◌, ◌-◌, ◌≤◌, max, arith, ◌≡◌, sym, ap, ◌∙◌, true, List, ◌++◌, append_assoc, length, take, drop, replicate, length-drop, take-append-drop, drop-drop, take-add, get_or-drop, ext_get_or}
use Rattle.std.proofs.lemmas.List.{drop-take}
use lib.ListN.{length-replicate}
use lib.Seq.{paste}
use Rattle.rows.proofs.Zeros.{zeros}
use Rattle.extents_meaning.specs.Maps.{runs, lawful, part_at, with_part, map_at, with_map}
use Rattle.extents_meaning.proofs.Trips.{lawful-map}
use Rattle.extents_pair.proofs.Spots.{zero_behind}
use Rattle.extents_pair.proofs.Pairing.{lent_map, map_lent, map_length, map_space}

-- Both maps have room in the slice, at two places, and are lawful.
abbrev pub CopyReady : (space j k : ℕ) (xs : List ℕ) → Type 0
CopyReady space j k xs =
    (((j + 1) * (4 * space) ≤ length xs) × ((k + 1) * (4 * space) ≤ length xs) × (j ≡ k → ⊥))
    × ((lawful (map_at space j xs) ≡ true) × (lawful (map_at space k xs) ≡ true))

-- A lawful map's runs, counted while it is lent, fit the space, and behind n runs, which are no fewer, the map has only 0.
runs-end : (space k : ℕ) (xs : List ℕ) → (k + 1) * (4 * space) ≤ length xs → lawful (map_at space k xs) ≡ true → (n : ℕ) →
    {a : ℕ} → a ≡ length (runs (lent_map space k xs)) → a ≤ n → (a ≤ space) × (drop (n * 4) (map_at space k xs) ≡ replicate (4 * space - n * 4) 0)
runs-end space k xs fit law n {a} e h =
    let m = map_at space k xs in
    let z : a ≡ length (runs m) = e ∙ ap (λ (l : List ℕ). length (runs l)) (map_lent space k xs) in (
      omega (arith, (lawful-map m law).fit, map_space space k xs fit),
      ext_get_or 0 (drop (n * 4) m) (replicate (4 * space - n * 4) 0)
          (omega (arith, length-drop (n * 4) m, map_length space k xs fit, length-replicate {A = ℕ} (4 * space - n * 4) 0))
          (λ i _. get_or-drop (n * 4) m i 0 ∙ zero_behind m law (n * 4 + i) (omega arith) ∙ sym (zeros (4 * space - n * 4) i)),
    )

-- Numbers copied from one part of a slice to the front of another part, where both parts agree behind them.
paste-part : (at from size n : ℕ) (xs : List ℕ) → n ≤ size → drop n (part_at from size xs) ≡ drop n (part_at at size xs) →
    paste xs at (drop from xs) n ≡ with_part at size (part_at from size xs) xs
paste-part at from size n xs h same =
    let r = size - n in
    let w : n + r ≡ size = omega arith in
    let p = take n (drop from xs) in
    let z = drop (at + n) xs in
    let cut : (ys : List ℕ) → drop n (take size ys) ≡ take r (drop n ys) = λ ys. (λ i. drop n (take (sym w i) ys)) ∙ drop-take n r ys in
    let rest : take r (drop n (drop from xs)) ≡ take r z =
    sym (cut (drop from xs)) ∙ same ∙ cut (drop at xs) ∙ ap (take r) (drop-drop n at xs) in
    let whole : take size (drop from xs) ≡ p ++ take r z =
    (λ i. take (sym w i) (drop from xs)) ∙ take-add n r (drop from xs) ∙ ap (λ (l : List ℕ). p ++ l) rest in
    let k : at + n + r ≡ at + size = omega arith in
    let end : drop r z ≡ drop (at + size) xs = drop-drop r (at + n) xs ∙ (λ i. drop (k i) xs) in
    let joined : (take at xs ++ p) ++ (take r z ++ drop r z) ≡ (take at xs ++ (p ++ take r z)) ++ drop r z = simp append_assoc in
    ap (λ (l : List ℕ). (take at xs ++ p) ++ l) (sym (take-append-drop r z)) ∙ joined ∙ (λ i. (take at xs ++ sym whole i) ++ end i)

-- As many numbers as the larger number of runs takes, copied to the place of map k, make map j of it, and they stand within the maps.
pub copied : (space j k : ℕ) (xs : List ℕ) {a b n : ℕ} → CopyReady space j k xs → a ≡ length (runs (lent_map space j xs)) →
    b ≡ length (runs (lent_map space k xs)) → n ≡ max a b →
    (n * 4 ≤ 4 * space) × (paste xs (k * (4 * space)) (drop (j * (4 * space)) xs) (n * 4) ≡ with_map space k (map_at space j xs) xs)
copied space j k xs {a} {b} {n} ready ea eb en =
    let u = runs-end space j xs ready.0.0 ready.1.0 n ea (omega arith) in
    let v = runs-end space k xs ready.0.1 ready.1.1 n eb (omega arith) in
    let fit : n * 4 ≤ 4 * space = omega (arith, u.0, v.0) in
    (fit, paste-part (k * (4 * space)) (j * (4 * space)) (4 * space) (n * 4) xs fit (u.1 ∙ sym v.1))
