-- How many pieces a range has at most, from the runs of a map.
use Rattle.std.proofs.Common.{ℕ, zero, suc, ◌+◌, ◌*◌, ◌-◌, ◌/◌, ◌≤◌, ◌<◌, min, arith, ◌≡◌, sym, ap, ◌∙◌, Bool, true, false, List, length, le-ltb, ltb-true, ltb-false}
use native.Mathlib.Decide.{ℕ_discrete}
use lib.Dec.{ltb}
use Rattle.rows.specs.Limits.{OFFSET_MAX}
use Rattle.extents_meaning.specs.Cells.{Bytes, number_in}
use Rattle.extents_meaning.specs.Runs.{Run, runs_from, runs_of, pieces_of}
use Rattle.extents_meaning.specs.Maps.{runs, bytes_of, lawful}
use Rattle.extents_meaning.specs.Points.{starts}
use Rattle.extents_meaning.proofs.Points.{begins, begins-same, begins-one, begins-most, count-starts}
use Rattle.extents_map.specs.Mixes.{ReadMap, mixed, mix}
use Rattle.extents_pair.proofs.Parts.{bytes_count}

-- the pieces of the same range, said by its end
pub pieces-there : (f : Bytes) (start n : ℕ) → pieces_of f start (start + n - start) ≡ pieces_of f start n
pieces-there f start n = let q : start + n - start ≡ n = omega arith in ap (pieces_of f start) q

-- ---- Two pieces for each run, and one more

-- a piece starts at a byte where a run starts or ends, and a run that ends was begun before
named-begins : (w c : ℕ) → begins (suc (number_in w)) (suc (number_in c)) + min w 1 ≤ 2 * begins w c + min c 1
named-begins w c = go (ℕ_discrete w c) (ℕ_discrete w 0)
  where
    most : begins (suc (number_in w)) (suc (number_in c)) ≤ 1
    most = begins-most (suc (number_in w)) (suc (number_in c))

    go : Dec (w ≡ c) → Dec (w ≡ 0) → begins (suc (number_in w)) (suc (number_in c)) + min w 1 ≤ 2 * begins w c + min c 1
    go (yes e) d = omega (arith, e, begins-same (suc (number_in w)) (suc (number_in c)) (ap (λ (k : ℕ). suc (number_in k)) e))
    go (no e) (yes z) = omega (arith, e, z, most)
    go (no e) (no z) = omega (arith, begins-one w c z e, most)

module _ (f : Bytes) where
  abbrev named : Bytes
  named b = suc (number_in (f b))

  -- behind a byte of cell c: one more where that is in a run
  named-starts : (n k s c : ℕ) → n ≤ k → starts n s (suc (number_in c)) named ≤ 2 * starts k s c f + min c 1
  unfolding starts
  named-starts zero k s c h = omega arith
  named-starts (suc n) zero s c h = absurd (omega arith)
  named-starts (suc n) (suc k) s c h = omega (arith, named-begins (f s) c, named-starts n k (suc s) (f s) (omega arith))

  -- the first byte starts a piece, whatever is before it
  named-first : (n s c : ℕ) → starts n s 0 named ≤ starts n s c named + 1
  unfolding starts
  named-first zero s c = omega arith
  named-first (suc n) s c = omega (arith, begins-most (named s) 0)

  -- a part of k bytes, d behind the first of them
  named-part : (d k n s c t : ℕ) → t ≡ s + d → d + n ≤ k → starts n t 0 named ≤ 2 * starts k s c f + min c 1 + 1
  unfolding starts
  named-part zero k n s c t e h =
      let z : t ≡ s = omega arith in rw z (omega (arith, named-first n s (suc (number_in c)), named-starts n k s c (omega arith)))
  named-part (suc d) zero n s c t e h = absurd (omega arith)
  named-part (suc d) (suc k) n s c t e h = omega (arith, named-begins (f s) c, named-part d k n (suc s) (f s) t (omega arith) (omega arith))

  -- A range has at most two pieces for each run, and one more: a room for so many is enough.
  pub room-enough : (s n room : ℕ) {k : ℕ} → s + n ≤ OFFSET_MAX → length (runs_of f) ≤ k → 2 * k + 1 ≤ room →
      false ≡ ltb room (length (pieces_of f s n))
  unfolding runs_of pieces_of
  room-enough s n room h m l =
      let few = named-part s OFFSET_MAX n 0 0 s (omega arith) h in
      sym (le-ltb room (length (runs_from n s named)) (omega (arith, m, count-starts n s named, count-starts OFFSET_MAX 0 f, few)))

-- ---- A map

module _ (s n : ℕ) where
  -- there is room for the pieces of a lawful map
  pub map_enough : (xs : List ℕ) (room : ℕ) → lawful xs ≡ true → {k : ℕ} → s + n ≤ OFFSET_MAX → k ≡ length (runs xs) → 2 * k + 1 ≤ room →
      false ≡ ltb room (length (pieces_of (bytes_of xs) s n))
  map_enough xs room law h e l = room-enough (bytes_of xs) s n room h (omega (arith, e, bytes_count xs law)) l

  -- the walk counts the pieces
  pub map_counted : (v w : Bytes) {r : ℕ} → r ≡ length (runs_from n s (mix ReadMap 0 0 0 v w)) → r ≡ length (pieces_of v s n)
  unfolding mixed pieces_of
  map_counted v w e = e

-- ---- An answer slice, three numbers for each piece

module _ (f : Bytes) (s n size : ℕ) {r : Bool} (e : r ≡ ltb (size / 3) (length (pieces_of f s (s + n - s)))) where
  there : length (pieces_of f s (s + n - s)) ≡ length (pieces_of f s n)
  there = ap (λ (l : List Run). length l) (pieces-there f s n)

  -- The pieces do not fit the answer slice.
  pub slice_short : r ≡ true → size < 3 * length (pieces_of f s n)
  slice_short q = omega (arith, there, ltb-true (size / 3) (length (pieces_of f s (s + n - s))) (sym e ∙ q))

  -- The pieces fit the answer slice.
  pub slice_enough : r ≡ false → 3 * length (pieces_of f s n) ≤ size
  slice_enough q = omega (arith, there, ltb-false (size / 3) (length (pieces_of f s (s + n - s))) (sym e ∙ q))
