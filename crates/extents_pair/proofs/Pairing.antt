-- One or two maps of a slice that has several: is there room, the map lent and home again, and one copied.
use Rattle.std.proofs.Common.{ℕ, ◌+◌, ◌*◌, ◌-◌, ◌/◌, ◌≤◌, ◌<◌, arith, le-div_iff_mul-le, ◌≡◌, sym, ap, ◌∙◌, ◌⊎◌, inl, inr, true, not, List, length, take, drop, leb-true, ltb-true, lt-ltb, le-leb, eq-eqb, ne_eqb}
use native.Mathlib.Decide.{dec_lt}
use mathlib.Core.Bool.{false≢true}
use lib.Dec.{leb, ltb, eqb}
use borrow.Rule.Slice.PartMut.{put_mid}
use Rattle.extents_meaning.specs.Cells.{Bytes}
use Rattle.extents_meaning.specs.Maps.{map_for, space_in, runs, bytes_of, lawful, lawful_published, map_at, with_map}
use Rattle.extents_meaning.proofs.Trips.{lawful-map}
use Rattle.rows.proofs.Bools.{and_out, same_test}
use Rattle.rows.proofs.Products.{block_before}
use Rattle.extents_meaning.specs.Pairs.{two_maps}
use Rattle.extents_pair.proofs.Parts.{lent, home, part_length, bytes-map}

-- Maps of different numbers in a slice of maps of n numbers each stand apart.
pub rows_apart : (k j n : ℕ) → (k ≡ j → ⊥) → (k * n + n ≤ j * n) ⊎ (j * n + n ≤ k * n)
rows_apart k j n h = go (dec_lt k j)
  where
    go : Dec (k < j) → (k * n + n ≤ j * n) ⊎ (j * n + n ≤ k * n)
    go (yes l) = inl (block_before n l)
    go (no l) = inr (block_before n (omega arith))

-- ---- Is there room for a map?

-- A slice has as many maps as fit.
pub room-count : (space k n : ℕ) → 0 < 4 * space → ltb k (n / (4 * space)) ≡ leb ((k + 1) * (4 * space)) n
room-count space k n h =
    let top = n / (4 * space) in
    same_test (ltb k top) (leb ((k + 1) * (4 * space)) n)
    (λ e. le-leb ((k + 1) * (4 * space)) n ((le-div_iff_mul-le h).0 (omega (arith, ltb-true k top e))))
    (λ e. let m : k + 1 ≤ top = (le-div_iff_mul-le h).1 (leb-true ((k + 1) * (4 * space)) n e) in lt-ltb k top (omega arith))

-- ---- Two maps

-- Two maps stand inside a slice, and both are lawful.
pub record Told (space view below : ℕ) (xs : List ℕ) : Type 0 where
  pub view_within : (view + 1) * (4 * space) ≤ length xs
  pub below_within : (below + 1) * (4 * space) ≤ length xs
  pub view-law : lawful (map_at space view xs) ≡ true
  pub below-law : lawful (map_at space below xs) ≡ true

module _ (space view below : ℕ) (xs : List ℕ) where
  -- The test of two maps tells that both stand inside the slice and are lawful.
  pub two-told : two_maps space view below xs ≡ true → Told space view below xs
  two-told e =
      let e1 = and_out (not (eqb view below)) _ e in
      let e2 = and_out (leb ((view + 1) * (4 * space)) (length xs)) _ e1.1 in
      let e3 = and_out (leb ((below + 1) * (4 * space)) (length xs)) _ e2.1 in
      let e4 = and_out (lawful (map_at space view xs)) _ e3.1 in
      record {
        view_within = leb-true ((view + 1) * (4 * space)) (length xs) e2.0;
        below_within = leb-true ((below + 1) * (4 * space)) (length xs) e3.0;
        view-law = e4.0;
        below-law = (and_out (lawful (map_at space below xs)) _ e4.1).0;
      }

  -- Two maps that pass the test stand at two places.
  pub two-apart : two_maps space view below xs ≡ true → view ≡ below → ⊥
  two-apart e q = false≢true (sym (rw (eq-eqb view below q)) ∙ e)

  -- Where two maps stand at two places inside the slice and the first is lawful, the test asks whether the second is lawful and published.
  pub last-law : (view ≡ below → ⊥) → leb ((view + 1) * (4 * space)) (length xs) ≡ true → leb ((below + 1) * (4 * space)) (length xs) ≡ true →
      lawful (map_at space view xs) ≡ true → lawful_published (map_at space below xs) ≡ two_maps space view below xs
  last-law apart a b d = rw (ne_eqb view below apart, a, b, d)

-- ---- A map lent and home again

module _ (space k : ℕ) (xs : List ℕ) where
  -- the part that is lent
  abbrev pub lent_map : List ℕ
  lent_map = take (k * (4 * space) + 4 * space - k * (4 * space)) (drop (k * (4 * space)) xs)

  -- The lent map is map k.
  pub map_lent : lent_map ≡ map_at space k xs
  map_lent = lent (k * (4 * space)) (4 * space) xs

  module _ (fit : (k + 1) * (4 * space) ≤ length xs) where
    -- A map inside a slice has four numbers for each run of the space.
    pub map_length : length (map_at space k xs) ≡ 4 * space
    map_length = part_length (k * (4 * space)) (4 * space) xs (omega (arith, fit))

    -- A map inside a slice has the space.
    pub map_space : space_in (map_at space k xs) ≡ space
    map_space = omega (arith, map_length)

    -- The bytes of a lawful map write that map.
    pub map_whole : lawful (map_at space k xs) ≡ true → map_for space (bytes_of (map_at space k xs)) ≡ map_at space k xs
    map_whole law = ap (λ (n : ℕ). map_for n (bytes_of (map_at space k xs))) (sym map_space) ∙ bytes-map (map_at space k xs) law

    -- The runs of a lawful map fit the space.
    pub map-few : lawful (map_at space k xs) ≡ true → length (runs (map_at space k xs)) ≤ space
    map-few law = omega (arith, (lawful-map (map_at space k xs) law).fit, map_space)

    -- A lent map that comes back as the map of other bytes is put in the place of map k.
    pub made-home : (f : Bytes → Bytes) → {last : List ℕ} → last ≡ map_for (space_in lent_map) (f (bytes_of lent_map)) →
        put_mid (k * (4 * space)) (k * (4 * space) + 4 * space - k * (4 * space)) xs last ≡
        with_map space k (map_for space (f (bytes_of (map_at space k xs)))) xs
    made-home f {last} b = rw (home (k * (4 * space)) (4 * space) xs last, b, map_lent, map_space)
