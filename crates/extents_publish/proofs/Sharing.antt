-- A view and a range published: what a call relies on, and what the runs laid one by one or a rewrite leave.
use Rattle.std.proofs.Common.{ℕ, ◌+◌, ◌*◌, ◌-◌, ◌/◌, ◌≤◌, ◌<◌, arith, ◌≡◌, refl, sym, ap, subst, ◌∙◌, ◌⊎◌, inl, inr, Bool, true, false, cond, ◌&&◌, List, length, le-leb, ne_eqb}
use native.Mathlib.Decide.{dec_lt}
use Rattle.rows.specs.Limits.{ROWS, OFFSET_MAX}
use Rattle.rows.proofs.Bools.{and_out}
use Rattle.extents_meaning.specs.Cells.{Bytes, cell_of, mark_in, unpublished, cleared, in_range, overwrite, published}
use Rattle.extents_meaning.specs.Runs.{runs_of}
use Rattle.extents_meaning.specs.Maps.{map_for, space_in, runs, bytes_of, lawful, lawful_published, map_at, with_map}
use Rattle.extents_meaning.proofs.Longest.{Fine}
use Rattle.extents_meaning.proofs.Trips.{lawful-map, no_marks-in, no_marks-out}
use Rattle.extents_map.specs.Mixes.{Publish, Mix, mixed, mix, mix_in}
use Rattle.extents_pair.specs.declared.Pair.{Pair}
use Rattle.extents_pair.specs.InPairs.{two_maps_in, view_in, below_in, OwnCounted}
use Rattle.extents_pair.specs.Marks.{marked}
use Rattle.extents_pair.proofs.Pairing.{two-told, two-apart, last-law}
use Rattle.extents_pair.proofs.Parts.{bytes_fit, bytes-map}
use Rattle.extents_pair.proofs.Sweeps.{Good, Fits, good-over}
use Rattle.extents_weave.specs.Rewrites.{Weavable}
use Rattle.extents_weave.proofs.Homes.{only-length, only-apart, only-with}
use Rattle.extents_weave.proofs.Pairs.{below-weavable}
use Rattle.extents_publish.specs.Publishing.{Below, Layable}
use Rattle.extents_publish.proofs.Laying.{below-made, below_then, clear_fine}

-- What holds of two cells holds of the one that is picked.
either : (P : ℕ → Type 0) (x : Bool) {c d : ℕ} → P c → P d → P (cond x c d)
either P true p q = p
either P false p q = q

-- A cell is published.
abbrev Plain : ℕ → Type 0
Plain c = unpublished c ≡ false

-- Without a mark a cell is published.
plain_cell : (n : ℕ) → Plain (cell_of n 0)
plain_cell n = ne_eqb (mark_in (cell_of n 0)) 1 (omega arith)

-- What a call of `share` relies on.
pub record Shared (pair : Pair) (start end number : ℕ) (xs : List ℕ) : Type 0 where
  pub two : two_maps_in pair xs ≡ true
  pub order : start ≤ end
  pub inside : end ≤ OFFSET_MAX
  pub low : number ≤ ROWS
  pub own : OwnCounted pair xs
  pub few : length (runs_of (mix Publish start (end - start) (cell_of number 0) (view_in pair xs) (below_in pair xs))) ≤ pair.space

module _ {pair : Pair} {start end number : ℕ} {xs : List ℕ} (s : Shared pair start end number xs) where
  -- the numbers of a map, and where both maps start
  abbrev size : ℕ
  size = 4 * pair.space

  abbrev v : ℕ
  v = pair.view * size

  abbrev w : ℕ
  w = pair.below * size

  -- the cells of both maps
  abbrev view : Bytes
  view = view_in pair xs

  abbrev old : Bytes
  old = below_in pair xs

  -- the cells of the published map at the end
  abbrev new : Bytes
  new = mix Publish start (end - start) (cell_of number 0) view old

  -- the mix that publishes the view and the range
  abbrev pub all : Mix
  all = record { mode = Publish; start = start; end = end; cell = number * 2 }

  -- The mix gives the cells at the end.
  all_new : mix_in all view old ≡ new
  all_new = let c : number * 2 ≡ cell_of number 0 = omega arith in λ i. mix Publish start (end - start) (c i) view old

  -- A rewrite by the mix is possible.
  pub weavable : Weavable size w v all pair.space xs
  weavable = below-weavable pair all xs s.two s.order (omega (arith, s.few, ap (λ (f : Bytes). length (runs_of f)) all_new)) (omega arith) refl

  -- The map stands in the slice.
  inner : w + size ≤ length xs
  inner = weavable.two.target_within

  -- The range's cell is fine.
  cell-fine : Fine (number * 2)
  cell-fine = go (dec_lt 0 number)
    where
      go : Dec (0 < number) → Fine (number * 2)
      go (yes l) = inr (omega (arith, s.low))
      go (no l) = inl (omega arith)

  -- The unpublished runs and the range can be laid.
  pub layable : Layable size v w pair.own (number * 2) xs
  layable = record { two = weavable.two; law = weavable.law; counted = s.own; fine = cell-fine }

  -- ---- Both maps are lawful afterwards

  -- Where the view is as it was, the published map decides.
  decides : (ys : List ℕ) → length ys ≡ length xs → map_at pair.space pair.view ys ≡ map_at pair.space pair.view xs →
      lawful_published (map_at pair.space pair.below ys) ≡ two_maps_in pair ys
  decides ys n e =
      let t = two-told pair.space pair.view pair.below xs s.two in
      last-law pair.space pair.view pair.below ys (two-apart pair.space pair.view pair.below xs s.two)
      (le-leb ((pair.view + 1) * size) (length ys) (omega (arith, t.view_within, n)))
      (le-leb ((pair.below + 1) * size) (length ys) (omega (arith, t.below_within, n))) (ap lawful e ∙ t.view-law)

  -- The view is as it was.
  view-kept : {P : ℕ → ℕ → Type 0} {ys : List ℕ} → Below size w P xs ys → map_at pair.space pair.view ys ≡ map_at pair.space pair.view xs
  view-kept d = only-apart inner d.only v weavable.two.apart

  -- A lawful map without unpublished bytes in the place of the published one leaves both maps lawful, and the count of unpublished runs.
  after : {P : ℕ → ℕ → Type 0} {ys : List ℕ} → Below size w P xs ys → ((b c : ℕ) → P b c → unpublished c ≡ false) →
      (two_maps_in pair ys ≡ true) × OwnCounted pair ys
  after {P} {ys} d u =
      let m = map_at pair.space pair.below ys in
      let none = no_marks-in (runs m) (lawful-map m d.law).lawful-runs (λ b. u b (bytes_of m b) (d.bytes b)) in (
        sym (decides ys (only-length inner d.only) (view-kept d)) ∙ (λ i. d.law i && none i),
        s.own ∙ ap (λ (l : List ℕ). length (marked (runs l))) (sym (view-kept d)),
      )

  -- The published map has no unpublished byte.
  old_plain : (b : ℕ) → unpublished (old b) ≡ false
  old_plain = no_marks-out _ (and_out (lawful (map_at pair.space pair.below xs)) _ (decides xs refl refl ∙ s.two)).1

  -- Nor has it one with the view's unpublished bytes.
  out-plain : (b : ℕ) → unpublished (published view old b) ≡ false
  out-plain b = either Plain (unpublished (view b)) (plain_cell (view b / 2)) (old_plain b)

  -- Nor with the range.
  new_plain : (b : ℕ) → unpublished (new b) ≡ false
  unfolding mixed
  new_plain b = either Plain (in_range start (end - start) b) (plain_cell number) (out-plain b)

  -- The cells at the end fit.
  new_fits : Fits pair.space new
  unfolding mixed
  new_fits = record { good = subst Good all_new (good-over start end (number * 2) (published view old) s.inside cell-fine out-good); few = s.few }
    where
      a : Good view
      a = (bytes_fit (map_at pair.space pair.view xs) weavable.two.other_law).good

      o : Good old
      o = (bytes_fit (map_at pair.space pair.below xs) weavable.law).good

      out-good : Good (published view old)
      out-good = record { fine = λ b. either Fine (unpublished (view b)) (clear_fine (view b) (a.fine b)) (o.fine b); ends = λ b l. (λ i. published (λ _. a.ends b l i) (λ _. o.ends b l i) b) }

  -- ---- The end

  -- A slice whose published map has the cells at the end is the slice of the contract.
  shared : {ys : List ℕ} → Below size w (λ b c. c ≡ new b) xs ys →
      (ys ≡ with_map pair.space pair.below (map_for pair.space new) xs) × ((two_maps_in pair ys ≡ true) × OwnCounted pair ys)
  shared {ys} d =
      let m = map_at pair.space pair.below ys in
      let n : space_in m ≡ pair.space = omega (arith, d.only.filled) in (
        only-with inner d.only (sym (bytes-map m d.law) ∙ (λ i. map_for (n i) (λ b. d.bytes b i))),
        after d (λ b c e. ap unpublished e ∙ new_plain b),
      )

  -- All runs and the range laid one by one leave the slice of the contract.
  pub laid_end : {ys : List ℕ} → Below size w (λ b c. c ≡ overwrite start (end - start) (number * 2) (published view old) b) xs ys →
      (ys ≡ with_map pair.space pair.below (map_for pair.space new) xs) × ((two_maps_in pair ys ≡ true) × OwnCounted pair ys)
  unfolding mixed
  laid_end {ys} d = shared (subst (λ (f : Bytes). Below size w (λ b c. c ≡ f b) xs ys) all_new d)

  -- A published map of which each byte is published or as it was.
  module _ {ys : List ℕ} (d : Below size w (λ b c. (c ≡ published view old b) ⊎ (c ≡ old b)) xs ys) where
    -- Both maps are lawful.
    pub kept-two : (two_maps_in pair ys ≡ true) × OwnCounted pair ys
    kept-two = after d go
      where
        go : (b c : ℕ) → (c ≡ published view old b) ⊎ (c ≡ old b) → unpublished c ≡ false
        go b c (inl e) = ap unpublished e ∙ out-plain b
        go b c (inr e) = ap unpublished e ∙ old_plain b

    -- The mix gives the cells at the end.
    kept_new : mix_in all (view_in pair ys) (below_in pair ys) ≡ new
    unfolding mixed
    kept_new = (λ i b. cond (in_range start (end - start) b) (number * 2) (same b (d.bytes b) i)) ∙ all_new
      where
        twice : (x : Bool) (a o : ℕ) → cond x a (cond x a o) ≡ cond x a o
        twice true a o = refl
        twice false a o = refl

        same : (b : ℕ) {c : ℕ} → (c ≡ published view old b) ⊎ (c ≡ old b) → published (view_in pair ys) (λ _. c) b ≡ published view old b
        same b (inl q) =
            (λ i. published (bytes_of (view-kept d i)) (λ _. q i) b) ∙ twice (unpublished (view b)) (cleared (view b)) (old b)
        same b (inr q) = λ i. published (bytes_of (view-kept d i)) (λ _. q i) b

    -- A rewrite by the mix finds room.
    pub kept-few : length (runs_of (mix_in all (view_in pair ys) (below_in pair ys))) ≤ pair.space
    kept-few = omega (arith, s.few, ap (λ (f : Bytes). length (runs_of f)) kept_new)

    -- A rewrite by the mix leaves the slice of the contract.
    pub woven-end : {zs : List ℕ} → zs ≡ with_map pair.space pair.below (map_for pair.space (mix_in all (view_in pair ys) (below_in pair ys))) ys →
        (zs ≡ with_map pair.space pair.below (map_for pair.space new) xs) × ((two_maps_in pair zs ≡ true) × OwnCounted pair zs)
    woven-end q =
        let h : w + size ≤ length ys = omega (arith, inner, only-length inner d.only) in
        let k = below-made h pair.space refl new new_fits (q ∙ (λ i. with_map pair.space pair.below (map_for pair.space (kept_new i)) ys)) in
        shared (below_then inner d k (λ b _. refl))
