-- The maps of a lawful state lie in the slice. Each map is lawful, fits its space and encodes its own bytes, and a state that no row changes stays
-- as it was.
use Rattle.std.proofs.Common.{ℕ, zero, suc, ◌+◌, ◌*◌, ◌≤◌, ◌<◌, zero-mul, mul-le-mul_right, arith, ◌≡◌, refl, sym, ap, ◌∙◌, true, List, ◌++◌, append_assoc, append-nil, length, take, drop, length-drop, take-append-drop, length-take-le, take-add, leb-true}
use lib.Dec.{leb, ltb}
use Rattle.rows.specs.Limits.{MODELS, FILES}
use Rattle.rows.specs.Counting.{blocks, all_below}
use Rattle.rows.specs.Questions.{is_process_limit}
use Rattle.extents_meaning.specs.Runs.{Run, runs_of}
use Rattle.extents_meaning.specs.Maps.{map_of, runs, space_in, bytes_of, lawful, lawful_published}
use Rattle.extents_meaning.proofs.Longest.{runs-back}
use Rattle.extents_meaning.proofs.Trips.{lawful-map}
use Rattle.rows.proofs.Bools.{and_out}
use Rattle.machine_meaning.specs.Layers.{Layers}
use Rattle.machine_meaning.specs.States.{Header, map_at, map_for, maps_length, lawful_state, layers_in, layers_to}
use Rattle.machine_meaning.proofs.Slices.{all-out, blocks-same}

-- ---- Maps of a slice

-- The maps of a slice, one after the other, are its front.
maps-front : (m : ℕ) (xs : List ℕ) (n : ℕ) → take m (drop (0 * m) xs) ++ blocks n (λ q. take m (drop (suc q * m) xs)) ≡ take (suc n * m) xs
unfolding blocks
maps-front m xs zero =
    let e : m ≡ suc zero * m = omega arith in
    append-nil (take m (drop (0 * m) xs)) ∙ (λ i. take m (drop (zero-mul m i) xs)) ∙ ap (λ (k : ℕ). take k xs) e
maps-front m xs (suc n) =
    let g : ℕ → List ℕ = λ q. take m (drop (suc q * m) xs) in
    let e : suc n * m + m ≡ suc (suc n) * m = omega arith in
    sym (append_assoc (take m (drop (0 * m) xs)) (blocks n g) (g n)) ∙ ap (λ (l : List ℕ). l ++ g n) (maps-front m xs n)
    ∙ sym (take-add (suc n * m) m xs) ∙ ap (λ (k : ℕ). take k xs) e

-- A slice is `layers_to` of a layered file, if its maps are those of the file and the numbers past the maps are kept.
pub to_is : (h : Header) (s : Layers) (xs ys : List ℕ) → map_at h.space 0 ys ≡ map_for h.space s.shared →
    ((q : ℕ) → q < h.processes → map_at h.space (suc q) ys ≡ map_for h.space (s.view q)) → drop (maps_length h) ys ≡ drop (maps_length h) xs →
    layers_to h s xs ≡ ys
unfolding layers_to
to_is h s xs ys first views rest =
    let e : suc h.processes * (4 * h.space) ≡ maps_length h = omega arith in
    let b = blocks-same h.processes (λ q. map_at h.space (suc q) ys) (λ q. map_for h.space (s.view q)) views in
    sym (λ i. (first i ++ b i) ++ rest i)
    ∙ (λ i. (maps-front (4 * h.space) ys h.processes ∙ ap (λ (k : ℕ). take k ys) e) i ++ drop (maps_length h) ys)
    ∙ take-append-drop (maps_length h) ys

-- A lawful map of a slice fits its space and encodes its own bytes.
module _ (space k : ℕ) (xs : List ℕ) (law : lawful (map_at space k xs) ≡ true) (fit : (k + 1) * (4 * space) ≤ length xs) where
  -- Map k of the slice.
  abbrev here : List ℕ
  here = map_at space k xs

  -- The space of the map.
  here-space : space_in here ≡ space
  here-space =
      omega (arith, length-take-le (4 * space) (drop (k * (4 * space)) xs) (omega (arith, fit, length-drop (k * (4 * space)) xs)))

  -- The runs of the bytes of the map are the runs of the map.
  here-runs : runs_of (bytes_of here) ≡ runs here
  here-runs = runs-back (runs here) (lawful-map here law).lawful-runs

  -- The runs of the map fit its space.
  pub here-fit : length (runs_of (bytes_of here)) ≤ space
  here-fit = omega (arith, ap (λ (l : List Run). length l) here-runs, (lawful-map here law).fit, here-space)

  -- Encoding the bytes of the map gives the map.
  pub here-again : map_for space (bytes_of here) ≡ here
  here-again = (λ i. map_of (sym here-space i) (here-runs i)) ∙ sym (lawful-map here law).whole

-- ---- A lawful state

module _ (h : Header) (xs : List ℕ) (law : lawful_state h xs ≡ true) where
  -- A lawful state passes every test: model, process limit, file, slice, published map and views.
  pub state_told : (ltb h.model MODELS ≡ true) × (is_process_limit h.processes ≡ true) × (ltb h.file FILES ≡ true)
      × (leb (maps_length h) (length xs) ≡ true) × (lawful_published (map_at h.space 0 xs) ≡ true)
      × (all_below h.processes (λ p. lawful (map_at h.space (suc p) xs)) ≡ true)
  unfolding lawful_state
  state_told =
      let e1 = and_out (ltb h.model MODELS) _ law in
      let e2 = and_out (is_process_limit h.processes) _ e1.1 in
      let e3 = and_out (ltb h.file FILES) _ e2.1 in
      let e4 = and_out (leb (maps_length h) (length xs)) _ e3.1 in
      let e5 = and_out (lawful_published (map_at h.space 0 xs)) _ e4.1 in
      (e1.0, e2.0, e3.0, e4.0, e5.0, e5.1)

  -- The maps of a lawful state lie in the slice, and each is lawful.
  pub state_parts : (maps_length h ≤ length xs) × (lawful_published (map_at h.space 0 xs) ≡ true)
      × ((q : ℕ) → q < h.processes → lawful (map_at h.space (suc q) xs) ≡ true)
  state_parts =
      let k = state_told in
      (leb-true _ _ k.3, k.4, all-out h.processes (λ p. lawful (map_at h.space (suc p) xs)) k.5)

  -- Map k ends within the maps.
  pub map_below : (k : ℕ) → k ≤ h.processes → (k + 1) * (4 * h.space) ≤ maps_length h
  map_below k l = let m : k + 1 ≤ h.processes + 1 = omega arith in omega (arith, mul-le-mul_right (4 * h.space) m)

  -- Map k ends within the slice.
  pub map_in : (k : ℕ) → k ≤ h.processes → (k + 1) * (4 * h.space) ≤ length xs
  map_in k l = omega (arith, map_below k l, state_parts.0)

  -- The published map is lawful by itself.
  shared-law : lawful (map_at h.space 0 xs) ≡ true
  shared-law = (and_out (lawful (map_at h.space 0 xs)) _ state_parts.1).0

  -- Encoding the published bytes gives the published map.
  pub shared-again : map_for h.space (layers_in h xs).shared ≡ map_at h.space 0 xs
  shared-again = here-again h.space 0 xs shared-law (map_in 0 (omega arith))

  -- Encoding the bytes of a view gives the map of the view.
  pub view-again : (q : ℕ) → q < h.processes → map_for h.space ((layers_in h xs).view q) ≡ map_at h.space (suc q) xs
  view-again q l = here-again h.space (suc q) xs (state_parts.2 q l) (map_in (suc q) l)

  -- Encoding the layers of a lawful state gives the state.
  pub to_same : layers_to h (layers_in h xs) xs ≡ xs
  to_same = to_is h (layers_in h xs) xs xs (sym shared-again) (λ q l. sym (view-again q l)) refl
