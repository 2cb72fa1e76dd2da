-- Layered and plain files in slices: an encoded file is lawful, each map is at its place, and decoding gives the file back.
use Rattle.std.proofs.Common.{ℕ, zero, suc, ◌+◌, ◌*◌, ◌≤◌, ◌<◌, zero-mul, arith, ◌≡◌, refl, sym, ap, ◌∙◌, Bool, true, false, ◌&&◌, List, [], ◌++◌, append_assoc, length, take, drop, replicate, length-append, length-drop, take_at, drop_at, le-leb}
use native.Mathlib.Decide.{dec_lt}
use mathlib.Core.Path.{fun_ext}
use lib.ListN.{replicate-append-replicate}
use lib.Seq.{drop-append-add}
use Rattle.rows.specs.Limits.{OFFSET_MAX}
use Rattle.rows.specs.Counting.{blocks, all_below}
use Rattle.extents_meaning.specs.Cells.{Bytes, unpublished}
use Rattle.extents_meaning.specs.Runs.{Run, runs_of, cell_at, Lawful}
use Rattle.extents_meaning.specs.Maps.{map_of, runs, bytes_of, lawful, no_marks, lawful_published}
use Rattle.extents_meaning.proofs.Longest.{Fine, mean-behind, runs-mean, runs-lawful, runs-unique}
use Rattle.extents_meaning.proofs.Trips.{map_none, length-map, map_back, map_lawful, no_marks-in}
use Rattle.rows.proofs.Bools.{and_out}
use Rattle.machine_meaning.specs.Layers.{Layers, nothing, fresh}
use Rattle.machine_meaning.specs.States.{Header, map_at, maps_length, layers_in, map_for, layers_to, layers_fit, plain_in, plain_to, plain_fits}
use Rattle.machine_meaning.specs.Steps.{made_to}
use Rattle.machine_meaning.proofs.Points.{Pointed, pointed_runs, LayersPointed, PlainPointed}

-- ---- Numbers below a bound

-- If each number below a bound passes a test, all pass.
pub all_in : (n : ℕ) (test : ℕ → Bool) → ((p : ℕ) → p < n → test p ≡ true) → all_below n test ≡ true
unfolding all_below
all_in zero test h = refl
all_in (suc n) test h = λ i. all_in n test (λ p l. h p (omega arith)) i && h n (omega arith) i

-- If all numbers below a bound pass a test, each passes.
pub all-out : (n : ℕ) (test : ℕ → Bool) → all_below n test ≡ true → (p : ℕ) → p < n → test p ≡ true
unfolding all_below
all-out zero test e p l = absurd (omega arith)
all-out (suc n) test e p l = let b = and_out (all_below n test) (test n) e in go (dec_lt p n) (all-out n test b.0 p) b.1
  where
    go : Dec (p < n) → (p < n → test p ≡ true) → test n ≡ true → test p ≡ true
    go (yes q) ih t = ih q
    go (no q) ih t = let e : p ≡ n = omega arith in ap test e ∙ t

-- Two tests that agree below a bound are passed by all or by not all alike.
pub all_same : (n : ℕ) (f g : ℕ → Bool) → ((p : ℕ) → p < n → f p ≡ g p) → all_below n f ≡ all_below n g
unfolding all_below
all_same zero f g h = refl
all_same (suc n) f g h = λ i. all_same n f g (λ p l. h p (omega arith)) i && h n (omega arith) i

-- Two families of lists that agree below a bound have the same blocks.
pub blocks-same : (n : ℕ) (f g : ℕ → List ℕ) → ((p : ℕ) → p < n → f p ≡ g p) → blocks n f ≡ blocks n g
unfolding blocks
blocks-same zero f g h = refl
blocks-same (suc n) f g h = λ i. blocks-same n f g (λ p l. h p (omega arith)) i ++ h n (omega arith) i

-- Blocks of zeros are zeros.
blocks-zeros : (m n : ℕ) → blocks n (λ p. replicate m 0) ≡ replicate (n * m) 0
unfolding blocks
blocks-zeros m zero = ap (λ (k : ℕ). replicate k 0) (sym (zero-mul m))
blocks-zeros m (suc n) =
    let e : n * m + m ≡ suc n * m = omega arith in
    ap (λ (l : List ℕ). l ++ replicate m 0) (blocks-zeros m n) ∙ replicate-append-replicate (n * m) m 0 ∙ ap (λ (k : ℕ). replicate k 0) e

module _ (m : ℕ) (g : ℕ → List ℕ) where
  -- The length of n blocks of length m is n * m.
  blocks-length : (n : ℕ) → ((p : ℕ) → p < n → length (g p) ≡ m) → length (blocks n g) ≡ n * m
  unfolding blocks
  blocks-length zero h = sym (zero-mul m)
  blocks-length (suc n) h =
      omega (arith, length-append (blocks n g) (g n), blocks-length n (λ p l. h p (omega arith)), h n (omega arith))

  -- Block p starts at p * m.
  block_at : (n : ℕ) → ((p : ℕ) → p < n → length (g p) ≡ m) → (p : ℕ) → p < n → (z : List ℕ) → take m (drop (p * m) (blocks n g ++ z)) ≡ g p
  unfolding blocks
  block_at zero h p l z = absurd (omega arith)
  block_at (suc n) h p l z = ap (λ (x : List ℕ). take m (drop (p * m) x)) (append_assoc (blocks n g) (g n) z) ∙ go (dec_lt p n) (block_at n before p)
    where
      before : (p : ℕ) → p < n → length (g p) ≡ m
      before p l = h p (omega arith)

      go : Dec (p < n) → (p < n → (z : List ℕ) → take m (drop (p * m) (blocks n g ++ z)) ≡ g p) →
          take m (drop (p * m) (blocks n g ++ (g n ++ z))) ≡ g p
      go (yes q) ih = ih q (g n ++ z)
      go (no q) ih =
          let e : n ≡ p = omega arith in
          let k : length (blocks n g) ≡ p * m = blocks-length n before ∙ ap (λ (x : ℕ). x * m) e in
          ap (take m) (drop_at (blocks n g) (g n ++ z) (p * m) k) ∙ take_at (g n) z m (h n (omega arith)) ∙ ap g e

-- ---- One map

-- Bytes that a map of a space holds: cells are fine, 0 from the end of all files on, and there are no more runs than fit.
pub record Held (space : ℕ) (f : Bytes) : Type 0 where
  pub fine : (b : ℕ) → Fine (f b)
  pub ends : (b : ℕ) → OFFSET_MAX ≤ b → f b ≡ 0
  pub fit : length (runs_of f) ≤ space

module _ {space : ℕ} {f : Bytes} (k : Held space f) where
  -- The runs of held bytes are lawful.
  held-runs : Lawful (runs_of f)
  held-runs = runs-lawful f (λ b _. k.fine b)

  -- The runs of held bytes mean these bytes.
  held-cell : (b : ℕ) → cell_at (runs_of f) b ≡ f b
  held-cell b = go (dec_lt b OFFSET_MAX)
    where
      go : Dec (b < OFFSET_MAX) → cell_at (runs_of f) b ≡ f b
      go (yes l) = runs-mean f b l
      go (no l) =
          let h : OFFSET_MAX ≤ b = omega arith in
          mean-behind OFFSET_MAX 0 0 (runs_of f) held-runs.in_order b h ∙ sym (k.ends b h)

  -- Decoding the runs of the map gives the runs of the bytes.
  held_back : runs (map_for space f) ≡ runs_of f
  held_back = map_back space (runs_of f) held-runs k.fit

  -- The map of held bytes fills its space.
  pub held-length : length (map_for space f) ≡ 4 * space
  held-length = length-map space (runs_of f) k.fit

  -- The map of held bytes is lawful.
  pub held-lawful : lawful (map_for space f) ≡ true
  held-lawful = map_lawful space (runs_of f) held-runs k.fit

  -- The map of held bytes decodes to the bytes.
  pub held_bytes : bytes_of (map_for space f) ≡ f
  held_bytes = fun_ext (λ b. ap (λ (rs : List Run). cell_at rs b) held_back ∙ held-cell b)

  -- The map of bytes without marks is a lawful published map.
  pub held-published : ((b : ℕ) → unpublished (f b) ≡ false) → lawful_published (map_for space f) ≡ true
  held-published h =
      (λ i. held-lawful i && no_marks (held_back i)) ∙ no_marks-in (runs_of f) held-runs (λ b. ap unpublished (held-cell b) ∙ h b)

-- The map of bytes that nobody wrote is zeros.
nothing-map : (space : ℕ) → map_for space nothing ≡ replicate (4 * space) 0
unfolding cell_at
nothing-map space = ap (map_of space) (sym (runs-unique nothing [] (record { in_order = tt; numbered = tt }) (λ b _. refl))) ∙ map_none space

-- ---- Layered files

-- Each map of a layered file holds its bytes, and no published byte is marked.
pub record LayersHeld (h : Header) (s : Layers) : Type 0 where
  pub shared : Held h.space s.shared
  pub unmarked : (b : ℕ) → unpublished (s.shared b) ≡ false
  pub view : (p : ℕ) → p < h.processes → Held h.space (s.view p)

-- Two layered files have the same published bytes and the same views of processes below a limit.
pub record Alike (processes : ℕ) (s t : Layers) : Type 0 where
  pub shared : s.shared ≡ t.shared
  pub view : (p : ℕ) → p < processes → s.view p ≡ t.view p

-- Files that are alike fit alike.
pub alike-fit : (h : Header) {s t : Layers} → Alike h.processes s t → layers_fit h s ≡ layers_fit h t
unfolding layers_fit
alike-fit h {s} {t} a =
    let views = all_same h.processes (λ p. plain_fits h (s.view p)) (λ p. plain_fits h (t.view p)) (λ p l. ap (plain_fits h) (a.view p l)) in
    λ i. plain_fits h (a.shared i) && views i

-- Files that are alike have the same encoding.
pub alike-to : (h : Header) {s t : Layers} → Alike h.processes s t → (xs : List ℕ) → layers_to h s xs ≡ layers_to h t xs
unfolding layers_to
alike-to h {s} {t} a xs =
    let map : Bytes → List ℕ = map_for h.space in
    let views = blocks-same h.processes (λ p. map (s.view p)) (λ p. map (t.view p)) (λ p l. ap map (a.view p l)) in
    λ i. (map (a.shared i) ++ views i) ++ drop (maps_length h) xs

module _ (h : Header) {s : Layers} (k : LayersHeld h s) where
  -- Every map of a held file fits its space.
  pub held-fit : layers_fit h s ≡ true
  unfolding layers_fit
  held-fit =
      let views = all_in h.processes (λ p. plain_fits h (s.view p)) (λ p l. le-leb _ _ (k.view p l).fit) in
      λ i. le-leb _ _ k.shared.fit i && views i

  -- The published map, the map of one view, and the maps of all views.
  abbrev map_first : List ℕ
  map_first = map_for h.space s.shared

  abbrev map_one : ℕ → List ℕ
  map_one p = map_for h.space (s.view p)

  abbrev map_views : List ℕ
  map_views = blocks h.processes map_one

  -- The lengths of these maps.
  one-length : (p : ℕ) → p < h.processes → length (map_one p) ≡ 4 * h.space
  one-length p l = held-length (k.view p l)

  maps-length : length (map_first ++ map_views) ≡ maps_length h
  maps-length =
      omega (arith, length-append map_first map_views, held-length k.shared, blocks-length (4 * h.space) map_one h.processes one-length)

  module _ (xs : List ℕ) where
    -- Encoding keeps the numbers past the maps.
    to-rest : drop (maps_length h) (layers_to h s xs) ≡ drop (maps_length h) xs
    unfolding layers_to
    to-rest = drop_at (map_first ++ map_views) (drop (maps_length h) xs) (maps_length h) maps-length

    -- Encoding keeps the length of the slice.
    pub to-length : maps_length h ≤ length xs → length (layers_to h s xs) ≡ length xs
    unfolding layers_to
    to-length l = omega (arith, length-append (map_first ++ map_views) (drop (maps_length h) xs), maps-length, length-drop (maps_length h) xs)

    -- A second encoding replaces the first.
    pub to-again : (t : Layers) → layers_to h t (layers_to h s xs) ≡ layers_to h t xs
    unfolding layers_to
    to-again t = ap (λ (l : List ℕ). (map_for h.space t.shared ++ blocks h.processes (λ p. map_for h.space (t.view p))) ++ l) to-rest

    -- The published map, then the views, then the rest of the slice.
    to-apart : layers_to h s xs ≡ map_first ++ (map_views ++ drop (maps_length h) xs)
    unfolding layers_to
    to-apart = append_assoc map_first map_views (drop (maps_length h) xs)

    -- The published map of the encoding is at its place.
    pub to-shared : map_at h.space 0 (layers_to h s xs) ≡ map_for h.space s.shared
    to-shared =
        (λ i. take (4 * h.space) (drop (zero-mul (4 * h.space) i) (to-apart i)))
        ∙ take_at map_first (map_views ++ drop (maps_length h) xs) (4 * h.space) (held-length k.shared)

    -- The map of each view is at its place.
    pub to-view : (p : ℕ) → p < h.processes → map_at h.space (suc p) (layers_to h s xs) ≡ map_for h.space (s.view p)
    to-view p l =
        let m : ℕ = 4 * h.space in
        let z = drop (maps_length h) xs in
        let e : suc p * m ≡ length map_first + p * m = omega (arith, held-length k.shared) in
        (λ i. take m (drop (e i) (to-apart i)))
        ∙ ap (take m) (drop-append-add map_first (map_views ++ z) (p * m))
        ∙ block_at m map_one h.processes one-length p l z

    -- Decoding the encoded slice gives the layered file.
    pub to_in : Alike h.processes (layers_in h (layers_to h s xs)) s
    to_in =
        record {
          shared = ap bytes_of to-shared ∙ held_bytes k.shared;
          view = λ p l. ap bytes_of (to-view p l) ∙ held_bytes (k.view p l);
        }

-- Making leaves the encoding of the fresh layered file.
pub fresh-to : (h : Header) (xs : List ℕ) → made_to 0 (maps_length h) xs ≡ layers_to h fresh xs
unfolding layers_to
fresh-to h xs =
    let m : ℕ = 4 * h.space in
    let e : maps_length h ≡ m + h.processes * m = omega arith in
    let first : replicate m 0 ≡ map_for h.space nothing = sym (nothing-map h.space) in
    let views = sym (blocks-zeros m h.processes) ∙ ap (λ (l : List ℕ). blocks h.processes (λ p. l)) first in
    let front = ap (λ (n : ℕ). replicate n 0) e ∙ sym (replicate-append-replicate m (h.processes * m) 0) ∙ (λ i. first i ++ views i) in
    ap (λ (l : List ℕ). l ++ drop (maps_length h) xs) front

-- ---- Plain files

-- The map of a plain file holds its bytes, and no byte is marked.
pub record PlainHeld (h : Header) (f : Bytes) : Type 0 where
  pub bytes : Held h.space f
  pub unmarked : (b : ℕ) → unpublished (f b) ≡ false

module _ (h : Header) {f : Bytes} (k : PlainHeld h f) (xs : List ℕ) where
  -- The map of the encoding is the first map of the slice.
  pub plain-first : map_at h.space 0 (plain_to h f xs) ≡ map_for h.space f
  unfolding plain_to
  plain-first =
      (λ i. take (4 * h.space) (drop (zero-mul (4 * h.space) i) (plain_to h f xs)))
      ∙ take_at (map_for h.space f) (drop (4 * h.space) xs) (4 * h.space) (held-length k.bytes)

  -- Encoding keeps the length of the slice.
  pub plain-length : 4 * h.space ≤ length xs → length (plain_to h f xs) ≡ length xs
  unfolding plain_to
  plain-length l =
      omega (arith, length-append (map_for h.space f) (drop (4 * h.space) xs), held-length k.bytes, length-drop (4 * h.space) xs)

  -- A second encoding replaces the first.
  pub plain-again : (g : Bytes) → plain_to h g (plain_to h f xs) ≡ plain_to h g xs
  unfolding plain_to
  plain-again g =
      ap (λ (l : List ℕ). map_for h.space g ++ l)
      (drop_at (map_for h.space f) (drop (4 * h.space) xs) (4 * h.space) (held-length k.bytes))

  -- Decoding the encoded slice gives the bytes.
  pub plain_in_lem : plain_in h (plain_to h f xs) ≡ f
  plain_in_lem = ap bytes_of plain-first ∙ held_bytes k.bytes

-- Making leaves the encoding of the fresh plain file.
pub fresh-plain : (h : Header) (xs : List ℕ) → made_to 0 (4 * h.space) xs ≡ plain_to h nothing xs
unfolding plain_to
fresh-plain h xs = ap (λ (l : List ℕ). l ++ drop (4 * h.space) xs) (sym (nothing-map h.space))

-- ---- Bytes that change at no more points than fit

-- A map whose space is at least the number of points holds such bytes.
pointed_held : {space : ℕ} {points : List ℕ} → length points ≤ space → {f : Bytes} → Pointed points f → Held space f
pointed_held enough k = record { fine = k.fine; ends = k.ends; fit = omega (arith, pointed_runs k, enough) }

module _ (h : Header) {points : List ℕ} (enough : length points ≤ h.space) where
  -- Maps with that space hold a layered file.
  pub layers_held : {s : Layers} → LayersPointed points s → LayersHeld h s
  layers_held k = record { shared = pointed_held enough k.shared; unmarked = k.unmarked; view = λ p _. pointed_held enough (k.view p) }

  -- Maps with that space hold a plain file.
  pub plain-held : {f : Bytes} → PlainPointed points f → PlainHeld h f
  plain-held k = record { bytes = pointed_held enough k.bytes; unmarked = k.unmarked }
