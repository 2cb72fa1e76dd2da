-- Maps side by side in a slice: putting one leaves the others.
use Rattle.std.proofs.Common.{ℕ, suc, ◌+◌, ◌*◌, ◌-◌, min, ◌≤◌, ◌<◌, arith, mul-le-mul_right, ◌≡◌, sym, ap, ◌∙◌, ◌⊎◌, inl, inr, List, ◌++◌, length, take, drop, length-append, length-take, length-drop, take-append-drop, length-take-le, take_at, drop_at, ext_get_or, take-add, get_or-take, get_or-drop, get_or-append-add}
use native.Mathlib.Decide.{dec_lt}
use lib.ListN.{get_or, get_or-append}
use lib.Seq.{take-append-le}
use Rattle.extents_meaning.specs.Maps.{with_part, map_at, with_map}

-- ---- A part put into a list

module _ (at : ℕ) (m xs : List ℕ) (fit : at + length m ≤ length xs) where
  head_length : length (take at xs ++ m) ≡ at + length m
  head_length = length-append (take at xs) m ∙ ap (λ (k : ℕ). k + length m) (length-take-le at xs (omega arith))

  -- Replacing a part by one of its length keeps the length.
  pub part_length : length (with_part at (length m) m xs) ≡ length xs
  part_length =
      length-append (take at xs ++ m) (drop (at + length m) xs)
      ∙ omega (arith, head_length, length-drop (at + length m) xs)

  -- before the part, in it and behind it
  pub part-before : (i : ℕ) → i < at → get_or (with_part at (length m) m xs) i 0 ≡ get_or xs i 0
  part-before i h =
      get_or-append (take at xs ++ m) (drop (at + length m) xs) 0 i (omega (arith, head_length))
      ∙ get_or-append (take at xs) m 0 i (omega (arith, length-take-le at xs (omega arith)))
      ∙ get_or-take at xs i 0 h

  pub part_in : (i : ℕ) → i < length m → get_or (with_part at (length m) m xs) (at + i) 0 ≡ get_or m i 0
  part_in i h =
      get_or-append (take at xs ++ m) (drop (at + length m) xs) 0 (at + i) (omega (arith, head_length))
      ∙ (λ j. get_or (take at xs ++ m) (sym (length-take-le at xs (omega arith)) j + i) 0)
      ∙ get_or-append-add (take at xs) m i 0

  pub part-behind : (i : ℕ) → at + length m ≤ i → get_or (with_part at (length m) m xs) i 0 ≡ get_or xs i 0
  part-behind i h =
      let k = i - (at + length m) in
      let e : i ≡ length (take at xs ++ m) + k = omega (arith, head_length) in
      let q : at + length m + k ≡ i = omega arith in
      ap (λ (j : ℕ). get_or (with_part at (length m) m xs) j 0) e
      ∙ get_or-append-add (take at xs ++ m) (drop (at + length m) xs) k 0
      ∙ get_or-drop (at + length m) xs k 0
      ∙ ap (λ (j : ℕ). get_or xs j 0) q

-- two lists with parts are compared at every place: before the part, in it, behind it
pub part-is : (at : ℕ) (m xs ys : List ℕ) → at + length m ≤ length xs → length ys ≡ length xs → ((i : ℕ) → i < at → get_or ys i 0 ≡ get_or xs i 0) →
    ((i : ℕ) → i < length m → get_or ys (at + i) 0 ≡ get_or m i 0) → ((i : ℕ) → at + length m ≤ i → i < length xs → get_or ys i 0 ≡ get_or xs i 0) →
    ys ≡ with_part at (length m) m xs
part-is at m xs ys fit e before inside behind =
    ext_get_or 0 ys (with_part at (length m) m xs) (e ∙ sym (part_length at m xs fit)) (λ i h. go i (omega (arith, e)) (dec_lt i at) (dec_lt i (at + length m)))
  where
    go : (i : ℕ) → i < length xs → Dec (i < at) → Dec (i < at + length m) → get_or ys i 0 ≡ get_or (with_part at (length m) m xs) i 0
    go i h (yes l) d = before i l ∙ sym (part-before at m xs fit i l)
    go i h (no l) (yes r) =
        let q : at + (i - at) ≡ i = omega arith in
        ap (λ (j : ℕ). get_or ys j 0) (sym q) ∙ inside (i - at) (omega arith) ∙ sym (part_in at m xs fit (i - at) (omega arith))
        ∙ ap (λ (j : ℕ). get_or (with_part at (length m) m xs) j 0) q
    go i h (no l) (no r) = behind i (omega arith) h ∙ sym (part-behind at m xs fit i (omega arith))

-- ---- Maps

-- maps of one slice do not meet
pub maps-apart : (n : ℕ) {j k : ℕ} → j < k → j * n + n ≤ k * n
maps-apart n {j} {k} h = let l : suc j ≤ k = h in omega (arith, mul-le-mul_right n l)

module _ (space k : ℕ) (m xs : List ℕ) (size : length m ≡ 4 * space) (fit : (k + 1) * (4 * space) ≤ length xs) where
  -- there is room for the map at its place
  room : k * (4 * space) + length m ≤ length xs
  room = omega (arith, size, fit)

  -- Replacing map k replaces the part where it stands.
  pub with_part_lem : with_map space k m xs ≡ with_part (k * (4 * space)) (length m) m xs
  with_part_lem = ap (λ (n : ℕ). (take (k * (4 * space)) xs ++ m) ++ drop (k * (4 * space) + n) xs) (sym size)

  -- Replacing map k keeps the length.
  pub with_length : length (with_map space k m xs) ≡ length xs
  with_length = ap length with_part_lem ∙ part_length (k * (4 * space)) m xs room

  -- the map is there
  pub at_same : map_at space k (with_map space k m xs) ≡ m
  at_same =
      ext_get_or 0 (map_at space k (with_map space k m xs)) m there
      (λ i h. get_or-take (4 * space) (drop (k * (4 * space)) (with_map space k m xs)) i 0 (omega (arith, there, size))
      ∙ get_or-drop (k * (4 * space)) (with_map space k m xs) i 0 ∙ ap (λ (l : List ℕ). get_or l (k * (4 * space) + i) 0) with_part_lem
      ∙ part_in (k * (4 * space)) m xs room i (omega (arith, there)))
    where
      there : length (map_at space k (with_map space k m xs)) ≡ length m
      there =
          length-take-le (4 * space) (drop (k * (4 * space)) (with_map space k m xs))
          (omega (arith, length-drop (k * (4 * space)) (with_map space k m xs), with_length, fit))
          ∙ sym size

  -- The numbers of the map stand at its place.
  pub with_in : (i : ℕ) → i < 4 * space → get_or (with_map space k m xs) (k * (4 * space) + i) 0 ≡ get_or m i 0
  with_in i h = ap (λ (l : List ℕ). get_or l (k * (4 * space) + i) 0) with_part_lem ∙ part_in (k * (4 * space)) m xs room i (omega (arith, size))

  -- every number outside of it is as it was
  pub with_other : (i : ℕ) → (i < k * (4 * space)) ⊎ (k * (4 * space) + 4 * space ≤ i) → get_or (with_map space k m xs) i 0 ≡ get_or xs i 0
  with_other i (inl l) = ap (λ (l : List ℕ). get_or l i 0) with_part_lem ∙ part-before (k * (4 * space)) m xs room i l
  with_other i (inr l) = ap (λ (l : List ℕ). get_or l i 0) with_part_lem ∙ part-behind (k * (4 * space)) m xs room i (omega (arith, size))

  -- Every other map is as it was.
  pub at_other : (j : ℕ) → (j ≡ k → ⊥) → map_at space j (with_map space k m xs) ≡ map_at space j xs
  at_other j apart =
      ext_get_or 0 (map_at space j (with_map space k m xs)) (map_at space j xs)
      (length-take n (drop (j * n) (with_map space k m xs))
      ∙ ap (min n) (length-drop (j * n) (with_map space k m xs) ∙ ap (λ (l : ℕ). l - j * n) with_length ∙ sym (length-drop (j * n) xs))
      ∙ sym (length-take n (drop (j * n) xs)))
      (λ i h. same i (omega (arith, h, length-take n (drop (j * n) (with_map space k m xs)))))
    where
      n : ℕ
      n = 4 * space

      outside : (i : ℕ) → i < n → (j * n + i < k * n) ⊎ (k * n + n ≤ j * n + i)
      outside i h = go (dec_lt j k)
        where
          go : Dec (j < k) → (j * n + i < k * n) ⊎ (k * n + n ≤ j * n + i)
          go (yes l) = inl (omega (arith, h, maps-apart n l))
          go (no l) = let r : k < j = omega (arith, apart) in inr (omega (arith, maps-apart n r))

      same : (i : ℕ) → i < n → get_or (map_at space j (with_map space k m xs)) i 0 ≡ get_or (map_at space j xs) i 0
      same i h =
          get_or-take n (drop (j * n) (with_map space k m xs)) i 0 h ∙ get_or-drop (j * n) (with_map space k m xs) i 0
          ∙ with_other (j * n + i) (outside i h)
          ∙ sym (get_or-take n (drop (j * n) xs) i 0 h ∙ get_or-drop (j * n) xs i 0)

-- a map put where it stands
pub with_same : (space k : ℕ) (xs : List ℕ) → (k + 1) * (4 * space) ≤ length xs → with_map space k (map_at space k xs) xs ≡ xs
with_same space k xs fit =
    let n = 4 * space in
    ap (λ (l : List ℕ). l ++ drop (k * n + n) xs) (sym (take-add (k * n) n xs)) ∙ take-append-drop (k * n + n) xs

-- maps at two places are put in any sequence
module _ (space j k : ℕ) (m o xs : List ℕ) (apart : j ≡ k → ⊥) (m-size : length m ≡ 4 * space) (o-size : length o ≡ 4 * space)
    (j-fit : (j + 1) * (4 * space) ≤ length xs) (k-fit : (k + 1) * (4 * space) ≤ length xs) where
  -- Two maps at two places may be put in either sequence.
  pub with_comm : with_map space j m (with_map space k o xs) ≡ with_map space k o (with_map space j m xs)
  with_comm =
      part-is (k * n) o inner outer (omega (arith, k-fit, o-size, inner-length)) (with_length space j m other m-size (omega (arith, j-fit, other_length)) ∙ other_length ∙ sym inner-length)
      (λ i l. outside i (inl l)) inside (λ i l h. outside i (inr (omega (arith, o-size))))
      ∙ sym (with_part_lem space k o inner o-size (omega (arith, k-fit, inner-length)))
    where
      n : ℕ
      n = 4 * space

      other : List ℕ
      other = with_map space k o xs

      inner : List ℕ
      inner = with_map space j m xs

      outer : List ℕ
      outer = with_map space j m other

      other_length : length other ≡ length xs
      other_length = with_length space k o xs o-size k-fit

      inner-length : length inner ≡ length xs
      inner-length = with_length space j m xs m-size j-fit

      -- a place of one block lies outside of the other
      away : (i : ℕ) → i < n → (k * n + i < j * n) ⊎ (j * n + n ≤ k * n + i)
      away i h = go (dec_lt k j)
        where
          go : Dec (k < j) → (k * n + i < j * n) ⊎ (j * n + n ≤ k * n + i)
          go (yes l) = inl (omega (arith, h, maps-apart n l))
          go (no l) = let r : j < k = omega (arith, apart) in inr (omega (arith, maps-apart n r))

      inside : (i : ℕ) → i < length o → get_or outer (k * n + i) 0 ≡ get_or o i 0
      inside i h =
          with_other space j m other m-size (omega (arith, j-fit, other_length)) (k * n + i) (away i (omega (arith, o-size)))
          ∙ with_in space k o xs o-size k-fit i (omega (arith, o-size))

      outside : (i : ℕ) → (i < k * n) ⊎ (k * n + n ≤ i) → get_or outer i 0 ≡ get_or inner i 0
      outside i d = go (dec_lt i (j * n)) (dec_lt i (j * n + n))
        where
          go : Dec (i < j * n) → Dec (i < j * n + n) → get_or outer i 0 ≡ get_or inner i 0
          go (yes l) r =
              with_other space j m other m-size (omega (arith, j-fit, other_length)) i (inl l)
              ∙ with_other space k o xs o-size k-fit i d ∙ sym (with_other space j m xs m-size j-fit i (inl l))
          go (no l) (yes r) =
              let q : j * n + (i - j * n) ≡ i = omega arith in
              ap (λ (t : ℕ). get_or outer t 0) (sym q)
              ∙ with_in space j m other m-size (omega (arith, j-fit, other_length)) (i - j * n) (omega arith)
              ∙ sym (with_in space j m xs m-size j-fit (i - j * n) (omega arith)) ∙ ap (λ (t : ℕ). get_or inner t 0) q
          go (no l) (no r) =
              with_other space j m other m-size (omega (arith, j-fit, other_length)) i (inr (omega arith))
              ∙ with_other space k o xs o-size k-fit i d ∙ sym (with_other space j m xs m-size j-fit i (inr (omega arith)))

-- a map put over another at the same place
pub with_over : (space k : ℕ) (m o xs : List ℕ) → length m ≡ 4 * space → length o ≡ 4 * space → (k + 1) * (4 * space) ≤ length xs →
    with_map space k m (with_map space k o xs) ≡ with_map space k m xs
with_over space k m o xs a b fit =
    let n = 4 * space in
    let head : length (take (k * n) xs ++ o) ≡ k * n + n =
    length-append (take (k * n) xs) o ∙ ap (λ (t : ℕ). t + length o) (length-take-le (k * n) xs (omega (arith, fit))) ∙ ap (λ (t : ℕ). k * n + t) b in
    let first : take (k * n) (with_map space k o xs) ≡ take (k * n) xs =
    take-append-le (k * n) (take (k * n) xs ++ o) (drop (k * n + n) xs) (omega (arith, head))
    ∙ take_at (take (k * n) xs) o (k * n) (length-take-le (k * n) xs (omega (arith, fit))) in
    (λ i. (first i ++ m) ++ drop_at (take (k * n) xs ++ o) (drop (k * n + n) xs) (k * n + n) head i)
