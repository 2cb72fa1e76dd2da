-- Cells of the counts' slice: the values of a function, and a row of them put into a list.
use Rattle.std.proofs.Common.{ℕ, zero, suc, ◌+◌, ◌≤◌, ◌<◌, add-zero, add-one, arith, ◌≡◌, refl, sym, ap, ap₂, ◌∙◌, List, [], ◌∷◌, ◌++◌, append_assoc, length, take, drop, length-append, length-drop, take-append-drop, length-take-le, take-suc, drop-cons, drop-drop, get_or-append-add, get_or-take, get_or-drop, take_at, drop_at}
use native.Mathlib.Decide.{dec_lt}
use lib.ListN.{get_or, set, get_or-append}
use lib.Seq.{get_or_at, set_at}
use Rattle.rows.specs.Counting.{values}

-- ---- The values of a function

-- The values below n are n.
pub values_length : (n : ℕ) (f : ℕ → ℕ) → length (values n f) ≡ n
unfolding values
values_length zero f = refl
values_length (suc n) f = omega (arith, length-append (values n f) (f n ∷ []), values_length n f)

-- The value at index p is that of the function.
pub values-at : (n : ℕ) (f : ℕ → ℕ) (p : ℕ) → p < n → get_or (values n f) p 0 ≡ f p
unfolding values
values-at zero f p h = absurd (omega arith)
values-at (suc n) f p h = go (dec_lt p n) (values-at n f p)
  where
    go : Dec (p < n) → (p < n → get_or (values n f) p 0 ≡ f p) → get_or (values n f ++ (f n ∷ [])) p 0 ≡ f p
    go (yes l) ih = get_or-append (values n f) (f n ∷ []) 0 p (omega (arith, values_length n f)) ∙ ih l
    go (no l) ih = let e : n ≡ p = omega arith in rw (← e) (get_or_at (values n f) (f n) [] 0 n (values_length n f))

-- Functions that agree below n have the same values.
pub values_same : (n : ℕ) {f g : ℕ → ℕ} → ((p : ℕ) → p < n → f p ≡ g p) → values n f ≡ values n g
unfolding values
values_same zero e = refl
values_same (suc n) e = ap₂ (λ (l : List ℕ) (x : ℕ). l ++ (x ∷ [])) (values_same n (λ p h. e p (omega arith))) (e n (omega arith))

-- ---- Values put into a list

-- Values put from an index on; `with_counts` is such a list.
abbrev pub put : ℕ → ℕ → List ℕ → (ℕ → ℕ) → List ℕ
put to n l f = take to l ++ (values n f ++ drop (to + n) l)

-- Where no value is put, the list is as it was.
pub put-none : (to : ℕ) (l : List ℕ) (f : ℕ → ℕ) → l ≡ put to 0 l f
unfolding values
put-none to l f = rw add-zero (sym (take-append-drop to l))

-- The numbers of a part of a list are the values of its reads.
values-part : (to n : ℕ) (l : List ℕ) → to + n ≤ length l → values n (λ p. get_or l (to + p) 0) ≡ take n (drop to l)
unfolding values
values-part to zero l h = refl
values-part to (suc n) l h =
    let g : n < length (drop to l) = omega (arith, length-drop to l) in
    rw (take-suc (drop to l) n 0, get_or-drop, values-part to n l (omega arith))

-- A list whose values stand there already stays as it is.
pub put_same : (to n : ℕ) (l : List ℕ) → to + n ≤ length l → {f : ℕ → ℕ} → ((p : ℕ) → p < n → get_or l (to + p) 0 ≡ f p) →
    l ≡ put to n l f
put_same to n l h e = sym (rw (← values_same n e, values-part to n l, ← drop-drop, take-append-drop, take-append-drop))

-- The number at an index is the first of the list from that index on.
here : (i : ℕ) (l : List ℕ) → get_or l i 0 ≡ get_or (drop i l) 0 0
here i l = sym (get_or-drop i l 0 0 ∙ ap (λ (k : ℕ). get_or l k 0) (add-zero i))

module _ (to n : ℕ) (l : List ℕ) (f : ℕ → ℕ) (fits : to + n ≤ length l) where
  -- The part before the row has its length.
  front_length : length (take to l) ≡ to
  front_length = length-take-le to l (omega arith)

  -- The part before the row and the row end where the row ends.
  both-length : length (take to l ++ values n f) ≡ to + n
  both-length = omega (arith, length-append (take to l) (values n f), front_length, values_length n f)

  -- The part behind the row, set apart.
  apart : put to n l f ≡ (take to l ++ values n f) ++ drop (to + n) l
  apart = sym (append_assoc (take to l) (values n f) (drop (to + n) l))

  -- The part behind the row is kept.
  put_back : drop (to + n) (put to n l f) ≡ drop (to + n) l
  put_back = rw apart (drop_at (take to l ++ values n f) (drop (to + n) l) (to + n) both-length)

  -- A number in the row is the function's value.
  pub put-at : (p : ℕ) → p < n → get_or (put to n l f) (to + p) 0 ≡ f p
  put-at p h =
      let g : p < length (values n f) = omega (arith, values_length n f) in
      ap (λ (k : ℕ). get_or (put to n l f) (k + p) 0) (sym front_length) ∙ get_or-append-add (take to l) (values n f ++ drop (to + n) l) p 0
      ∙ get_or-append (values n f) (drop (to + n) l) 0 p g ∙ values-at n f p h

  -- A number before the row is kept.
  pub put-before : (i : ℕ) → i < to → get_or (put to n l f) i 0 ≡ get_or l i 0
  put-before i h =
      get_or-append (take to l) (values n f ++ drop (to + n) l) 0 i (omega (arith, front_length)) ∙ get_or-take to l i 0 h

  -- The first number behind the row is kept.
  pub put-behind : get_or (put to n l f) (to + n) 0 ≡ get_or l (to + n) 0
  put-behind = here (to + n) (put to n l f) ∙ ap (λ (x : List ℕ). get_or x 0 0) put_back ∙ sym (here (to + n) l)

  -- Storing the next value puts one value more.
  pub put_next : to + n < length l → set (put to n l f) (to + n) (f n) ≡ put to (n + 1) l f
  unfolding values
  put_next h =
      let rest = drop (suc (to + n)) l in
      let e : to + (n + 1) ≡ suc (to + n) = omega arith in
      ap (λ (x : List ℕ). set x (to + n) (f n)) (apart ∙ ap (λ (x : List ℕ). (take to l ++ values n f) ++ x) (drop-cons l (to + n) 0 h))
      ∙ set_at (take to l ++ values n f) (get_or l (to + n) 0) rest (f n) (to + n) both-length
      ∙ rw (e, add-one) (simp append_assoc)

  -- A row put over a row replaces that row.
  pub put-over : (g : ℕ → ℕ) → put to n (put to n l f) g ≡ put to n l g
  put-over g = λ i. take_at (take to l) (values n f ++ drop (to + n) l) to front_length i ++ (values n g ++ put_back i)
