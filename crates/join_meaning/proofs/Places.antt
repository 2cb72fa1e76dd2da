-- Places of a merging's rows in their files and back, and how the rows of one merging stand in another merging of the same files.
use Rattle.std.proofs.Common.{ℕ, zero, suc, ◌<◌, arith, ◌≡◌, refl, sym, ap, ◌∙◌, List, ◌∷◌, length}
use native.Mathlib.Decide.{dec_lt}
use Rattle.rows.specs.declared.row.Row.{Row}
use Rattle.rows.specs.Rows.{row_at}
use Rattle.join_meaning.specs.Merging.{Merged, none, first, second}

-- ---- Spots and places

-- A place in the first file or in the second.
pub data Spot : Type 0 where
  in_first : ℕ → Spot
  in_second : ℕ → Spot

-- The spot behind one more row of the first file.
past_first : Spot → Spot
past_first (in_first i) = in_first (suc i)
past_first (in_second j) = in_second j

-- The spot behind one more row of the second file.
past_second : Spot → Spot
past_second (in_first i) = in_first i
past_second (in_second j) = in_second (suc j)

-- Where row k of a merging stands in its file.
pub spot : {a b m : List Row} → Merged a b m → ℕ → Spot
spot none k = in_first k
spot (first d) zero = in_first 0
spot (first d) (suc k) = past_first (spot d k)
spot (second d) zero = in_second 0
spot (second d) (suc k) = past_second (spot d k)

-- Where a row of a file stands in the merging.
pub place : {a b m : List Row} → Merged a b m → Spot → ℕ
place none (in_first i) = i
place none (in_second j) = j
place (first d) (in_first zero) = 0
place (first d) (in_first (suc i)) = suc (place d (in_first i))
place (first d) (in_second j) = suc (place d (in_second j))
place (second d) (in_first i) = suc (place d (in_first i))
place (second d) (in_second zero) = 0
place (second d) (in_second (suc j)) = suc (place d (in_second j))

-- The row at a spot.
abbrev pub row_on : List Row → List Row → Spot → Row
row_on a b (in_first i) = row_at a i
row_on a b (in_second j) = row_at b j

-- A spot holds a row of its file.
abbrev pub On : List Row → List Row → Spot → Type 0
On a b (in_first i) = i < length a
On a b (in_second j) = j < length b

-- Two spots lie in one file.
abbrev pub SameFile : Spot → Spot → Type 0
SameFile (in_first i) (in_first j) = Unit {0}
SameFile (in_first i) (in_second j) = ⊥
SameFile (in_second i) (in_first j) = ⊥
SameFile (in_second i) (in_second j) = Unit {0}

-- ---- There and back

-- One more row of the first file moves every place up by one.
past_first-place : {a b m : List Row} (r : Row) (d : Merged a b m) (s : Spot) → place (first {r = r} d) (past_first s) ≡ suc (place d s)
unfolding place past_first
past_first-place r d (in_first i) = refl
past_first-place r d (in_second j) = refl

-- One more row of the second file moves every place up by one.
past_second-place : {a b m : List Row} (r : Row) (d : Merged a b m) (s : Spot) → place (second {r = r} d) (past_second s) ≡ suc (place d s)
unfolding place past_second
past_second-place r d (in_first i) = refl
past_second-place r d (in_second j) = refl

-- The place of the spot of row k is k.
pub place-spot : {a b m : List Row} (d : Merged a b m) (k : ℕ) → k < length m → place d (spot d k) ≡ k
unfolding place spot
place-spot none k h = absurd (omega arith)
place-spot (first d) zero h = refl
place-spot (first {r} d) (suc k) h = past_first-place r d (spot d k) ∙ ap suc (place-spot d k (omega arith))
place-spot (second d) zero h = refl
place-spot (second {r} d) (suc k) h = past_second-place r d (spot d k) ∙ ap suc (place-spot d k (omega arith))

-- The spot of a row of a file, found by its place in the merging, is where the row stands in the file.
spot-place : {a b m : List Row} (d : Merged a b m) (s : Spot) → On a b s → spot d (place d s) ≡ s
unfolding place spot past_first past_second
spot-place none (in_first i) h = absurd (omega arith)
spot-place none (in_second j) h = absurd (omega arith)
spot-place (first d) (in_first zero) h = refl
spot-place (first d) (in_first (suc i)) h = ap past_first (spot-place d (in_first i) (omega arith))
spot-place (first d) (in_second j) h = ap past_first (spot-place d (in_second j) h)
spot-place (second d) (in_first i) h = ap past_second (spot-place d (in_first i) h)
spot-place (second d) (in_second zero) h = refl
spot-place (second d) (in_second (suc j)) h = ap past_second (spot-place d (in_second j) (omega arith))

-- The spot behind one more row of the first file holds a row where the spot did.
past_first-on : (a b : List Row) (r : Row) (s : Spot) → On a b s → On (r ∷ a) b (past_first s)
unfolding past_first
past_first-on a b r (in_first i) h = omega arith
past_first-on a b r (in_second j) h = h

-- The spot behind one more row of the second file holds a row where the spot did.
past_second-on : (a b : List Row) (r : Row) (s : Spot) → On a b s → On a (r ∷ b) (past_second s)
unfolding past_second
past_second-on a b r (in_first i) h = h
past_second-on a b r (in_second j) h = omega arith

-- The spot of a row holds a row of its file.
pub spot_on : {a b m : List Row} (d : Merged a b m) (k : ℕ) → k < length m → On a b (spot d k)
unfolding spot
spot_on none k h = absurd (omega arith)
spot_on (first d) zero h = omega arith
spot_on (first {r} {a} {b} d) (suc k) h = past_first-on a b r (spot d k) (spot_on d k (omega arith))
spot_on (second d) zero h = omega arith
spot_on (second {r} {a} {b} d) (suc k) h = past_second-on a b r (spot d k) (spot_on d k (omega arith))

-- A row of a file has a place in the merging.
place-in : {a b m : List Row} (d : Merged a b m) (s : Spot) → On a b s → place d s < length m
unfolding place
place-in none (in_first i) h = absurd (omega arith)
place-in none (in_second j) h = absurd (omega arith)
place-in (first d) (in_first zero) h = omega arith
place-in (first d) (in_first (suc i)) h = let q = place-in d (in_first i) (omega arith) in omega arith
place-in (first d) (in_second j) h = let q = place-in d (in_second j) h in omega arith
place-in (second d) (in_first i) h = let q = place-in d (in_first i) h in omega arith
place-in (second d) (in_second zero) h = omega arith
place-in (second d) (in_second (suc j)) h = let q = place-in d (in_second j) (omega arith) in omega arith

-- A row of a file stands at its place in the merging.
pub row-place : {a b m : List Row} (d : Merged a b m) (s : Spot) → On a b s → row_at m (place d s) ≡ row_on a b s
unfolding place
row-place none (in_first i) h = absurd (omega arith)
row-place none (in_second j) h = absurd (omega arith)
row-place (first d) (in_first zero) h = refl
row-place (first d) (in_first (suc i)) h = row-place d (in_first i) (omega arith)
row-place (first d) (in_second j) h = row-place d (in_second j) h
row-place (second d) (in_first i) h = row-place d (in_first i) h
row-place (second d) (in_second zero) h = refl
row-place (second d) (in_second (suc j)) h = row-place d (in_second j) (omega arith)

-- ---- The order of a file

-- A merging keeps the order of the first file.
first-kept : {a b m : List Row} (d : Merged a b m) (i j : ℕ) → i < j → j < length a → place d (in_first i) < place d (in_first j)
unfolding place
first-kept none i j h l = absurd (omega arith)
first-kept (first d) zero zero h l = absurd (omega arith)
first-kept (first d) zero (suc j) h l = omega arith
first-kept (first d) (suc i) zero h l = absurd (omega arith)
first-kept (first d) (suc i) (suc j) h l = let q = first-kept d i j (omega arith) (omega arith) in omega arith
first-kept (second d) i j h l = let q = first-kept d i j h l in omega arith

-- A merging keeps the order of the second file.
second-kept : {a b m : List Row} (d : Merged a b m) (i j : ℕ) → i < j → j < length b → place d (in_second i) < place d (in_second j)
unfolding place
second-kept none i j h l = absurd (omega arith)
second-kept (first d) i j h l = let q = second-kept d i j h l in omega arith
second-kept (second d) zero zero h l = absurd (omega arith)
second-kept (second d) zero (suc j) h l = omega arith
second-kept (second d) (suc i) zero h l = absurd (omega arith)
second-kept (second d) (suc i) (suc j) h l = let q = second-kept d i j (omega arith) (omega arith) in omega arith

-- Two functions on the numbers below n that keep their order: one is smaller at i than at j where the other is.
both-kept : (n : ℕ) (f g : ℕ → ℕ) → ((i j : ℕ) → i < j → j < n → f i < f j) → ((i j : ℕ) → i < j → j < n → g i < g j) →
    (i j : ℕ) → i < n → j < n → f i < f j → g i < g j
both-kept n f g p q i j h l e = go (dec_lt i j) (dec_lt j i)
  where
    go : Dec (i < j) → Dec (j < i) → g i < g j
    go (yes x) y = q i j x l
    go (no x) (yes y) = let z = p j i y h in absurd (omega arith)
    go (no x) (no y) = let s : i ≡ j = omega arith in let z : f i ≡ f j = ap f s in absurd (omega arith)

-- Two mergings of the same files have the rows of one file in the same order.
pub order-kept : {a b m n : List Row} (d : Merged a b m) (g : Merged a b n) (s t : Spot) → SameFile s t → On a b s → On a b t →
    place d s < place d t → place g s < place g t
order-kept {a} d g (in_first i) (in_first j) f h l e =
    both-kept (length a) (λ k. place d (in_first k)) (λ k. place g (in_first k)) (first-kept d) (first-kept g) i j h l e
order-kept d g (in_first i) (in_second j) f h l e = absurd f
order-kept d g (in_second i) (in_first j) f h l e = absurd f
order-kept {a} {b} d g (in_second i) (in_second j) f h l e =
    both-kept (length b) (λ k. place d (in_second k)) (λ k. place g (in_second k)) (second-kept d) (second-kept g) i j h l e

-- ---- The rows of one merging in another

-- Where row k of a merging stands in another merging of the same files.
abbrev pub moved : {a b m n : List Row} → Merged a b m → Merged a b n → ℕ → ℕ
moved d g k = place g (spot d k)

module _ {a b m n : List Row} (d : Merged a b m) (g : Merged a b n) (k : ℕ) (h : k < length m) where
  -- A row of one merging has a place in another merging of the same files.
  pub moved_in : moved d g k < length n
  moved_in = place-in g (spot d k) (spot_on d k h)

  -- A row of one merging stands at its place in the other.
  pub moved_row : row_at n (moved d g k) ≡ row_at m k
  moved_row = row-place g (spot d k) (spot_on d k h) ∙ sym (row-place d (spot d k) (spot_on d k h)) ∙ ap (row_at m) (place-spot d k h)

  -- The place of a row in the other merging leads back to the row.
  pub moved_back : moved g d (moved d g k) ≡ k
  moved_back = ap (place d) (spot-place g (spot d k) (spot_on d k h)) ∙ place-spot d k h
