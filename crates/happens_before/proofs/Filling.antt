-- Filling the counts row after row: what the slice holds after some rows, and one row more.
use Rattle.std.proofs.Common.{ℕ, zero, suc, ◌+◌, ◌*◌, ◌-◌, ◌≤◌, ◌<◌, zero-mul, suc-mul, arith, ◌≡◌, refl, sym, ap, ◌∙◌, cond, ◌||◌, List, ◌++◌, append_assoc, length, take, drop, replicate, length-append, take_at, drop_at, get_or-append-add}
use native.Mathlib.Decide.{dec_lt}
use lib.ListN.{get_or, length-replicate, replicate-append-replicate, get_or-append}
use lib.Seq.{drop-append-add}
use lib.Dec.{eqb}
use Rattle.rows.specs.declared.row.Row.{Row}
use Rattle.rows.specs.Rows.{rows_in, row_at, row_in}
use Rattle.rows.specs.Counting.{values, blocks, last_below}
use Rattle.happens_before.specs.Order.{delivers, same_barrier, last_of, last_before, passes, crosses, count, counts_of}
use Rattle.happens_before.specs.Clock.{from_last, joined_to, clock, cell_in, with_counts, filled_row}
use Rattle.happens_before.proofs.Cells.{values_length, values-at, values_same}
use Rattle.happens_before.proofs.Joins.{last-low, joined_same}
use Rattle.happens_before.proofs.Clocks.{count_most, vector_clock}
use Rattle.rows.specs.Limits.{ROWS}
use Rattle.rows.proofs.Zeros.{zeros}
use Rattle.rows.proofs.Slices.{length-rows, row-in}

-- ---- Functions that agree below a bound

-- The last row of a process is the same for functions that agree.
last-same : (f g : ℕ → ℕ) (q n : ℕ) → ((k : ℕ) → k < n → f k ≡ g k) → last_of f q n ≡ last_of g q n
unfolding last_of last_below
last-same f g q zero h = refl
last-same f g q (suc n) h =
    let ih = last-same f g q n (λ k l. h k (omega arith)) in
    (λ i. cond (eqb (h n (omega arith) i) q) (suc n) (ih i))

-- The value of a last row is the same for functions that agree.
from_same : (f g : ℕ → ℕ) (m n : ℕ) → m ≤ n → ((k : ℕ) → k < n → f k ≡ g k) → from_last f m ≡ from_last g m
from_same f g zero n l h = refl
from_same f g (suc m) n l h = h m l

module _ (f g : ℕ → Row) (n : ℕ) (h : (k : ℕ) → k < n → f k ≡ g k) where
  -- The last row of a row's process is the same for rows that agree.
  before_same : (j : ℕ) → j < n → last_before f j ≡ last_before g j
  before_same j l =
      last-same (λ k. (f k).process) (λ k. (g k).process) (f j).process j (λ k q. ap (λ (r : Row). r.process) (h k (omega arith)))
      ∙ ap (λ (r : Row). last_of (λ k. (g k).process) r.process j) (h j l)

  -- Rows that agree are of the same barriers.
  passes_same : (k m : ℕ) → k < n → m ≤ n → passes f k m ≡ passes g k m
  unfolding passes
  passes_same k zero a b = refl
  passes_same k (suc m) a b = λ i. same_barrier (h k a i) (h m b i)

  -- Rows that agree lead to the same rows.
  crosses-same : (k j : ℕ) → k < n → j < n → crosses f k j ≡ crosses g k j
  unfolding crosses
  crosses-same k j a b =
      let low = last-low (λ i. (f i).process) (f j).process j in
      (λ i. delivers (h k a i) (h j b i) || passes_same k (last_before f j) a (omega arith) i)
      ∙ ap (λ (m : ℕ). delivers (g k) (g j) || passes g k m) (before_same j b)

-- ---- Blocks of P values

module _ (P : ℕ) (g : ℕ → ℕ → ℕ) where
  -- Blocks of P values for the numbers below j.
  abbrev pub rows_of : ℕ → List ℕ
  rows_of j = blocks j (λ k. values P (g k))

  -- The length of j blocks.
  pub length-rows_of : (j : ℕ) → length (rows_of j) ≡ j * P
  unfolding blocks
  length-rows_of zero = sym (zero-mul P)
  length-rows_of (suc j) =
      length-append (rows_of j) (values P (g j)) ∙ (λ i. length-rows_of j i + values_length P (g j) i) ∙ sym (suc-mul j P)

  -- A number in a block is the function's value.
  pub cell-done : (j k p : ℕ) (z : List ℕ) → k < j → p < P → cell_in P (rows_of j ++ z) k p ≡ g k p
  unfolding blocks
  cell-done zero k p z h l = absurd (omega arith)
  cell-done (suc j) k p z h l = ap (λ (x : List ℕ). cell_in P x k p) (append_assoc (rows_of j) (values P (g j)) z) ∙ go (dec_lt k j) (cell-done j k p (values P (g j) ++ z))
    where
      go : Dec (k < j) → (k < j → p < P → cell_in P (rows_of j ++ (values P (g j) ++ z)) k p ≡ g k p) → cell_in P (rows_of j ++ (values P (g j) ++ z)) k p ≡ g k p
      go (yes q) ih = ih q l
      go (no q) ih =
          let e : j ≡ k = omega arith in
          let m : k * P + p ≡ length (rows_of j) + p = (λ i. sym e i * P + p) ∙ ap (λ (x : ℕ). x + p) (sym (length-rows_of j)) in
          let w : p < length (values P (g j)) = omega (arith, values_length P (g j)) in
          ap (λ (x : ℕ). get_or (rows_of j ++ (values P (g j) ++ z)) x 0) m
          ∙ get_or-append-add (rows_of j) (values P (g j) ++ z) p 0
          ∙ get_or-append (values P (g j)) z 0 p w ∙ values-at P (g j) p l ∙ ap (λ (x : ℕ). g x p) e

-- Behind the blocks stand zeros.
pub cell-zero : (P : ℕ) (g : ℕ → ℕ → ℕ) (j m p : ℕ) → cell_in P (rows_of P g j ++ replicate m 0) j p ≡ 0
cell-zero P g j m p =
    ap (λ (x : ℕ). get_or (rows_of P g j ++ replicate m 0) (x + p) 0) (sym (length-rows_of P g j))
    ∙ get_or-append-add (rows_of P g j) (replicate m 0) p 0 ∙ zeros m p

-- ---- The slice after j rows

module _ (n P L : ℕ) (xs : List ℕ) where
  -- The counts of row k.
  abbrev pub counted : ℕ → ℕ → ℕ
  counted k p = count (rows_in n xs) p k

  -- The slice with the counts of the first j rows, then 0.
  abbrev pub filled_to : ℕ → List ℕ
  filled_to j = rows_of P counted j ++ replicate (L - j * P) 0

  -- After j rows: their counts are filled, and the rest of the slice is 0.
  pub record Passed (counts : List ℕ) (j : ℕ) : Type 0 where
    pub size : length counts ≡ L
    pub filled : counts ≡ filled_to j

  module _ (j : ℕ) (h : j < n) where
    abbrev rows : List Row
    rows = rows_in n xs

    at : (k : ℕ) → k < n → row_in xs k ≡ row_at rows k
    at k q = sym (row-in n k xs q)

    cells : (p : ℕ) → p < P → (k : ℕ) → k < j → cell_in P (filled_to j) k p ≡ counted k p
    cells p l k q = cell-done P counted j k p (replicate (L - j * P) 0) q l

    -- In the slice, the last row of the process has its counts.
    start-count : (p : ℕ) → p < P →
        from_last (λ k. cell_in P (filled_to j) k p) (last_before (row_in xs) j) ≡ from_last (λ k. counted k p) (last_before (row_at rows) j)
    start-count p l =
        from_same (λ k. cell_in P (filled_to j) k p) (λ k. counted k p) (last_before (row_in xs) j) j
        (last-low (λ k. (row_in xs k).process) (row_in xs j).process j) (cells p l)
        ∙ ap (from_last (λ k. counted k p)) (before_same (row_in xs) (row_at rows) n at j h)

    -- In the slice, the rows that lead to row j have their counts.
    leads-count : (p : ℕ) → p < P → (a : ℕ) →
        joined_to (λ k. crosses (row_in xs) k j) (λ k. cell_in P (filled_to j) k p) a j
        ≡ joined_to (λ k. crosses (row_at rows) k j) (λ k. counted k p) a j
    leads-count p l a =
        joined_same (λ k. crosses (row_in xs) k j) (λ k. crosses (row_at rows) k j)
        j (λ k q. crosses-same (row_in xs) (row_at rows) n at k j (omega arith) h) (cells p l) refl

    -- Row j is filled with its counts.
    filled-count : (p : ℕ) → p < P → filled_row P xs (filled_to j) j p ≡ counted j p
    unfolding filled_row clock
    filled-count p l =
        let in_rows : j < length rows = omega (arith, length-rows n xs) in
        (λ i. leads-count p l (start-count p l i) i + cond (eqb (at j h i).process p) 1 0) ∙ sym (vector_clock rows p j in_rows)

    module _ (room : j * P + P ≤ L) where
      -- The slice with row j put there is filled one row further.
      pub row-filled : with_counts P (filled_to j) j (filled_row P xs (filled_to j) j) ≡ filled_to (suc j)
      unfolding blocks
      row-filled =
          let b = rows_of P counted j in
          let z : List ℕ = replicate (L - j * P) 0 in
          let m : length b ≡ j * P = length-rows_of P counted j in
          let rest : L - j * P ≡ P + (L - suc j * P) = omega (arith, suc-mul j P) in
          let split : z ≡ replicate P 0 ++ replicate (L - suc j * P) 0 = ap (λ (k : ℕ). replicate k 0) rest ∙ sym (replicate-append-replicate P (L - suc j * P) 0) in
          let front : take (j * P) (filled_to j) ≡ b = take_at b z (j * P) m in
          let behind : drop (j * P + P) (filled_to j) ≡ replicate (L - suc j * P) 0 =
          ap (λ (k : ℕ). drop (k + P) (b ++ z)) (sym m) ∙ drop-append-add b z P ∙ ap (drop P) split
          ∙ drop_at (replicate P 0) (replicate (L - suc j * P) 0) P (length-replicate P 0) in
          (λ i. front i ++ (values_same P filled-count i ++ behind i)) ∙ sym (append_assoc b (values P (counted j)) (replicate (L - suc j * P) 0))

      -- Row j's counts are 0 before row j is filled.
      pub row-empty : (p : ℕ) → p < P → cell_in P (filled_to j) j p ≡ 0
      row-empty p l = cell-zero P counted j (L - j * P) p

      -- The counts of the rows before row j are at most the largest row limit.
      pub cells-small : n ≤ ROWS → (k p : ℕ) → k < j → p < P → cell_in P (filled_to j) k p ≤ ROWS
      cells-small few k p q l = omega (arith, cells p l k q, count_most rows p k, length-rows n xs)

  -- A slice of zeros has no row filled.
  pub none_filled : replicate L 0 ≡ filled_to 0
  unfolding blocks
  none_filled = let e : L ≡ L - 0 * P = omega (arith, zero-mul P) in ap (λ (k : ℕ). replicate k 0) e

  -- A slice with n rows filled has the counts of all rows.
  pub all-filled : filled_to n ≡ counts_of P (rows_in n xs) ++ replicate (L - n * P) 0
  unfolding counts_of
  all-filled = ap (λ (k : ℕ). rows_of P counted k ++ replicate (L - n * P) 0) (sym (length-rows n xs))
