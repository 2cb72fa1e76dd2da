-- Rows in a slice of six numbers each.
use Rattle.std.proofs.Common.{ℕ, zero, suc, ◌+◌, ◌-◌, ◌*◌, ◌/◌, ◌≤◌, ◌<◌, add-one, arith, ◌≡◌, refl, sym, ap, ◌∙◌, List, [], ◌∷◌, ◌++◌, append_assoc, append-nil, length, take, drop, length-drop, take-add, take_at, drop-drop, le-leb}
use native.Mathlib.Numerals.{add-two, add-three, add-four, add_five}
use lib.ListN.{set}
use lib.Seq.{drop-append-add, sets-eq}
use borrow.Author.Tests.{lt-leb}
use Rattle.rows.specs.declared.row.Row.{Row}
use Rattle.rows.specs.Limits.{FIELDS}
use Rattle.rows.specs.Rows.{row_at, six, numbers, row_here, rows_in, row_in, with_row}

-- Each row has six numbers.
pub length-numbers : (rows : List Row) → length (numbers rows) ≡ 6 * length rows
unfolding numbers six
length-numbers [] = refl
length-numbers (r ∷ rs) = omega (arith, length-numbers rs)

-- The numbers of two lists of rows stand one after the other.
pub numbers-append : (rows more : List Row) → numbers (rows ++ more) ≡ numbers rows ++ numbers more
unfolding numbers six
numbers-append [] more = refl
numbers-append (r ∷ rs) more = ap (λ (l : List ℕ). six r ++ l) (numbers-append rs more)

-- Rows that were written are read back, whatever stands behind them.
pub rows_back : (rows : List Row) (behind : List ℕ) → rows_in (length rows) (numbers rows ++ behind) ≡ rows
unfolding rows_in row_here numbers six
rows_back [] behind = refl
rows_back (r ∷ rs) behind = ap {B = List Row} (λ l. r ∷ l) (rows_back rs behind)

-- The row at the front has the first six numbers.
six-back : (xs : List ℕ) → 6 ≤ length xs → six (row_here xs) ≡ take 6 xs
unfolding six row_here
six-back [] h = absurd (omega arith)
six-back (a ∷ []) h = absurd (omega arith)
six-back (a ∷ b ∷ []) h = absurd (omega arith)
six-back (a ∷ b ∷ c ∷ []) h = absurd (omega arith)
six-back (a ∷ b ∷ c ∷ d ∷ []) h = absurd (omega arith)
six-back (a ∷ b ∷ c ∷ d ∷ e ∷ []) h = absurd (omega arith)
six-back (a ∷ b ∷ c ∷ d ∷ e ∷ f ∷ xs) h = refl

-- Rows that were read have the numbers of the slice's front.
pub numbers-back : (n : ℕ) (xs : List ℕ) → 6 * n ≤ length xs → numbers (rows_in n xs) ≡ take (6 * n) xs
unfolding rows_in numbers
numbers-back zero xs h = refl
numbers-back (suc n) xs h =
    let all : 6 + 6 * n ≡ 6 * suc n = omega arith in
    let here : 6 ≤ length xs = omega arith in
    let rest : 6 * n ≤ length (drop 6 xs) = simp length-drop (omega arith) in
    (λ i. six-back xs here i ++ numbers-back n (drop 6 xs) rest i) ∙ sym (take-add 6 (6 * n) xs) ∙ ap (λ (k : ℕ). take k xs) all

-- The first n rows are n.
pub length-rows : (n : ℕ) (xs : List ℕ) → length (rows_in n xs) ≡ n
unfolding rows_in
length-rows zero xs = refl
length-rows (suc n) xs = ap suc (length-rows n (drop 6 xs))

-- The first of some first rows, and the others.
pub first-apart : (n : ℕ) (xs : List ℕ) → 0 < n → rows_in n xs ≡ row_here xs ∷ rows_in (n - 1) (drop FIELDS xs)
unfolding rows_in
first-apart zero xs h = absurd (omega arith)
first-apart (suc n) xs h = ap (λ (m : ℕ). row_here xs ∷ rows_in m (drop FIELDS xs)) (omega arith)

-- The first rows of a slice, and those behind them.
pub rows-add : (i k : ℕ) (xs : List ℕ) → rows_in (i + k) xs ≡ rows_in i xs ++ rows_in k (drop (i * FIELDS) xs)
unfolding rows_in
rows-add zero k xs = let z : 0 + k ≡ k = omega arith in ap (λ (m : ℕ). rows_in m xs) z
rows-add (suc i) k xs =
    let z : suc i + k ≡ suc (i + k) = omega arith in
    let e : FIELDS + i * FIELDS ≡ suc i * FIELDS = omega arith in
    ap (λ (m : ℕ). rows_in m xs) z
    ∙ ap (λ (l : List Row). row_here xs ∷ l)
    (rows-add i k (drop FIELDS xs)
    ∙ ap (λ (l : List ℕ). rows_in i (drop FIELDS xs) ++ rows_in k l) (drop-drop (i * FIELDS) FIELDS xs ∙ ap (λ (m : ℕ). drop m xs) e))

-- One row more.
pub row_next : (i : ℕ) (xs : List ℕ) → rows_in (i + 1) xs ≡ rows_in i xs ++ (row_in xs i ∷ [])
unfolding rows_in
row_next i xs = rows-add i 1 xs

-- The row at index k of the first n rows is the one that the slice has at k.
pub row-in : (n k : ℕ) (xs : List ℕ) → k < n → row_at (rows_in n xs) k ≡ row_in xs k
unfolding rows_in
row-in zero k xs h = absurd (omega arith)
row-in (suc n) zero xs h = refl
row-in (suc n) (suc k) xs h =
    let l : k < n = omega arith in
    let e : 6 + k * 6 ≡ suc k * 6 = omega arith in
    row-in n k (drop 6 xs) l ∙ ap row_here (drop-drop (k * 6) 6 xs ∙ ap (λ (m : ℕ). drop m xs) e)

-- Six stores lay a row down.
pub laid : (l : List ℕ) (at : ℕ) (r : Row) → at + 6 ≤ length l →
    set (set (set (set (set (set l at r.process) (at + 1) r.kind) (at + 2) r.file) (at + 3) r.offset) (at + 4) r.length) (at + 5) r.message
    ≡ take at l ++ (six r ++ drop (at + 6) l)
unfolding six
laid l at r h =
    rw (add-one, add-two, add-three, add-four, add_five) (sets-eq (six r) l at h ∙ append_assoc (take at l) (six r) (drop (at + 6) l))

module _ (k : ℕ) (r : Row) (xs : List ℕ) where
  -- A slice without room for the row stays as it is.
  pub put-none : length xs / 6 ≤ k → xs ≡ with_row k r xs
  unfolding with_row
  put-none h = rw (lt-leb (k * 6 + 6) (length xs) (omega arith))

  -- Six stores put the row.
  pub put_some : k < length xs / 6 →
      set (set (set (set (set (set xs (k * 6) r.process) (k * 6 + 1) r.kind) (k * 6 + 2) r.file) (k * 6 + 3) r.offset) (k * 6 + 4) r.length) (k * 6 + 5) r.message
      ≡ with_row k r xs
  unfolding with_row
  put_some h = rw (le-leb (k * 6 + 6) (length xs) (omega arith)) (laid xs (k * 6) r (omega arith))

  -- Where there is room, the row stands in its place and the other numbers stay.
  pub with_room : k * 6 + 6 ≤ length xs → with_row k r xs ≡ take (k * 6) xs ++ (six r ++ drop (k * 6 + 6) xs)
  unfolding with_row
  with_room h = rw (le-leb (k * 6 + 6) (length xs) h)

-- A slice that holds some numbers at its front holds one block more once the block, of w numbers, is put behind them; the rest stays.
pub block_next : (front block : List ℕ) (w : ℕ) {at : ℕ} {xs ys : List ℕ} (xs₀ : List ℕ) → length front ≡ at → xs ≡ front ++ drop at xs₀ →
    ys ≡ take at xs ++ (block ++ drop (at + w) xs) → ys ≡ (front ++ block) ++ drop (at + w) xs₀
block_next front block w {at} {xs} xs₀ size held e =
    let q = drop at xs₀ in
    let here : take at xs ≡ front = ap (take at) held ∙ take_at front q at size in
    let more : at + w ≡ length front + w = ap (λ (k : ℕ). k + w) (sym size) in
    let behind : drop (at + w) xs ≡ drop (at + w) xs₀ = (λ i. drop (more i) (held i)) ∙ drop-append-add front q w ∙ drop-drop w at xs₀ in
    e ∙ (λ i. here i ++ (block ++ behind i)) ∙ sym (append_assoc front block (drop (at + w) xs₀))

-- A slice that holds the numbers of n rows at its front holds those of one row more once the row is put behind them; the rest stays.
pub numbers-next : (rows : List Row) (row : Row) {n : ℕ} {xs ys : List ℕ} (xs₀ : List ℕ) → n ≡ length rows → xs ≡ numbers rows ++ drop (6 * n) xs₀ →
    ys ≡ take (n * 6) xs ++ (six row ++ drop (n * 6 + 6) xs) → ys ≡ numbers (rows ++ (row ∷ [])) ++ drop (6 * (n + 1)) xs₀
unfolding numbers
numbers-next rows row {n} xs₀ many held e =
    let p = numbers rows in
    let size : length p ≡ n * 6 = length-numbers rows ∙ omega arith in
    let same : 6 * n ≡ n * 6 = omega arith in
    let on : n * 6 + 6 ≡ 6 * (n + 1) = omega arith in
    let all : p ++ six row ≡ numbers (rows ++ (row ∷ [])) =
    ap (λ (l : List ℕ). p ++ l) (sym (append-nil (six row))) ∙ sym (numbers-append rows (row ∷ [])) in
    block_next p (six row) 6 xs₀ size (held ∙ ap (λ (k : ℕ). p ++ drop k xs₀) same) e ∙ (λ i. all i ++ drop (on i) xs₀)
