-- Rows as the numbers of a slice: their conflicts and the last refresh.
use Rattle.std.proofs.Common.{ℕ, suc, ◌+◌, ◌*◌, ◌-◌, ◌≤◌, ◌<◌, arith, ◌≡◌, refl, sym, ap, ◌∙◌, Bool, true, false, cond, not, ◌&&◌, ◌||◌, List, get_or-drop, eq-eqb, ne_eqb}
use native.Mathlib.Decide.{ℕ_discrete}
use mathlib.Core.Bool.{and-true, and-false, and_comm}
use lib.ListN.{get_or}
use lib.Dec.{eqb}
use Rattle.rows.specs.Kinds.{READ, WRITE}
use Rattle.models.specs.Table.{refreshes}
use Rattle.rows.specs.declared.row.Row.{Row}
use Rattle.rows.specs.Rows.{row_here, rows_in, row_at, row_in}
use Rattle.rows.proofs.Slices.{row-in}
pub use Rattle.happens_before.proofs.Joins.{process-in}
use Rattle.ranges.specs.Ranges.{YES, NO, overlaps, overlap_of}
use Rattle.races_meaning.specs.Races.{is_write, is_data, same_file, conflict, share_byte}
use Rattle.happens_before.specs.Order.{same_process}
use Rattle.races.specs.Given.{may_conflict}
use Rattle.races_meaning.specs.Search.{is_refresh, refresh_at}
use Rattle.rows.specs.Counting.{last_below}

-- ---- The numbers of a row

module _ (xs : List ℕ) (k : ℕ) where
  -- The kind of row k is its second number.
  pub kind-in : (row_in xs k).kind ≡ get_or xs (k * 6 + 1) 0
  unfolding row_here
  kind-in = get_or-drop (k * 6) xs 1 0

  -- The file of row k is its third number.
  pub file-in : (row_in xs k).file ≡ get_or xs (k * 6 + 2) 0
  unfolding row_here
  file-in = get_or-drop (k * 6) xs 2 0

  -- The offset of row k is its fourth number.
  pub offset_in : (row_in xs k).offset ≡ get_or xs (k * 6 + 3) 0
  unfolding row_here
  offset_in = get_or-drop (k * 6) xs 3 0

  -- The length of row k is its fifth number.
  pub length-in : (row_in xs k).length ≡ get_or xs (k * 6 + 4) 0
  unfolding row_here
  length-in = get_or-drop (k * 6) xs 4 0

-- ---- Conflicts

-- A kind is that of a data row.
abbrev of_data : ℕ → Bool
of_data k = eqb k READ || eqb k WRITE

-- A kind past WRITE is not that of a data row.
no_data : {k : ℕ} → WRITE < k → of_data k ≡ false
no_data {k} h = rw (ne_eqb k READ (λ e. omega arith), ne_eqb k WRITE (λ e. omega arith))

-- A kind up to WRITE is that of a data row.
some-data : {k : ℕ} → k ≤ WRITE → of_data k ≡ true
some-data {k} h = go (ℕ_discrete k READ)
  where
    go : Dec (k ≡ READ) → of_data k ≡ true
    go (yes e) = rw (eq-eqb k READ e)
    go (no n) = let e : k ≡ WRITE = omega arith in rw (ne_eqb k READ n, eq-eqb k WRITE e)

-- Rows of kinds k and l, files f and g and processes p and q conflict if they share a byte.
abbrev told : ℕ → ℕ → ℕ → ℕ → ℕ → ℕ → Bool
told k l f g p q = of_data k && (of_data l && (eqb f g && (not (eqb p q) && (eqb k WRITE || eqb l WRITE))))

-- Two rows conflict where they pass all other tests of a conflict and share a byte.
pub conflict-split : (r s : Row) → conflict r s ≡ (may_conflict r s && share_byte r s)
unfolding conflict
conflict-split r s = go (is_data r) (is_data s) (same_file r s) (share_byte r s) (not (same_process r s) && (is_write r || is_write s))
  where
    go : (u v w b z : Bool) → (u && (v && (w && (b && z)))) ≡ ((u && (v && (w && z))) && b)
    go true true true b z = and_comm b z
    go true true false b z = refl
    go true false w b z = refl
    go false v w b z = refl

module _ (xs : List ℕ) (x y : ℕ) where
  -- The kinds, files and processes of rows x and y.
  abbrev k : ℕ
  k = get_or xs (x * 6 + 1) 0

  abbrev l : ℕ
  l = get_or xs (y * 6 + 1) 0

  abbrev f : ℕ
  f = get_or xs (x * 6 + 2) 0

  abbrev g : ℕ
  g = get_or xs (y * 6 + 2) 0

  abbrev p : ℕ
  p = get_or xs (x * 6) 0

  abbrev q : ℕ
  q = get_or xs (y * 6) 0

  -- Rows x and y conflict if they share a byte, where their numbers say so.
  cells : may_conflict (row_in xs x) (row_in xs y) ≡ told k l f g p q
  cells i = told (kind-in xs x i) (kind-in xs y i) (file-in xs x i) (file-in xs y i) (process-in xs x i) (process-in xs y i)

  -- Rows do not conflict where the first is no data row.
  pub no_first : WRITE < k → false ≡ may_conflict (row_in xs x) (row_in xs y)
  no_first h = sym (cells ∙ rw (no_data h))

  -- Rows do not conflict where the second is no data row.
  pub no_second : WRITE < l → false ≡ may_conflict (row_in xs x) (row_in xs y)
  no_second h = sym (cells ∙ rw (no_data h) (and-false (of_data k)))

  -- Two reads do not conflict.
  pub no_write : k + l < WRITE → false ≡ may_conflict (row_in xs x) (row_in xs y)
  no_write h = sym (cells ∙ simp (ne_eqb k WRITE (λ e. omega (arith, h, e)), ne_eqb l WRITE (λ e. omega (arith, h, e)), and-false))

  -- Rows of one process do not conflict.
  pub no_process : p ≡ q → false ≡ may_conflict (row_in xs x) (row_in xs y)
  no_process e = sym (cells ∙ simp (eq-eqb p q e, and-false))

  -- Of data rows of two processes, one of them a write, the files decide.
  pub by_file : k ≤ WRITE → l ≤ WRITE → WRITE ≤ k + l → (p ≡ q → ⊥) → eqb f g ≡ may_conflict (row_in xs x) (row_in xs y)
  by_file a b w n = sym (cells ∙ rw (some-data a, some-data b, ne_eqb p q n, one_writes (ℕ_discrete k WRITE)) (and-true (eqb f g)))
    where
      one_writes : Dec (k ≡ WRITE) → (eqb k WRITE || eqb l WRITE) ≡ true
      one_writes (yes e) = rw (eq-eqb k WRITE e)
      one_writes (no m) = rw (ne_eqb k WRITE m) (eq-eqb l WRITE (omega (arith, a, b, w, m)))

  -- The answer of the test for a shared byte.
  pub by_overlap : {r : ℕ} →
      r ≡ overlap_of (get_or xs (x * 6 + 3) 0) (get_or xs (x * 6 + 4) 0) (get_or xs (y * 6 + 3) 0) (get_or xs (y * 6 + 4) 0) →
      eqb r YES ≡ share_byte (row_in xs x) (row_in xs y)
  unfolding overlap_of share_byte
  by_overlap e =
      ap (λ (t : ℕ). eqb t YES) e ∙ says (overlaps (get_or xs (x * 6 + 3) 0) (get_or xs (x * 6 + 4) 0) (get_or xs (y * 6 + 3) 0) (get_or xs (y * 6 + 4) 0))
      ∙ sym (λ i. overlaps (offset_in xs x i) (length-in xs x i) (offset_in xs y i) (length-in xs y i))
    where
      says : (t : Bool) → eqb (cond t YES NO) YES ≡ t
      says true = refl
      says false = refl

-- ---- The last refresh

module _ (xs : List ℕ) (n model y : ℕ) where
  -- Row k refreshes for row y.
  abbrev pub refreshing : ℕ → Bool
  refreshing k = is_refresh (rows_in n xs) model (row_at (rows_in n xs) y) k

  -- Row k refreshes for row y where their numbers say so.
  pub refresh_cells : (k : ℕ) → y < n → k < n →
      refreshing k
      ≡ (refreshes model (get_or xs (k * 6 + 1) 0) && (eqb (get_or xs (y * 6 + 2) 0) (get_or xs (k * 6 + 2) 0) && eqb (get_or xs (y * 6) 0) (get_or xs (k * 6) 0)))
  refresh_cells k h l =
      rw (row-in n y xs h, row-in n k xs l, kind-in xs k, file-in xs k, file-in xs y, process-in xs k, process-in xs y)

  module _ (k : ℕ) (h : y < n) (l : k < n) where
    -- A row of another process does not refresh for row y.
    pub of_process : (get_or xs (k * 6) 0 ≡ get_or xs (y * 6) 0 → ⊥) → false ≡ refreshing k
    of_process e =
        sym (refresh_cells k h l ∙ simp (ne_eqb (get_or xs (y * 6) 0) (get_or xs (k * 6) 0) (λ q. e (sym q)), and-false))

    -- Nor does a row of another file.
    pub of_file : (get_or xs (y * 6 + 2) 0 ≡ get_or xs (k * 6 + 2) 0 → ⊥) → false ≡ refreshing k
    of_file e = sym (refresh_cells k h l ∙ simp (ne_eqb (get_or xs (y * 6 + 2) 0) (get_or xs (k * 6 + 2) 0) e, and-false))

    -- Of a row of the same process and file, the kind decides.
    pub by_kind : get_or xs (k * 6) 0 ≡ get_or xs (y * 6) 0 → get_or xs (y * 6 + 2) 0 ≡ get_or xs (k * 6 + 2) 0 →
        refreshes model (get_or xs (k * 6 + 1) 0) ≡ refreshing k
    by_kind e f =
        sym (refresh_cells k h l
        ∙ rw (eq-eqb (get_or xs (y * 6 + 2) 0) (get_or xs (k * 6 + 2) 0) f, eq-eqb (get_or xs (y * 6) 0) (get_or xs (k * 6) 0) (sym e))
        (and-true (refreshes model (get_or xs (k * 6 + 1) 0))))

  -- Where a read refreshes, row y itself is the refresh.
  pub refresh_own : refreshes model READ ≡ true → suc y ≡ refresh_at (rows_in n xs) model y
  unfolding refresh_at
  refresh_own e = rw e

  -- Where a read does not refresh, the last earlier row that does is the refresh.
  pub refresh_earlier : refreshes model READ ≡ false → refresh_at (rows_in n xs) model y ≡ last_below y refreshing
  unfolding refresh_at
  refresh_earlier e = rw e

module _ (test : ℕ → Bool) (n i : ℕ) (decides : last_below n test ≡ last_below i test) where
  -- Where no number is left, none passes.
  pub last_none : i ≤ 0 → last_below n test ≡ 0
  unfolding last_below
  last_none h = let e : i ≡ 0 = omega arith in decides ∙ ap (λ (k : ℕ). last_below k test) e

  module _ (h : 0 < i) where
    -- The number i is one more than i - 1.
    split-last : i ≡ suc (i - 1)
    split-last = omega arith

    -- Where i - 1 passes, it is the last that passes.
    pub last-here : test (i - 1) ≡ true → last_below n test ≡ suc (i - 1)
    unfolding last_below
    last-here passes = decides ∙ ap (λ (k : ℕ). last_below k test) split-last ∙ rw passes

    -- Where i - 1 does not pass, the numbers below i - 1 decide.
    pub last-before : test (i - 1) ≡ false → last_below n test ≡ last_below (i - 1) test
    unfolding last_below
    last-before fails = decides ∙ ap (λ (k : ℕ). last_below k test) split-last ∙ rw fails
