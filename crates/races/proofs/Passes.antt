-- The two passes that look for a row that races with y: what they read, and what they know after each turn.
use Rattle.std.proofs.Common.{Option, None, Some, ℕ, zero, suc, ◌+◌, ◌*◌, ◌-◌, ◌≤◌, ◌<◌, add-zero, add-one, arith, ◌≡◌, refl, sym, ap, ap₂, ◌∙◌, ◌⊎◌, inl, inr, Bool, true, false, cond, ◌&&◌, List, [], ◌∷◌, append-nil, length, drop, replicate, length-set, length-append, get_or-drop, eq-eqb, ne_eqb, lt-ltb}
use mathlib.Core.Bool.{false≢true, and-true, and-false}
use lib.ListN.{get_or, set, length-replicate}
use lib.Dec.{leb, ltb, eqb}
use Rattle.rows.specs.Kinds.{READ, WRITE}
use Rattle.rows.specs.Limits.{PROCESSES, MODELS, ROWS}
use Rattle.models.specs.Table.{publishes, refreshes}
use Rattle.models.proofs.Entries.{own-refresh, no_data_publishes}
use Rattle.rows.specs.declared.row.Row.{Row}
use Rattle.rows.specs.Rows.{rows_in, row_here, row_at, row_in}
use Rattle.happens_before.specs.Order.{count, counts_of}
use Rattle.happens_before.specs.Clock.{cell_in}
use Rattle.rows.proofs.Products.{block_before}
use Rattle.happens_before.proofs.Filling.{rows_of, length-rows_of, cell-done}
use Rattle.rows.proofs.Slices.{length-rows, row-in}
use Rattle.races_meaning.specs.Races.{is_data, share_byte, conflict, race}
use Rattle.rows.specs.Counting.{last_below, LastBy}
use Rattle.races_meaning.specs.Search.{is_refresh, refresh_at}
use Rattle.races_meaning.specs.Scan.{noted, last_noted, is_in_order, seen}
use Rattle.races_meaning.specs.Lists.{RowPair, pairs_with, pairs_below, race_pairs}
use Rattle.races_meaning.proofs.Lists.{none-with, few-with, pair_of}
use Rattle.races_meaning.proofs.Scans.{race_seen}
use Rattle.std.specs.Option.{is_some}
use Rattle.races.specs.Given.{Given, Noted, may_conflict, told_row}
use Rattle.races.specs.Listing.{with_pair, with_pairs}
use Rattle.races.proofs.Putting.{put-append, put_last_lem}
use Rattle.rows.proofs.Below.{last-most}
use Rattle.rows.proofs.Lasts.{lasts_none, lasts-kept, lasts-noted}
use Rattle.races.proofs.Cells.{conflict-split, refresh_own}

-- ---- What is read

module _ {n P model : ℕ} {xs counts : List ℕ} (g : Given n P model xs counts) where
  abbrev rows : List Row
  rows = rows_in n xs

  -- The process of row k is its first number.
  pub process-at : {k : ℕ} → k < n → (row_at rows k).process ≡ get_or xs (k * 6) 0
  unfolding row_here
  process-at {k} h =
      ap (λ (r : Row). r.process) (row-in n k xs h) ∙ get_or-drop (k * 6) xs 0 0 ∙ ap (λ (i : ℕ). get_or xs i 0) (add-zero (k * 6))

  pub kind_at : {k : ℕ} → k < n → (row_at rows k).kind ≡ get_or xs (k * 6 + 1) 0
  unfolding row_here
  kind_at {k} h = ap (λ (r : Row). r.kind) (row-in n k xs h) ∙ get_or-drop (k * 6) xs 1 0

  pub file-at : {k : ℕ} → k < n → (row_at rows k).file ≡ get_or xs (k * 6 + 2) 0
  unfolding row_here
  file-at {k} h = ap (λ (r : Row). r.file) (row-in n k xs h) ∙ get_or-drop (k * 6) xs 2 0

  -- A row's process is below the limit.
  pub process-low : {k : ℕ} → k < n → get_or xs (k * 6) 0 < P
  process-low {k} h = rw (sym (ap (λ (r : Row). r.process) (row-in n k xs h)) ∙ process-at h) at (g.below k h)

  -- A row's counts are within the slice.
  pub room : {k : ℕ} → k < n → k * P + P ≤ length counts
  unfolding counts_of
  room {k} h =
      let f : ℕ → ℕ → ℕ = λ k p. count rows p k in
      omega (
        arith,
        block_before P h,
        ap length g.counted,
        length-append (rows_of P f (length rows)) (drop (n * P) counts),
        length-rows_of P f (length rows),
        ap (λ (m : ℕ). m * P) (length-rows n xs),
      )

  -- The slice holds the counts of row k.
  pub cell : {k p : ℕ} → k < n → p < P → cell_in P counts k p ≡ count rows p k
  unfolding counts_of
  cell {k} {p} h l =
      ap (λ (x : List ℕ). cell_in P x k p) g.counted
      ∙ cell-done P (λ k p. count rows p k) (length rows) k p (drop (n * P) counts) (omega (arith, length-rows n xs)) l

  -- A comparison of counts in the slice is one of the rows' counts.
  pub compared : {k i j : ℕ} {b : Bool} → k < n → i < n → j < n →
      b ≡ leb (cell_in P counts i (get_or xs (k * 6) 0)) (cell_in P counts j (get_or xs (k * 6) 0)) →
      b ≡ leb (count rows (row_at rows k).process i) (count rows (row_at rows k).process j)
  compared {k} {i} {j} h a b e = e ∙ ap₂ leb (cell a (process-low h)) (cell b (process-low h)) ∙ rw (process-at h)

  -- Rows of the slice conflict where the rows of the trace do.
  pub conflict-in : {x y : ℕ} → x < n → y < n → conflict (row_in xs x) (row_in xs y) ≡ conflict (row_at rows x) (row_at rows y)
  conflict-in {x} {y} h l = sym (ap₂ conflict (row-in n x xs h) (row-in n y xs l))

  -- ---- A row that is noted

  module _ {y c : ℕ} (o : ℕ) (hy : y < n) (hc : c < n) where
    -- A data row is not noted where a write does not publish.
    pub no-data-noted : get_or xs (c * 6 + 1) 0 ≤ WRITE → publishes model WRITE ≡ false → false ≡ noted rows model y o c
    no-data-noted h q = rw (kind_at hc, no_data_publishes model (get_or xs (c * 6 + 1) 0) q h)

    -- A row that does not publish is not noted.
    pub no-publish : {b : Bool} → b ≡ publishes model (get_or xs (c * 6 + 1) 0) → b ≡ false → false ≡ noted rows model y o c
    no-publish e q = rw (kind_at hc, sym e ∙ q)

    -- A row of another file is not noted.
    pub other-file : (get_or xs (y * 6 + 2) 0 ≡ get_or xs (c * 6 + 2) 0 → ⊥) → false ≡ noted rows model y o c
    other-file f =
        sym (rw (file-at hy, file-at hc, ne_eqb (get_or xs (y * 6 + 2) 0) (get_or xs (c * 6 + 2) 0) f) (and-false (publishes model (row_at rows c).kind)))

    module _ {b : Bool} (e : b ≡ publishes model (get_or xs (c * 6 + 1) 0)) (q : b ≡ true) where
      -- Of a row that publishes the file, the counts decide.
      pub by-counts : {r : Bool} → get_or xs (y * 6 + 2) 0 ≡ get_or xs (c * 6 + 2) 0 →
          r ≡ leb (count rows (row_at rows c).process c) (count rows (row_at rows c).process o) → r ≡ noted rows model y o c
      by-counts f t = t ∙ sym (rw (kind_at hc, sym e ∙ q, file-at hy, file-at hc, eq-eqb (get_or xs (y * 6 + 2) 0) (get_or xs (c * 6 + 2) 0) f))

  -- ---- A row that is in order

  module _ {x : ℕ} (y : ℕ) (hx : x < n) where
    -- A row that is no write is in order by the counts.
    pub order-read : {b : Bool} → (get_or xs (x * 6 + 1) 0 ≡ WRITE → ⊥) →
        b ≡ leb (count rows (row_at rows x).process x) (count rows (row_at rows x).process y) → b ≡ is_in_order rows model x y
    unfolding is_in_order
    order-read f t = t ∙ sym (rw (kind_at hx, ne_eqb (get_or xs (x * 6 + 1) 0) WRITE f))

    -- A write that publishes is in order by the counts, since row y is then the refresh.
    pub order-own : {b r : Bool} → get_or xs (x * 6 + 1) 0 ≡ WRITE → b ≡ publishes model WRITE → b ≡ true →
        r ≡ leb (count rows (row_at rows x).process x) (count rows (row_at rows x).process y) → r ≡ is_in_order rows model x y
    unfolding is_in_order
    order-own w d q t =
        let e : refresh_at rows model y ≡ suc y = sym (refresh_own xs n model y (own-refresh model (sym d ∙ q))) in
        let m : suc y - 1 ≡ y = omega arith in
        t ∙ sym (rw (kind_at hx, eq-eqb (get_or xs (x * 6 + 1) 0) WRITE w, e, lt-ltb 0 (suc y) (omega arith), m, sym d ∙ q))

    module _ {refresh : ℕ} (w : get_or xs (x * 6 + 1) 0 ≡ WRITE) (e : refresh ≡ refresh_at rows model y) where
      -- A write with no refresh is not in order.
      pub order-none : refresh ≡ 0 → false ≡ is_in_order rows model x y
      unfolding is_in_order
      order-none z = sym (rw (kind_at hx, eq-eqb (get_or xs (x * 6 + 1) 0) WRITE w, sym e ∙ z))

      -- A write that does not publish is in order where a noted row follows.
      pub order-noted : {b : Bool} {last : ℕ} → 0 < refresh → b ≡ publishes model WRITE → b ≡ false →
          last ≡ last_noted rows model y (refresh - 1) (row_at rows x).process y → ltb (x + 1) last ≡ is_in_order rows model x y
      unfolding is_in_order
      order-noted l d q t =
          let one : x + 1 ≡ suc x = omega arith in
          (λ i. ltb (one i) (t i)) ∙ sym (rw (kind_at hx, eq-eqb (get_or xs (x * 6 + 1) 0) WRITE w, sym e, lt-ltb 0 refresh l, sym d ∙ q))

-- ---- The refresh

-- The refresh is y or stands before y.
pub refresh_most : (rows : List Row) (model y : ℕ) → refresh_at rows model y ≤ suc y
unfolding refresh_at
refresh_most rows model y = go (refreshes model READ) (last-most y (is_refresh rows model (row_at rows y)))
  where
    go : (b : Bool) → last_below y (is_refresh rows model (row_at rows y)) ≤ y →
        cond b (suc y) (last_below y (is_refresh rows model (row_at rows y))) ≤ suc y
    go true h = omega arith
    go false h = omega arith

-- A row that is there is told by a number past 0.
pub some_row : (r : Option ℕ) → is_some r ≡ true → 0 < told_row r
some_row None e = absurd (false≢true e)
some_row (Some k) e = omega arith

-- Where there is no row, 0 is told.
pub none_row : (r : Option ℕ) → is_some r ≡ false → told_row r ≡ 0
none_row None e = refl
none_row (Some k) e = absurd (false≢true (sym e))

-- The index of a row is one less than what is told.
pub row_told : {r : Option ℕ} {k : ℕ} → r ≡ Some k → told_row r - 1 ≡ k
row_told {r} {k} e = rw e (omega arith)

-- The row that refreshes for row y is one of the rows.
pub refresh_low : (rows : List Row) (model : ℕ) {y n k : ℕ} {r : Option ℕ} → told_row r ≡ refresh_at rows model y → y < n → r ≡ Some k → k < n
refresh_low rows model {y} {n} {k} {r} t h e = let told : suc k ≡ refresh_at rows model y = rw e at t in omega (arith, told, refresh_most rows model y)

-- ---- The pass that notes

-- Row c is of process p, and noted for row y with its refresh at row o.
abbrev noted_of : List Row → ℕ → ℕ → ℕ → ℕ → ℕ → Bool
noted_of rows model y o p c = eqb (row_at rows c).process p && noted rows model y o c

-- Where a write does not publish, the slice `last` holds, for each process, its last noted row below c.
pub record Noting (rows : List Row) (model y refresh : ℕ) (last : List ℕ) (c : ℕ) : Type 0 where
  pub low : c ≤ y
  pub refreshed : refresh ≡ refresh_at rows model y
  pub many : length last ≡ PROCESSES
  pub held : 0 < refresh → publishes model WRITE ≡ false → LastBy (noted_of rows model y (refresh - 1)) PROCESSES last c

-- Before the first row, no process has a noted row.
pub noting_start : (rows : List Row) (model y : ℕ) {refresh : ℕ} → refresh ≡ refresh_at rows model y →
    Noting rows model y refresh (replicate PROCESSES 0) 0
unfolding last_noted last_below
noting_start rows model y e =
    record { low = omega arith; refreshed = e; many = length-replicate {A = ℕ} PROCESSES 0; held = λ l q. lasts_none (noted_of rows model y (_ - 1)) PROCESSES }

module _ {rows : List Row} {model y refresh : ℕ} {last : List ℕ} {c : ℕ} (k : Noting rows model y refresh last c) where
  -- Row c is stored for its process, or is not noted.
  pub noting_next : {after : List ℕ} {b : Bool} {q : ℕ} → c < y → q < PROCESSES → (row_at rows c).process ≡ q →
      (0 < refresh → publishes model WRITE ≡ false → b ≡ noted rows model y (refresh - 1) c) →
      ((b ≡ true) × (after ≡ set last q (c + 1))) ⊎ ((b ≡ false) × (after ≡ last)) → Noting rows model y refresh after (c + 1)
  noting_next {after} {b} {q} h l e t (inl w) =
      record {
        low = omega arith;
        refreshed = k.refreshed;
        many = ap length w.1 ∙ length-set last q (c + 1) ∙ k.many;
        held = λ r f. rw (w.1, add-one) (lasts-noted (noted_of rows model y (refresh - 1)) PROCESSES (k.held r f) q l
            (λ p. (λ i. eqb (e i) p && (sym (t r f) ∙ w.0) i) ∙ and-true (eqb q p)));
      }
  noting_next {after} {b} {q} h l e t (inr w) =
      record {
        low = omega arith;
        refreshed = k.refreshed;
        many = ap length w.1 ∙ k.many;
        held = λ r f. rw (w.1, add-one) (lasts-kept (noted_of rows model y (refresh - 1)) PROCESSES (k.held r f)
            (λ p. ap (λ (x : Bool). eqb (row_at rows c).process p && x) (sym (t r f) ∙ w.0) ∙ and-false (eqb (row_at rows c).process p)));
      }

  -- After all rows below y, the table holds the last noted row of each process.
  pub noting_done : y ≤ c → Noted rows model y refresh last
  unfolding last_noted
  noting_done h r f p l =
      let d : c ≡ y = omega (arith, k.low) in
      (k.held r f).last_at p l ∙ ap (last_noted rows model y (refresh - 1) p) d

-- ---- The pass over the earlier rows

module _ {n P model x y : ℕ} {xs counts : List ℕ} (k : Given n P model xs counts) (h : x < n) (l : y < n) where
  -- The rows of the trace conflict where those of the slice pass all other tests and share a byte.
  split : conflict (row_at (rows_in n xs) x) (row_at (rows_in n xs) y)
      ≡ (may_conflict (row_in xs x) (row_in xs y) && share_byte (row_in xs x) (row_in xs y))
  split = sym (conflict-in k h l) ∙ conflict-split (row_in xs x) (row_in xs y)

  module _ {b : Bool} (e : b ≡ may_conflict (row_in xs x) (row_in xs y)) where
    -- Rows that do not conflict, whatever their bytes, do not race.
    pub no-race-kind : b ≡ false → false ≡ seen (rows_in n xs) model y x
    no-race-kind q = sym (rw (split, sym e ∙ q))

    module _ {o : Bool} (t : o ≡ is_in_order (rows_in n xs) model x y) where
      -- Rows that conflict if they share a byte, and are not in order, race where they share one.
      pub by_byte : {r : Bool} → b ≡ true → o ≡ false → r ≡ share_byte (row_in xs x) (row_in xs y) → r ≡ seen (rows_in n xs) model y x
      by_byte q u w = w ∙ sym (rw (split, sym e ∙ q, sym t ∙ u) (and-true (share_byte (row_in xs x) (row_in xs y))))

-- A row that is no data row races with none.
pub no_data : (rows : List Row) (model y : ℕ) → WRITE < (row_at rows y).kind → (k : ℕ) → pairs_with rows model y k ≡ []
unfolding race conflict
no_data rows model y h = none-with rows model y none
  where
    none : (x : ℕ) → race rows model x y ≡ false
    none x =
        rw (
          ne_eqb (row_at rows y).kind READ (λ e. omega (arith, h)),
          ne_eqb (row_at rows y).kind WRITE (λ e. omega (arith, h)),
          and-false (is_data (row_at rows x)),
          and-false (ltb y (length rows)),
          and-false (ltb x y),
        )

-- Behind the pairs that were found before, the list holds the races of row y with the rows below x.
pub record Putting (rows : List Row) (model y before : ℕ) (list₀ : List ℕ) (found x : ℕ) (list : List ℕ) : Type 0 where
  pub low : x ≤ y
  pub many : found ≡ before + length (pairs_with rows model y x)
  pub put : list ≡ with_pairs before (pairs_with rows model y x) list₀

-- Before the first row, nothing is put.
pub putting_start : (rows : List Row) (model y before : ℕ) (list : List ℕ) → Putting rows model y before list before 0 list
unfolding pairs_with with_pairs
putting_start rows model y before list = record { low = omega arith; many = omega arith; put = refl }

module _ {rows : List Row} {model y before found x : ℕ} {list₀ list : List ℕ} (k : Putting rows model y before list₀ found x list) where
  -- The pairs so far are at most one for each row below x.
  pub putting_few : found ≤ before + x
  putting_few = omega (arith, k.many, few-with rows model y x)

  -- Row x is put behind the pairs so far where it races, and passed over where it does not.
  pub putting_next : {after : List ℕ} {next : ℕ} {b : Bool} → model < MODELS → x < y → y < length rows → b ≡ seen rows model y x →
      ((b ≡ true) × (after ≡ with_pair found (x + 1) (y + 1) list) × (next ≡ found + 1)) ⊎ ((b ≡ false) × (after ≡ list) × (next ≡ found)) →
      Putting rows model y before list₀ next (x + 1) after
  unfolding pairs_with
  putting_next {after} {next} {b} m h g e w = rw add-one (go w)
    where
      is : race rows model x y ≡ b
      is = race_seen rows model x y m h g ∙ sym e

      old : List RowPair
      old = pairs_with rows model y x

      go : ((b ≡ true) × (after ≡ with_pair found (x + 1) (y + 1) list) × (next ≡ found + 1)) ⊎ ((b ≡ false) × (after ≡ list) × (next ≡ found)) →
          Putting rows model y before list₀ next (suc x) after
      go (inl (t, u, v)) =
          record {
            low = omega arith;
            many = rw (is ∙ t) (omega (arith, v, k.many, length-append old (pair_of x y ∷ [])));
            put =
                rw (is ∙ t)
                (u ∙ (λ i. with_pair (k.many i) (add-one x i) (add-one y i) (k.put i)) ∙ sym (put_last_lem before old (pair_of x y) list₀));
          }
      go (inr (t, u, v)) =
          record {
            low = omega arith;
            many = rw (is ∙ t, append-nil) (v ∙ k.many);
            put = rw (is ∙ t, append-nil) (u ∙ k.put);
          }

-- ---- All later rows

-- The rows below y have at most ROWS races each.
pairs-bound : (rows : List Row) (model y : ℕ) → y ≤ ROWS → length (pairs_below rows model y) ≤ y * ROWS
unfolding pairs_below
pairs-bound rows model zero h = omega arith
pairs-bound rows model (suc y) h =
    omega (
      arith,
      pairs-bound rows model y (omega arith),
      few-with rows model y y,
      length-append (pairs_below rows model y) (pairs_with rows model y y),
    )

-- The list holds the races whose later rows stand below y.
pub record Covering (rows : List Row) (model : ℕ) (list₀ : List ℕ) (found y : ℕ) (list : List ℕ) : Type 0 where
  pub low : y ≤ length rows
  pub many : found ≡ length (pairs_below rows model y)
  pub put : list ≡ with_pairs 0 (pairs_below rows model y) list₀

-- Before the first row, nothing is put.
pub covering_start : (rows : List Row) (model : ℕ) (list : List ℕ) → Covering rows model list 0 0 list
unfolding pairs_below with_pairs
covering_start rows model list = record { low = omega arith; many = refl; put = refl }

module _ {rows : List Row} {model : ℕ} {list₀ : List ℕ} {found y : ℕ} {list : List ℕ} (k : Covering rows model list₀ found y list) where
  -- The pairs so far are few.
  pub covering_few : length rows ≤ ROWS → found ≤ y * ROWS
  covering_few h = omega (arith, k.many, pairs-bound rows model y (omega (arith, k.low)))

  -- The races of row y are put behind the pairs so far.
  pub covering_next : {next : ℕ} {after : List ℕ} → y < length rows → next ≡ found + length (pairs_with rows model y y) →
      after ≡ with_pairs found (pairs_with rows model y y) list → Covering rows model list₀ next (y + 1) after
  unfolding pairs_below
  covering_next h e w =
      rw add-one
      (record {
        low = h;
        many = e ∙ ap (λ (n : ℕ). n + length (pairs_with rows model y y)) k.many ∙ sym (length-append (pairs_below rows model y) (pairs_with rows model y y));
        put =
            let count : found ≡ 0 + length (pairs_below rows model y) = omega (arith, k.many) in
            w ∙ (λ i. with_pairs (count i) (pairs_with rows model y y) (k.put i))
            ∙ sym (put-append 0 (pairs_below rows model y) (pairs_with rows model y y) list₀);
      })

  -- After all rows, the list holds every race.
  pub covering_done : length rows ≤ y → (found ≡ length (race_pairs rows model)) × (list ≡ with_pairs 0 (race_pairs rows model) list₀)
  unfolding race_pairs
  covering_done h =
      let d : y ≡ length rows = omega (arith, k.low) in (
        k.many ∙ ap (λ (i : ℕ). length (pairs_below rows model i)) d,
        k.put ∙ ap (λ (i : ℕ). with_pairs 0 (pairs_below rows model i) list₀) d,
      )
