-- Under another numbering of the rows, happens-before, the chains, proper synchronization, races and a free verdict go along, both ways.
use Rattle.std.proofs.Common.{ℕ, zero, suc, ◌<◌, arith, ◌≡◌, sym, ap, ◌∙◌, ◌↔◌, ◌⊎◌, inl, inr, Bool, true, false, cond, List, length}
use native.Mathlib.Decide.{dec_lt}
use Rattle.rows.specs.Kinds.{COMMIT, OPEN, CLOSE, SYNC}
use Rattle.rows.specs.declared.row.Row.{Row}
use Rattle.rows.specs.Rows.{row_at}
use Rattle.happens_before.specs.Order.{edge, HB, one, more, hb}
use Rattle.happens_before.proofs.Clocks.{edge-forward, program-order, HB-less, hb-iff}
use Rattle.races_meaning.specs.Races.{is_write, is_sync, conflict, chain, synchronized, race, free, verdict_of}
use Rattle.races_meaning.proofs.Chains.{HB-in, HB-start, posix-iff, commit-iff, session-iff, mpi_io_iff}
use Rattle.races_meaning.proofs.Verdicts.{race_out, free-iff}
use Rattle.reorder.specs.Renumbering.{Renumbered}
use Rattle.reorder.proofs.Edges.{same-turned}
use Rattle.reorder.proofs.Between.{conflict-turned, OneProcess, sync_process, either-process, One, Pair, other-chain, sync_order, race-parts, race-in}

-- ---- The way back

-- The way back of a renumbering is a renumbering.
pub turned : {rows rows' : List Row} {to from : ℕ → ℕ} → Renumbered rows rows' to from → Renumbered rows' rows from to
turned r = record { same = same-turned r.same; edge_to = r.edge_from; edge_from = r.edge_to }

module _ {rows rows' : List Row} {to from : ℕ → ℕ} (r : Renumbered rows rows' to from) where
  -- ---- Happens-before and the chains

  -- A row that happens before another row does so under the new numbers too.
  pub hb-moved : {i j : ℕ} → HB (edge rows) i j → HB (edge rows') (to i) (to j)
  hb-moved (one {i} {j} e) = one (r.edge_to i j e)
  hb-moved (more {i} {k} {j} h e) = more (hb-moved h) (r.edge_to k j e)

  -- Rows of one process keep their order under the new numbers.
  less_moved : (i j : ℕ) → i < j → j < length rows → (row_at rows i).process ≡ (row_at rows j).process → to i < to j
  less_moved i j l h p = edge-forward rows' (to i) (to j) (r.edge_to i j (program-order rows i j l h p))

  -- A test that two rows pass is passed by the rows at their new numbers.
  test_moved : (test : Row → Row → Bool) (i j : ℕ) → i < length rows → j < length rows →
      test (row_at rows i) (row_at rows j) ≡ true → test (row_at rows' (to i)) (row_at rows' (to j)) ≡ true
  test_moved test i j a b e = rw (r.same.same_row i a, r.same.same_row j b) e

  -- Where a row after x passes a test with x and happens before y, one does so under the new numbers too.
  one-moved : (first : Row → Row → Bool) → OneProcess first → (x y : ℕ) → x < length rows → One rows first x y → One rows' first (to x) (to y)
  one-moved first p x y a (c, l, t, h) =
      let i = HB-start rows h in
      (to c, less_moved x c l i (p _ _ t), test_moved first x c a i t, hb-moved h)

  -- Where a row after x that passes a test with x happens before a row before y that passes a test with y, it is so under the new numbers too.
  pair-moved : (first last : Row → Row → Bool) → OneProcess first → OneProcess last → (x y : ℕ) → x < length rows → y < length rows →
      Pair rows first last x y → Pair rows' first last (to x) (to y)
  pair-moved first last p q x y a b (c, o, l, t, m, u, h) =
      let (c', l', t', h') = one-moved first p x o a (c, l, t, h) in
      (c', to o, l', t', less_moved o y m b (sym (q _ _ u)), test_moved last y o b (HB-in rows h) u, h')

  -- Where the chain of a model, given by any number, leads from x to y, it does so under the new numbers too.
  pub chain_moved : (model : ℕ) (x y : ℕ) → x < length rows → y < length rows →
      chain rows model x y ≡ true → chain rows' model (to x) (to y) ≡ true
  unfolding chain
  chain_moved zero x y a b e = (posix-iff rows' (to x) (to y)).1 (hb-moved ((posix-iff rows x y).0 e))
  chain_moved (suc zero) x y a b e =
      (commit-iff rows' (to x) (to y)).1 (one-moved (is_sync COMMIT) (sync_process COMMIT) x y a ((commit-iff rows x y).0 e))
  chain_moved (suc (suc zero)) x y a b e =
      (session-iff rows' (to x) (to y)).1
      (pair-moved (is_sync CLOSE) (is_sync OPEN) (sync_process CLOSE) (sync_process OPEN) x y a b ((session-iff rows x y).0 e))
  chain_moved (suc (suc (suc n))) x y a b e =
      let p = (mpi_io_iff rows x y).0 (sym (other-chain rows n x y) ∙ e) in
      other-chain rows' n (to x) (to y)
      ∙ (mpi_io_iff rows' (to x) (to y)).1 (pair-moved _ _ (either-process CLOSE SYNC) (either-process SYNC OPEN) x y a b p)

  -- Rows that are properly synchronized are so under the new numbers too.
  pub sync_moved : (model x y : ℕ) → x < length rows → y < length rows →
      synchronized rows model x y ≡ true → synchronized rows' model (to x) (to y) ≡ true
  unfolding synchronized
  sync_moved model x y a b e = rw (r.same.same_row x a) (go (is_write (row_at rows x)) e)
    where
      go : (w : Bool) → cond w (chain rows model x y) (hb (edge rows) x y) ≡ true →
          cond w (chain rows' model (to x) (to y)) (hb (edge rows') (to x) (to y)) ≡ true
      go true f = chain_moved model x y a b f
      go false f = (hb-iff (edge-forward rows') (to x) (to y)).1 (hb-moved ((hb-iff (edge-forward rows) x y).0 f))

-- ---- Races and the free verdict

module _ {rows rows' : List Row} {to from : ℕ → ℕ} (r : Renumbered rows rows' to from) where
  -- A row that happens before another row under the new numbers does so under the old ones.
  pub hb-back : (x y : ℕ) → x < length rows → y < length rows → HB (edge rows') (to x) (to y) → HB (edge rows) x y
  hb-back x y a b h = rw (r.same.from_to x a, r.same.from_to y b) at (hb-moved (turned r) h)

  -- Rows that are properly synchronized under the new numbers are so under the old ones.
  pub sync_back : (model x y : ℕ) → x < length rows → y < length rows →
      synchronized rows' model (to x) (to y) ≡ true → synchronized rows model x y ≡ true
  sync_back model x y a b e =
      rw (r.same.from_to x a, r.same.from_to y b) at (sync_moved (turned r) model (to x) (to y) (r.same.to_within x a) (r.same.to_within y b) e)

  -- A race is a race under the new numbers, with the rows in the order of their new numbers.
  pub race_moved : (model x y : ℕ) → race rows model x y ≡ true →
      (race rows' model (to x) (to y) ≡ true) ⊎ (race rows' model (to y) (to x) ≡ true)
  race_moved model x y e = go (dec_lt (to x) (to y))
    where
      -- Row x stands before row y.
      less : x < y
      less = (race_out rows model x y e).0

      -- Row y is in the trace.
      b : y < length rows
      b = (race_out rows model x y e).1

      -- Row x is in the trace.
      a : x < length rows
      a = omega (arith, less, b)

      -- The two rows have different new numbers.
      apart : to x ≡ to y → ⊥
      apart q = let p : x ≡ y = sym (r.same.from_to x a) ∙ ap from q ∙ r.same.from_to y b in omega (arith, less)

      -- The two rows conflict under the new numbers.
      conflicting : conflict (row_at rows' (to x)) (row_at rows' (to y)) ≡ true
      conflicting = test_moved r conflict x y a b (race-parts rows model x y e).0

      -- Row y does not happen before row x under the new numbers, for x stands before y under the old ones.
      unordered : HB (edge rows') (to y) (to x) → ⊥
      unordered h = omega (arith, less, HB-less (edge-forward rows) (hb-back y x b a h))

      go : Dec (to x < to y) → (race rows' model (to x) (to y) ≡ true) ⊎ (race rows' model (to y) (to x) ≡ true)
      go (yes l) =
          inl (race-in rows' model (to x) (to y) l (r.same.to_within y b) conflicting
          (λ s. (race-parts rows model x y e).1 (sync_back model x y a b s)))
      go (no l) =
          inr (race-in rows' model (to y) (to x) (omega (arith, apart)) (r.same.to_within x a) (conflict-turned _ _ conflicting)
          (λ s. unordered (sync_order rows' model (to y) (to x) (r.same.to_within x a) s)))

module _ {rows rows' : List Row} {to from : ℕ → ℕ} (r : Renumbered rows rows' to from) (model : ℕ) where
  -- Where the verdict is free, it is free under the new numbers too.
  pub free_moved : verdict_of rows model ≡ free → verdict_of rows' model ≡ free
  free_moved e = (free-iff rows' model).1 (λ x y f. none x y (race_moved (turned r) model x y f))
    where
      none : (x y : ℕ) → (race rows model (from x) (from y) ≡ true) ⊎ (race rows model (from y) (from x) ≡ true) → ⊥
      none x y (inl f) = (free-iff rows model).0 e (from x) (from y) f
      none x y (inr f) = (free-iff rows model).0 e (from y) (from x) f

-- The verdict is free exactly where the verdict under the new numbers is.
pub free-moves : {rows rows' : List Row} {to from : ℕ → ℕ} → Renumbered rows rows' to from → (model : ℕ) →
    (verdict_of rows model ≡ free) ↔ (verdict_of rows' model ≡ free)
free-moves r model = (free_moved r model, free_moved (turned r) model)
