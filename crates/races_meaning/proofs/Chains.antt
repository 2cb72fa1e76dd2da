-- Each model's chain by the rows between, and the chain of the table.
use Rattle.std.proofs.Common.{ℕ, zero, suc, ◌<◌, arith, ◌≡◌, refl, sym, ap, ◌∙◌, ◌↔◌, Bool, true, false, ◌&&◌, ◌||◌, List, length, lt-ltb, ltb-true, eq-eqb, eqb-true}
use mathlib.Core.Bool.{or-false, and_assoc}
use lib.Dec.{ltb, eqb}
use Rattle.rows.specs.Kinds.{COMMIT, OPEN, CLOSE, SYNC}
use Rattle.models.specs.Table.{publishes, refreshes}
use Rattle.rows.specs.declared.row.Row.{Row}
use Rattle.rows.specs.Counting.{any_below}
use Rattle.happens_before.specs.Order.{same_process, edge, HB, one, more, hb}
use Rattle.rows.specs.Rows.{row_at}
use Rattle.rows.proofs.Bools.{and_out, same_test}
use Rattle.rows.proofs.Below.{any-in, any_out}
use Rattle.happens_before.proofs.Clocks.{edge-forward, edge_in, HB-less, hb-iff}
use Rattle.races_meaning.specs.Races.{same_file, is_sync, chain_posix, chain_commit, chain_session, chain_mpi_io, chain}
use Rattle.races_meaning.specs.TableChain.{published_by, refreshed_by, table_chain}
use Rattle.rows.specs.Limits.{MODELS}

-- ---- Tests

-- Some row of one of two kinds passes a test.
kinds : (a b w : Bool) → (a || b) && w ≡ (a && w) || (b && w)
kinds true true true = refl
kinds true true false = refl
kinds true false true = refl
kinds true false false = refl
kinds false b w = refl

-- Some row of one of two kinds, the second kind first, passes a test.
kinds-turned : (a b w : Bool) → (a || b) && w ≡ (b && w) || (a && w)
kinds-turned true true true = refl
kinds-turned true true false = refl
kinds-turned true false w = refl
kinds-turned false true true = refl
kinds-turned false true false = refl
kinds-turned false false w = refl

-- Equal tests pass together.
any_same : (n : ℕ) (f g : ℕ → Bool) → ((i : ℕ) → f i ≡ g i) → any_below n f ≡ any_below n g
unfolding any_below
any_same zero f g h = refl
any_same (suc n) f g h = rw (any_same n f g h, h n)

-- ---- Two rows with tests, the first of which happens before the second

module _ (rows : List Row) where
  -- A row before which another happens is in the trace.
  pub HB-in : {i j : ℕ} → HB (edge rows) i j → j < length rows
  HB-in (one {i} {j} e) = edge_in rows i j e
  HB-in (more {k = k} {j = j} h e) = edge_in rows k j e

  -- A row that happens before another is in the trace.
  pub HB-start : {i j : ℕ} → HB (edge rows) i j → i < length rows
  HB-start h = omega (arith, HB-in h, HB-less (edge-forward rows) h)

  -- Some row that passes happens before some row below n that passes.
  pub two-iff : (n : ℕ) (first last : ℕ → Bool) →
      (any_below (length rows) (λ c. first c && any_below n (λ o. last o && hb (edge rows) c o)) ≡ true)
      ↔ ((c : ℕ) × (o : ℕ) × (first c ≡ true) × (o < n) × (last o ≡ true) × HB (edge rows) c o)
  two-iff n first last = (there, back)
    where
      after : ℕ → Bool
      after c = any_below n (λ o. last o && hb (edge rows) c o)

      there : any_below (length rows) (λ c. first c && after c) ≡ true →
          (c : ℕ) × (o : ℕ) × (first c ≡ true) × (o < n) × (last o ≡ true) × HB (edge rows) c o
      there e =
          let r = any_out (length rows) (λ c. first c && after c) e in
          let c = r.0 in
          let a = and_out (first c) (after c) r.2 in
          let s = any_out n (λ o. last o && hb (edge rows) c o) a.1 in
          let b = and_out (last s.0) _ s.2 in
          (c, s.0, a.0, s.1, b.0, (hb-iff (edge-forward rows) c s.0).0 b.1)

      back : (c : ℕ) × (o : ℕ) × (first c ≡ true) × (o < n) × (last o ≡ true) × HB (edge rows) c o →
          any_below (length rows) (λ c. first c && after c) ≡ true
      back (c, o, t, l, u, h) =
          any-in (length rows) (λ c. first c && after c) c (HB-start h)
          (rw t (any-in n (λ o. last o && hb (edge rows) c o) o l (rw u ((hb-iff (edge-forward rows) c o).1 h))))

module _ (rows : List Row) (x y : ℕ) where
  -- Some row after x that passes happens before row y.
  one-iff : (test : ℕ → Bool) →
      (any_below (length rows) (λ c. ltb x c && (test c && hb (edge rows) c y)) ≡ true) ↔ ((c : ℕ) × (x < c) × (test c ≡ true) × HB (edge rows) c y)
  one-iff test = (there, back)
    where
      at : ℕ → Bool
      at c = ltb x c && (test c && hb (edge rows) c y)

      there : any_below (length rows) at ≡ true → (c : ℕ) × (x < c) × (test c ≡ true) × HB (edge rows) c y
      there e =
          let r = any_out (length rows) at e in
          let a = and_out (ltb x r.0) _ r.2 in
          let b = and_out (test r.0) _ a.1 in
          (r.0, ltb-true x r.0 a.0, b.0, (hb-iff (edge-forward rows) r.0 y).0 b.1)

      back : (c : ℕ) × (x < c) × (test c ≡ true) × HB (edge rows) c y → any_below (length rows) at ≡ true
      back (c, l, t, h) =
          any-in (length rows) at c (HB-start rows h) (rw (lt-ltb x c l, t) ((hb-iff (edge-forward rows) c y).1 h))

  -- Some row after x that passes happens before some row before y that passes.
  pair-iff : (first last : ℕ → Bool) →
      (any_below (length rows) (λ c. ltb x c && (first c && any_below y (λ o. last o && hb (edge rows) c o))) ≡ true)
      ↔ ((c : ℕ) × (o : ℕ) × (x < c) × (first c ≡ true) × (o < y) × (last o ≡ true) × HB (edge rows) c o)
  pair-iff first last = (there, back)
    where
      after : ℕ → Bool
      after c = any_below y (λ o. last o && hb (edge rows) c o)

      same : any_below (length rows) (λ c. (ltb x c && first c) && after c) ≡ any_below (length rows) (λ c. ltb x c && (first c && after c))
      same = any_same (length rows) _ _ (λ c. and_assoc (ltb x c) (first c) (after c))

      there : any_below (length rows) (λ c. ltb x c && (first c && after c)) ≡ true →
          (c : ℕ) × (o : ℕ) × (x < c) × (first c ≡ true) × (o < y) × (last o ≡ true) × HB (edge rows) c o
      there e =
          let r = (two-iff rows y (λ c. ltb x c && first c) last).0 (same ∙ e) in
          let a = and_out (ltb x r.0) (first r.0) r.2 in
          (r.0, r.1, ltb-true x r.0 a.0, a.1, r.3, r.4, r.5)

      back : (c : ℕ) × (o : ℕ) × (x < c) × (first c ≡ true) × (o < y) × (last o ≡ true) × HB (edge rows) c o →
          any_below (length rows) (λ c. ltb x c && (first c && after c)) ≡ true
      back (c, o, l, t, m, u, h) = sym same ∙ (two-iff rows y (λ c. ltb x c && first c) last).1 (c, o, rw (lt-ltb x c l) t, m, u, h)

  -- ---- The chains

  -- POSIX: X happens before Y
  pub posix-iff : (chain_posix rows x y ≡ true) ↔ HB (edge rows) x y
  unfolding chain_posix
  posix-iff = hb-iff (edge-forward rows) x y

  -- commit: a commit by X's process after X, and it happens before Y
  pub commit-iff : (chain_commit rows x y ≡ true) ↔
      ((c : ℕ) × (x < c) × (is_sync COMMIT (row_at rows x) (row_at rows c) ≡ true) × HB (edge rows) c y)
  unfolding chain_commit
  commit-iff = one-iff (λ c. is_sync COMMIT (row_at rows x) (row_at rows c))

  -- session: a close by X's process after X, happening before an open by Y's process before Y
  pub session-iff : (chain_session rows x y ≡ true) ↔
      ((c : ℕ) × (o : ℕ) × (x < c) × (is_sync CLOSE (row_at rows x) (row_at rows c) ≡ true) × (o < y) × (is_sync OPEN (row_at rows y) (row_at rows o) ≡ true) × HB (edge rows) c o)
  unfolding chain_session
  session-iff = pair-iff (λ c. is_sync CLOSE (row_at rows x) (row_at rows c)) (λ o. is_sync OPEN (row_at rows y) (row_at rows o))

  -- MPI-IO: a close or sync by X's process after X, happening before a sync or open by Y's process before Y
  pub mpi_io_iff : (chain_mpi_io rows x y ≡ true) ↔
      ((c : ℕ) × (o : ℕ) × (x < c) × ((is_sync CLOSE (row_at rows x) (row_at rows c) || is_sync SYNC (row_at rows x) (row_at rows c)) ≡ true)
      × (o < y) × ((is_sync SYNC (row_at rows y) (row_at rows o) || is_sync OPEN (row_at rows y) (row_at rows o)) ≡ true) × HB (edge rows) c o)
  unfolding chain_mpi_io
  mpi_io_iff =
      pair-iff (λ c. is_sync CLOSE (row_at rows x) (row_at rows c) || is_sync SYNC (row_at rows x) (row_at rows c))
      (λ o. is_sync SYNC (row_at rows y) (row_at rows o) || is_sync OPEN (row_at rows y) (row_at rows o))

  -- The table's chain by a row after x and a row before y.
  table-pair : (p r first last : ℕ → Bool) → ((c : ℕ) → p c ≡ ltb x c && first c) → ((o : ℕ) → r o ≡ ltb o y && last o) →
      any_below (length rows) (λ c. p c && any_below (length rows) (λ o. r o && hb (edge rows) c o))
      ≡ any_below (length rows) (λ c. ltb x c && (first c && any_below y (λ o. last o && hb (edge rows) c o)))
  table-pair p r first last a b =
      same_test _ _ (λ e. (pair-iff first last).1 (there ((two-iff rows (length rows) p r).0 e)))
      (λ e. (two-iff rows (length rows) p r).1 (back ((pair-iff first last).0 e)))
    where
      there : (c : ℕ) × (o : ℕ) × (p c ≡ true) × (o < length rows) × (r o ≡ true) × HB (edge rows) c o →
          (c : ℕ) × (o : ℕ) × (x < c) × (first c ≡ true) × (o < y) × (last o ≡ true) × HB (edge rows) c o
      there (c, o, t, l, u, h) =
          let d = and_out (ltb x c) (first c) (sym (a c) ∙ t) in
          let e = and_out (ltb o y) (last o) (sym (b o) ∙ u) in
          (c, o, ltb-true x c d.0, d.1, ltb-true o y e.0, e.1, h)

      back : (c : ℕ) × (o : ℕ) × (x < c) × (first c ≡ true) × (o < y) × (last o ≡ true) × HB (edge rows) c o →
          (c : ℕ) × (o : ℕ) × (p c ≡ true) × (o < length rows) × (r o ≡ true) × HB (edge rows) c o
      back (c, o, k, t, l, u, h) = (c, o, rw (a c, lt-ltb x c k) t, HB-in rows h, rw (b o, lt-ltb o y l) u, h)

  -- The table's chain by a row after x and row y itself.
  table-one : (p test : ℕ → Bool) → ((c : ℕ) → p c ≡ ltb x c && test c) →
      any_below (length rows) (λ c. p c && any_below (length rows) (λ o. eqb o y && hb (edge rows) c o))
      ≡ any_below (length rows) (λ c. ltb x c && (test c && hb (edge rows) c y))
  table-one p test a =
      same_test _ _ (λ e. (one-iff test).1 (there ((two-iff rows (length rows) p (λ o. eqb o y)).0 e)))
      (λ e. (two-iff rows (length rows) p (λ o. eqb o y)).1 (back ((one-iff test).0 e)))
    where
      there : (c : ℕ) × (o : ℕ) × (p c ≡ true) × (o < length rows) × (eqb o y ≡ true) × HB (edge rows) c o →
          (c : ℕ) × (x < c) × (test c ≡ true) × HB (edge rows) c y
      there (c, o, t, l, u, h) =
          let d = and_out (ltb x c) (test c) (sym (a c) ∙ t) in
          (c, ltb-true x c d.0, d.1, rw (eqb-true o y u) at h)

      back : (c : ℕ) × (x < c) × (test c ≡ true) × HB (edge rows) c y →
          (c : ℕ) × (o : ℕ) × (p c ≡ true) × (o < length rows) × (eqb o y ≡ true) × HB (edge rows) c o
      back (c, k, t, h) = (c, y, rw (a c, lt-ltb x c k) t, HB-in rows h, eq-eqb y y refl, h)

  -- The table's chain by the rows x and y themselves.
  table-self : any_below (length rows) (λ c. eqb c x && any_below (length rows) (λ o. eqb o y && hb (edge rows) c o)) ≡ hb (edge rows) x y
  table-self =
      same_test _ _ (λ e. (hb-iff (edge-forward rows) x y).1 (there ((two-iff rows (length rows) (λ c. eqb c x) (λ o. eqb o y)).0 e)))
      (λ e. (two-iff rows (length rows) (λ c. eqb c x) (λ o. eqb o y)).1 (back ((hb-iff (edge-forward rows) x y).0 e)))
    where
      there : (c : ℕ) × (o : ℕ) × (eqb c x ≡ true) × (o < length rows) × (eqb o y ≡ true) × HB (edge rows) c o → HB (edge rows) x y
      there (c, o, t, l, u, h) = rw (eqb-true c x t, eqb-true o y u) at h

      back : HB (edge rows) x y → (c : ℕ) × (o : ℕ) × (eqb c x ≡ true) × (o < length rows) × (eqb o y ≡ true) × HB (edge rows) c o
      back h = (x, y, eq-eqb x x refl, HB-in rows h, eq-eqb y y refl, h)

  -- Two rows are of one file and process.
  abbrev own : ℕ → ℕ → Bool
  own i k = same_file (row_at rows i) (row_at rows k) && same_process (row_at rows i) (row_at rows k)

  -- The table's chain is the chain of document 01 under each of the four models.
  pub table-chain : (model : ℕ) → model < MODELS → x < length rows → y < length rows → table_chain rows model x y ≡ chain rows model x y
  unfolding table_chain published_by refreshed_by publishes refreshes chain chain_posix chain_commit chain_session chain_mpi_io
  table-chain zero h a b = table-self
  table-chain (suc zero) h a b =
      table-one (published_by rows 1 x) (λ c. is_sync COMMIT (row_at rows x) (row_at rows c)) (λ c. simp or-false)
  table-chain (suc (suc zero)) h a b =
      table-pair (published_by rows 2 x) (refreshed_by rows 2 y) (λ c. is_sync CLOSE (row_at rows x) (row_at rows c))
      (λ o. is_sync OPEN (row_at rows y) (row_at rows o)) (λ c. simp or-false) (λ o. simp or-false)
  table-chain (suc (suc (suc zero))) h a b =
      table-pair (published_by rows 3 x) (refreshed_by rows 3 y)
      (λ c. is_sync CLOSE (row_at rows x) (row_at rows c) || is_sync SYNC (row_at rows x) (row_at rows c))
      (λ o. is_sync SYNC (row_at rows y) (row_at rows o) || is_sync OPEN (row_at rows y) (row_at rows o))
      (λ c. ap (λ (t : Bool). ltb x c && t) (kinds (eqb (row_at rows c).kind CLOSE) (eqb (row_at rows c).kind SYNC) (own x c)))
      (λ o. ap (λ (t : Bool). ltb o y && t) (kinds-turned (eqb (row_at rows o).kind OPEN) (eqb (row_at rows o).kind SYNC) (own y o)))
  table-chain (suc (suc (suc (suc n)))) h a b = absurd (omega arith)
