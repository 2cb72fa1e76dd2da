-- Laws of one list of rows: conflict is symmetric, proper synchronization implies happens-before, and a race taken apart and put together.
use Rattle.std.proofs.Common.{ℕ, zero, suc, ◌<◌, arith, ◌≡◌, sym, ◌∙◌, ◌⊎◌, inl, inr, Bool, true, false, cond, ◌||◌, List, length, lt-ltb, ne_eqb, eqb-true}
use mathlib.Core.Bool.{false≢true}
use lib.Dec.{ltb, eqb}
use borrow.Author.Tests.{not-true}
use Rattle.rows.specs.Kinds.{COMMIT, OPEN, CLOSE, SYNC}
use Rattle.rows.specs.declared.row.Row.{Row}
use Rattle.rows.specs.Rows.{row_at}
use Rattle.rows.proofs.Bools.{and_out, or_out, not_passed}
use Rattle.models.specs.Models.{POSIX, COMMIT_MODEL, SESSION}
use Rattle.happens_before.specs.Order.{edge, HB, one, more, hb}
use Rattle.happens_before.proofs.Clocks.{edge-forward, program-order, HB-trans, hb-iff}
use Rattle.races_meaning.specs.Races.{is_write, same_file, is_sync, conflict, chain_mpi_io, chain, synchronized, race}
use Rattle.races_meaning.proofs.Conflicts.{conflict-iff}
use Rattle.races_meaning.proofs.Chains.{HB-start, posix-iff, commit-iff, session-iff, mpi_io_iff}

-- ---- Tests of two rows

-- One of two facts, with the two exchanged.
exchanged : {A B : Type 0} → A ⊎ B → B ⊎ A
exchanged (inl a) = inr a
exchanged (inr b) = inl b

-- Conflict is symmetric.
pub conflict-turned : (r s : Row) → conflict r s ≡ true → conflict s r ≡ true
conflict-turned r s e =
    let c = (conflict-iff r s).0 e in
    (conflict-iff s r).1
    (record {
      first-data = c.second-data;
      second-data = c.first-data;
      one-file = sym c.one-file;
      byte = c.byte;
      in_first = c.in_second;
      in_second = c.in_first;
      two-processes = λ q. c.two-processes (sym q);
      one_writes = exchanged c.one_writes;
    })

-- Only two rows of one process pass the test.
abbrev pub OneProcess : (Row → Row → Bool) → Type 0
OneProcess test = (r s : Row) → test r s ≡ true → r.process ≡ s.process

-- A row that `is_sync` accepts for another row is of that row's process.
pub sync_process : (kind : ℕ) → OneProcess (is_sync kind)
sync_process kind r s e =
    let a = and_out (eqb s.kind kind) _ e in
    eqb-true r.process s.process (and_out (same_file r s) _ a.1).1

-- A row that `is_sync` accepts for another row with one of two kinds is of that row's process.
pub either-process : (k l : ℕ) → OneProcess (λ r s. is_sync k r s || is_sync l r s)
either-process k l r s e = go (or_out (is_sync k r s) (is_sync l r s) e)
  where
    go : (is_sync k r s ≡ true) ⊎ (is_sync l r s ≡ true) → r.process ≡ s.process
    go (inl t) = sync_process k r s t
    go (inr t) = sync_process l r s t

-- ---- Proper synchronization implies happens-before

module _ (rows : List Row) where
  -- Some row after x passes a test with x and happens before y.
  abbrev pub One : (Row → Row → Bool) → ℕ → ℕ → Type 0
  One first x y = (c : ℕ) × (x < c) × (first (row_at rows x) (row_at rows c) ≡ true) × HB (edge rows) c y

  -- Some row after x passes a test with x and happens before a row before y that passes a test with y.
  abbrev pub Pair : (Row → Row → Bool) → (Row → Row → Bool) → ℕ → ℕ → Type 0
  Pair first last x y =
      (c : ℕ) × (o : ℕ) × (x < c) × (first (row_at rows x) (row_at rows c) ≡ true)
      × (o < y) × (last (row_at rows y) (row_at rows o) ≡ true) × HB (edge rows) c o

  -- Where a row after x, of x's process, happens before y, x happens before y.
  one-order : (first : Row → Row → Bool) → OneProcess first → (x y : ℕ) → One first x y → HB (edge rows) x y
  one-order first p x y (c, l, t, h) = HB-trans (one (program-order rows x c l (HB-start rows h) (p _ _ t))) h

  -- Where a row after x, of x's process, happens before a row before y, of y's process, x happens before y.
  pair-order : (first last : Row → Row → Bool) → OneProcess first → OneProcess last → (x y : ℕ) → y < length rows →
      Pair first last x y → HB (edge rows) x y
  pair-order first last p q x y b (c, o, l, t, m, u, h) =
      more (one-order first p x o (c, l, t, h)) (program-order rows o y m b (sym (q _ _ u)))

  -- The chain of every model number from 3 on is that of MPI-IO.
  pub other-chain : (n x y : ℕ) → chain rows (suc (suc (suc n))) x y ≡ chain_mpi_io rows x y
  unfolding chain
  other-chain n x y =
      let m = suc (suc (suc n)) in
      rw (ne_eqb m POSIX (omega arith), ne_eqb m COMMIT_MODEL (omega arith), ne_eqb m SESSION (omega arith))

  -- Where a model's chain leads from x to y, x happens before y.
  pub chain_order : (model x y : ℕ) → y < length rows → chain rows model x y ≡ true → HB (edge rows) x y
  unfolding chain
  chain_order zero x y b e = (posix-iff rows x y).0 e
  chain_order (suc zero) x y b e = one-order (is_sync COMMIT) (sync_process COMMIT) x y ((commit-iff rows x y).0 e)
  chain_order (suc (suc zero)) x y b e =
      pair-order (is_sync CLOSE) (is_sync OPEN) (sync_process CLOSE) (sync_process OPEN) x y b ((session-iff rows x y).0 e)
  chain_order (suc (suc (suc n))) x y b e =
      pair-order _ _ (either-process CLOSE SYNC) (either-process SYNC OPEN) x y b ((mpi_io_iff rows x y).0 (sym (other-chain n x y) ∙ e))

  -- Where x and y are properly synchronized, x happens before y.
  pub sync_order : (model x y : ℕ) → y < length rows → synchronized rows model x y ≡ true → HB (edge rows) x y
  unfolding synchronized
  sync_order model x y b e = go (is_write (row_at rows x)) e
    where
      go : (w : Bool) → cond w (chain rows model x y) (hb (edge rows) x y) ≡ true → HB (edge rows) x y
      go true f = chain_order model x y b f
      go false f = (hb-iff (edge-forward rows) x y).0 f

  -- ---- The parts of a race

  module _ (model x y : ℕ) where
    -- The rows of a race conflict and are not properly synchronized.
    pub race-parts : race rows model x y ≡ true → (conflict (row_at rows x) (row_at rows y) ≡ true) × (synchronized rows model x y ≡ true → ⊥)
    unfolding race
    race-parts e =
        let a = and_out (ltb y (length rows)) _ (and_out (ltb x y) _ e).1 in
        let c = and_out (conflict (row_at rows x) (row_at rows y)) _ a.1 in
        (c.0, λ s. false≢true (sym (not-true _ c.1) ∙ s))

    -- Two rows of the trace, the earlier first, that conflict and are not properly synchronized race.
    pub race-in : x < y → y < length rows → conflict (row_at rows x) (row_at rows y) ≡ true → (synchronized rows model x y ≡ true → ⊥) →
        race rows model x y ≡ true
    unfolding race
    race-in l b c n = rw (lt-ltb x y l, lt-ltb y (length rows) b, c, not_passed (synchronized rows model x y) n)
