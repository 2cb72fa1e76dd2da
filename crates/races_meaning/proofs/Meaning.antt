-- Races and verdicts in document 01's words. Rows are named by their places, from 0; a verdict gives row numbers, which are one more.
use Rattle.std.proofs.Common.{ℕ, zero, suc, ◌+◌, ◌≤◌, ◌<◌, arith, ◌≡◌, refl, sym, subst, ◌∙◌, ◌↔◌, ◌⊎◌, inl, inr, true, ◌||◌, List, length, lt-ltb, ltb-true, eq-eqb, eqb-true}
use mathlib.Core.Bool.{false≢true}
use lib.Dec.{ltb, eqb}
use borrow.Author.Tests.{not-true}
use Rattle.rows.specs.Limits.{MODELS}
use Rattle.rows.specs.Kinds.{READ, WRITE, COMMIT, OPEN, CLOSE, SYNC}
use Rattle.models.specs.Models.{POSIX, COMMIT_MODEL, SESSION, MPI_IO}
use Rattle.rows.specs.declared.row.Row.{Row}
use Rattle.happens_before.specs.Order.{same_process, edge, HB}
use Rattle.rows.specs.Rows.{row_at}
use Rattle.rows.proofs.Bools.{and_out, or_out, or_right, not_passed}
use Rattle.happens_before.proofs.Clocks.{edge-forward, hb-iff}
use Rattle.races_meaning.specs.Races.{same_file, is_sync, conflict, chain, synchronized, race, free, racing, verdict_of}
use Rattle.races_meaning.proofs.Verdicts.{First, free-iff, racing-iff}
use Rattle.races_meaning.proofs.Conflicts.{Conflict, conflict-iff}
use Rattle.races_meaning.proofs.Chains.{posix-iff, commit-iff, session-iff, mpi_io_iff}

-- ---- What document 01 says

-- Row s is of this kind, by row r's process, of row r's file.
abbrev pub Own : ℕ → Row → Row → Type 0
Own kind r s = (s.kind ≡ kind) × (r.file ≡ s.file) × (r.process ≡ s.process)

module _ (rows : List Row) where
  -- Row i happens before row j: direct edges lead from i to j, one after the other.
  abbrev pub Before : ℕ → ℕ → Type 0
  Before i j = HB (edge rows) i j

  -- The chain from a write X to Y, model by model.
  pub data Chain (x y : ℕ) : ℕ → Type 0 where
    -- X happens before Y
    posix : Before x y → Chain x y POSIX
    -- a commit by X's process after X, and it happens before Y
    commit : (c : ℕ) → x < c → Own COMMIT (row_at rows x) (row_at rows c) → Before c y → Chain x y COMMIT_MODEL
    -- a close by X's process after X, happening before an open by Y's process before Y
    session : (c o : ℕ) → x < c → Own CLOSE (row_at rows x) (row_at rows c) → Before c o →
        o < y → Own OPEN (row_at rows y) (row_at rows o) → Chain x y SESSION
    -- a close or sync by X's process after X, happening before a sync or open by Y's process before Y
    mpi-io : (c o : ℕ) → x < c → Own CLOSE (row_at rows x) (row_at rows c) ⊎ Own SYNC (row_at rows x) (row_at rows c) → Before c o →
        o < y → Own SYNC (row_at rows y) (row_at rows o) ⊎ Own OPEN (row_at rows y) (row_at rows o) → Chain x y MPI_IO

  -- X and Y, of which X stands before Y, are properly synchronized: X is a read and happens before Y, or X is a write and the model's chain
  -- lies between.
  pub data Synchronized (model x y : ℕ) : Type 0 where
    read_first : (row_at rows x).kind ≡ READ → Before x y → Synchronized model x y
    write-first : (row_at rows x).kind ≡ WRITE → Chain x y model → Synchronized model x y

  -- A race: X stands before Y in the trace, the two conflict (data rows of one file that share a byte, of two processes, one of them a write)
  -- and are not properly synchronized.
  pub record Race (model x y : ℕ) : Type 0 where
    pub earlier : x < y
    pub in-trace : y < length rows
    pub conflicting : Conflict (row_at rows x) (row_at rows y)
    pub not-synchronized : Synchronized model x y → ⊥

  -- The first race: the one with the smallest later row, then the smallest earlier row.
  pub record FirstRace (model x y : ℕ) : Type 0 where
    pub is_race : Race model x y
    pub smallest-later : (x' y' : ℕ) → Race model x' y' → y ≤ y'
    pub smallest-earlier : (x' : ℕ) → Race model x' y → x ≤ x'

-- ---- Chains

-- The test of a row's kind, file and process says what document 01 says.
own-iff : (kind : ℕ) (r s : Row) → (is_sync kind r s ≡ true) ↔ Own kind r s
own-iff kind r s = (
  λ e. let a = and_out (eqb s.kind kind) _ e in
      let b = and_out (same_file r s) (same_process r s) a.1 in
      (eqb-true _ _ a.0, eqb-true _ _ b.0, eqb-true _ _ b.1),
  λ (k, f, p). rw (eq-eqb s.kind kind k, eq-eqb r.file s.file f, eq-eqb r.process s.process p),
)

-- The test of one of two kinds says what document 01 says.
either-iff : (k l : ℕ) (r s : Row) → (is_sync k r s || is_sync l r s ≡ true) ↔ (Own k r s ⊎ Own l r s)
either-iff k l r s = (λ e. to (or_out (is_sync k r s) (is_sync l r s) e), from)
  where
    to : (is_sync k r s ≡ true) ⊎ (is_sync l r s ≡ true) → Own k r s ⊎ Own l r s
    to (inl e) = inl ((own-iff k r s).0 e)
    to (inr e) = inr ((own-iff l r s).0 e)

    from : Own k r s ⊎ Own l r s → is_sync k r s || is_sync l r s ≡ true
    from (inl o) = rw ((own-iff k r s).1 o)
    from (inr o) = or_right (is_sync k r s) (is_sync l r s) ((own-iff l r s).1 o)

module _ (rows : List Row) (x y : ℕ) where
  -- Where the definition of a model's chain passes, the chain is there.
  chain_to : (model : ℕ) → model < MODELS → chain rows model x y ≡ true → Chain rows x y model
  unfolding chain
  chain_to zero h e = posix ((posix-iff rows x y).0 e)
  chain_to (suc zero) h e = let (c, l, o, b) = (commit-iff rows x y).0 e in commit c l ((own-iff COMMIT (row_at rows x) (row_at rows c)).0 o) b
  chain_to (suc (suc zero)) h e =
      let (c, o, l, p, m, q, b) = (session-iff rows x y).0 e in
      session c o l ((own-iff CLOSE (row_at rows x) (row_at rows c)).0 p) b m ((own-iff OPEN (row_at rows y) (row_at rows o)).0 q)
  chain_to (suc (suc (suc zero))) h e =
      let (c, o, l, p, m, q, b) = (mpi_io_iff rows x y).0 e in
      mpi-io c o l ((either-iff CLOSE SYNC (row_at rows x) (row_at rows c)).0 p) b m ((either-iff SYNC OPEN (row_at rows y) (row_at rows o)).0 q)
  chain_to (suc (suc (suc (suc n)))) h e = absurd (omega arith)

  -- Where the chain is there, the definition of a model's chain passes.
  chain_from : {model : ℕ} → Chain rows x y model → chain rows model x y ≡ true
  unfolding chain
  chain_from (posix b) = (posix-iff rows x y).1 b
  chain_from (commit c l o b) = (commit-iff rows x y).1 (c, l, (own-iff COMMIT (row_at rows x) (row_at rows c)).1 o, b)
  chain_from (session c o l p b m q) =
      (session-iff rows x y).1
      (c, o, l, (own-iff CLOSE (row_at rows x) (row_at rows c)).1 p, m, (own-iff OPEN (row_at rows y) (row_at rows o)).1 q, b)
  chain_from (mpi-io c o l p b m q) =
      (mpi_io_iff rows x y).1
      (c, o, l, (either-iff CLOSE SYNC (row_at rows x) (row_at rows c)).1 p, m, (either-iff SYNC OPEN (row_at rows y) (row_at rows o)).1 q, b)

  -- ---- Races

  module _ (model : ℕ) (known : model < MODELS) where
    -- Where X is a data row, the definition of proper synchronization says what document 01 says.
    synchronized_iff : ((row_at rows x).kind ≡ READ) ⊎ ((row_at rows x).kind ≡ WRITE) →
        (synchronized rows model x y ≡ true) ↔ Synchronized rows model x y
    unfolding synchronized
    synchronized_iff d = (to d, from)
      where
        to : ((row_at rows x).kind ≡ READ) ⊎ ((row_at rows x).kind ≡ WRITE) → synchronized rows model x y ≡ true → Synchronized rows model x y
        to (inl k) e = read_first k ((hb-iff (edge-forward rows) x y).0 (rw k at e))
        to (inr k) e = write-first k (chain_to model known (rw k at e))

        from : Synchronized rows model x y → synchronized rows model x y ≡ true
        from (read_first k b) = rw k ((hb-iff (edge-forward rows) x y).1 b)
        from (write-first k c) = rw k (chain_from c)

    -- A pair of rows is a race exactly when document 01 calls it one.
    pub race_iff : (race rows model x y ≡ true) ↔ Race rows model x y
    unfolding race
    race_iff = (to, from)
      where
        to : race rows model x y ≡ true → Race rows model x y
        to e =
            let a = and_out (ltb x y) _ e in
            let b = and_out (ltb y (length rows)) _ a.1 in
            let c = and_out (conflict (row_at rows x) (row_at rows y)) _ b.1 in
            let f = (conflict-iff (row_at rows x) (row_at rows y)).0 c.0 in
            record {
              earlier = ltb-true x y a.0;
              in-trace = ltb-true y (length rows) b.0;
              conflicting = f;
              not-synchronized = λ s. false≢true (sym (not-true _ c.1) ∙ (synchronized_iff f.first-data).1 s);
            }

        from : Race rows model x y → race rows model x y ≡ true
        from r =
            rw (
              lt-ltb x y r.earlier,
              lt-ltb y (length rows) r.in-trace,
              (conflict-iff (row_at rows x) (row_at rows y)).1 r.conflicting,
              not_passed (synchronized rows model x y) (λ e. r.not-synchronized ((synchronized_iff r.conflicting.first-data).0 e)),
            )

-- ---- Verdicts

module _ (rows : List Row) (model : ℕ) (known : model < MODELS) where
  -- The verdict is free exactly where there is no race.
  pub verdict_free : (verdict_of rows model ≡ free) ↔ ((x y : ℕ) → Race rows model x y → ⊥)
  verdict_free = (
    λ e x y r. (free-iff rows model).0 e x y ((race_iff rows x y model known).1 r),
    λ n. (free-iff rows model).1 (λ x y e. n x y ((race_iff rows x y model known).0 e)),
  )

  -- The verdict names a race exactly where that race is the first one.
  pub verdict_race : (x y : ℕ) → (verdict_of rows model ≡ racing (x + 1) (y + 1)) ↔ FirstRace rows model x y
  verdict_race x y = (to, from)
    where
      to : verdict_of rows model ≡ racing (x + 1) (y + 1) → FirstRace rows model x y
      to e =
          let (a, b, p, q, f) = (racing-iff rows model (x + 1) (y + 1)).0 e in
          let i : a ≡ x = omega arith in
          let j : b ≡ y = omega arith in
          let g = subst (First rows model x) j (subst (λ (k : ℕ). First rows model k b) i f) in
          record {
            is_race = (race_iff rows x y model known).0 g.is_race;
            smallest-later = λ x' y' r. g.least-later x' y' ((race_iff rows x' y' model known).1 r);
            smallest-earlier = λ x' r. g.least-earlier x' ((race_iff rows x' y model known).1 r);
          }

      from : FirstRace rows model x y → verdict_of rows model ≡ racing (x + 1) (y + 1)
      from f =
          (racing-iff rows model (x + 1) (y + 1)).1 (
            x,
            y,
            refl,
            refl,
            record {
              is_race = (race_iff rows x y model known).1 f.is_race;
              least-later = λ x' y' e. f.smallest-later x' y' ((race_iff rows x' y' model known).0 e);
              least-earlier = λ x' e. f.smallest-earlier x' ((race_iff rows x' y model known).0 e);
            },
          )
