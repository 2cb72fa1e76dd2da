-- Which model's freedom includes which: a trace that is free under any model is free under POSIX, one that is free under session is free under
-- MPI-IO, and one that is free under session is free under commit where each close is renamed commit. Each law holds of races, pair by pair.
use Rattle.std.proofs.Common.{ℕ, zero, suc, ◌<◌, ◌≡◌, refl, sym, ◌∙◌, Bool, true, false, cond, not, ◌&&◌, ◌||◌, List, length, eqb-true}
use lib.ListN.{length-map, get_or-map}
use lib.Dec.{ltb, eqb}
use Rattle.rows.specs.Kinds.{READ, WRITE, COMMIT, OPEN, CLOSE, SYNC, SEND, ARRIVAL, BARRIER}
use Rattle.rows.specs.declared.row.Row.{Row}
use Rattle.rows.specs.Rows.{no_row, row_at}
use Rattle.rows.proofs.Bools.{and_out, or_right}
use Rattle.models.specs.Models.{POSIX, COMMIT_MODEL, SESSION, MPI_IO}
use Rattle.happens_before.specs.Order.{same_process, last_before, passes, crosses, edge, more, hb}
use Rattle.happens_before.proofs.Clocks.{edge-forward, program-order, hb-iff}
use Rattle.races_meaning.specs.Races.{is_write, same_file, is_sync, share_byte, conflict, chain_commit, chain_session, chain_mpi_io, chain, synchronized, race, free, verdict_of}
use Rattle.races_meaning.proofs.Chains.{posix-iff, commit-iff, session-iff, mpi_io_iff}
use Rattle.races_meaning.proofs.Verdicts.{race_out, free-iff}
use Rattle.reorder.proofs.Between.{sync_process, chain_order, race-parts, race-in}
use Rattle.race_laws.specs.Renaming.{renamed, closes_renamed}

-- ---- From races to the verdict

-- Where each race of the second rows and model is a race of the first, a free verdict of the first gives one of the second.
free-passed : (rows rows' : List Row) (model model' : ℕ) → ((x y : ℕ) → race rows' model' x y ≡ true → race rows model x y ≡ true) →
    verdict_of rows model ≡ free → verdict_of rows' model' ≡ free
free-passed rows rows' model model' f e = (free-iff rows' model').1 (λ x y r. (free-iff rows model).0 e x y (f x y r))

-- Where both tests of a pair imply those of another, the same choice of one from each pair passes on.
either-passed : (w : Bool) {a b a' b' : Bool} → (a ≡ true → a' ≡ true) → (b ≡ true → b' ≡ true) → cond w a b ≡ true → cond w a' b' ≡ true
either-passed true f g e = f e
either-passed false f g e = g e

-- ---- Two models of the same rows

module _ (rows : List Row) where
  -- A race under one model is a race under another whose chain implies that of the first.
  race_passed : (model model' x y : ℕ) → (y < length rows → chain rows model' x y ≡ true → chain rows model x y ≡ true) →
      race rows model x y ≡ true → race rows model' x y ≡ true
  unfolding synchronized
  race_passed model model' x y f e =
      let o = race_out rows model x y e in
      let p = race-parts rows model x y e in
      race-in rows model' x y o.0 o.1 p.0 (λ s. p.1 (either-passed (is_write (row_at rows x)) (f o.1) (λ h. h) s))

  -- Each race under POSIX is a race under every model, given by any number.
  pub race_posix : (model x y : ℕ) → race rows POSIX x y ≡ true → race rows model x y ≡ true
  unfolding chain
  race_posix model x y e = race_passed POSIX model x y (λ b c. (posix-iff rows x y).1 (chain_order rows model x y b c)) e

  -- A session chain is an MPI-IO chain.
  chain_session_mpi_io : (x y : ℕ) → chain_session rows x y ≡ true → chain_mpi_io rows x y ≡ true
  chain_session_mpi_io x y e =
      let (c, o, l, t, m, u, h) = (session-iff rows x y).0 e in
      (mpi_io_iff rows x y).1 (c, o, l, rw t refl, m, or_right (is_sync SYNC (row_at rows y) (row_at rows o)) _ u, h)

  -- Each race under MPI-IO is a race under session.
  pub race_mpi_io : (x y : ℕ) → race rows MPI_IO x y ≡ true → race rows SESSION x y ≡ true
  unfolding chain
  race_mpi_io x y e = race_passed MPI_IO SESSION x y (λ b. chain_session_mpi_io x y) e

-- A trace that is free under a model, given by any number, is free under POSIX.
pub any-posix : (rows : List Row) (model : ℕ) → verdict_of rows model ≡ free → verdict_of rows POSIX ≡ free
any-posix rows model e = free-passed rows rows model POSIX (race_posix rows model) e

-- A trace that is free under session is free under MPI-IO.
pub session-mpi_io : (rows : List Row) → verdict_of rows SESSION ≡ free → verdict_of rows MPI_IO ≡ free
session-mpi_io rows e = free-passed rows rows SESSION MPI_IO (race_mpi_io rows) e

-- ---- A row renamed

-- A close of row r's file and process is, renamed, a commit of the file and process of row r renamed.
close-commits : (r s : Row) → is_sync CLOSE r s ≡ true → is_sync COMMIT (renamed r) (renamed s) ≡ true
unfolding renamed
close-commits r s e =
    let a = and_out (eqb s.kind CLOSE) (same_file r s && same_process r s) e in
    rw (eqb-true s.kind CLOSE a.0) a.1

-- A row is of a kind that is neither commit nor close exactly where it is so renamed.
kind-kept : (kind : ℕ) → eqb COMMIT kind ≡ false → eqb CLOSE kind ≡ false → (r : Row) → eqb (renamed r).kind kind ≡ eqb r.kind kind
unfolding renamed
kind-kept kind a b r = go (eqb r.kind CLOSE) refl
  where
    go : (t : Bool) → eqb r.kind CLOSE ≡ t → eqb (cond t COMMIT r.kind) kind ≡ eqb r.kind kind
    go true e = rw (a, eqb-true r.kind CLOSE e, b)
    go false e = refl

-- Two rows conflict exactly where they do so renamed.
conflict-kept : (r s : Row) → conflict (renamed r) (renamed s) ≡ conflict r s
unfolding conflict share_byte renamed
conflict-kept r s =
    let read = kind-kept READ refl refl in
    let write = kind-kept WRITE refl refl in
    λ t. (read r t || write r t)
    && ((read s t || write s t) && (same_file r s && (share_byte r s && (not (same_process r s) && (write r t || write s t)))))

-- ---- Rows renamed

module _ (at : ℕ → Row) (i : ℕ) where
  -- A row that is of one barrier with another is so renamed, and no other is.
  passes_kept : (last : ℕ) → passes (λ k. renamed (at k)) i last ≡ passes at i last
  unfolding passes renamed
  passes_kept zero = refl
  passes_kept (suc k) =
      let barrier = kind-kept BARRIER refl refl in
      λ t. barrier (at i) t && (barrier (at k) t && eqb (at i).message (at k).message)

  -- A row leads to the same rows renamed.
  crosses_kept : (j : ℕ) → crosses (λ k. renamed (at k)) i j ≡ crosses at i j
  unfolding crosses renamed
  crosses_kept j =
      λ t. (kind-kept SEND refl refl (at i) t && (kind-kept ARRIVAL refl refl (at j) t && eqb (at i).message (at j).message))
      || passes_kept (last_before at j) t

module _ (rows : List Row) where
  -- Renaming keeps each row at its place.
  row-renamed : (i : ℕ) → row_at (closes_renamed rows) i ≡ renamed (row_at rows i)
  unfolding closes_renamed renamed
  row-renamed i = get_or-map renamed rows i no_row

  -- Renaming keeps the number of rows.
  length-kept : length (closes_renamed rows) ≡ length rows
  unfolding closes_renamed
  length-kept = length-map rows renamed

  -- The direct edges are the same where closes are renamed.
  pub edges_kept : (i j : ℕ) → edge (closes_renamed rows) i j ≡ edge rows i j
  unfolding edge renamed
  edges_kept i j =
      (λ t. ltb i j && (ltb j (length-kept t)
      && (same_process (row-renamed i t) (row-renamed j t) || crosses (λ k. row-renamed k t) i j)))
      ∙ (λ t. ltb i j && (ltb j (length rows) && (same_process (row_at rows i) (row_at rows j) || crosses_kept (row_at rows) i j t)))

  -- A row happens before another where closes are renamed exactly where it does so in the trace.
  pub hb-kept : (i j : ℕ) → hb (edge (closes_renamed rows)) i j ≡ hb (edge rows) i j
  hb-kept i j t = hb (λ k l. edges_kept k l t) i j

  -- A session chain is a commit chain where closes are renamed: what happens before the open happens before Y, which follows it in its process.
  chain_session_commit : (x y : ℕ) → y < length rows → chain_session rows x y ≡ true → chain_commit (closes_renamed rows) x y ≡ true
  chain_session_commit x y b e =
      let (c, o, l, t, m, u, h) = (session-iff rows x y).0 e in
      let k = more h (program-order rows o y m b (sym (sync_process OPEN (row_at rows y) (row_at rows o) u))) in
      (commit-iff (closes_renamed rows) x y).1 (
        c,
        l,
        rw (row-renamed x, row-renamed c) (close-commits (row_at rows x) (row_at rows c) t),
        (hb-iff (edge-forward (closes_renamed rows)) c y).0 (hb-kept c y ∙ (hb-iff (edge-forward rows) c y).1 k),
      )

  -- Rows that are properly synchronized under session are so under commit where closes are renamed.
  sync_session_commit : (x y : ℕ) → y < length rows →
      synchronized rows SESSION x y ≡ true → synchronized (closes_renamed rows) COMMIT_MODEL x y ≡ true
  unfolding synchronized chain
  sync_session_commit x y b e =
      rw (row-renamed x, kind-kept WRITE refl refl (row_at rows x))
      (either-passed (is_write (row_at rows x)) (chain_session_commit x y b) (λ h. hb-kept x y ∙ h) e)

  -- Each race under commit where closes are renamed is a race under session.
  pub race_commit : (x y : ℕ) → race (closes_renamed rows) COMMIT_MODEL x y ≡ true → race rows SESSION x y ≡ true
  race_commit x y e =
      let o = race_out (closes_renamed rows) COMMIT_MODEL x y e in
      let p = race-parts (closes_renamed rows) COMMIT_MODEL x y e in
      let b = rw length-kept at o.1 in
      race-in rows SESSION x y o.0 b (rw (row-renamed x, row-renamed y, conflict-kept (row_at rows x) (row_at rows y)) at p.0)
      (λ s. p.1 (sync_session_commit x y b s))

-- A trace that is free under session is free under commit where each close is renamed commit.
pub session-commit : (rows : List Row) → verdict_of rows SESSION ≡ free → verdict_of (closes_renamed rows) COMMIT_MODEL ≡ free
session-commit rows e = free-passed rows (closes_renamed rows) SESSION COMMIT_MODEL (race_commit rows) e
