-- What rows do under each model, as document 01 lists it: the table's marks put to work.
use Rattle.std.proofs.Common.{ℕ, ◌≡◌, refl, ne_eqb}
use Rattle.rows.specs.Kinds.{READ, WRITE, COMMIT, OPEN, CLOSE, SYNC}
use Rattle.models.specs.Models.{POSIX, COMMIT_MODEL, SESSION, MPI_IO}
use Rattle.models.specs.Table.{publishes, refreshes}
use Rattle.rows.specs.declared.row.Row.{Row}
use Rattle.machine_meaning.specs.Layers.{Layers, written, publishing, refreshing, after_row}

-- The row r with another kind.
abbrev of : ℕ → Row → Row
of kind r = record { process = r.process; kind = kind; file = r.file; offset = r.offset; length = r.length; message = r.message }

module _ (r : Row) (n : ℕ) (s : Layers) where
  -- POSIX: a write then publishes; a read first refreshes; other rows, also of numbers that are no kind, change nothing
  pub posix-write : after_row POSIX (of WRITE r) n s ≡ publishing r.process (written r n s)
  unfolding after_row publishes refreshes
  posix-write = refl

  pub posix-read : after_row POSIX (of READ r) n s ≡ refreshing r.process s
  unfolding after_row publishes refreshes
  posix-read = refl

  pub posix-other : (r.kind ≡ READ → ⊥) → (r.kind ≡ WRITE → ⊥) → after_row POSIX r n s ≡ s
  unfolding after_row publishes refreshes
  posix-other d w = rw (ne_eqb r.kind READ d, ne_eqb r.kind WRITE w)

  -- commit: commit publishes; a read first refreshes; a write writes alone; other rows change nothing
  pub commit-commit : after_row COMMIT_MODEL (of COMMIT r) n s ≡ publishing r.process s
  unfolding after_row publishes refreshes
  commit-commit = refl

  pub commit-read : after_row COMMIT_MODEL (of READ r) n s ≡ refreshing r.process s
  unfolding after_row publishes refreshes
  commit-read = refl

  pub commit-write : after_row COMMIT_MODEL (of WRITE r) n s ≡ written r n s
  unfolding after_row publishes refreshes
  commit-write = refl

  pub commit-other : (r.kind ≡ READ → ⊥) → (r.kind ≡ WRITE → ⊥) → (r.kind ≡ COMMIT → ⊥) → after_row COMMIT_MODEL r n s ≡ s
  unfolding after_row publishes refreshes
  commit-other d w k = rw (ne_eqb r.kind READ d, ne_eqb r.kind WRITE w, ne_eqb r.kind COMMIT k)

  -- session: close publishes; open refreshes; a write writes alone; other rows, a read among them, change nothing
  pub session-close : after_row SESSION (of CLOSE r) n s ≡ publishing r.process s
  unfolding after_row publishes refreshes
  session-close = refl

  pub session-open : after_row SESSION (of OPEN r) n s ≡ refreshing r.process s
  unfolding after_row publishes refreshes
  session-open = refl

  pub session-write : after_row SESSION (of WRITE r) n s ≡ written r n s
  unfolding after_row publishes refreshes
  session-write = refl

  pub session-other : (r.kind ≡ WRITE → ⊥) → (r.kind ≡ OPEN → ⊥) → (r.kind ≡ CLOSE → ⊥) → after_row SESSION r n s ≡ s
  unfolding after_row publishes refreshes
  session-other w o e = rw (ne_eqb r.kind WRITE w, ne_eqb r.kind OPEN o, ne_eqb r.kind CLOSE e)

  -- MPI-IO: close publishes; open refreshes; sync publishes, then refreshes; a write writes alone; other rows change nothing
  pub mpi_io_close : after_row MPI_IO (of CLOSE r) n s ≡ publishing r.process s
  unfolding after_row publishes refreshes
  mpi_io_close = refl

  pub mpi_io_open : after_row MPI_IO (of OPEN r) n s ≡ refreshing r.process s
  unfolding after_row publishes refreshes
  mpi_io_open = refl

  pub mpi_io_sync : after_row MPI_IO (of SYNC r) n s ≡ refreshing r.process (publishing r.process s)
  unfolding after_row publishes refreshes
  mpi_io_sync = refl

  pub mpi_io_write : after_row MPI_IO (of WRITE r) n s ≡ written r n s
  unfolding after_row publishes refreshes
  mpi_io_write = refl

  pub mpi_io_other : (r.kind ≡ WRITE → ⊥) → (r.kind ≡ OPEN → ⊥) → (r.kind ≡ CLOSE → ⊥) → (r.kind ≡ SYNC → ⊥) → after_row MPI_IO r n s ≡ s
  unfolding after_row publishes refreshes
  mpi_io_other w o e y = rw (ne_eqb r.kind WRITE w, ne_eqb r.kind OPEN o, ne_eqb r.kind CLOSE e, ne_eqb r.kind SYNC y)
