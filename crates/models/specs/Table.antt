-- Which rows publish and which refresh, by model and kind.
use Rattle.std.specs.Prelude.{ℕ, Bool, ◌&&◌, ◌||◌, eqb}
use Rattle.rows.specs.Kinds.{READ, WRITE, COMMIT, OPEN, CLOSE, SYNC}
use Rattle.models.specs.declared.Marks.{Marks}
use Rattle.models.specs.Models.{POSIX, COMMIT_MODEL, SESSION, MPI_IO}

-- The model is m and the kind is k.
abbrev pub under : ℕ → ℕ → ℕ → ℕ → Bool
under m k model kind = eqb model m && eqb kind k

-- A row publishes: under POSIX a write, under commit a commit, under session a close, under MPI-IO a close or a sync.
unfoldable pub publishes : ℕ → ℕ → Bool
publishes model kind =
    under POSIX WRITE model kind
    || (under COMMIT_MODEL COMMIT model kind
    || (under SESSION CLOSE model kind || (under MPI_IO CLOSE model kind || under MPI_IO SYNC model kind)))

-- A row refreshes: under POSIX and commit a read, under session an open, under MPI-IO an open or a sync.
unfoldable pub refreshes : ℕ → ℕ → Bool
refreshes model kind =
    under POSIX READ model kind
    || (under COMMIT_MODEL READ model kind
    || (under SESSION OPEN model kind || (under MPI_IO OPEN model kind || under MPI_IO SYNC model kind)))

-- The table's entry for a row of this kind under this model: whether the row publishes, and whether it refreshes.
abbrev pub table_entry : ℕ → ℕ → Marks
table_entry model kind = record { publishes = publishes model kind; refreshes = refreshes model kind }
