-- The models by their numbers.
use Rattle.std.specs.Prelude.{ℕ}
use Rattle.models.specs.declared.Model.{Model}
use Rattle.models.specs.declared.Model.TheVariants.{Posix, Commit, Session, MpiIo}

abbrev pub POSIX : ℕ
POSIX = 0

abbrev pub COMMIT_MODEL : ℕ
COMMIT_MODEL = 1

abbrev pub SESSION : ℕ
SESSION = 2

abbrev pub MPI_IO : ℕ
MPI_IO = 3

-- The number that stands for a model in a call.
abbrev pub model_number : Model → ℕ
model_number Posix = POSIX
model_number Commit = COMMIT_MODEL
model_number Session = SESSION
model_number MpiIo = MPI_IO
