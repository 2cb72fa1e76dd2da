-- What the program prints: CSV with CR LF, a line for each model, or one line for a refusal.
use Rattle.std.specs.Prelude.{ℕ, ◌+◌, ◌*◌, cond, List, [], ◌∷◌, ◌++◌, length, drop, leb}
use Rattle.models.specs.declared.Model.{Model}
use Rattle.models.specs.declared.Model.TheVariants.{Posix, Commit, Session, MpiIo}
use Rattle.models.specs.Models.{POSIX, COMMIT_MODEL, SESSION, MPI_IO, model_number}
use Rattle.rows.specs.declared.row.Row.{Row}
use Rattle.print.specs.Decimal.{decimal_of}
use Rattle.trace.specs.Questions.{Outcome, refused, accepted, check_trace}
use Rattle.races_meaning.specs.Races.{Verdict, free, racing, verdict_of}

-- ---- Words

-- CR LF
abbrev pub line_end : List ℕ
line_end = 13 ∷ 10 ∷ []

-- model,verdict,earlier,later
abbrev pub heading : List ℕ
heading =
    (109 ∷ 111 ∷ 100 ∷ 101 ∷ 108 ∷ 44 ∷ [])
    ++ ((118 ∷ 101 ∷ 114 ∷ 100 ∷ 105 ∷ 99 ∷ 116 ∷ 44 ∷ [])
    ++ ((101 ∷ 97 ∷ 114 ∷ 108 ∷ 105 ∷ 101 ∷ 114 ∷ 44 ∷ []) ++ ((108 ∷ 97 ∷ 116 ∷ 101 ∷ 114 ∷ []) ++ line_end)))

-- posix
abbrev pub posix : List ℕ
posix = 112 ∷ 111 ∷ 115 ∷ 105 ∷ 120 ∷ []

-- commit
abbrev pub commit : List ℕ
commit = 99 ∷ 111 ∷ 109 ∷ 109 ∷ 105 ∷ 116 ∷ []

-- session
abbrev pub session : List ℕ
session = 115 ∷ 101 ∷ 115 ∷ 115 ∷ 105 ∷ 111 ∷ 110 ∷ []

-- mpiio
abbrev pub mpiio : List ℕ
mpiio = 109 ∷ 112 ∷ 105 ∷ 105 ∷ 111 ∷ []

-- ,free,,
abbrev pub free_words : List ℕ
free_words = 44 ∷ 102 ∷ 114 ∷ 101 ∷ 101 ∷ 44 ∷ 44 ∷ []

-- ,race,
abbrev pub race_word : List ℕ
race_word = 44 ∷ 114 ∷ 97 ∷ 99 ∷ 101 ∷ 44 ∷ []

-- refused,
abbrev pub refused_word : List ℕ
refused_word = 114 ∷ 101 ∷ 102 ∷ 117 ∷ 115 ∷ 101 ∷ 100 ∷ 44 ∷ []

-- ---- Lines

-- two numbers and the end of a line
abbrev pub pair : ℕ → ℕ → List ℕ
pair a b = decimal_of a ++ ((44 ∷ []) ++ (decimal_of b ++ line_end))

-- a verdict behind the model's name: the word, the earlier and the later row
abbrev pub verdict_words : Verdict → List ℕ
verdict_words free = free_words ++ line_end
verdict_words (racing earlier later) = race_word ++ pair earlier later

-- a model's line
abbrev pub model_line : List ℕ → Verdict → List ℕ
model_line name v = name ++ verdict_words v

-- the word that stands for a model
abbrev pub model_word : Model → List ℕ
model_word Posix = posix
model_word Commit = commit
model_word Session = session
model_word MpiIo = mpiio

-- the line of a model for these rows
abbrev pub line_of : List Row → Model → List ℕ
line_of rows model = model_line (model_word model) (verdict_of rows (model_number model))

-- a line for each model, or the refusal's line
unfoldable pub report_of : Outcome → List ℕ
report_of (refused number place) = refused_word ++ pair number place
report_of (accepted rows) =
    heading
    ++ (model_line posix (verdict_of rows POSIX)
    ++ (model_line commit (verdict_of rows COMMIT_MODEL)
    ++ (model_line session (verdict_of rows SESSION) ++ model_line mpiio (verdict_of rows MPI_IO))))

-- ---- The program's limits

-- the bytes of the longest trace that the program takes
abbrev pub BYTES : ℕ
BYTES = 8192

-- The bytes of the program's buffer: one more than the limit, so that the program sees whether a byte stands behind the limit.
abbrev pub INPUT : ℕ
INPUT = BYTES + 1

-- the rows of the largest trace that the program takes
abbrev pub REPORT_ROWS : ℕ
REPORT_ROWS = 128

-- the processes of the largest trace that the program takes
abbrev pub REPORT_PROCESSES : ℕ
REPORT_PROCESSES = 8

-- a slice of this length has room for every report
abbrev pub ROOM : ℕ
ROOM = 256

-- the outcome of a text with header within the program's limits
unfoldable pub read_by_program : List ℕ → Outcome
read_by_program text = check_trace text 1 POSIX REPORT_ROWS REPORT_PROCESSES BYTES (6 * REPORT_ROWS) (REPORT_ROWS * REPORT_PROCESSES)

-- the report's length, and 0 where the slice has no room for every report
unfoldable pub report_length : List ℕ → List ℕ → ℕ
report_length text out = cond (leb ROOM (length out)) (length (report_of (read_by_program text))) 0

-- the report at the front of the slice, whose other bytes stay
unfoldable pub report_in : List ℕ → List ℕ → List ℕ
report_in text out =
    cond (leb ROOM (length out)) (report_of (read_by_program text) ++ drop (length (report_of (read_by_program text))) out) out
