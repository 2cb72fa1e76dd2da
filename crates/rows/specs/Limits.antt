-- The limits of the product and the places of a row's numbers, as src/lib.rt has them.
use Rattle.std.specs.Prelude.{ℕ}

-- Models are numbered from 0.
abbrev pub MODELS : ℕ
MODELS = 4

-- The largest process limit.
abbrev pub PROCESSES : ℕ
PROCESSES = 48

-- The largest row limit.
abbrev pub ROWS : ℕ
ROWS = 4096

-- Files are numbered from 0.
abbrev pub FILES : ℕ
FILES = 64

-- Messages are numbered from 0.
abbrev pub MESSAGES : ℕ
MESSAGES = 65536

-- The largest offset, the largest length and the largest end of a range.
abbrev pub OFFSET_MAX : ℕ
OFFSET_MAX = 4294967295

-- The fields of a record, and the numbers of a row.
abbrev pub FIELDS : ℕ
FIELDS = 6

-- ---- The numbers of a row by their places in the slice, from the row's first

abbrev pub PROCESS_AT : ℕ
PROCESS_AT = 0

abbrev pub KIND_AT : ℕ
KIND_AT = 1

abbrev pub FILE_AT : ℕ
FILE_AT = 2

abbrev pub OFFSET_AT : ℕ
OFFSET_AT = 3

abbrev pub LENGTH_AT : ℕ
LENGTH_AT = 4

abbrev pub MESSAGE_AT : ℕ
MESSAGE_AT = 5
