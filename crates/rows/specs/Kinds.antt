-- The kinds of rows and their numbers.
use Rattle.std.specs.Prelude.{ℕ, ◌≡◌, ◌≤◌, Result, MatchResult}
use Rattle.rows.specs.declared.kind.Kind.{Kind}
use Rattle.rows.specs.declared.kind.Kind.TheVariants.{Read, Write, Commit, Open, Close, Sync, Send, Recv, Wait, Barrier}
use Rattle.rows.specs.declared.kind.UnknownKind.{UnknownKind}

abbrev pub READ : ℕ
READ = 0

abbrev pub WRITE : ℕ
WRITE = 1

abbrev pub COMMIT : ℕ
COMMIT = 2

abbrev pub OPEN : ℕ
OPEN = 3

abbrev pub CLOSE : ℕ
CLOSE = 4

abbrev pub SYNC : ℕ
SYNC = 5

abbrev pub SEND : ℕ
SEND = 6

-- A process posts a receive. The receive is over at its wait.
abbrev pub RECV : ℕ
RECV = 7

abbrev pub WAIT : ℕ
WAIT = 8

-- A process arrives at a barrier. Its message field holds the barrier's number.
abbrev pub BARRIER : ℕ
BARRIER = 9

-- The kind of the row at which a message arrives: the order runs from the send to this row.
abbrev pub ARRIVAL : ℕ
ARRIVAL = WAIT

-- How many kinds there are.
abbrev pub KINDS : ℕ
KINDS = 10

-- The number that stands for a kind in a row.
abbrev pub kind_number : Kind → ℕ
kind_number Read = READ
kind_number Write = WRITE
kind_number Commit = COMMIT
kind_number Open = OPEN
kind_number Close = CLOSE
kind_number Sync = SYNC
kind_number Send = SEND
kind_number Recv = RECV
kind_number Wait = WAIT
kind_number Barrier = BARRIER

-- The kind with a number, or the number that is no kind's.
abbrev pub Decodes : ℕ → Result Kind UnknownKind → Type 0
Decodes number answer = MatchResult answer (λ kind. kind_number kind ≡ number) (λ unknown. (unknown.0 ≡ number) × (KINDS ≤ number))
