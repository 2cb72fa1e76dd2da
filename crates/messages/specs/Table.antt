-- A table by message: one entry of 16 bits for each message, with what the rows so far did with it, and the questions from 12 on by the table.
use Rattle.std.specs.Prelude.{ℕ, ◌+◌, ◌*◌, ◌/◌, ◌%◌, Bool, true, cond, not, ◌&&◌, List, [], ◌∷◌, get_or, set, eqb}
use Rattle.rows.specs.Kinds.{SEND, RECV, WAIT}
use Rattle.rows.specs.Questions.{Question, first_no}
use Rattle.rows.specs.Refusals.{MESSAGE_ORDER, WAIT_ORDER}
use Rattle.rows.specs.declared.row.Row.{Row}

-- ---- An entry

-- How many values six bits have. No process limit is larger.
abbrev pub SIX_BITS : ℕ
SIX_BITS = 64

-- The lowest six bits hold the process that sent the message.
abbrev pub sender_in : ℕ → ℕ
sender_in entry = entry % SIX_BITS

-- The next six hold the process that posted its receive.
abbrev pub poster_in : ℕ → ℕ
poster_in entry = entry / SIX_BITS % SIX_BITS

-- The flag of a message that was sent.
abbrev pub SENT : ℕ
SENT = 4096

-- The flag of a message whose receive was posted.
abbrev pub POSTED : ℕ
POSTED = 8192

-- The flag of a message that was waited for. The bit above it is free.
abbrev pub WAITED : ℕ
WAITED = 16384

-- The message was sent.
abbrev pub is_sent : ℕ → Bool
is_sent entry = eqb (entry / SENT % 2) 1

-- The message's receive was posted.
abbrev pub is_posted : ℕ → Bool
is_posted entry = eqb (entry / POSTED % 2) 1

-- The message was waited for.
abbrev pub is_waited : ℕ → Bool
is_waited entry = eqb (entry / WAITED % 2) 1

-- The process sent the message.
abbrev pub is_sent_by : ℕ → ℕ → Bool
is_sent_by process entry = is_sent entry && eqb (sender_in entry) process

-- The process posted the message's receive.
abbrev pub is_posted_by : ℕ → ℕ → Bool
is_posted_by process entry = is_posted entry && eqb (poster_in entry) process

-- The entry with a send by a process noted; every other bit stays.
abbrev pub with_send : ℕ → ℕ → ℕ
with_send process entry = entry / POSTED * POSTED + SENT + entry / SIX_BITS % SIX_BITS * SIX_BITS + process % SIX_BITS

-- The entry with a receive posted by a process noted; every other bit stays.
abbrev pub with_post : ℕ → ℕ → ℕ
with_post process entry =
    entry / WAITED * WAITED + POSTED + entry / SENT % 2 * SENT + process % SIX_BITS * SIX_BITS + entry % SIX_BITS

-- The entry with a wait noted; every other bit stays.
abbrev pub with_wait : ℕ → ℕ
with_wait entry = entry / (2 * WAITED) * (2 * WAITED) + WAITED + entry % WAITED

-- ---- A row put to the table

-- The entry of the row's message. A message past the table has none, and 0 stands for it.
abbrev pub entry_for : List ℕ → Row → ℕ
entry_for table r = get_or table r.message 0

-- 12, by the entry of the row's message.
unfoldable pub entry_in_order : ℕ → Row → Bool
entry_in_order entry r =
    cond (eqb r.kind SEND) (not (is_sent entry) && not (is_posted_by r.process entry))
    (cond (eqb r.kind RECV) (not (is_posted entry) && not (is_sent_by r.process entry)) true)

-- 21, by the entry of the row's message.
unfoldable pub entry_wait_in_order : ℕ → Row → Bool
entry_wait_in_order entry r = cond (eqb r.kind WAIT) (is_posted_by r.process entry && (is_sent entry && not (is_waited entry))) true

-- The questions from 12 on, by the table.
unfoldable pub table_questions : List ℕ → Row → List Question
table_questions table r =
    record { number = MESSAGE_ORDER; yes = entry_in_order (entry_for table r) r }
    ∷ (record { number = WAIT_ORDER; yes = entry_wait_in_order (entry_for table r) r } ∷ [])

-- The table with a row noted.
unfoldable pub noted_row : List ℕ → Row → List ℕ
noted_row table r =
    cond (eqb r.kind SEND) (set table r.message (with_send r.process (entry_for table r)))
    (cond (eqb r.kind RECV) (set table r.message (with_post r.process (entry_for table r)))
    (cond (eqb r.kind WAIT) (set table r.message (with_wait (entry_for table r))) table))

-- The table after a row was put to it: the row is noted where every answer is Yes, and else nothing changes.
unfoldable pub table_after : List ℕ → Row → List ℕ
table_after table r = cond (eqb (first_no (table_questions table r)) 0) (noted_row table r) table
