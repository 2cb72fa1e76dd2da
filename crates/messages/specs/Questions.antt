-- The questions from 12 on, which are put to a row behind the rows before it: whether its message is in order, and whether a wait is.
use Rattle.std.specs.Prelude.{ℕ, Bool, true, cond, not, ◌&&◌, List, [], ◌∷◌, eqb}
use Rattle.rows.specs.Kinds.{SEND, RECV, WAIT}
use Rattle.rows.specs.Questions.{Question}
use Rattle.rows.specs.Refusals.{MESSAGE_ORDER, WAIT_ORDER}
use Rattle.rows.specs.declared.row.Row.{Row}
pub use Rattle.rows.specs.Tests.{carries, carries_by}
unfoldable pub use Rattle.rows.specs.Tests.{any}

-- Some row sends the message.
abbrev pub sent : ℕ → List Row → Bool
sent message rows = any (carries SEND message) rows

-- Some row of the process sends the message.
abbrev pub sent_by : ℕ → ℕ → List Row → Bool
sent_by process message rows = any (carries_by process SEND message) rows

-- Some row posts a receive of the message.
abbrev pub posted : ℕ → List Row → Bool
posted message rows = any (carries RECV message) rows

-- Some row of the process posts a receive of the message.
abbrev pub posted_by : ℕ → ℕ → List Row → Bool
posted_by process message rows = any (carries_by process RECV message) rows

-- Some row waits for the message.
abbrev pub waited_for : ℕ → List Row → Bool
waited_for message rows = any (carries WAIT message) rows

-- 12. Is a send's message unsent so far, and any receive of it posted before another process's? Was a recv's message not posted before, and not
-- sent by this process?
unfoldable pub message_in_order : List Row → Row → Bool
message_in_order earlier r =
    cond (eqb r.kind SEND) (not (sent r.message earlier) && not (posted_by r.process r.message earlier))
    (cond (eqb r.kind RECV) (not (posted r.message earlier) && not (sent_by r.process r.message earlier)) true)

-- 21. Was a wait's message posted earlier by this process, sent earlier, and not yet waited for?
unfoldable pub wait_in_order : List Row → Row → Bool
wait_in_order earlier r =
    cond (eqb r.kind WAIT)
    (posted_by r.process r.message earlier && (sent r.message earlier && not (waited_for r.message earlier))) true

-- The questions from 12 on of a row behind the rows before it.
unfoldable pub message_questions : List Row → Row → List Question
message_questions earlier r =
    record { number = MESSAGE_ORDER; yes = message_in_order earlier r } ∷ (record { number = WAIT_ORDER; yes = wait_in_order earlier r } ∷ [])
