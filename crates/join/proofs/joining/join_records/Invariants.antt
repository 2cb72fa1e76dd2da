-- `join::joining::join_records` meets its contract.
use Rattle.std.proofs.Common.{◌-◌, ◌≡◌, length}
use Rattle.join.specs.Answers.{told_next}
use Rattle.join.proofs.Going.{Going, outcome, both_of}
use Rattle.join.proofs.joining.join_records.Given as goal

-- The outcome is that of the rest of both files behind the n entries taken so far, the slices hold their rows and places, and the tables tell of
-- them.
abbrev pub invariant-loop-choice : goal.invariant-loop-choice
invariant-loop-choice l =
    Going l.call.row_limit l.call.process_limit l.first l.second (both_of l.call.first_header l.call.second_header l.first l.second)
    (outcome l.call.row_limit l.call.first_header l.call.second_header l.first l.second) l.fn.rows l.fn.parts (told_next l.a) (told_next l.b) l.n l.rows l.parts
    l.tables.messages.entries l.tables.barriers.stands l.tables.barriers.arrivals l.tables.barriers.processes
    × (length l.rows ≡ length l.fn.rows) × (length l.parts ≡ length l.fn.parts)

abbrev pub decreases-loop-choice : goal.decreases-loop-choice
decreases-loop-choice l = l.call.row_limit - l.n
