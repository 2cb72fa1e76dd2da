-- What listing every race asks, answers and leaves.
use Rattle.std.specs.Prelude.{ℕ, suc, ◌+◌, ◌*◌, Bool, cond, List, [], ◌∷◌, ◌++◌, length, drop, set, leb, eqb, Result, Ok, Err}
use Rattle.rows.specs.Refusals.{LIST_SPACE, number_of}
use Rattle.rows.specs.declared.refusal.Refused as refused
use Rattle.rows.specs.Rows.{rows_in}
use Rattle.rows.specs.Questions.{Question}
use Rattle.races_meaning.specs.Lists.{RowPair, race_pairs, pair_numbers}
use Rattle.races.specs.Answers.{judge_questions}

-- 23. Is the list long enough for every pair, two numbers each?
abbrev pub has_room : List RowPair → ℕ → Bool
has_room pairs listLength = leb (2 * length pairs) listLength

-- The questions of a verdict, and 23 last.
unfoldable pub list_questions : ℕ → ℕ → ℕ → List ℕ → ℕ → ℕ → List Question
list_questions n processLimit model xs countsLength listLength =
    judge_questions n processLimit model xs countsLength
    ++ (record { number = LIST_SPACE; yes = has_room (race_pairs (rows_in n xs) model) listLength } ∷ [])

-- What listing every race comes to: the number of pairs, or the number and place of a refusal; the place is 0 where the refusal names no record.
pub data Listed : Type 0 where
  Pairs : (count : ℕ) → Listed
  Refused : (number place : ℕ) → Listed

-- What the call's answer says.
abbrev pub told_listed : Result ℕ refused.Refused → Listed
told_listed (Ok count) = Pairs count
told_listed (Err e) = Refused (number_of e.refusal) e.place

-- The number of pairs, or the first No.
abbrev pub listed_of : ℕ → List RowPair → Listed
listed_of first pairs = cond (eqb first 0) (Pairs (length pairs)) (Refused first 0)

-- The pairs, then the list's own numbers; the list as it was where there is a No.
abbrev pub list_left : ℕ → List RowPair → List ℕ → List ℕ
list_left first pairs list = cond (eqb first 0) (pair_numbers pairs ++ drop (2 * length pairs) list) list

-- ---- Once all but 23 is asked

-- The number of pairs, or 23.
abbrev pub room_answer : List RowPair → ℕ → Listed
room_answer pairs listLength = cond (has_room pairs listLength) (Pairs (length pairs)) (Refused LIST_SPACE 0)

-- The pairs, then the list's own numbers; the list as it was where it has no room for the pairs.
abbrev pub room_left : List RowPair → List ℕ → List ℕ
room_left pairs list = cond (has_room pairs (length list)) (pair_numbers pairs ++ drop (2 * length pairs) list) list

-- ---- How the list is written

-- A list with a pair at the place of pair k, where it has room there.
unfoldable pub with_pair : ℕ → ℕ → ℕ → List ℕ → List ℕ
with_pair k earlier later list = cond (leb (2 * k + 2) (length list)) (set (set list (2 * k) earlier) (2 * k + 1) later) list

-- A list with pairs from the place of pair k on, as long as it has room.
unfoldable pub with_pairs : ℕ → List RowPair → List ℕ → List ℕ
with_pairs k [] list = list
with_pairs k (p ∷ pairs) list = with_pairs (suc k) pairs (with_pair k p.earlier p.later list)
