-- The questions 1 to 3 of a join, case by case.
use Rattle.std.proofs.Common.{ℕ, ◌*◌, ◌<◌, ◌≤◌, arith, ◌≡◌, refl, sym, ap, ◌∙◌, Bool, true, false, cond, ◌&&◌, le-leb}
use mathlib.Core.Bool.{and-false, and-true}
use lib.Dec.{leb}
use borrow.Author.Tests.{lt-leb}
use Rattle.rows.specs.Questions.{first_no, long_enough}
use Rattle.rows.specs.Refusals.{SHORT_SLICE, HEADER_WORD}
use Rattle.trace.specs.Questions.{call_questions, in_limits, header_word}
use Rattle.join_meaning.specs.Joining.{join_questions, PART}
use Rattle.join_meaning.proofs.Accepted.{allowed}
use Rattle.join.specs.declared.JoinCall.{JoinCall}
use Rattle.join.specs.Leaving.{Passed}

module _ (call : JoinCall) (rowsLength countsLength partsLength : ℕ) where
  -- The questions of the join.
  abbrev no_of : ℕ
  no_of =
      first_no (join_questions call.first_header call.second_header call.model call.row_limit call.process_limit rowsLength countsLength partsLength)

  -- The questions of a trace with the first file's header word.
  abbrev first_of : ℕ
  first_of = first_no (call_questions call.first_header call.model call.row_limit call.process_limit rowsLength countsLength)

  -- The number of a No to the questions 1 to 3 is at most 3.
  pub first_three : {k : ℕ} → k ≡ no_of → k ≤ 3
  unfolding join_questions first_no
  first_three {k} e = go (long_enough call.row_limit call.process_limit rowsLength countsLength && leb (PART * call.row_limit) partsLength)
      (in_limits call.model call.row_limit call.process_limit) (header_word call.first_header && header_word call.second_header) e
    where
      go : (x y z : Bool) → k ≡ cond x (cond y (cond z 0 3) 2) 1 → k ≤ 3
      go true true true q = omega arith
      go true true false q = omega arith
      go true false z q = omega arith
      go false y z q = omega arith

  -- A slice of parts that is too short gets 1.
  pub few-parts : partsLength < call.row_limit * 3 → SHORT_SLICE ≡ no_of
  unfolding join_questions first_no
  few-parts h =
      let short : partsLength < PART * call.row_limit = omega arith in
      rw (lt-leb (PART * call.row_limit) partsLength short, and-false (long_enough call.row_limit call.process_limit rowsLength countsLength))

  module _ (h : call.row_limit * 3 ≤ partsLength) where
    -- The slice of parts is long enough.
    room : leb (PART * call.row_limit) partsLength ≡ true
    room = le-leb (PART * call.row_limit) partsLength (omega arith)

    -- The questions of the join by the answers to those of the trace.
    by-answers : no_of ≡ cond (long_enough call.row_limit call.process_limit rowsLength countsLength)
        (cond (in_limits call.model call.row_limit call.process_limit) (cond (header_word call.first_header && header_word call.second_header) 0 3) 2) 1
    unfolding join_questions first_no
    by-answers = rw (room, and-true (long_enough call.row_limit call.process_limit rowsLength countsLength))

    -- A No to the questions of the trace is the first No.
    pub call-no : {k : ℕ} → k ≡ first_of → (k ≡ 0 → ⊥) → k ≡ no_of
    unfolding call_questions first_no
    call-no {k} e n = go (long_enough call.row_limit call.process_limit rowsLength countsLength)
        (in_limits call.model call.row_limit call.process_limit) (header_word call.first_header) e ∙ sym by-answers
      where
        go : (x y z : Bool) → k ≡ cond x (cond y (cond z 0 3) 2) 1 → k ≡ cond x (cond y (cond (z && header_word call.second_header) 0 3) 2) 1
        go true true true q = absurd (n q)
        go true true false q = q
        go true false z q = q
        go false y z q = q

    -- Where the trace's questions have Yes, the second header word decides.
    second-decides : first_of ≡ 0 → no_of ≡ cond (header_word call.second_header) 0 3
    unfolding call_questions first_no
    second-decides e = by-answers ∙ go (long_enough call.row_limit call.process_limit rowsLength countsLength)
        (in_limits call.model call.row_limit call.process_limit) (header_word call.first_header) e
      where
        go : (x y z : Bool) → ◌≡◌ {A = ℕ} (cond x (cond y (cond z 0 3) 2) 1) 0 →
            ◌≡◌ {A = ℕ} (cond x (cond y (cond (z && header_word call.second_header) 0 3) 2) 1) (cond (header_word call.second_header) 0 3)
        go true true true q = refl
        go true true false q = absurd (omega arith)
        go true false z q = absurd (omega arith)
        go false y z q = absurd (omega arith)

    -- A second header word above 1 gets 3.
    pub second-bad : first_of ≡ 0 → 1 < call.second_header → HEADER_WORD ≡ no_of
    second-bad e w = sym (second-decides e ∙ ap (λ (b : Bool). cond b 0 3) (lt-leb call.second_header 1 w))

    -- Where it is 0 or 1, every answer is Yes.
    pub second-good : first_of ≡ 0 → call.second_header ≤ 1 → 0 ≡ no_of
    second-good e w = sym (second-decides e ∙ ap (λ (b : Bool). cond b 0 3) (le-leb call.second_header 1 w))

  -- A call that passes has its limits, its slices and its header words within their ranges.
  pub join-passed : no_of ≡ 0 → Passed call rowsLength partsLength
  join-passed e =
      let a = allowed call.first_header call.second_header call.model call.row_limit call.process_limit rowsLength countsLength partsLength e in
      let l = a.one-trace in
      record {
        fits = record { few-rows = l.few-rows; few-processes = l.few-processes; rows_have_room = l.rows_have_room; parts_fit = a.parts_fit };
        some-rows = l.some-rows;
        some-processes = l.some-processes;
        first_word = l.header-word;
        second_word = a.second_word;
      }
