-- The questions that the machine and the plain file share, by what the code tests.
use Rattle.std.proofs.Common.{ℕ, zero, suc, ◌+◌, ◌≤◌, ◌<◌, arith, ◌≡◌, refl, sym, ◌∙◌, Bool, true, false, cond, not, ◌&&◌, ◌||◌, List, le-leb, leb-true, lt-ltb, le-ltb, ltb-true, ne_eqb}
use mathlib.Core.Bool.{and-true}
use lib.Dec.{leb, ltb, eqb}
use Rattle.rows.specs.Limits.{ROWS, OFFSET_MAX}
use Rattle.rows.specs.Kinds.{READ, WRITE, COMMIT, SEND}
use Rattle.rows.specs.declared.row.Row.{Row}
use Rattle.rows.specs.Questions.{first_no}
use Rattle.extents_meaning.specs.Runs.{Run}
use Rattle.machine_meaning.specs.Layers.{of_file}
use Rattle.machine_meaning.specs.States.{Header}
use Rattle.machine_meaning.specs.Steps.{uses_range, row_asked, room_asked}
use Rattle.rows.proofs.Asking.{From, AllYes, all_yes}
use Rattle.rows.proofs.Bools.{and_out}
use Rattle.machine_state.specs.Answers.{file_asked, range_asked}

-- Reads and writes use offset and length.
uses : (r : Row) → r.kind ≤ 1 → uses_range r ≡ true
uses r h = go r.kind h
  where
    go : (k : ℕ) → k ≤ 1 → eqb k READ || eqb k WRITE ≡ true
    go zero l = refl
    go (suc zero) l = refl
    go (suc (suc k)) l = absurd (omega arith)

-- Other rows do not use offset and length.
uses-not : (r : Row) → 1 < r.kind → uses_range r ≡ false
uses-not r h = λ i. ne_eqb r.kind READ (λ e. omega arith) i || ne_eqb r.kind WRITE (λ e. omega arith) i

-- ---- Questions have numbers

-- Questions 16 and 17 are not number 0.
pub room-named : (fit : Bool) (pieces : List Run) (room : ℕ) → From 1 (room_asked fit pieces room)
room-named fit pieces room = (omega arith, (omega arith, tt))

-- ---- 15, 14, 10 and 11, by the fields that a kind uses

module _ (h : Header) (r : Row) (number : ℕ) where
  -- The questions one by one.
  asks : first_no (row_asked h r number) ≡
      cond (of_file h.file r)
      (cond (leb 1 number && leb number ROWS)
      (cond (ltb r.process h.processes && (not (uses_range r) || (leb r.offset OFFSET_MAX && leb r.length OFFSET_MAX)))
      (cond (not (uses_range r) || leb (r.offset + r.length) OFFSET_MAX) 0 11) 10) 14) 15
  unfolding row_asked first_no
  asks = refl

  -- A send, a recv, a wait, a barrier row or a number that is no kind names no file: 15.
  pub asks_none : SEND ≤ r.kind → 15 ≡ first_no (row_asked h r number)
  asks_none l = let past : of_file h.file r ≡ false = λ i. le-ltb r.kind SEND l i && eqb r.file h.file in sym (asks ∙ rw past refl)

  -- A row that uses process and file.
  pub asks-file : COMMIT ≤ r.kind → r.kind < SEND → first_no (file_asked h r number) ≡ first_no (row_asked h r number)
  unfolding first_no
  asks-file l u =
      let decides : of_file h.file r ≡ eqb r.file h.file = λ i. lt-ltb r.kind SEND u i && eqb r.file h.file in
      sym (asks ∙ rw (decides, uses-not r l, and-true))

  -- A row that uses offset and length too, which are numbers of 32 bits.
  pub asks-range : r.kind < COMMIT → r.offset ≤ OFFSET_MAX → r.length ≤ OFFSET_MAX →
      first_no (range_asked h r number) ≡ first_no (row_asked h r number)
  unfolding first_no
  asks-range u o l =
      let decides : of_file h.file r ≡ eqb r.file h.file = λ i. lt-ltb r.kind SEND (omega arith) i && eqb r.file h.file in
      sym (asks ∙ rw (decides, uses r (omega arith), le-leb r.offset OFFSET_MAX o, le-leb r.length OFFSET_MAX l, and-true))

-- ---- A row that passes

module _ (h : Header) (r : Row) (number : ℕ) where
  -- Questions 15, 14, 10 and 11 are not number 0.
  pub row_named : From 1 (row_asked h r number)
  unfolding row_asked
  row_named = (omega arith, (omega arith, (omega arith, (omega arith, tt))))

  -- If the first No of the row is 0, every answer is Yes.
  pub asked-yes : first_no (row_asked h r number) ≡ 0 → AllYes (row_asked h r number)
  asked-yes = all_yes (row_asked h r number) row_named

  module _ (all : AllYes (row_asked h r number)) where
    -- The number of a row that passes is a row number.
    pub asked-number : (1 ≤ number) × (number ≤ ROWS)
    unfolding row_asked
    asked-number = let b = and_out (leb 1 number) _ all.1.0 in (leb-true _ _ b.0, leb-true _ _ b.1)

    -- The process of a row that passes is below the limit.
    pub asked-process : r.process < h.processes
    unfolding row_asked
    asked-process = ltb-true _ _ (and_out (ltb r.process h.processes) _ all.1.1.0).0

    -- The range of a read or a write that passes ends within files.
    pub asked-range : r.kind ≤ 1 → (r.offset ≤ OFFSET_MAX) × (r.length ≤ OFFSET_MAX) × (r.offset + r.length ≤ OFFSET_MAX)
    unfolding row_asked
    asked-range range =
        let u = uses r range in
        let bounds = and_out (leb r.offset OFFSET_MAX) _ (rw u at (and_out (ltb r.process h.processes) _ all.1.1.0).1) in
        (leb-true _ _ bounds.0, leb-true _ _ bounds.1, leb-true _ _ (rw u at all.1.1.1.0))
