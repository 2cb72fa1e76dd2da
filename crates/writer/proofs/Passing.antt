-- Rows asked one after the other.
use Rattle.std.proofs.Common.{ℕ, ◌+◌, ◌≤◌, Result, arith, ◌≡◌, refl, sym, ap, subst, ◌∙◌, cond, List, [], ◌∷◌, ◌++◌, length, length-append, replicate, ne_eqb}
use native.Mathlib.Decide.{ℕ_discrete}
use lib.Dec.{eqb}
use Rattle.messages.specs.Questions.{message_questions}
use Rattle.messages.specs.Table.{table_questions, table_after}
use Rattle.messages.proofs.Tables.{Tells, tells_none, tells-asks, tells-next}
use Rattle.rows.specs.declared.row.Row.{Row}
use Rattle.rows.specs.declared.refusal.Refusal.{Refusal}
use Rattle.rows.specs.Limits.{PROCESSES, MESSAGES}
use Rattle.rows.specs.Questions.{Question, first_no}
use Rattle.rows.specs.Refusals.{number_of, Asks}
use Rattle.rows.proofs.Asking.{From, first-no, rest-decides, none-appended, none-no, number-some}
use Rattle.trace.specs.Questions.{refused}
use Rattle.trace.proofs.Laws.{WellFormed}
use Rattle.writer.specs.Answers.{Passed, No}
use Rattle.writer.specs.Writing.{number_questions, written_questions, ask_rows, asked_of}
use Rattle.writer.proofs.Formed.{numbered, numbers-formed}

-- So many rows passed: the rows that are left decide, and the table tells of those that passed.
pub record Asking (P : ℕ) (all : List Row) (table : List ℕ) (taken left : List Row) (number : ℕ) : Type 0 where
  pub whole : ask_rows P taken left ≡ ask_rows P [] all
  pub tells : Tells table taken
  pub count : length taken ≡ number

-- Before the first row nothing was asked.
pub asking_none : (P : ℕ) {all left : List Row} {table : List ℕ} → table ≡ replicate MESSAGES 0 → left ≡ all → Asking P all table [] left 0
asking_none P e l = record { whole = ap (ask_rows P []) l; tells = subst (λ (t : List ℕ). Tells t []) (sym e) tells_none; count = refl }

module _ {P : ℕ} {all : List Row} {table : List ℕ} {taken left : List Row} {number : ℕ} (k : Asking P all table taken left number) where
  -- Behind the last row all passed.
  pub asking_end : left ≡ [] → Passed ≡ asked_of (ask_rows P [] all)
  unfolding ask_rows
  asking_end e = sym (ap asked_of (sym k.whole ∙ ap (ask_rows P taken) e))

  module _ {row : Row} {rest : List Row} (next : left ≡ row ∷ rest) where
    -- The next row's first No decides.
    split : ask_rows P [] all
        ≡ cond (eqb (first_no (written_questions P taken row)) 0) (ask_rows P (taken ++ (row ∷ [])) rest)
        (refused (first_no (written_questions P taken row)) (length taken + 1))
    unfolding ask_rows
    split = sym k.whole ∙ ap (ask_rows P taken) next

    -- The questions of the row by the table.
    abbrev asked : ℕ
    asked = first_no (number_questions P row ++ table_questions table row)

    module _ (few : P ≤ PROCESSES) where
      -- Where the numbers have no No, the table answers the questions of the row's message.
      told : first_no (number_questions P row) ≡ 0 → first_no (table_questions table row) ≡ first_no (message_questions taken row)
      told none =
          let formed : WellFormed P row = numbers-formed P row none in
          tells-asks k.tells row (omega (arith, formed.process)) formed.message

      -- The row is asked by the table as by the rows before it.
      same : first_no (written_questions P taken row) ≡ asked
      unfolding written_questions
      same = go (ℕ_discrete (first_no (number_questions P row)) 0)
        where
          go : Dec (first_no (number_questions P row) ≡ 0) → first_no (number_questions P row ++ message_questions taken row) ≡ asked
          go (yes y) =
              rest-decides (number_questions P row) (message_questions taken row) (numbered P row) y ∙ sym (told y)
              ∙ sym (rest-decides (number_questions P row) (table_questions table row) (numbered P row) y)
          go (no n) =
              first-no (number_questions P row) (message_questions taken row) n
              ∙ sym (first-no (number_questions P row) (table_questions table row) n)

      -- A first No refuses the row by its number.
      pub row-no : (e : Refusal) → number_of e ≡ asked → No (number_of e) (number + 1) ≡ asked_of (ask_rows P [] all)
      row-no e is =
          let low : 1 ≤ number_of e = number-some e in
          let some : number_of e ≡ 0 → ⊥ = λ z. omega arith in
          let refuses : cond (eqb (number_of e) 0) (ask_rows P (taken ++ (row ∷ [])) rest) (refused (number_of e) (length taken + 1)) ≡ refused (number_of e) (number + 1) =
          rw (ne_eqb (number_of e) 0 some, k.count) in
          let whole : ask_rows P [] all ≡ refused (number_of e) (number + 1) = split ∙ rw (same ∙ sym is) refuses in
          sym (ap asked_of whole)

      -- The row passed.
      pub row-yes : {table' : List ℕ} → table' ≡ table_after table row → asked ≡ 0 → Asking P all table' (taken ++ (row ∷ [])) rest (number + 1)
      unfolding written_questions
      row-yes {table'} t z =
          let parts = none-appended (number_questions P row) (table_questions table row) (numbered P row) z in
          let numbers : first_no (number_questions P row) ≡ 0 = none-no (number_questions P row) parts.0 in
          let formed : WellFormed P row = numbers-formed P row numbers in
          let message : first_no (message_questions taken row) ≡ 0 = sym (told numbers) ∙ parts.1 in
          record {
            whole = sym (split ∙ rw (same ∙ z));
            tells =
                rw t (tells-next k.tells row (omega (arith, formed.process)) formed.message message);
            count = omega (arith, length-append taken (row ∷ []), k.count);
          }

-- ---- The questions of a row, in two parts

module _ (qs rest : List Question) where
  -- A first No among the first questions is the first of all.
  pub first-refuses : (e : Refusal) → number_of e ≡ first_no qs → number_of e ≡ first_no (qs ++ rest)
  first-refuses e is =
      let low : 1 ≤ number_of e = number-some e in
      is ∙ sym (first-no qs rest (λ z. omega (arith, is)))

  -- Behind a first part without a No the rest decides.
  pub rest-asked : From 1 qs → first_no qs ≡ 0 → (answer : Result (Unit {0}) Refusal) → Asks (first_no rest) answer → Asks (first_no (qs ++ rest)) answer
  rest-asked from none answer a = rw (rest-decides qs rest from none) a
