-- Whole runs of the layered and the plain file, and what it means that they are equal.
use Rattle.std.specs.Prelude.{ℕ, suc, ◌+◌, ◌*◌, ◌≤◌, ◌<◌, ◌≡◌, ◌↔◌, cond, List, [], ◌∷◌, ◌++◌, length, eqb}
use Rattle.rows.specs.Limits.{ROWS, FILES, OFFSET_MAX}
use Rattle.rows.specs.Kinds.{WRITE, COMMIT}
use Rattle.models.specs.Models.{COMMIT_MODEL}
use Rattle.rows.specs.declared.row.Row.{Row}
use Rattle.rows.specs.Questions.{first_no}
use Rattle.rows.specs.Rows.{row_at}
use Rattle.extents_meaning.specs.Cells.{number_in}
use Rattle.machine_meaning.specs.Layers.{of_file}
use Rattle.machine_meaning.specs.States.{Header, maps_length, layers_in, plain_in}
use Rattle.machine_meaning.specs.Steps.{refusing, Step, step_of, plain_step_of, making_questions, plain_making_questions, made_to}
use Rattle.consistency.specs.Orders.{Allowed}
use Rattle.rows.specs.Lists.{In, Once}

-- ---- What is put to both files

-- A row under its number.
pub record NumberedRow : Type 0 where
  pub row : Row
  pub number : ℕ

-- The file's rows in this order, each under its number in the trace; rows that name another file or none only bind the order.
unfoldable pub rows_for : List Row → ℕ → List ℕ → List NumberedRow
rows_for rows file [] = []
rows_for rows file (k ∷ order) =
    cond (of_file file (row_at rows k)) (record { row = row_at rows k; number = suc k } ∷ rows_for rows file order) (rows_for rows file order)

-- A row of a kind of the file by a process, under any number.
pub record End : Type 0 where
  pub process : ℕ
  pub number : ℕ

unfoldable pub end_rows : ℕ → ℕ → List End → List NumberedRow
end_rows kind file [] = []
end_rows kind file (e ∷ ends) =
    record { row = record { process = e.process; kind = kind; file = file; offset = 0; length = 0; message = 0 }; number = e.number }
    ∷ end_rows kind file ends

-- One by each process below the limit, in any sequence, under row numbers 1 to 4,096.
unfoldable pub processes_of : List End → List ℕ
processes_of [] = []
processes_of (e ∷ ends) = e.process ∷ processes_of ends

abbrev pub NumbersIn : List End → Type 0
NumbersIn [] = Unit {0}
NumbersIn (e ∷ ends) = (1 ≤ e.number) × (e.number ≤ ROWS) × NumbersIn ends

pub record ByAll (processes : ℕ) (ends : List End) : Type 0 where
  pub every : (p : ℕ) → (p < processes) ↔ In p (processes_of ends)
  pub once : Once (processes_of ends)
  pub numbered : NumbersIn ends

-- ---- Runs: each row meets the state the row before it left

-- Neither refuses, and both answer the same: for a read its count and pieces.
pub record Same (s t : Step) : Type 0 where
  pub accepted : (number : ℕ) → s.answer ≡ refusing number → ⊥
  pub plainly_accepted : (number : ℕ) → t.answer ≡ refusing number → ⊥
  pub answers : s.answer ≡ t.answer
  pub pieces : s.out ≡ t.out

module _ (h : Header) (out : List ℕ) where
  -- Every row gets the same from both, from the slices of the machine and of the plain file on.
  abbrev pub Agree : List NumberedRow → List ℕ → List ℕ → Type 0
  Agree [] xs ys = Unit {0}
  Agree (x ∷ l) xs ys =
      Same (step_of h xs x.row x.number out) (plain_step_of h ys x.row x.number out)
      × Agree l (step_of h xs x.row x.number out).maps (plain_step_of h ys x.row x.number out).maps

  -- The slices after all rows.
  unfoldable pub run_from : List NumberedRow → List ℕ → List ℕ
  run_from [] xs = xs
  run_from (x ∷ l) xs = run_from l (step_of h xs x.row x.number out).maps

  unfoldable pub plain_run_from : List NumberedRow → List ℕ → List ℕ
  plain_run_from [] ys = ys
  plain_run_from (x ∷ l) ys = plain_run_from l (plain_step_of h ys x.row x.number out).maps

-- The published file has the plain file's row number at every byte.
abbrev pub Level : Header → List ℕ → List ℕ → Type 0
Level h xs ys = (b : ℕ) → b < OFFSET_MAX → number_in ((layers_in h xs).shared b) ≡ number_in (plain_in h ys b)

-- ---- Equal files

-- How many rows write.
unfoldable pub writes_in : List Row → ℕ
writes_in [] = 0
writes_in (r ∷ rows) = cond (eqb r.kind WRITE) 1 0 + writes_in rows

-- Maps of this space have space for twice the trace's writes.
abbrev pub SpaceFor : List Row → ℕ → Type 0
SpaceFor rows space = 2 * writes_in rows ≤ space

-- A header by its numbers.
abbrev pub header_for : ℕ → ℕ → ℕ → ℕ → Header
header_for model processes space file = record { model = model; processes = processes; file = file; space = space }

-- Slices that hold the maps of both files, and an answer slice with room for one piece more than twice the trace's writes.
pub record Lent (h : Header) (rows : List Row) (xs ys out : List ℕ) : Type 0 where
  pub for_machine : maps_length h ≤ length xs
  pub for_plain : 4 * h.space ≤ length ys
  pub for_answers : 3 * (2 * writes_in rows + 1) ≤ length out

-- What making leaves in the slices that are lent for a machine and for a plain file. A making that refuses leaves the slice as it was lent.
abbrev pub fresh_machine : Header → List ℕ → List ℕ
fresh_machine h xs = made_to (first_no (making_questions h (length xs))) (maps_length h) xs

abbrev pub fresh_plain : Header → List ℕ → List ℕ
fresh_plain h ys = made_to (first_no (plain_making_questions h (length ys))) (4 * h.space) ys

-- In maps of a space, every row of every allowed order of every closed set is accepted by both, and every read returns what one plain file
-- would.
abbrev pub ReadsPlain : ℕ → ℕ → ℕ → List Row → Type 0
ReadsPlain model processes space rows =
    (file : ℕ) → file < FILES → (order : List ℕ) → Allowed rows order →
    (xs ys out : List ℕ) → Lent (header_for model processes space file) rows xs ys out →
    let h = header_for model processes space file in
    Agree h out (rows_for rows file order) (fresh_machine h xs) (fresh_plain h ys)

-- Layered and plain file are equal under a model whose processes end with rows of a kind: so it is for those rows too, and at the end the
-- published file has the plain file's row number at every byte.
abbrev pub EqualWith : ℕ → ℕ → ℕ → ℕ → List Row → Type 0
EqualWith kind model processes space rows =
    (file : ℕ) → file < FILES → (order : List ℕ) → Allowed rows order → (ends : List End) → ByAll processes ends →
    (xs ys out : List ℕ) → Lent (header_for model processes space file) rows xs ys out →
    let h = header_for model processes space file in
    let l = rows_for rows file order ++ end_rows kind file ends in
    Agree h out l (fresh_machine h xs) (fresh_plain h ys) × Level h (run_from h out l (fresh_machine h xs)) (plain_run_from h out l (fresh_plain h ys))

-- Demand 3: with one commit by each process.
abbrev pub Equal : ℕ → ℕ → List Row → Type 0
Equal processes space rows = EqualWith COMMIT COMMIT_MODEL processes space rows
