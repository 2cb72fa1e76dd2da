-- Runs of the machine and of the plain file in their slices are runs by the bytes: nothing is refused, and the slices hold the maps of what the
-- bytes are.
use Rattle.std.proofs.Common.{ℕ, ◌+◌, ◌*◌, ◌≤◌, ◌<◌, arith, ◌≡◌, refl, ap, ◌∙◌, ◌↔◌, Bool, true, false, not, ◌&&◌, ◌||◌, List, [], ◌∷◌, length, le-leb, lt-ltb, eq-eqb}
use mathlib.Core.Logic.Iff
use lib.Dec.{leb, eqb}
use Rattle.rows.specs.Limits.{MODELS, PROCESSES, ROWS, FILES, OFFSET_MAX}
use Rattle.rows.specs.Kinds.{READ, WRITE}
use Rattle.rows.specs.declared.row.Row.{Row}
use Rattle.rows.proofs.Bools.{or_right}
use Rattle.extents_meaning.specs.Cells.{Bytes, number_in}
use Rattle.extents_meaning.specs.Runs.{Run, pieces_of}
use Rattle.machine_meaning.specs.Layers.{Layers, fresh, nothing, after_row, after_plain, pieces_read, of_file}
use Rattle.machine_meaning.specs.States.{Header, layers_in, layers_to, plain_in, plain_to}
use Rattle.machine_meaning.specs.Steps.{making_questions, plain_making_questions, uses_range, row_asked, Step, answered, step_of, plain_step_of}
use Rattle.machine_meaning.proofs.Points.{picked, Pointed, pointed_pieces, LayersPointed, PlainPointed, Writing, fresh-pointed, plain-pointed, row-pointed, plain-row-pointed}
use Rattle.machine_meaning.proofs.Slices.{held-fit, to_in, layers_held, plain_in_lem, plain-held}
use Rattle.rows.proofs.Asking.{AllYes}
use Rattle.machine_meaning.proofs.Stepping.{step-held, plain-step-held}
use Rattle.machine_meaning.proofs.Making.{making-yes, making_fresh, plain-making-yes, plain-making_fresh}
use Rattle.rows.specs.Lists.{In}
use Rattle.consistency.specs.Files.{NumberedRow, Agree, run_from, plain_run_from, Level, writes_in, SpaceFor, Lent, fresh_machine, fresh_plain}
use Rattle.consistency.proofs.Meaning.{layers_run, plain_run, ReadsSame}
use Rattle.consistency.proofs.Answers.{same-iff}

-- A header that passes the questions of making.
pub record Made (h : Header) : Type 0 where
  pub is_model : h.model < MODELS
  pub some-process : 1 ≤ h.processes
  pub few-processes : h.processes ≤ PROCESSES
  pub is_file : h.file < FILES

-- A row that passes the questions before 16, the ends of whose range, if it writes, are among the points.
pub record Fit (h : Header) (points : List ℕ) (x : NumberedRow) : Type 0 where
  pub of-file : of_file h.file x.row ≡ true
  pub numbered : 1 ≤ x.number
  pub number-most : x.number ≤ ROWS
  pub by_process : x.row.process < h.processes
  pub range-end : uses_range x.row ≡ true → x.row.offset + x.row.length ≤ OFFSET_MAX
  pub at-points : x.row.kind ≡ WRITE → In x.row.offset points × In (x.row.offset + x.row.length) points

abbrev pub AllFit : Header → List ℕ → List NumberedRow → Type 0
AllFit h points [] = Unit {0}
AllFit h points (x ∷ l) = Fit h points x × AllFit h points l

-- Points that are no more than twice the trace's writes, for which the maps have space.
pub record Enough (h : Header) (rows : List Row) (points : List ℕ) : Type 0 where
  pub few : length points ≤ 2 * writes_in rows
  pub room : SpaceFor rows h.space

-- The maps have space for as many runs as points.
pub in_space : {h : Header} {rows : List Row} {points : List ℕ} → Enough h rows points → length points ≤ h.space
in_space enough = omega (arith, enough.few, enough.room)

-- ---- No question says No

module _ {h : Header} (made : Made h) {rows : List Row} {xs ys out : List ℕ} (lent : Lent h rows xs ys out) where
  -- Every question of making is answered Yes for the machine.
  machine_yes : AllYes (making_questions h (length xs))
  machine_yes = making-yes h made.some-process made.few-processes made.is_file made.is_model (length xs) lent.for_machine

  plain-yes : AllYes (plain_making_questions h (length ys))
  plain-yes = plain-making-yes h made.some-process made.few-processes made.is_file (length ys) lent.for_plain

  -- The slice that making leaves for the machine holds fresh files.
  pub made-fresh : fresh_machine h xs ≡ layers_to h fresh xs
  made-fresh = making_fresh h made.some-process made.few-processes made.is_file made.is_model xs lent.for_machine

  pub plain-made_fresh : fresh_plain h ys ≡ plain_to h nothing ys
  plain-made_fresh = plain-making_fresh h made.some-process made.few-processes made.is_file ys lent.for_plain

-- A test that is asked of some rows only passes where those rows pass.
where_asked : (x y : Bool) → (x ≡ true → y ≡ true) → not x || y ≡ true
where_asked true y f = f refl
where_asked false y f = refl

module _ {h : Header} {points : List ℕ} {x : NumberedRow} (fit : Fit h points x) where
  -- Every question of a row before 16 is answered Yes.
  row-yes : AllYes (row_asked h x.row x.number)
  unfolding row_asked
  row-yes = (
    fit.of-file,
    (
      (λ i. le-leb _ _ fit.numbered i && le-leb _ _ fit.number-most i),
      (
        (λ i. lt-ltb _ _ fit.by_process i && where_asked (uses_range x.row) _ inside i),
        (where_asked (uses_range x.row) _ (λ e. le-leb _ _ (fit.range-end e)), tt),
      ),
    ),
  )
    where
      inside : uses_range x.row ≡ true → leb x.row.offset OFFSET_MAX && leb x.row.length OFFSET_MAX ≡ true
      inside e =
          let m = fit.range-end e in
          λ i. le-leb x.row.offset OFFSET_MAX (omega arith) i && le-leb x.row.length OFFSET_MAX (omega arith) i

  -- A write's range ends at points.
  row-writing : Writing points x.row x.number
  row-writing =
      record {
        numbered = fit.numbered;
        number-most = fit.number-most;
        range-end = λ e. fit.range-end (or_right (eqb x.row.kind READ) _ (eq-eqb _ _ e));
        at-points = fit.at-points;
      }

-- ---- Rows one after the other

module _ (h : Header) {points : List ℕ} where
  -- Files after all rows change at points.
  pub run_pointed : (l : List NumberedRow) → AllFit h points l → {s : Layers} → LayersPointed points s → LayersPointed points (layers_run h.model l s)
  unfolding layers_run
  run_pointed [] fits k = k
  run_pointed (x ∷ l) (fit, fits) k = run_pointed l fits (row-pointed (row-writing fit) h.model k)

  pub plain_run-pointed : (l : List NumberedRow) → AllFit h points l → {f : Bytes} → PlainPointed points f → PlainPointed points (plain_run l f)
  unfolding plain_run
  plain_run-pointed [] fits k = k
  plain_run-pointed (x ∷ l) (fit, fits) k = plain_run-pointed l fits (plain-row-pointed (row-writing fit) k)

module _ {h : Header} (made : Made h) {rows : List Row} {points : List ℕ} (enough : Enough h rows points)
    {xs ys out : List ℕ} (lent : Lent h rows xs ys out) where
  -- An answer slice has room for a row's pieces.
  pieces-fit : (r : Row) {f : Bytes} → Pointed points f → 3 * length (pieces_read r f) ≤ length out
  pieces-fit r {f} k =
      picked (λ (ps : List Run). 3 * length ps ≤ length out) (eqb r.kind READ) (pieces_of f r.offset r.length) []
      (λ _. omega (arith, pointed_pieces k r.offset r.length, enough.few, lent.for_answers)) (omega arith)

  module _ {x : NumberedRow} (fit : Fit h points x) where
    -- One step of the machine and one of the plain file.
    machine-step : {s : Layers} → LayersPointed points s →
        let t = after_row h.model x.row x.number s in
        step_of h (layers_to h s xs) x.row x.number out
        ≡ answered x.row (pieces_read x.row (t.view x.row.process)) (layers_to h t xs) out
    machine-step k =
        let after = row-pointed (row-writing fit) h.model k in
        step-held h (layers_held h (in_space enough) k) xs (machine_yes made lent) x.row x.number (row-yes fit) out
        (held-fit h (layers_held h (in_space enough) after))
        (pieces-fit x.row (after.view x.row.process))

    plain_step : {f : Bytes} → PlainPointed points f →
        let g = after_plain x.row x.number f in
        plain_step_of h (plain_to h f ys) x.row x.number out ≡ answered x.row (pieces_read x.row g) (plain_to h g ys) out
    plain_step k =
        let after = plain-row-pointed (row-writing fit) k in
        plain-step-held h (plain-held h (in_space enough) k) ys (plain-yes made lent) x.row x.number (row-yes fit) out
        (le-leb _ _ (plain-held h (in_space enough) after).bytes.fit) (pieces-fit x.row after.bytes)

  -- Every row gets the same from both exactly when every read finds the same numbers.
  agree-from : (l : List NumberedRow) → AllFit h points l → {s : Layers} {f : Bytes} → LayersPointed points s → PlainPointed points f →
      Agree h out l (layers_to h s xs) (plain_to h f ys) ↔ ReadsSame h.model l s f
  agree-from [] fits k m = (λ a. tt, λ a. tt)
  agree-from (x ∷ l) (fit, fits) k m =
      rw (machine-step fit k, plain_step fit m)
      (Iff.and (same-iff x.row _ _ _ _ out)
      (agree-from l fits (row-pointed (row-writing fit) h.model k) (plain-row-pointed (row-writing fit) m)))

  -- The slices after all rows hold the files after them.
  pub run_to : (l : List NumberedRow) → AllFit h points l → {s : Layers} → LayersPointed points s →
      run_from h out l (layers_to h s xs) ≡ layers_to h (layers_run h.model l s) xs
  unfolding run_from layers_run
  run_to [] fits k = refl
  run_to (x ∷ l) (fit, fits) k =
      ap (λ (s : Step). run_from h out l s.maps) (machine-step fit k) ∙ run_to l fits (row-pointed (row-writing fit) h.model k)

  pub plain_run-to : (l : List NumberedRow) → AllFit h points l → {f : Bytes} → PlainPointed points f →
      plain_run_from h out l (plain_to h f ys) ≡ plain_to h (plain_run l f) ys
  unfolding plain_run_from plain_run
  plain_run-to [] fits k = refl
  plain_run-to (x ∷ l) (fit, fits) k =
      ap (λ (s : Step). plain_run_from h out l s.maps) (plain_step fit k) ∙ plain_run-to l fits (plain-row-pointed (row-writing fit) k)

  module _ (l : List NumberedRow) (fit : AllFit h points l) where
    -- Every row gets the same from both exactly when every read finds the same numbers.
    pub agree-iff : Agree h out l (fresh_machine h xs) (fresh_plain h ys) ↔ ReadsSame h.model l fresh nothing
    agree-iff = rw (made-fresh made lent, plain-made_fresh made lent) (agree-from l fit fresh-pointed plain-pointed)

    -- The published bytes after all rows, and the plain ones.
    run-bytes : (layers_in h (run_from h out l (fresh_machine h xs))).shared ≡ (layers_run h.model l fresh).shared
    run-bytes =
        ap (λ (zs : List ℕ). (layers_in h (run_from h out l zs)).shared) (made-fresh made lent)
        ∙ ap (λ (zs : List ℕ). (layers_in h zs).shared) (run_to l fit fresh-pointed)
        ∙ (to_in h (layers_held h (in_space enough) (run_pointed h l fit fresh-pointed)) xs).shared

    plain-run-bytes : plain_in h (plain_run_from h out l (fresh_plain h ys)) ≡ plain_run l nothing
    plain-run-bytes =
        ap (λ (zs : List ℕ). plain_in h (plain_run_from h out l zs)) (plain-made_fresh made lent)
        ∙ ap (plain_in h) (plain_run-to l fit plain-pointed)
        ∙ plain_in_lem h (plain-held h (in_space enough) (plain_run-pointed h l fit plain-pointed)) ys

    -- The published file is the plain one exactly when the bytes are.
    pub level-iff : Level h (run_from h out l (fresh_machine h xs)) (plain_run_from h out l (fresh_plain h ys))
        ↔ ((b : ℕ) → b < OFFSET_MAX → number_in ((layers_run h.model l fresh).shared b) ≡ number_in (plain_run l nothing b))
    level-iff = rw (run-bytes, plain-run-bytes) Iff.rfl
