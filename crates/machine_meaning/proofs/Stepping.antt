-- A step of a machine or of a plain file whose maps hold bytes: if every question is answered Yes, the step does what the row does to the bytes.
use Rattle.std.proofs.Common.{ℕ, suc, ◌*◌, ◌≤◌, ◌<◌, arith, ◌≡◌, ap, ◌∙◌, Bool, true, false, cond, ◌&&◌, List, length, le-leb, leb-true, ltb-true, eq-eqb}
use lib.Dec.{leb, ltb, eqb}
use Rattle.rows.specs.Limits.{MODELS}
use Rattle.rows.specs.Kinds.{WRITE}
use Rattle.models.specs.Table.{publishes, refreshes}
use Rattle.rows.specs.declared.row.Row.{Row}
use Rattle.rows.proofs.Asking.{AllYes, none-no, yes-append}
use Rattle.extents_meaning.specs.Cells.{Bytes, cell_of, overwrite, published, as_published, refreshed}
use Rattle.extents_meaning.specs.Runs.{Run}
use Rattle.extents_meaning.specs.Maps.{lawful, lawful_published}
use Rattle.rows.proofs.Bools.{and_out}
use Rattle.machine_meaning.specs.Layers.{Layers, with_view, written, publishing, refreshing, after_row, after_plain, pieces_read}
use Rattle.machine_meaning.specs.States.{Header, map_at, maps_length, lawful_state, layers_in, layers_to, layers_fit, lawful_plain, plain_in, plain_to, plain_fits}
use Rattle.rows.specs.Counting.{all_below}
use Rattle.rows.specs.Questions.{is_process_limit}
use Rattle.machine_meaning.specs.Steps.{making_questions, plain_making_questions, row_asked, Step, answered, decided, step_of, plain_step_of}
use Rattle.machine_meaning.proofs.Slices.{all_in, held-lawful, held-published, LayersHeld, Alike, alike-fit, alike-to, to-length, to-again, to-shared, to-view, to_in, PlainHeld, plain-first, plain-length, plain-again, plain_in_lem}

-- ---- Questions

-- A first No of 0 leaves the decision to the step.
decided-none : (n : ℕ) (s : Step) (maps out : List ℕ) → n ≡ 0 → decided n s maps out ≡ s
decided-none n s maps out e = rw (eq-eqb n 0 e)

-- ---- A row by the bytes of alike files

module _ {processes : ℕ} where
  -- A test picks alike files from files that are alike.
  alike-picked : (x : Bool) {s t u v : Layers} → Alike processes s t → Alike processes u v → Alike processes (cond x s u) (cond x t v)
  alike-picked true a b = a
  alike-picked false a b = b

  module _ (p : ℕ) (l : p < processes) where
    -- Replacing a view by the same view keeps views alike.
    alike-with : {f g : Bytes} {views others : ℕ → Bytes} → f ≡ g → ((q : ℕ) → q < processes → views q ≡ others q) →
        (q : ℕ) → q < processes → with_view p f views q ≡ with_view p g others q
    alike-with e v q h = λ i. cond (eqb q p) (e i) (v q h i)

    -- A publish, a refresh and a write keep files alike.
    alike-publishing : {s t : Layers} → Alike processes s t → Alike processes (publishing p s) (publishing p t)
    alike-publishing a =
        record {
          shared = λ i. published (a.view p l i) (a.shared i);
          view = alike-with (ap as_published (a.view p l)) a.view;
        }

    alike-refreshing : {s t : Layers} → Alike processes s t → Alike processes (refreshing p s) (refreshing p t)
    alike-refreshing a = record { shared = a.shared; view = alike-with (λ i. refreshed (a.view p l i) (a.shared i)) a.view }

  module _ (r : Row) (number : ℕ) (l : r.process < processes) where
    alike-written : {s t : Layers} → Alike processes s t → Alike processes (written r number s) (written r number t)
    alike-written a =
        record {
          shared = a.shared;
          view = alike-with r.process l (ap (overwrite r.offset r.length (cell_of number 1)) (a.view r.process l)) a.view;
        }

    -- Every row of a process below the limit keeps files alike.
    pub alike-row : (model : ℕ) {s t : Layers} → Alike processes s t → Alike processes (after_row model r number s) (after_row model r number t)
    unfolding after_row
    alike-row model a =
        let w = alike-picked (eqb r.kind WRITE) (alike-written a) a in
        let u = alike-picked (publishes model r.kind) (alike-publishing r.process l w) w in
        alike-picked (refreshes model r.kind) (alike-refreshing r.process l u) u

-- ---- A step of the machine

-- If every answer is Yes, a step of the machine does what the row does to the layers of the slice.
pub step-yes : (h : Header) (xs : List ℕ) (r : Row) (number : ℕ) (out : List ℕ) →
    let s = after_row h.model r number (layers_in h xs) in
    lawful_state h xs ≡ true → AllYes (row_asked h r number) → layers_fit h s ≡ true →
    3 * length (pieces_read r (s.view r.process)) ≤ length out →
    step_of h xs r number out ≡ answered r (pieces_read r (s.view r.process)) (layers_to h s xs) out
unfolding step_of
step-yes h xs r number out state asked fit room =
    decided-none _ _ xs out (none-no _ (state, yes-append (row_asked h r number) _ asked (fit, (le-leb _ _ room, tt))))

module _ (h : Header) {s : Layers} (held : LayersHeld h s) (xs : List ℕ) (making : AllYes (making_questions h (length xs))) where
  -- The encoding of a held layered file is a lawful state.
  pub to_lawful : lawful_state h (layers_to h s xs) ≡ true
  unfolding lawful_state making_questions
  to_lawful =
      let limits = and_out (ltb h.model MODELS) (is_process_limit h.processes) making.1.0 in
      let room : leb (maps_length h) (length (layers_to h s xs)) ≡ true =
      ap (leb (maps_length h)) (to-length h held xs (leb-true _ _ making.0)) ∙ making.0 in
      let first : lawful_published (map_at h.space 0 (layers_to h s xs)) ≡ true =
      ap lawful_published (to-shared h held xs) ∙ held-published held.shared held.unmarked in
      let others : all_below h.processes (λ p. lawful (map_at h.space (suc p) (layers_to h s xs))) ≡ true =
      all_in h.processes _ (λ p l. ap lawful (to-view h held xs p l) ∙ held-lawful (held.view p l)) in
      λ i. limits.0 i && (limits.1 i && (making.1.1.0 i && (room i && (first i && others i))))

  module _ (r : Row) (number : ℕ) (asked : AllYes (row_asked h r number)) (out : List ℕ) where
    -- A step from an encoded file leaves the encoding of the file after the row, and lists the pieces of the row.
    pub step-held : let t = after_row h.model r number s in
        layers_fit h t ≡ true → 3 * length (pieces_read r (t.view r.process)) ≤ length out →
        step_of h (layers_to h s xs) r number out ≡ answered r (pieces_read r (t.view r.process)) (layers_to h t xs) out
    unfolding row_asked
    step-held fit room =
        let l = ltb-true _ _ (and_out (ltb r.process h.processes) _ asked.1.1.0).0 in
        let a = alike-row r number l h.model (to_in h held xs) in
        let e = ap (pieces_read r) (a.view r.process l) in
        let n = ap (λ (ps : List Run). length ps) e in
        let k = step-yes h (layers_to h s xs) r number out to_lawful asked (alike-fit h a ∙ fit) (omega (arith, n, room)) in
        k ∙ (λ i. answered r (e i) ((alike-to h a (layers_to h s xs) ∙ to-again h held xs _) i) out)

-- ---- A step of the plain file

-- If every answer is Yes, a step of the plain file does what the row does to the bytes of the slice.
pub plain-step_yes : (h : Header) (xs : List ℕ) (r : Row) (number : ℕ) (out : List ℕ) →
    let f = after_plain r number (plain_in h xs) in
    lawful_plain h xs ≡ true → AllYes (row_asked h r number) → plain_fits h f ≡ true → 3 * length (pieces_read r f) ≤ length out →
    plain_step_of h xs r number out ≡ answered r (pieces_read r f) (plain_to h f xs) out
unfolding plain_step_of
plain-step_yes h xs r number out state asked fit room =
    decided-none _ _ xs out (none-no _ (state, yes-append (row_asked h r number) _ asked (fit, (le-leb _ _ room, tt))))

module _ (h : Header) {f : Bytes} (held : PlainHeld h f) (xs : List ℕ) (making : AllYes (plain_making_questions h (length xs))) where
  -- The encoding of held bytes is a lawful plain file.
  pub plain-lawful : lawful_plain h (plain_to h f xs) ≡ true
  unfolding lawful_plain plain_making_questions
  plain-lawful =
      let room : leb (4 * h.space) (length (plain_to h f xs)) ≡ true =
      ap (leb (4 * h.space)) (plain-length h held xs (leb-true _ _ making.0)) ∙ making.0 in
      let first : lawful_published (map_at h.space 0 (plain_to h f xs)) ≡ true =
      ap lawful_published (plain-first h held xs) ∙ held-published held.bytes held.unmarked in
      λ i. making.1.0 i && (making.1.1.0 i && (room i && first i))

  module _ (r : Row) (number : ℕ) (asked : AllYes (row_asked h r number)) (out : List ℕ) where
    -- A step from encoded bytes leaves the encoding of the bytes after the row, and lists the pieces of the row.
    pub plain-step-held : let g = after_plain r number f in
        plain_fits h g ≡ true → 3 * length (pieces_read r g) ≤ length out →
        plain_step_of h (plain_to h f xs) r number out ≡ answered r (pieces_read r g) (plain_to h g xs) out
    plain-step-held fit room =
        let a = ap (after_plain r number) (plain_in_lem h held xs) in
        let n = ap (λ (f : Bytes). length (pieces_read r f)) a in
        let k = plain-step_yes h (plain_to h f xs) r number out plain-lawful asked (ap (plain_fits h) a ∙ fit) (omega (arith, n, room)) in
        k ∙ (λ i. answered r (pieces_read r (a i)) ((ap (λ (g : Bytes). plain_to h g (plain_to h f xs)) a ∙ plain-again h held xs _) i) out)
