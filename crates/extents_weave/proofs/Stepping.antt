-- A step from a look at both maps.
use Rattle.std.proofs.Common.{ℕ, ◌≤◌, ◌<◌, ◌≡◌, sym, ◌∙◌, Bool, true, false, not, List, eq-eqb, ne_eqb}
use lib.Dec.{eqb}
use Rattle.rows.specs.Limits.{OFFSET_MAX}
use Rattle.extents_map.specs.Cursors.{BothLooked}
use Rattle.extents_map.specs.Mixes.{Mode, mix_for, becomes}
use Rattle.extents_map.specs.declared.modes.Range.{Range}
use Rattle.extents_map.specs.declared.scan.Both.{Both}
use Rattle.extents_map.proofs.Looking.{both-on, both-cell, both-other, both-inside}
use Rattle.extents_weave.specs.Steps.{step_cell, step_need, Stepped}

module _ (xs : List ℕ) (i : ℕ) (os : List ℕ) (j : ℕ) (mode : Mode) (range : Range) (hand : ℕ) (keep : Bool) (x : ℕ) (s : Both) (below : x < OFFSET_MAX)
    (order : range.start ≤ range.end) (p : BothLooked xs i os j range x s) where
  -- what a cell of the target becomes at byte x
  abbrev to : ℕ → ℕ
  to c = becomes mode s.inside range.cell c s.other

  -- A step that writes the right cell, with the right need, is a step.
  step_of : (c : ℕ) (n : Bool) → c ≡ step_cell keep to hand s.cell → n ≡ step_need keep to s.cell →
      Stepped xs i os j (mix_for mode range) hand keep x (record { cell = c; need = n; next = s.next; i = s.i; j = s.j })
  step_of c n ce ne =
      let e = both-on p below order in
      record {
        mine = p.mine;
        first = p.first;
        theirs = p.theirs;
        on = e.0;
        most = e.1;
        flat = λ z l h. both-cell p below order z l h ∙ p.cell;
        even = λ z l h w. (λ k. becomes mode (both-inside p below order z l h k) range.cell w (both-other p below order z l h k))
            ∙ (λ k. becomes mode (p.inside k) range.cell w (p.other k));
        cell = ce ∙ (λ k. step_cell keep (λ (w : ℕ). becomes mode (p.inside k) range.cell w (p.other k)) hand (p.cell k));
        need = ne ∙ (λ k. step_need keep (λ (w : ℕ). becomes mode (p.inside k) range.cell w (p.other k)) (p.cell k));
      }

  -- the result is written
  pub step-plain : {here : ℕ} → here ≡ to s.cell → keep ≡ false →
      Stepped xs i os j (mix_for mode range) hand keep x (record { cell = here; need = true; next = s.next; i = s.i; j = s.j })
  step-plain {here} eh k = step_of here true (eh ∙ rw k) (rw k)

  module _ {here bare own : ℕ} (k : keep ≡ true) (eh : here ≡ to s.cell) (eb : bare ≡ to 0) (eo : own ≡ to hand) where
    -- the cell in hand gives the result
    pub step_same : own ≡ here →
        Stepped xs i os j (mix_for mode range) hand keep x (record { cell = hand; need = not (eqb bare here); next = s.next; i = s.i; j = s.j })
    step_same e =
        step_of hand (not (eqb bare here)) (rw (k, eq-eqb (to hand) (to s.cell) (sym eo ∙ e ∙ eh))) ((λ z. not (eqb (eb z) (eh z))) ∙ rw k)

    -- 0 gives it
    pub step-none : (own ≡ here → ⊥) → bare ≡ here →
        Stepped xs i os j (mix_for mode range) hand keep x (record { cell = 0; need = false; next = s.next; i = s.i; j = s.j })
    step-none e z =
        let a = ne_eqb (to hand) (to s.cell) (λ u. e (eo ∙ u ∙ sym eh)) in
        let b = eq-eqb (to 0) (to s.cell) (sym eb ∙ z ∙ eh) in
        step_of 0 false (rw (k, a, b)) (rw (k, b))

    -- the target's cell gives it
    pub step-taken : (own ≡ here → ⊥) → (bare ≡ here → ⊥) →
        Stepped xs i os j (mix_for mode range) hand keep x (record { cell = s.cell; need = true; next = s.next; i = s.i; j = s.j })
    step-taken e z =
        let a = ne_eqb (to hand) (to s.cell) (λ u. e (eo ∙ u ∙ sym eh)) in
        let b = ne_eqb (to 0) (to s.cell) (λ u. z (eb ∙ u ∙ sym eh)) in
        step_of s.cell true (rw (k, a, b)) (rw (k, b))
