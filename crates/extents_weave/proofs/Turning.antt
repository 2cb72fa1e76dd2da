-- A turn of the code is a turn of the walk.
use Rattle.std.proofs.Common.{ℕ, suc, ◌+◌, ◌*◌, ◌-◌, ◌≤◌, ◌<◌, arith, ◌≡◌, refl, sym, subst, ◌∙◌, Bool, true, false, cond, List, [], ◌∷◌, ◌++◌, length, take, drop, eq-eqb, ne_eqb}
use native.Mathlib.Decide.{ℕ_discrete}
use lib.ListN.{set}
use lib.Seq.{sets-eq}
use Rattle.extents_meaning.specs.Cells.{Bytes}
use Rattle.extents_meaning.specs.Runs.{run_of}
use Rattle.extents_meaning.specs.Maps.{fours}
use Rattle.extents_weave_meaning.specs.Walks.{Needed}
use Rattle.extents_weave_meaning.proofs.InPlace.{Rewriting, turn-same, turn-begin, turn-store}
use Rattle.extents_weave.specs.Turns.{turned_map, Turned}
use Rattle.extents_weave.specs.declared.Hand.{Hand}

-- four stores one after the other put four numbers
pub sets_put : (xs : List ℕ) (p s l n k : ℕ) → p + 4 ≤ length xs →
    set (set (set (set xs p s) (p + 1) l) (p + 2) n) (p + 3) k ≡ (take p xs ++ (s ∷ (l ∷ (n ∷ (k ∷ []))))) ++ drop (p + 4) xs
sets_put xs p s l n k h =
    let a : p + 1 ≡ suc p = omega arith in
    let b : p + 2 ≡ suc (suc p) = omega arith in
    let c : p + 3 ≡ suc (suc (suc p)) = omega arith in
    (λ i. set (set (set (set xs p s) (a i) l) (b i) n) (c i) k) ∙ sets-eq (s ∷ (l ∷ (n ∷ (k ∷ [])))) xs p h

-- The map behind a turn: as it was where the cell is in hand or nothing is, else with the run in hand put down.
module _ (h : Hand) (x y cell : ℕ) (need : Bool) (xs : List ℕ) where
  pub map_same : cell ≡ h.cell → turned_map h cell xs ≡ xs
  unfolding turned_map
  map_same e = rw (eq-eqb cell h.cell e)

  pub map_none : (cell ≡ h.cell → ⊥) → h.cell ≡ 0 → turned_map h cell xs ≡ xs
  unfolding turned_map
  map_none o e = rw (ne_eqb cell h.cell o, eq-eqb h.cell 0 e)

  pub map_put : (cell ≡ h.cell → ⊥) → (h.cell ≡ 0 → ⊥) → turned_map h cell xs ≡
      (take (4 * h.written) xs ++ fours (run_of h.start (h.end - h.start) h.cell ∷ [])) ++ drop (4 * h.written + 4) xs
  unfolding turned_map
  map_put o z = rw (ne_eqb cell h.cell o, ne_eqb h.cell 0 z)

module _ (space top all : ℕ) (f g : Bytes) (need : ℕ → Bool) (first : Needed g need) (xs : List ℕ) (x k i d : ℕ) (u : Bool) (h r : Hand)
    (w : Rewriting space top all f g need xs x h.written i h.start h.end h.cell) (inside : x + suc k ≤ top)
    (flat : (b : ℕ) → x ≤ b → b < x + suc k → g b ≡ d) (even : (b : ℕ) → x ≤ b → b < x + suc k → need b ≡ u)
    (t : Turned h x (x + suc k) d u r) (below : (d ≡ h.cell → ⊥) → (h.cell ≡ 0 → ⊥) → h.written < i) where
  -- a walk whose numbers are equal to those of another
  named : (ys zs : List ℕ) (q a e c q' a' e' c' : ℕ) → Rewriting space top all f g need ys (x + suc k) q i a e c → zs ≡ ys → q' ≡ q → a' ≡ a → e' ≡ e → c' ≡ c →
      Rewriting space top all f g need zs (x + suc k) q' i a' e' c'
  named ys zs q a e c q' a' e' c' v p1 p2 p3 p4 p5 =
      subst (λ (T : Type 0). T) (λ j. Rewriting space top all f g need (sym p1 j) (x + suc k) (sym p2 j) i (sym p3 j) (sym p4 j) (sym p5 j)) v

  -- The code's turn is a turn of the walk.
  pub turned_on : Rewriting space top all f g need (turned_map h d xs) (x + suc k) r.written i r.start r.end r.cell
  turned_on = go (ℕ_discrete d h.cell) (ℕ_discrete h.cell 0)
    where
      go : Dec (d ≡ h.cell) → Dec (h.cell ≡ 0) → Rewriting space top all f g need (turned_map h d xs) (x + suc k) r.written i r.start r.end r.cell
      go (yes e) z =
          let b = eq-eqb d h.cell e in
          named xs (turned_map h d xs) h.written h.start (cond u (x + suc k) h.end) h.cell r.written r.start r.end r.cell
          (turn-same space top all f g need first xs x k h.written i h.start h.end h.cell d u w inside flat even e)
          (map_same h x (x + suc k) d u xs e) (t.written ∙ rw b) (t.start ∙ rw b) (t.end ∙ rw b) (t.has ∙ e)
      go (no e) (yes z) =
          let b = ne_eqb d h.cell e in
          named xs (turned_map h d xs) h.written x (x + suc k) d r.written r.start r.end r.cell
          (turn-begin space top all f g need first xs x k h.written i h.start h.end h.cell d u w inside flat even e z)
          (map_none h x (x + suc k) d u xs e z) (t.written ∙ rw (b, eq-eqb h.cell 0 z)) (t.start ∙ rw b) (t.end ∙ rw b) t.has
      go (no e) (no z) =
          let b = ne_eqb d h.cell e in
          named (turned_map h d xs) (turned_map h d xs) (suc h.written) x (x + suc k) d r.written r.start r.end r.cell
          (turn-store space top all f g need first xs x k h.written i h.start h.end h.cell d u w inside flat even (turned_map h d xs) e z (below e z)
          (map_put h x (x + suc k) d u xs e z))
          refl (t.written ∙ rw (b, ne_eqb h.cell 0 z)) (t.start ∙ rw b) (t.end ∙ rw b) t.has

-- ---- The code's four ways

module _ (h : Hand) (x y cell : ℕ) (need : Bool) (xs : List ℕ) where
  pub way_grow : cell ≡ h.cell → need ≡ true →
      Turned h x y cell need (record { written = h.written; start = h.start; end = y; cell = cell }) × (xs ≡ turned_map h cell xs)
  way_grow e n =
      let b = eq-eqb cell h.cell e in
      (record { written = rw b; start = rw b; end = rw (b, n); has = refl }, sym (map_same h x y cell need xs e))

  pub way_on : cell ≡ h.cell → need ≡ false →
      Turned h x y cell need (record { written = h.written; start = h.start; end = h.end; cell = cell }) × (xs ≡ turned_map h cell xs)
  way_on e n =
      let b = eq-eqb cell h.cell e in
      (record { written = rw b; start = rw b; end = rw (b, n); has = refl }, sym (map_same h x y cell need xs e))

  pub way_begin : (cell ≡ h.cell → ⊥) → h.cell ≡ 0 →
      Turned h x y cell need (record { written = h.written; start = x; end = y; cell = cell }) × (xs ≡ turned_map h cell xs)
  way_begin e z =
      let b = ne_eqb cell h.cell e in
      (record { written = rw (b, eq-eqb h.cell 0 z); start = rw b; end = rw b; has = refl }, sym (map_none h x y cell need xs e z))

  pub way_put : (ys : List ℕ) → (cell ≡ h.cell → ⊥) → (h.cell ≡ 0 → ⊥) →
      ys ≡ (take (h.written * 4) xs ++ fours (run_of h.start (h.end - h.start) h.cell ∷ [])) ++ drop (h.written * 4 + 4) xs →
      Turned h x y cell need (record { written = h.written + 1; start = x; end = y; cell = cell }) × (ys ≡ turned_map h cell xs)
  way_put ys e z s =
      let b = ne_eqb cell h.cell e in
      let k : h.written * 4 ≡ 4 * h.written = omega arith in
      let j : h.written + 1 ≡ suc h.written = omega arith in (
        record { written = j ∙ sym (rw (b, ne_eqb h.cell 0 z)); start = rw b; end = rw b; has = refl },
        s ∙ (λ i. (take (k i) xs ++ fours (run_of h.start (h.end - h.start) h.cell ∷ [])) ++ drop (k i + 4) xs) ∙ sym (map_put h x y cell need xs e z),
      )
