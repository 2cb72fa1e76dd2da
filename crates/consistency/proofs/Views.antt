-- What the cells and the views of a layered file show.
use Rattle.std.proofs.Common.{ℕ, arith, ◌≡◌, refl, sym, ap, ◌∙◌, Bool, true, false, cond, eq-eqb, ne_eqb, eqb-true}
use lib.Dec.{eqb}
use Rattle.extents_meaning.specs.Cells.{Bytes, cell_of, number_in, mark_in, unpublished, cleared}
use Rattle.machine_meaning.specs.Layers.{with_view}
use Rattle.consistency.proofs.Byte.{put}

-- ---- Cells

-- A written cell has the row number.
pub cell-number : (number : ℕ) → number_in (cell_of number 1) ≡ number
cell-number number = omega arith

-- A written cell is unpublished.
pub cell-mark : (number : ℕ) → unpublished (cell_of number 1) ≡ true
cell-mark number = eq-eqb (mark_in (cell_of number 1)) 1 (omega arith)

-- A cleared cell keeps its row number.
pub cleared-number : (v : ℕ) → number_in (cleared v) ≡ number_in v
cleared-number v = omega arith

-- A cleared cell is published.
pub cleared-mark : (v : ℕ) → unpublished (cleared v) ≡ false
cleared-mark v = ne_eqb (mark_in (cleared v)) 1 (omega arith)

-- ---- Choices by a test

-- One of two choices shows what that choice shows.
pub cond_shows : {X A : Type 0} (get : X → A) (x : Bool) (u w : X) {y z : A} → get u ≡ y → get w ≡ z → get (cond x u w) ≡ cond x y z
cond_shows get true u w e d = e
cond_shows get false u w e d = d

-- A process's own value, put at the process, changes nothing.
put-own : {A : Type 0} (p : ℕ) (g : ℕ → A) (q : ℕ) → put p (g p) g q ≡ g q
unfolding put
put-own p g q = go (eqb q p) refl
  where
    go : (x : Bool) → eqb q p ≡ x → cond x (g p) (g q) ≡ g q
    go true e = ap g (sym (eqb-true q p e))
    go false e = refl

module _ {A : Type 0} (get : ℕ → A) (b p : ℕ) (f : Bytes) (views : ℕ → Bytes) {g : ℕ → A} (others : (q : ℕ) → get (views q b) ≡ g q) where
  -- Another view of a process shows there its own number, and the other views show theirs.
  pub view-put : {a : A} → get (f b) ≡ a → (q : ℕ) → get (with_view p f views q b) ≡ put p a g q
  unfolding put
  view-put own q = cond_shows (λ h. get (h b)) (eqb q p) f (views q) own (others q)

  -- A view that has what the process's view had changes nothing.
  pub view-same : get (f b) ≡ g p → (q : ℕ) → get (with_view p f views q b) ≡ g q
  view-same own q = view-put own q ∙ put-own p g q
