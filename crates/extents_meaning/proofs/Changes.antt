-- The first byte behind a byte that has another cell: there is one such byte, and the runs of a map tell it.
use Rattle.std.proofs.Common.{ℕ, zero, suc, ◌+◌, ◌-◌, ◌≤◌, ◌<◌, arith, ◌≡◌, refl, sym, ap, subst, ◌∙◌, ◌↔◌, Bool, true, false, cond, List, [], ◌∷◌, eqb-true}
use native.Mathlib.Decide.{dec_lt}
use lib.Dec.{eqb}
use borrow.Author.Tests.{eqb-false}
use Rattle.rows.specs.Limits.{OFFSET_MAX}
use Rattle.extents_meaning.specs.Cells.{Bytes}
use Rattle.extents_meaning.specs.Runs.{Run, cell_at, Rising}
use Rattle.extents_meaning.specs.Lookups.{change_from, change_of}
use Rattle.extents_meaning.proofs.Longest.{cell-first, cell-behind, mean-first, mean-end}

-- ---- The next change

-- y is the first of the bytes from s up to a top whose cell is not c, or the top
pub record First (top s c : ℕ) (f : Bytes) (y : ℕ) : Type 0 where
  pub low : s ≤ y
  pub high : y ≤ top
  pub same : (b : ℕ) → s ≤ b → b < y → f b ≡ c
  pub other : y < top → f y ≡ c → ⊥

-- There is such a byte.
pub change_first : (n s c : ℕ) (f : Bytes) → First (s + n) s c f (change_from n s c f)
unfolding change_from
change_first zero s c f = record { low = omega arith; high = omega arith; same = λ b l h. absurd (omega arith); other = λ l. absurd (omega arith) }
change_first (suc n) s c f = go (eqb (f s) c) refl (change_first n (suc s) c f)
  where
    go : (x : Bool) → eqb (f s) c ≡ x → First (suc s + n) (suc s) c f (change_from n (suc s) c f) →
        First (s + suc n) s c f (cond x (change_from n (suc s) c f) s)
    go true e r =
        let lo = r.low in
        let hi = r.high in
        record {
          low = omega arith;
          high = omega arith;
          same = λ b l h. sub b l h (dec_lt s b);
          other = λ l. r.other (omega arith);
        }
      where
        sub : (b : ℕ) → s ≤ b → b < change_from n (suc s) c f → Dec (s < b) → f b ≡ c
        sub b l h (yes q) = r.same b q h
        sub b l h (no q) = let i : b ≡ s = omega arith in ap f i ∙ eqb-true (f s) c e
    go false e r = record { low = omega arith; high = omega arith; same = λ b l h. absurd (omega arith); other = λ l. eqb-false (f s) c e }

-- there is one such byte
pub first-unique : (top s c : ℕ) (f : Bytes) (y z : ℕ) → First top s c f y → First top s c f z → y ≡ z
first-unique top s c f y z p q = go (dec_lt y z) (dec_lt z y)
  where
    below : (u v : ℕ) → First top s c f u → First top s c f v → u < v → ⊥
    below u v a b h =
        let k : v ≤ top = b.high in
        a.other (omega arith) (b.same u a.low h)

    go : Dec (y < z) → Dec (z < y) → y ≡ z
    go (yes h) d = absurd (below y z p q h)
    go (no h) (yes d) = absurd (below z y q p d)
    go (no h) (no d) = omega arith

-- The next change of byte b is the first byte behind it that has another cell.
pub change_of_lem : (f : Bytes) (b : ℕ) → b < OFFSET_MAX → First OFFSET_MAX (suc b) (f b) f (change_of f b)
unfolding change_of
change_of_lem f b h =
    let e : suc b + (OFFSET_MAX - suc b) ≡ OFFSET_MAX = omega arith in
    subst (λ (top : ℕ). First top (suc b) (f b) f (change_from (OFFSET_MAX - suc b) (suc b) (f b) f)) e (change_first (OFFSET_MAX - suc b) (suc b) (f b) f)

-- a byte is the next change of byte b exactly where the bytes from b up to it have the cell of b, and itself has not
pub change_iff : (f : Bytes) (b n : ℕ) → b < OFFSET_MAX →
    (change_of f b ≡ n) ↔ ((b < n) × (n ≤ OFFSET_MAX) × ((c : ℕ) → b ≤ c → c < n → f c ≡ f b) × (n < OFFSET_MAX → f n ≡ f b → ⊥))
change_iff f b n h = (
  λ e.
      let r = subst (First OFFSET_MAX (suc b) (f b) f) e (change_of_lem f b h) in
      (r.low, r.high, λ c l k. go r c l k (dec_lt b c), r.other),
  λ w. first-unique OFFSET_MAX (suc b) (f b) f (change_of f b) n (change_of_lem f b h)
      (record { low = w.0; high = w.1; same = λ c l k. w.2 c (omega arith) k; other = w.3 }),
)
  where
    go : First OFFSET_MAX (suc b) (f b) f n → (c : ℕ) → b ≤ c → c < n → Dec (b < c) → f c ≡ f b
    go r c l k (yes q) = r.same c q k
    go r c l k (no q) = let i : c ≡ b = omega arith in ap f i

-- Up to the next change of byte x all bytes have its cell.
pub before-change : (f : Bytes) (x b : ℕ) → x < OFFSET_MAX → x ≤ b → b < change_of f x → f b ≡ f x
before-change f x b h l k = ((change_iff f x (change_of f x) h).0 refl).2 b l k

-- ---- What the runs tell

-- bytes from x up to y have one cell, and byte y has another: y is the next change
pub change_is : (f : Bytes) (x y c : ℕ) → x < y → y ≤ OFFSET_MAX → ((b : ℕ) → x ≤ b → b < y → f b ≡ c) → (y < OFFSET_MAX → f y ≡ c → ⊥) →
    (f x ≡ c) × (change_of f x ≡ y)
change_is f x y c h k same other =
    let e : f x ≡ c = same x (omega arith) h in (
      e,
      first-unique OFFSET_MAX (suc x) (f x) f (change_of f x) y (change_of_lem f x (omega arith))
          (record { low = h; high = k; same = λ b l i. same b (omega arith) i ∙ sym e; other = λ l z. other l (z ∙ e) }),
    )

-- Where bytes f and g are the same from x on, so is the next change of byte x.
pub change_same : (f g : Bytes) (x : ℕ) → x < OFFSET_MAX → ((b : ℕ) → x ≤ b → f b ≡ g b) → change_of f x ≡ change_of g x
change_same f g x h same =
    let y = change_of g x in
    let r = (change_iff g x y h).0 refl in
    let l : x < y = r.0 in
    (change_is f x y (g x) l r.1 (λ b k i. same b k ∙ r.2 b k i) (λ k z. r.3 k (sym (same y (omega arith)) ∙ z))).1

module _ (f : Bytes) (x : ℕ) (inside : x < OFFSET_MAX) where
  -- Runs mean the bytes f from x on.
  abbrev Means : List Run → Type 0
  Means rs = (b : ℕ) → x ≤ b → b < OFFSET_MAX → cell_at rs b ≡ f b

  -- no run is left
  pub see_none : Means [] → (f x ≡ 0) × (change_of f x ≡ OFFSET_MAX)
  unfolding cell_at
  see_none m = change_is f x OFFSET_MAX 0 inside (omega arith) (λ b l h. sym (m b l h)) (λ l. absurd (omega arith))

  module _ (r : Run) (rs : List Run) (g : Rising OFFSET_MAX 0 0 (r ∷ rs)) (m : Means (r ∷ rs)) where
    -- the first lies behind x
    pub see-gap : x < r.start → (f x ≡ 0) × (change_of f x ≡ r.start)
    see-gap h =
        let n = g.0 in
        change_is f x r.start 0 h (omega arith) (λ b l i. sym (m b l (omega arith)) ∙ mean-first OFFSET_MAX 0 0 r rs g b i)
        (λ l z. omega (arith, sym (cell-first r rs r.start (omega arith) (omega arith)) ∙ m r.start (omega arith) l ∙ z, n.written))

    -- the first has it
    pub see-run : r.start ≤ x → x < r.start + r.length → (f x ≡ r.cell) × (change_of f x ≡ r.start + r.length)
    see-run h k =
        let n = g.0 in
        let e = r.start + r.length in
        change_is f x e r.cell k n.inside (λ b l i. sym (m b l (omega arith)) ∙ cell-first r rs b (omega arith) i)
        (λ l z. mean-end OFFSET_MAX e r.cell rs g.1 n.written (sym (cell-behind r rs e (omega arith)) ∙ m e (omega arith) l ∙ z))
