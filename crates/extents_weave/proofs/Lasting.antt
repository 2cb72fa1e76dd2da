-- The results of every mode last: what a byte needs of the target is not lost where another byte has the same result.
use Rattle.std.proofs.Common.{ℕ, suc, ◌-◌, arith, ◌≡◌, refl, Bool, true, false, cond, eqb-true}
use Rattle.extents_meaning.specs.Cells.{Bytes, unpublished, cleared, number_in, mark_in, in_range}
use Rattle.extents_map.specs.Mixes.{Mode, Publish, MarkPublished, Refresh, ReadMap, ReadFresh, Mix, mixed, becomes, becomes_in}
use Rattle.extents_weave_meaning.specs.Kept.{Lasting}

-- a result that 0 does not give is not 0
written : (mode : Mode) (i : Bool) (c t o : ℕ) → (becomes mode i c t o ≡ becomes mode i c 0 o → ⊥) → becomes mode i c t o ≡ 0 → ⊥
unfolding mixed
written Publish true c t o h e = h refl
written Publish false c t o h e = go (unpublished o) h e
  where
    go : (x : Bool) → (cond x (cleared o) t ≡ cond x (cleared o) 0 → ⊥) → cond x (cleared o) t ≡ 0 → ⊥
    go true h e = h refl
    go false h e = h e
written MarkPublished true c t o h e = h refl
written MarkPublished false c t o h e = h e
written Refresh i c t o h e = go (unpublished t) refl h e
  where
    go : (x : Bool) → unpublished t ≡ x → (cond x t o ≡ o → ⊥) → cond x t o ≡ 0 → ⊥
    go true u h e = omega (arith, eqb-true (mark_in t) 1 u, e)
    go false u h e = h refl
written ReadMap i c t o h e = omega (arith, e)
written ReadFresh i c t o h e = omega (arith, e)

-- where the result of a needed cell is that of another cell, it is that of the needed cell too
sticky : (mode : Mode) (i j : Bool) (c t o d p : ℕ) → (becomes mode i c t o ≡ becomes mode i c 0 o → ⊥) →
    becomes mode j c d p ≡ becomes mode i c t o → becomes mode j c t p ≡ becomes mode i c t o
unfolding mixed
sticky Publish true j c t o d p h e = absurd (h refl)
sticky Publish false true c t o d p h e = e
sticky Publish false false c t o d p h e = go (unpublished o) (unpublished p) h e
  where
    go : (x y : Bool) → (cond x (cleared o) t ≡ cond x (cleared o) 0 → ⊥) → cond y (cleared p) d ≡ cond x (cleared o) t →
        cond y (cleared p) t ≡ cond x (cleared o) t
    go true y h e = absurd (h refl)
    go false true h e = e
    go false false h e = refl
sticky MarkPublished true j c t o d p h e = absurd (h refl)
sticky MarkPublished false true c t o d p h e = e
sticky MarkPublished false false c t o d p h e = refl
sticky Refresh i j c t o d p h e = go (unpublished t) h
  where
    go : (x : Bool) → (cond x t o ≡ o → ⊥) → cond x t p ≡ cond x t o
    go true h = refl
    go false h = absurd (h refl)
sticky ReadMap i j c t o d p h e = refl
sticky ReadFresh i j c t o d p h e = go (unpublished t) h
  where
    go : (x : Bool) → (suc (number_in (cond x t o)) ≡ suc (number_in o) → ⊥) → suc (number_in (cond x t p)) ≡ suc (number_in (cond x t o))
    go true h = refl
    go false h = absurd (h refl)

-- The results of a mix last.
pub mix-lasting : (mix : Mix) (other : Bytes) → Lasting (becomes_in mix other)
mix-lasting mix other =
    let range : ℕ → Bool = in_range mix.start (mix.end - mix.start) in
    record {
      written = λ b t. written mix.mode (range b) mix.cell t (other b);
      sticky = λ b t h x d. sticky mix.mode (range b) (range x) mix.cell t (other b) d (other x) h;
    }
