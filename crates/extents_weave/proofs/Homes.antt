-- Slices that differ in a part: the part lent and home again.
use Rattle.std.proofs.Common.{ℕ, ◌+◌, ◌-◌, ◌≤◌, arith, ◌≡◌, sym, ap, ◌∙◌, ◌⊎◌, List, length}
use borrow.Rule.Slice.PartMut.{put_mid}
use Rattle.extents_meaning.specs.Maps.{part_at, with_part}
use Rattle.extents_pair.proofs.Parts.{home, part_length, with_part_lem, with_length, part-with, with-with, part_apart}
use Rattle.extents_weave.specs.Rewrites.{OnlyPart}

module _ {at size : ℕ} {xs : List ℕ} (h : at + size ≤ length xs) where
  -- a slice does not differ from itself
  pub only-start : OnlyPart at size xs xs
  only-start = record { same = sym (with_part_lem at size xs h); filled = part_length at size xs h }

  module _ {ys : List ℕ} (d : OnlyPart at size xs ys) where
    -- both have one length
    pub only-length : length ys ≡ length xs
    only-length = ap length d.same ∙ with_length at size xs h (part_at at size ys) d.filled

    -- a part that stands apart is the same in both
    pub only-apart : (o : ℕ) → (o + size ≤ at) ⊎ (at + size ≤ o) → part_at o size ys ≡ part_at o size xs
    only-apart o a = ap (part_at o size) d.same ∙ part_apart at size xs h (part_at at size ys) d.filled o a

    -- The second one is the first with its part.
    pub only-with : {end : List ℕ} → part_at at size ys ≡ end → ys ≡ with_part at size end xs
    only-with e = d.same ∙ ap (λ (m : List ℕ). with_part at size m xs) e

    module _ (end : List ℕ) (l : length end ≡ size) where
      -- the part comes home
      pub home-part : part_at at size (put_mid at (at + size - at) ys end) ≡ end
      home-part = ap (part_at at size) (home at size ys end) ∙ part-with at size ys (omega (arith, h, only-length)) end l

      -- Nothing else changes.
      pub home-only : OnlyPart at size xs (put_mid at (at + size - at) ys end)
      home-only =
          record {
            same =
                home at size ys end ∙ ap (with_part at size end) d.same ∙ with-with at size xs h (part_at at size ys) d.filled end
                ∙ ap (λ (m : List ℕ). with_part at size m xs) (sym home-part);
            filled = ap length home-part ∙ l;
          }

    -- a third slice differs from the second in the part: it differs from the first there too
    pub only_then : {zs : List ℕ} → OnlyPart at size ys zs → OnlyPart at size xs zs
    only_then {zs} k =
        record {
          same = k.same ∙ ap (with_part at size (part_at at size zs)) d.same ∙ with-with at size xs h (part_at at size ys) d.filled (part_at at size zs);
          filled = k.filled;
        }
