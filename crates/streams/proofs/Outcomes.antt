-- What the tests on a call's answer and on errno say of the outcome. A signed number is tested by its bits.
use Rattle.std.proofs.Common.{ℕ, zero, suc, min, ◌+◌, ◌<◌, ◌≤◌, ◌-◌, ◌^◌, arith, lt_of_le_of_lt, ◌≡◌, refl, sym, ap, subst, ◌∙◌, Bool, true, false, cond, ℤ, pos, negsuc, List, length, take, length-take-le, T, lit<, ne_eqb, ltb-true, w32, w64, Fits, SFits, to_z, of_z}
use mathlib.Core.Bool.{false≢true}
use lib.IntN.{nat_abs}
use lib.Signed.{mag, lt_z, non_neg, nat_abs-le}
use lib.Dec.{eqb}
use borrow.Rule.Slice.PartMut.{mid_of, put_mid, same_len_mid}
use mir.Val.{hbits}
use mir.ValLaws.{to_z-of_z}
use Rattle.streams.specs.declared.Moved.{Moved}
use Rattle.streams.specs.declared.Moved.TheVariants.{Took, End, Again, Failed}
use Rattle.streams.specs.Moves.{EINTR, failure, outcome_of}

-- An error whose bits are EINTR's is an interruption.
pub interrupted : (error : ℤ) → SFits w32 error → of_z w32 error ≡ EINTR → failure error ≡ Again
interrupted error f e = subst (λ (z : ℤ). failure z ≡ Again) (sym (sym (to_z-of_z w32 error f) ∙ ap (to_z w32) e)) refl

-- Any other error is a failure.
pub other : (error : ℤ) → (of_z w32 error ≡ EINTR → ⊥) → failure error ≡ Failed
other (pos n) d = ap (λ b. cond b Again Failed) (ne_eqb n EINTR d)
other (negsuc n) d = refl

module _ (got : ℤ) (room : ℕ) (error : ℤ) (f : SFits w64 got) where
  -- The machine reads back the number from its bits.
  read : to_z w64 (of_z w64 got) ≡ got
  read = to_z-of_z w64 got f

  -- An answer below 0 is an error.
  pub erred : lt_z (to_z w64 (of_z w64 got)) (pos 0) ≡ true → outcome_of got room error ≡ failure error
  unfolding outcome_of
  erred e = go got (subst (λ (z : ℤ). lt_z z (pos 0) ≡ true) read e)
    where
      go : (z : ℤ) → lt_z z (pos 0) ≡ true → outcome_of z room error ≡ failure error
      go (pos n) t = let low : n < 0 = ltb-true n 0 t in absurd (omega arith)
      go (negsuc n) t = refl

  -- An answer of 0 is the end.
  pub ended : of_z w64 got ≡ 0 → outcome_of got room error ≡ End
  unfolding outcome_of
  ended e = subst (λ (z : ℤ). outcome_of z room error ≡ End) (sym (sym read ∙ ap (to_z w64) e)) refl

  -- An answer that is not below 0 is a natural number.
  pub counted : lt_z (to_z w64 (of_z w64 got)) (pos 0) ≡ false → T (non_neg (to_z w64 (of_z w64 got))) × Fits w64 (nat_abs (to_z w64 (of_z w64 got)))
  counted e = subst (λ (z : ℤ). lt_z z (pos 0) ≡ false → T (non_neg z) × Fits w64 (nat_abs z)) (sym read) (go got f.sfits) e
    where
      go : (z : ℤ) → mag z < 2 ^ hbits w64 → lt_z z (pos 0) ≡ false → T (non_neg z) × Fits w64 (nat_abs z)
      go (pos n) low t = (tt, record { fits = lt_of_le_of_lt (nat_abs-le (pos n) low) (lit< tt) })
      go (negsuc n) low t = absurd (false≢true (sym t))

  -- An answer above 0 is a number of bytes.
  pub took : lt_z (to_z w64 (of_z w64 got)) (pos 0) ≡ false → (of_z w64 got ≡ 0 → ⊥) → (n : ℕ) → n ≡ min (nat_abs (to_z w64 (of_z w64 got))) room →
      outcome_of got room error ≡ Took n
  unfolding outcome_of
  took e d n m =
      go got (subst (λ (z : ℤ). lt_z z (pos 0) ≡ false) read e) d (m ∙ ap (λ (z : ℤ). min (nat_abs z) room) read)
    where
      go : (z : ℤ) → lt_z z (pos 0) ≡ false → (of_z w64 z ≡ 0 → ⊥) → n ≡ min (nat_abs z) room → outcome_of z room error ≡ Took n
      go (pos zero) t d q = absurd (d refl)
      go (pos (suc k)) t d q = ap Took (sym q)
      go (negsuc k) t d q = absurd (false≢true (sym t))

-- One more than the bytes that a call moved, and 0 where there are none to tell.
size : Moved → ℕ
size (Took n) = suc n
size End = 0
size Again = 0
size Failed = 0

-- A call that moved bytes moved one at least, and no more than there was room for.
pub took-some : (got : ℤ) (room : ℕ) (error : ℤ) (n : ℕ) → 0 < room → outcome_of got room error ≡ Took n → (0 < n) × (n ≤ room)
unfolding size outcome_of
took-some (pos zero) room error n h e = let z : 0 ≡ suc n = ap size e in absurd (omega arith)
took-some (pos (suc k)) room error n h e = let z : suc (min (suc k) room) ≡ suc n = ap size e in (omega arith, omega arith)
took-some (negsuc k) room (negsuc m) n h e = let z : 0 ≡ suc n = ap size e in absurd (omega arith)
took-some (negsuc k) room (pos m) n h e = let z = none (eqb m EINTR) ∙ ap size e in absurd (omega arith)
  where
    none : (b : Bool) → 0 ≡ size (cond b Again Failed)
    none true = refl
    none false = refl

-- What is left of a longer buffer is not empty.
pub sub_positive : {done all : ℕ} → done < all → 0 < all - done
sub_positive h = omega arith

-- No more bytes than are left end within the buffer.
pub within-rest : {done n all : ℕ} → n ≤ all - done → done ≤ all → done + n ≤ all
within-rest h d = omega arith

-- A number of bytes up to the buffer's length is within the buffer.
pub is_within : (n : ℕ) (buf : List ℕ) → n ≤ length buf → (n ≤ length buf) × (n ≡ length (take n buf))
is_within n buf h = (h, sym (length-take-le n buf h))

module _ (done : ℕ) (buf last : List ℕ) (e : length last ≡ length (mid_of done (length buf - done) buf)) where
  -- The buffer whose bytes from `done` on were lent and came back as `last`.
  abbrev back : List ℕ
  back = put_mid done (length buf - done) buf last

  -- Lending the rest of a buffer keeps its length.
  pub back-length : length back ≡ length buf
  back-length = same_len_mid done (length buf - done) buf last e

  -- A number of bytes that was within the buffer still is.
  pub back-within : (n : ℕ) → n ≤ length buf → (n ≤ length back) × (n ≡ length (take n back))
  back-within n h = is_within n back (subst (λ m. n ≤ m) (sym back-length) h)
