-- What a call of a reader or a writer that moved bytes, met the end or was interrupted had answered.
use Rattle.std.proofs.Common.{◌≡◌, ℕ, zero, suc, ◌<◌, ◌≤◌, min, List, length, Bool, true, false, ℤ, pos, negsuc, Result, Ok, Err, IfOk, arith, refl, ap, sym, ◌∙◌, subst, ◌+◌, ◌++◌, ◌-◌, take, drop, MatchResult, length-take-le, w64, SFits, to_z, of_z}
use Rattle.std.proofs.lemmas.Int.{to_z-of_z}
use Rattle.std.proofs.Math.Seq.{take-append-add, take-append-le, take-add, take-take}
use borrow.Rule.Slice.PartMut.{put_mid, post_of}
use Rattle.std.specs.Io.{ReadsAtMost, WritesAtMost}
use Rattle.std.specs.Prelude.{cond, eqb}
use Rattle.std.specs.declared.io.Error.{Error}
use Rattle.streams.specs.declared.Moved.TheVariants.{Took, End, Again, Failed}
use Rattle.streams.specs.Moves.{EINTR, failure, outcome_of, AreNumbersOf}

-- An error is no number of bytes and not the end.
not_took : (number : ℤ) (n : ℕ) → Took n ≡ failure number → ⊥
not_took (pos m) n e = go (eqb m EINTR) e
  where
    go : (b : Bool) → Took n ≡ cond b Again Failed → ⊥
    go true e = cc
    go false e = cc
not_took (negsuc m) n e = cc

not_ended : (number : ℤ) → End ≡ failure number → ⊥
not_ended (pos m) e = go (eqb m EINTR) e
  where
    go : (b : Bool) → End ≡ cond b Again Failed → ⊥
    go true e = cc
    go false e = cc
not_ended (negsuc m) e = cc

-- The bytes that a call answered fit the room.
pub fits_room : (answer : Result ℕ Error) (part : List ℕ) (room : ℕ) → ReadsAtMost answer part → length part ≤ room → IfOk answer (λ m. m ≤ room)
fits_room (Ok m) part room fits e = omega (arith, fits.0)
fits_room (Err error) part room fits e = tt

-- Bytes that fit a part that fits the room.
pub fits_part : (answer : Result ℕ Error) (part : List ℕ) (room : ℕ) → WritesAtMost answer part → length part ≤ room → IfOk answer (λ m. m ≤ room)
fits_part (Ok m) part room fits e = omega arith
fits_part (Err error) part room fits e = tt

module _ (got number : ℤ) (f : SFits w64 got) (room : ℕ) (error : ℤ) where
  -- A call that took bytes took as many as it answered, and one at least.
  pub took : (answer : Result ℕ Error) (n : ℕ) → AreNumbersOf answer got number → IfOk answer (λ m. m ≤ room) → Took n ≡ outcome_of (to_z w64 (of_z w64 got)) room error
      → (answer ≡ Ok n) × (0 < n) × (n ≤ room)
  unfolding outcome_of
  took answer n a fits e = go answer a fits (subst (λ z. Took n ≡ outcome_of z room error) (to_z-of_z w64 got f) e)
    where
      go : (answer : Result ℕ Error) → AreNumbersOf answer got number → IfOk answer (λ m. m ≤ room) → Took n ≡ outcome_of got room error → (answer ≡ Ok n) × (0 < n) × (n ≤ room)
      go (Ok zero) a fits e = let h : Took n ≡ End = subst (λ z. Took n ≡ outcome_of z room error) a.0 e in absurd (cc)
      go (Ok (suc m)) a fits e =
          let h : Took n ≡ Took (min (suc m) room) = subst (λ z. Took n ≡ outcome_of z room error) a.0 e in
          let same : n ≡ min (suc m) room = cc in
          let whole : n ≡ suc m = omega arith in
          (ap Ok (sym whole), omega arith, omega arith)
      go (Err err) a fits e = absurd (not_took error n (subst (λ z. Took n ≡ outcome_of z room error) a.0 e))

  -- A call that met the end answered that no byte moved.
  pub ended : (answer : Result ℕ Error) → AreNumbersOf answer got number → End ≡ outcome_of (to_z w64 (of_z w64 got)) room error → answer ≡ Ok 0
  unfolding outcome_of
  ended answer a e = go answer a (subst (λ z. End ≡ outcome_of z room error) (to_z-of_z w64 got f) e)
    where
      go : (answer : Result ℕ Error) → AreNumbersOf answer got number → End ≡ outcome_of got room error → answer ≡ Ok 0
      go (Ok zero) a e = refl
      go (Ok (suc m)) a e = let h : End ≡ Took (min (suc m) room) = subst (λ z. End ≡ outcome_of z room error) a.0 e in absurd (cc)
      go (Err err) a e = absurd (not_ended error (subst (λ z. End ≡ outcome_of z room error) a.0 e))

  -- A call that was interrupted answered an error.
  pub interrupted : (answer : Result ℕ Error) (P : ℕ → Type 0) (Q : Type 0) → AreNumbersOf answer got number → Again ≡ outcome_of (to_z w64 (of_z w64 got)) room error
      → MatchResult answer P (λ _. Q) → Q
  unfolding outcome_of
  interrupted answer P Q a e h = go answer a (subst (λ z. Again ≡ outcome_of z room error) (to_z-of_z w64 got f) e) h
    where
      go : (answer : Result ℕ Error) → AreNumbersOf answer got number → Again ≡ outcome_of got room error → MatchResult answer P (λ _. Q) → Q
      go (Ok zero) a e h = let k : Again ≡ End = subst (λ z. Again ≡ outcome_of z room error) a.0 e in absurd (cc)
      go (Ok (suc m)) a e h = let k : Again ≡ Took (min (suc m) room) = subst (λ z. Again ≡ outcome_of z room error) a.0 e in absurd (cc)
      go (Err err) a e h = h

module _ (at : ℕ) (room : ℕ) (buf part : List ℕ) (within : at ≤ length buf) where
  -- The front of a buffer whose bytes from `at` on were lent and came back as `part`.
  pub take_more : (n : ℕ) → n ≤ length part → take (at + n) (put_mid at room buf part) ≡ take at buf ++ take n part
  take_more n fits =
      let e : length (take at buf) ≡ at = length-take-le at buf within in
      subst (λ k. take (k + n) (put_mid at room buf part) ≡ take at buf ++ take n part) e
      (take-append-add (take at buf) (part ++ post_of at room buf) n ∙ ap (λ l. take at buf ++ l) (take-append-le n part (post_of at room buf) fits))

-- The front of the bytes that were written, of which a call took n more from the part that it was given.
pub take_part : (at n : ℕ) (bytes : List ℕ) → n ≤ length bytes - at → take at bytes ++ take n (take (length bytes - at) (drop at bytes)) ≡ take (at + n) bytes
take_part at n bytes h = ap (λ l. take at bytes ++ l) (take-take n (length bytes - at) (drop at bytes) h) ∙ sym (take-add at n bytes)
