-- Tests that pass, both or one of them.
use Rattle.std.proofs.Common.{◌≡◌, refl, sym, ◌∙◌, ◌⊎◌, inl, inr, Bool, true, false, not, ◌&&◌, ◌||◌}
use mathlib.Core.Bool.{false≢true, or-true}
use borrow.Author.Tests.{not-true, not-false}

-- Both of two tests passed.
pub and_out : (x y : Bool) → x && y ≡ true → (x ≡ true) × (y ≡ true)
and_out true y e = (refl, e)
and_out false y e = absurd (false≢true e)

-- One of two tests passed.
pub or_out : (x y : Bool) → x || y ≡ true → (x ≡ true) ⊎ (y ≡ true)
or_out true y e = inl refl
or_out false y e = inr e

-- Where the second of two tests passes, one of them does.
pub or_right : (x y : Bool) → y ≡ true → x || y ≡ true
or_right x y e = rw e (or-true x)

-- Tests that pass together are equal.
pub same_test : (x y : Bool) → (x ≡ true → y ≡ true) → (y ≡ true → x ≡ true) → x ≡ y
same_test true y f g = sym (f refl)
same_test false true f g = g refl
same_test false false f g = refl

-- A test that does not pass answers false.
pub not_passed : (x : Bool) → (x ≡ true → ⊥) → x ≡ false
not_passed true f = absurd (f refl)
not_passed false f = refl

-- Two tests that do not both pass answer false together.
pub not_both : (x y : Bool) → (x ≡ true → y ≡ true → ⊥) → x && y ≡ false
not_both true y f = not_passed y (f refl)
not_both false y f = refl

-- A call whose negated answer is true: the test fails.
pub refused : {x r : Bool} → r ≡ x → not r ≡ true → x ≡ false
refused {x} {r} e f = sym e ∙ not-true r f

-- A call whose negated answer is false: the test passes.
pub passed : {x r : Bool} → r ≡ x → not r ≡ false → x ≡ true
passed {x} {r} e f = sym e ∙ not-false r f
