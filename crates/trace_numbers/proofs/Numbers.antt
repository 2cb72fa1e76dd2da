-- Numbers: the first byte, the digits one by one, and why two quotes side by side change no number.
use Rattle.std.proofs.Common.{ℕ, ◌+◌, ◌*◌, ◌-◌, ◌≤◌, ◌<◌, arith, add-one, ◌≡◌, refl, sym, ap, ◌∙◌, ◌⊎◌, inl, inr, Bool, true, false, cond, not, ◌&&◌, ◌||◌, List, [], ◌∷◌, length, drop, drop_of_length-le, drop-cons, lt-ltb, le-ltb, eqb-true, Option, Some, None}
use mathlib.Core.Bool.{and-false, false≢true}
use lib.ListN.{get_or}
use lib.Dec.{ltb, eqb}
use borrow.Author.Tests.{lt-leb}
use Rattle.csv_field.specs.FieldReading.{byte_between}
use Rattle.csv_content.specs.Content.{raw_of, content_of, undouble, is_nil}
use Rattle.csv_field.specs.declared.Span.{Span}
use Rattle.trace_numbers.specs.Numbers.{Number, Plain, Bad}
use Rattle.std.specs.Option.{ok_or}
use Rattle.rows.specs.declared.refusal.Refusal.TheVariants.{Range}
use Rattle.trace_numbers.specs.Numbers.{number_where, told_number, Ranged}
use Rattle.trace_numbers.specs.Numbers.{all_digits, starts_plain, value_from, number_below}

-- no byte starts no plain number
pub plain-none : (s : List ℕ) → length s ≡ 0 → starts_plain s ≡ false
unfolding starts_plain
plain-none [] h = refl
plain-none (b ∷ t) h = absurd (omega arith)

-- a byte starts a plain number unless it is a zero and others follow
pub plain_first : (s : List ℕ) → 0 < length s → starts_plain s ≡ not (eqb (get_or s 0 0) 0x30) || is_nil (drop 1 s)
unfolding starts_plain
plain_first [] h = absurd (omega arith)
plain_first (b ∷ t) h = refl

-- how bytes start a plain number
pub ruleset plain_starts = (plain-none, plain_first)

-- the start of a plain number has a byte
pub plain-some : (s : List ℕ) → starts_plain s ≡ true → 0 < length s
unfolding starts_plain
plain-some [] e = absurd (false≢true e)
plain-some (b ∷ t) e = omega arith

-- the number of the digits t behind digits of value v
unfoldable pub number_from : ℕ → ℕ → List ℕ → Number
number_from below v t = cond (all_digits t && ltb (value_from v t) below) (Plain (value_from v t)) Bad

-- bytes that start as a plain number are the number of their digits
pub number-start : (below : ℕ) (s : List ℕ) → starts_plain s ≡ true → number_below below s ≡ number_from below 0 s
unfolding number_below number_from
number-start below s e = rw e

-- bytes that start otherwise are no number
pub number-none : (below : ℕ) (s : List ℕ) → starts_plain s ≡ false → number_below below s ≡ Bad
unfolding number_below
number-none below s e = rw e

-- digits behind a value make the value no smaller
value-least : (v : ℕ) (t : List ℕ) → v ≤ value_from v t
unfolding value_from
value-least v [] = omega arith
value-least v (b ∷ t) = omega (arith, value-least (v * 10 + (b - 0x30)) t)

-- a value at or past the bound is no number, whatever digits follow
past_bound : (below v : ℕ) (t : List ℕ) → below ≤ v → number_from below v t ≡ Bad
unfolding number_from
past_bound below v t h = simp (le-ltb (value_from v t) below (omega (arith, value-least v t)), and-false)

module _ (below v : ℕ) (s : List ℕ) (i : ℕ) where
  -- a byte that is no digit makes no number
  pub digit_other : i < length s → byte_between 0x30 0x39 (get_or s i 0) ≡ false → number_from below v (drop i s) ≡ Bad
  unfolding number_from all_digits
  digit_other h e = rw (drop-cons s i 0 h, e)

  -- a digit goes into the value
  pub digit_on : i < length s → byte_between 0x30 0x39 (get_or s i 0) ≡ true →
      number_from below v (drop i s) ≡ number_from below (v * 10 + (get_or s i 0 - 0x30)) (drop (i + 1) s)
  unfolding number_from all_digits value_from
  digit_on h e = rw (add-one, drop-cons s i 0 h, e)

  -- where no byte is left, the value is the number
  pub digits_end : length s ≤ i → v < below → number_from below v (drop i s) ≡ Plain v
  unfolding number_from all_digits value_from
  digits_end h l = rw (drop_of_length-le s h, lt-ltb v below l)

-- a digit that takes the value to the bound or past it makes no number
pub digit_past : (below v : ℕ) (s : List ℕ) (i : ℕ) → i < length s → byte_between 0x30 0x39 (get_or s i 0) ≡ true →
    below ≤ v * 10 + (get_or s i 0 - 0x30) → number_from below v (drop i s) ≡ Bad
digit_past below v s i h e p = digit_on below v s i h e ∙ past_bound below (v * 10 + (get_or s i 0 - 0x30)) (drop (i + 1) s) p

-- Bytes without a quote are their own content. Of bytes with a quote, neither the bytes nor the content are digits alone.
undoubled : (t : List ℕ) → (undouble false t ≡ t) ⊎ ((all_digits (undouble false t) ≡ false) × (all_digits t ≡ false))
unfolding undouble all_digits
undoubled [] = inl refl
undoubled (b ∷ t) = go (eqb b 0x22) refl (undoubled t)
  where
    go : (x : Bool) → eqb b 0x22 ≡ x → (undouble false t ≡ t) ⊎ ((all_digits (undouble false t) ≡ false) × (all_digits t ≡ false)) →
        (cond x (b ∷ undouble true t) (b ∷ undouble false t) ≡ b ∷ t)
        ⊎ ((all_digits (cond x (b ∷ undouble true t) (b ∷ undouble false t)) ≡ false) × (byte_between 0x30 0x39 b && all_digits t ≡ false))
    go true q r = let l = lt-leb 0x30 b (omega (arith, eqb-true b 0x22 q)) in inr (rw l, rw l)
    go false q (inl e) = inl (ap (λ (l : List ℕ). b ∷ l) e)
    go false q (inr p) = inr (simp (p.0, and-false), simp (p.1, and-false))

-- bytes with more than digits are no number
number-other : (below : ℕ) (t : List ℕ) → all_digits t ≡ false → number_below below t ≡ Bad
unfolding number_below
number-other below t e = simp (e, and-false)

-- the number of a field's bytes is the number of its content
number-content : (below : ℕ) (text : List ℕ) (span : Span) (r : List ℕ) → r ≡ raw_of text span →
    number_below below r ≡ number_below below (content_of text span)
unfolding content_of
number-content below text span r e = ap (number_below below) e ∙ either span.doubled (undoubled (raw_of text span))
  where
    t : List ℕ
    t = raw_of text span

    either : (d : Bool) → (undouble false t ≡ t) ⊎ ((all_digits (undouble false t) ≡ false) × (all_digits t ≡ false)) →
        number_below below t ≡ number_below below (cond d (undouble false t) t)
    either false u = refl
    either true (inl u) = ap (number_below below) (sym u)
    either true (inr u) = number-other below t u.1 ∙ sym (number-other below (undouble false t) u.0)

-- the question of one number has the answer that reading the number has
pub ranged : (answer : Option ℕ) {number : Number} → told_number answer ≡ number → Ranged number (ok_or answer Range)
ranged (Some n) e = e
ranged None e = (e, refl)

-- the number of a used field
pub number-used : (below : ℕ) {used : Bool} (text : List ℕ) (span : Span) (r : List ℕ) → r ≡ raw_of text span → used ≡ true →
    number_below below r ≡ number_where used below (content_of text span)
number-used below text span r e f = rw f (number-content below text span r e)
