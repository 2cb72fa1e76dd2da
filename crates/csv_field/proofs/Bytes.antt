-- The tests of a byte are the grammar's rules.
use Rattle.std.proofs.Common.{ℕ, ◌≤◌, ◌<◌, arith, ◌≡◌, refl, sym, ap, ◌∙◌, ◌↔◌, ◌⊎◌, inl, inr, Bool, true, false, not, ◌&&◌, ◌||◌, le-leb, leb-true, eq-eqb, ne_eqb}
use native.Mathlib.Decide.{dec_lt, ℕ_discrete}
use mathlib.Core.Bool.{or-true, false≢true}
use lib.Dec.{leb, eqb}
use borrow.Author.Tests.{lt-leb}
use Rattle.csv_field.specs.FieldGrammar.{COMMA, DQUOTE, TextData, x20_21, x23_2b, x2d_7e}
use Rattle.csv_field.specs.FieldReading.{byte_between, is_text}

-- one of two tests passed
pub or_cases : (x y : Bool) → x || y ≡ true → (x ≡ true) ⊎ (y ≡ true)
or_cases true y e = inl refl
or_cases false y e = inr e

-- both of two tests passed
and_both : (x y : Bool) → x && y ≡ true → (x ≡ true) × (y ≡ true)
and_both true y e = (refl, e)
and_both false y e = absurd (false≢true e)

-- a test that does not pass is false
pub untrue : (x : Bool) → (x ≡ true → ⊥) → x ≡ false
untrue true h = absurd (h refl)
untrue false h = refl

-- a byte in a range
range : (low high b : ℕ) → byte_between low high b ≡ true → (low ≤ b) × (b ≤ high)
range low high b e =
    let h = and_both (leb low b) (leb b high) e in
    (leb-true low b h.0, leb-true b high h.1)

-- the test of TEXTDATA is the rule
pub text-iff : (b : ℕ) → (is_text b ≡ true) ↔ TextData b
unfolding is_text
text-iff b = (to, from)
  where
    low : (byte_between 0x20 0x21 b ≡ true) ⊎ (byte_between 0x23 0x2B b ≡ true) → TextData b
    low (inl e) = let r = range 0x20 0x21 b e in x20_21 r.0 r.1
    low (inr e) = let r = range 0x23 0x2B b e in x23_2b r.0 r.1

    all : (byte_between 0x20 0x21 b || byte_between 0x23 0x2B b ≡ true) ⊎ (byte_between 0x2D 0x7E b ≡ true) → TextData b
    all (inl e) = low (or_cases (byte_between 0x20 0x21 b) (byte_between 0x23 0x2B b) e)
    all (inr e) = let r = range 0x2D 0x7E b e in x2d_7e r.0 r.1

    to : is_text b ≡ true → TextData b
    to e = all (or_cases (byte_between 0x20 0x21 b || byte_between 0x23 0x2B b) (byte_between 0x2D 0x7E b) e)

    from : TextData b → is_text b ≡ true
    from (x20_21 l h) = simp (le-leb 0x20 b l, le-leb b 0x21 h)
    from (x23_2b l h) = simp (le-leb 0x23 b l, le-leb b 0x2B h, or-true)
    from (x2d_7e l h) = simp (le-leb 0x2D b l, le-leb b 0x7E h, or-true)

-- what is no TEXTDATA fails the test
pub not_text : (b : ℕ) → (TextData b → ⊥) → is_text b ≡ false
not_text b h = untrue (is_text b) (λ e. h ((text-iff b).0 e))

-- the bytes between the bounds, the quote and the comma left out, are TEXTDATA
pub bounds_text : {b : ℕ} → 0x20 ≤ b → b ≤ 0x7E → (b ≡ DQUOTE → ⊥) → (b ≡ COMMA → ⊥) → TextData b
bounds_text {b} l h q c = low (dec_lt b 0x22)
  where
    high : Dec (b < 0x2C) → (b < 0x22 → ⊥) → TextData b
    high (yes t) n = x23_2b (omega arith) (omega arith)
    high (no t) n = x2d_7e (omega arith) (omega arith)

    low : Dec (b < 0x22) → TextData b
    low (yes t) = x20_21 l (omega arith)
    low (no t) = high (dec_lt b 0x2C) t

-- the bounds of TEXTDATA, in which the quote and the comma are left out
pub text-bounds : {b : ℕ} → TextData b → (0x20 ≤ b) × (b ≤ 0x7E) × (b ≡ DQUOTE → ⊥) × (b ≡ COMMA → ⊥)
text-bounds (x20_21 l h) = omega arith
text-bounds (x23_2b l h) = omega arith
text-bounds (x2d_7e l h) = omega arith

-- From %x2D on, TEXTDATA is all up to %x7E.
pub high-text : (b : ℕ) → 0x2D ≤ b → leb b 0x7E ≡ is_text b
high-text b l = go (dec_lt 0x7E b)
  where
    go : Dec (0x7E < b) → leb b 0x7E ≡ is_text b
    go (yes h) = lt-leb b 0x7E h ∙ sym (not_text b (λ t. let r = text-bounds t in omega arith))
    go (no h) = let m : b ≤ 0x7E = omega arith in le-leb b 0x7E m ∙ sym ((text-iff b).1 (x2d_7e l m))

-- From %x20 up to %x2C, TEXTDATA is all but the quote and the comma.
pub low-text : (b : ℕ) → 0x20 ≤ b → b < 0x2D → (b ≡ DQUOTE → ⊥) → not (eqb b COMMA) ≡ is_text b
low-text b l h q = go (ℕ_discrete b COMMA)
  where
    go : Dec (b ≡ COMMA) → not (eqb b COMMA) ≡ is_text b
    go (yes c) = ap not (eq-eqb b COMMA c) ∙ sym (not_text b (λ t. (text-bounds t).3 c))
    go (no c) = ap not (ne_eqb b COMMA c) ∙ sym ((text-iff b).1 (bounds_text l (omega arith) q c))

-- a byte below %x20 is no TEXTDATA
pub below-text : (b : ℕ) → b < 0x20 → is_text b ≡ false
below-text b h = not_text b (λ t. let r = text-bounds t in omega arith)

-- the quote is no TEXTDATA
pub quote-text : (b : ℕ) → b ≡ DQUOTE → is_text b ≡ false
quote-text b e = not_text b (λ t. (text-bounds t).2 e)

-- the TEXTDATA below %x2D, for a search
pub ruleset low_texts = (below-text, quote-text, low-text)

-- TEXTDATA has no quote
pub text-unquote : {b : ℕ} → TextData b → eqb b DQUOTE ≡ false
text-unquote {b} t = ne_eqb b DQUOTE (text-bounds t).2
