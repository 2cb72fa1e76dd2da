-- The decimal digits of a number are a plain number whose value is the number, and they are TEXTDATA.
use Rattle.std.proofs.Common.{ℕ, zero, suc, ◌+◌, ◌*◌, ◌-◌, ◌/◌, ◌%◌, ◌≤◌, ◌<◌, arith, ◌≡◌, refl, sym, ap, ◌∙◌, Bool, true, cond, ◌&&◌, List, [], ◌∷◌, ◌++◌, lt-ltb, le-ltb, le-leb, leb-true, ne_eqb}
use native.Mathlib.Decide.{dec_lt}
use mathlib.Core.Bool.{and-true, and_assoc}
use lib.Dec.{leb, ltb}
use Rattle.csv_field.specs.FieldGrammar.{x2d_7e, NonEscaped, none, text}
use Rattle.csv_field.specs.FieldReading.{byte_between}
use Rattle.print.specs.Decimal.{WIDTH, digits_of, width_within, decimal_of}
use Rattle.rows.proofs.Bools.{and_out}
use Rattle.trace_numbers.specs.Numbers.{all_digits, starts_plain, is_plain, value_from, value, OFFSETS}

-- The value of digits with one more behind them.
value-snoc : (v : ℕ) (l : List ℕ) (d : ℕ) → value_from v (l ++ (d ∷ [])) ≡ value_from v l * 10 + (d - 0x30)
unfolding value_from
value-snoc v [] d = refl
value-snoc v (b ∷ t) d = value-snoc (v * 10 + (b - 0x30)) t d

-- Digits with one more behind them are digits.
digits_snoc : (l : List ℕ) (d : ℕ) → all_digits (l ++ (d ∷ [])) ≡ (all_digits l && byte_between 0x30 0x39 d)
unfolding all_digits
digits_snoc [] d = and-true (byte_between 0x30 0x39 d)
digits_snoc (b ∷ t) d = ap (λ (x : Bool). byte_between 0x30 0x39 b && x) (digits_snoc t d) ∙ sym (and_assoc (byte_between 0x30 0x39 b) _ _)

-- The byte of a digit.
digit_in : (n : ℕ) → byte_between 0x30 0x39 (0x30 + n % 10) ≡ true
digit_in n = rw (le-leb 0x30 (0x30 + n % 10) (omega arith), le-leb (0x30 + n % 10) 0x39 (omega arith))

-- The last k digits of a number are digits.
pub all_digits_lem : (k n : ℕ) → all_digits (digits_of k n) ≡ true
unfolding digits_of all_digits
all_digits_lem zero n = refl
all_digits_lem (suc k) n = digits_snoc (digits_of k (n / 10)) (0x30 + n % 10) ∙ rw (all_digits_lem k (n / 10), digit_in n)

-- Powers of ten.
unfoldable tens : ℕ → ℕ
tens zero = 1
tens (suc k) = 10 * tens k

-- A number of 10 or more below a power of ten has a digit more than one.
more-digits : (k n : ℕ) → n < 10 * tens k → 10 ≤ n → 0 < k
unfolding tens
more-digits zero n h l = absurd (omega arith)
more-digits (suc k) n h l = omega arith

-- A number of at most k digits is read back.
value-within : (k n : ℕ) → n < tens k → 0 < k → value (digits_of (width_within k n) n) ≡ n
unfolding digits_of width_within value_from tens
value-within zero n h z = absurd (omega arith)
value-within (suc k) n h z = go (dec_lt n 10) (value-within k (n / 10))
  where
    go : Dec (n < 10) → (n / 10 < tens k → 0 < k → value (digits_of (width_within k (n / 10)) (n / 10)) ≡ n / 10) →
        value (digits_of (cond (ltb n 10) 1 (suc (width_within k (n / 10)))) n) ≡ n
    go (yes l) ih = rw (lt-ltb n 10 l) (omega (arith, l))
    go (no l) ih =
        let m : 10 ≤ n = omega (arith, l) in
        let e : n / 10 * 10 + (0x30 + n % 10 - 0x30) ≡ n = omega arith in
        rw (le-ltb n 10 m)
        (value-snoc 0 (digits_of (width_within k (n / 10)) (n / 10)) (0x30 + n % 10)
        ∙ ap (λ (q : ℕ). q * 10 + (0x30 + n % 10 - 0x30)) (ih (omega (arith, h)) (more-digits k n h m))
        ∙ e)

-- Bytes whose first is no zero.
abbrev Leads : List ℕ → Type 0
Leads l = (b : ℕ) × (t : List ℕ) × (l ≡ b ∷ t) × (b ≡ 0x30 → ⊥)

-- The digits of a number other than 0 start with none.
leads : (k n : ℕ) → n < tens k → 0 < k → 0 < n → Leads (digits_of (width_within k n) n)
unfolding digits_of width_within tens
leads zero n h z s = absurd (omega arith)
leads (suc k) n h z s = go (dec_lt n 10) (leads k (n / 10))
  where
    go : Dec (n < 10) → (n / 10 < tens k → 0 < k → 0 < n / 10 → Leads (digits_of (width_within k (n / 10)) (n / 10))) →
        Leads (digits_of (cond (ltb n 10) 1 (suc (width_within k (n / 10)))) n)
    go (yes l) ih = rw (lt-ltb n 10 l) (0x30 + n % 10, [], refl, λ q. omega arith)
    go (no l) ih =
        let m : 10 ≤ n = omega (arith, l) in
        let r = ih (omega (arith, h)) (more-digits k n h m) (omega arith) in
        rw (le-ltb n 10 m) (r.0, r.1 ++ ((0x30 + n % 10) ∷ []), ap (λ (x : List ℕ). x ++ ((0x30 + n % 10) ∷ [])) r.2, r.3)

-- Bytes whose first is no zero start as a plain number does.
leads-plain : {l : List ℕ} → Leads l → starts_plain l ≡ true
unfolding starts_plain
leads-plain (b, t, e, n) = rw (e, ne_eqb b 0x30 n)

-- A number below 2^32 is below the tenth power of ten.
below-tens : {n : ℕ} → n < OFFSETS → n < tens WIDTH
unfolding tens
below-tens h = omega arith

-- A 32-bit number is read back from its digits.
pub value-back : (n : ℕ) → n < OFFSETS → value (decimal_of n) ≡ n
unfolding decimal_of
value-back n h = value-within WIDTH n (below-tens h) (omega arith)

-- The digits of a 32-bit number are a plain number.
pub plain_back : (n : ℕ) → n < OFFSETS → is_plain (decimal_of n) ≡ true
unfolding decimal_of starts_plain all_digits digits_of width_within
plain_back n h = go (dec_lt 0 n)
  where
    go : Dec (0 < n) → starts_plain (decimal_of n) && all_digits (decimal_of n) ≡ true
    go (yes s) = rw (leads-plain (leads WIDTH n (below-tens h) (omega arith) s), all_digits_lem _ n)
    go (no s) = let z : n ≡ 0 = omega arith in rw z

-- Digits are TEXTDATA.
digits_text : (l : List ℕ) → all_digits l ≡ true → NonEscaped l
unfolding all_digits
digits_text [] e = none
digits_text (b ∷ t) e =
    let a = and_out (byte_between 0x30 0x39 b) (all_digits t) e in
    let r = and_out (leb 0x30 b) (leb b 0x39) a.0 in
    text {b = b} (x2d_7e (omega (arith, leb-true 0x30 b r.0)) (omega (arith, leb-true b 0x39 r.1))) (digits_text t a.1)

-- The digits of a number are TEXTDATA.
pub decimal_text : (n : ℕ) → NonEscaped (decimal_of n)
unfolding decimal_of
decimal_text n = digits_text _ (all_digits_lem _ n)
