-- What a field is, by what the code found of it.
use Rattle.std.proofs.Common.{ℕ, ◌+◌, ◌-◌, ◌≡◌, sym, ap, ◌∙◌, Bool, true, false, cond, List, drop}
use Rattle.std.proofs.Common.{◌≤◌, arith, length, length-drop}
use Rattle.csv_field.proofs.Runs.{closed_in}
use native.Mathlib.Nat.{add-sub_cancel_left}
use lib.ListN.{get_or}
use lib.Dec.{eqb}
use Rattle.csv_field.specs.FieldGrammar.{DQUOTE}
use Rattle.csv_field.specs.FieldReading.{text_length, quotes, stop_of, quoted_to, quoted_at, no_span, field_at}
use Rattle.csv_field.specs.declared.Quotes.TheVariants.{Unclosed, Broken, Closed}
use Rattle.csv_field.specs.declared.Stop.{Stop}
use Rattle.csv_field.specs.declared.Stop.TheVariants.{Bad, Cut}

module _ (s : List ℕ) (cut : Bool) (at : ℕ) where
  -- in quotes stands a byte that quotes may not hold
  pub quoted-broken : quotes 0 false (drop at s) ≡ Broken → record { span = no_span; end = 0; stop = Bad } ≡ quoted_at s cut at
  unfolding quoted_to
  quoted-broken e = sym (ap (quoted_to s cut at) e)

  -- no closing quote stands in the bytes that may be looked at
  pub quoted-open : {x : Bool} → quotes 0 false (drop at s) ≡ Unclosed → cut ≡ x → record { span = no_span; end = 0; stop = cond x Cut Bad } ≡ quoted_at s cut at
  unfolding quoted_to
  quoted-open {x} e f = sym (ap (quoted_to s cut at) e ∙ (λ i. record { span = no_span; end = 0; stop = cond (f i) Cut Bad }))

  -- a closing quote stands after n bytes
  pub quoted-closed : {n : ℕ} {d : Bool} {st : Stop} → quotes 0 false (drop at s) ≡ Closed n d → st ≡ stop_of cut (drop (at + n + 1) s) →
      record { span = record { start = at; len = n; doubled = d }; end = at + n + 1; stop = st } ≡ quoted_at s cut at
  unfolding quoted_to
  quoted-closed {n} {d} e f =
      (λ i. record { span = record { start = at; len = n; doubled = d }; end = at + n + 1; stop = f i }) ∙ sym (ap (quoted_to s cut at) e)

  -- the closing quote stands within the bytes
  pub closed-room : {n : ℕ} {d : Bool} → quotes 0 false (drop at s) ≡ Closed n d → at + n + 1 ≤ length s
  closed-room e = omega (arith, closed_in (drop at s) 0 false _ _ e, length-drop at s)

  -- a field that starts with a quote is a field in quotes
  pub field-quoted : eqb (get_or s at 0) DQUOTE ≡ true → field_at s cut at ≡ quoted_at s cut (at + 1)
  unfolding field_at
  field-quoted e = rw e

  -- a field that starts with another byte ends where the TEXTDATA ends
  pub field-bare : {end : ℕ} {st : Stop} → eqb (get_or s at 0) DQUOTE ≡ false → end ≡ at + text_length (drop at s) → st ≡ stop_of cut (drop end s) →
      record { span = record { start = at; len = end - at; doubled = false }; end = end; stop = st } ≡ field_at s cut at
  unfolding field_at
  field-bare {end} {st} e f g =
      rw e
      (λ i. record {
        span = record { start = at; len = (ap (λ (k : ℕ). k - at) f ∙ add-sub_cancel_left at (text_length (drop at s))) i; doubled = false };
        end = f i;
        stop = (g ∙ ap (λ (k : ℕ). stop_of cut (drop k s)) f) i;
      })

-- a field by what was found of it, for a search
pub ruleset fields = (quoted-broken, quoted-open, quoted-closed, closed-room, field-quoted, field-bare)
