-- Refusals by their numbers, and the answers that hand on a refusal with more said.
use Rattle.std.proofs.Common.{ℕ, arith, ◌≡◌, refl, Result, Ok, Err}
use Rattle.std.specs.Result.{MatchResult}
use Rattle.rows.specs.Refusals.{refused_at}
use Rattle.rows.specs.declared.refusal.Refused.{Refused}
use Rattle.rows.specs.declared.refusal.Refusal.{Refusal}

-- What an answer was that has got a place.
module _ {T : Type 0} (place : ℕ) where
  -- a refusal at a place was the refusal alone
  pub refusal-was : (answer : Result T Refusal) (y : Refused) →
      MatchResult answer (λ x. ◌≡◌ {A = Result T Refused} (Err y) (Ok x)) (λ e. ◌≡◌ {A = Result T Refused} (Err y) (Err (refused_at e place))) →
      (e : Refusal) × (answer ≡ Err e) × (y ≡ refused_at e place)
  refusal-was (Ok x) y h = let z : ◌≡◌ {A = ℕ} 0 1 = cc h in absurd (omega arith)
  refusal-was (Err e) y h = (e, refl, cc h)

  -- a value stayed as it was
  pub value-was : (answer : Result T Refusal) (x : T) →
      MatchResult answer (λ y. ◌≡◌ {A = Result T Refused} (Ok x) (Ok y)) (λ e. ◌≡◌ {A = Result T Refused} (Ok x) (Err (refused_at e place))) →
      answer ≡ Ok x
  value-was (Ok y) x h = cc h
  value-was (Err e) x h = let z : ◌≡◌ {A = ℕ} 0 1 = cc h in absurd (omega arith)
