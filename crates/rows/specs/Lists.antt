-- Numbers in a list.
use Rattle.std.specs.Prelude.{ℕ, ◌≡◌, ◌⊎◌, List, [], ◌∷◌}

-- A number stands in a list.
abbrev pub In : ℕ → List ℕ → Type 0
In a [] = ⊥
In a (b ∷ l) = (a ≡ b) ⊎ In a l

-- Each number of a list stands there once.
abbrev pub Once : List ℕ → Type 0
Once [] = Unit {0}
Once (a ∷ l) = (In a l → ⊥) × Once l
