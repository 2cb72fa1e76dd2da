-- A table by key of the last numbers that pass: before any number, and with one number more.
use Rattle.std.proofs.Common.{ℕ, suc, ◌<◌, ◌≡◌, refl, sym, ap, ◌∙◌, Bool, false, cond, List, replicate, length-set, get_or-set_same, get_or-set_other, eq-eqb, ne_eqb}
use native.Mathlib.Decide.{ℕ_discrete}
use lib.ListN.{get_or, set, length-replicate}
use lib.Dec.{eqb}
use Rattle.rows.specs.Counting.{last_below, LastBy}
use Rattle.rows.proofs.Zeros.{zeros}

module _ (test : ℕ → ℕ → Bool) (size : ℕ) where
  -- Before any number, the table holds 0 under every key.
  pub lasts_none : LastBy test size (replicate size 0) 0
  unfolding last_below
  lasts_none = record { length_is = length-replicate {A = ℕ} size 0; last_at = λ key h. zeros size key }

  module _ {table : List ℕ} {n : ℕ} (t : LastBy test size table n) where
    -- One number more is the last under a key exactly where it passes that key's test.
    next : (key : ℕ) {b : Bool} → test key n ≡ b → last_below (suc n) (test key) ≡ cond b (suc n) (last_below n (test key))
    unfolding last_below
    next key e = ap (λ (b : Bool). cond b (suc n) (last_below n (test key))) e

    -- A number that passes under no key leaves the table.
    pub lasts-kept : ((key : ℕ) → test key n ≡ false) → LastBy test size table (suc n)
    lasts-kept e = record { length_is = t.length_is; last_at = λ key h. t.last_at key h ∙ sym (next key (e key)) }

    -- A number that passes under one key alone is stored there.
    pub lasts-noted : (own : ℕ) → own < size → ((key : ℕ) → test key n ≡ eqb own key) → LastBy test size (set table own (suc n)) (suc n)
    lasts-noted own l e =
        record { length_is = length-set table own (suc n) ∙ t.length_is; last_at = λ key h. at key h (ℕ_discrete key own) }
      where
        at : (key : ℕ) → key < size → Dec (key ≡ own) → get_or (set table own (suc n)) key 0 ≡ last_below (suc n) (test key)
        at key h (yes q) =
            rw q (get_or-set_same table own (suc n) 0 (rw t.length_is l) ∙ sym (next own (e own ∙ eq-eqb own own refl)))
        at key h (no q) =
            get_or-set_other table own key (suc n) 0 q ∙ t.last_at key h ∙ sym (next key (e key ∙ ne_eqb own key (λ u. q (sym u))))
