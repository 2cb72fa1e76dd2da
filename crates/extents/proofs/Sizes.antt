-- How large the numbers of a lookup's answer can be.
use Rattle.std.proofs.Common.{ℕ, ◌+◌, ◌≤◌, ◌<◌, arith, ◌≡◌, refl, inl, inr, Bool, true, false, cond, ◌&&◌, List, ◌∷◌, eqb-true, leb-true}
use lib.Dec.{leb, eqb}
use borrow.Author.Tests.{eqb-false}
use Rattle.rows.specs.Limits.{ROWS, OFFSET_MAX}
use Rattle.rows.specs.Questions.{first_no}
use Rattle.rows.proofs.Asking.{all_yes}
use Rattle.extents_meaning.specs.Cells.{number_in}
use Rattle.extents_meaning.specs.Maps.{bytes_of, lawful}
use Rattle.extents_meaning.specs.Lookups.{change_of}
use Rattle.extents_meaning.proofs.Longest.{Fine, lawful-fine}
use Rattle.extents_meaning.proofs.Trips.{lawful-map}
use Rattle.extents_meaning.proofs.Changes.{change_iff}
use Rattle.extents.specs.LookupAnswers.{LookupAnswer}
use Rattle.extents.specs.LookupAnswers as looked
use Rattle.extents.specs.Entries.{asks_law, asks_range, lookup_of, lookup_refusal, looked_up}

-- A row number is at most 4,096 and a mark at most 1; a next byte lies within the offset range; a refusal's number is 1 to 13.
abbrev pub Small : LookupAnswer → Type 0
Small (looked.Found s) = (s.number ≤ ROWS) × (s.mark ≤ 1) × (s.next ≤ OFFSET_MAX)
Small (looked.Refused number) = (1 ≤ number) × (number ≤ 13)

module _ (xs : List ℕ) (byte : ℕ) where
  -- An accepted lookup is of a byte of a lawful map.
  accepted-lookup : lookup_refusal xs byte ≡ 0 → (lawful xs ≡ true) × (byte < OFFSET_MAX)
  unfolding lookup_refusal
  accepted-lookup e =
      let a = all_yes (asks_law (lawful xs) ∷ asks_range byte 1) (omega arith, (omega arith, (omega arith, tt))) e in
      (a.0, omega (arith, leb-true (byte + 1) OFFSET_MAX a.1.1.0))

  -- The number of a lookup's refusal is at most 13.
  refusal-most : lookup_refusal xs byte ≤ 13
  unfolding lookup_refusal first_no
  refusal-most = go (lawful xs) (leb byte OFFSET_MAX && leb 1 OFFSET_MAX) (leb (byte + 1) OFFSET_MAX)
    where
      go : (law plain within : Bool) → cond law (cond plain (cond within 0 11) 10) 13 ≤ 13
      go false plain within = omega arith
      go true false within = omega arith
      go true true false = omega arith
      go true true true = omega arith

  -- Every answer of a lookup is small.
  pub lookup_small : Small (looked_up xs byte)
  unfolding lookup_of
  lookup_small = go (eqb (lookup_refusal xs byte) 0) refl
    where
      number : {c : ℕ} → Fine c → number_in c ≤ ROWS
      number (inl e) = omega arith
      number (inr f) = f.1

      go : (b : Bool) → eqb (lookup_refusal xs byte) 0 ≡ b →
          Small (cond b (looked.Found (lookup_of (bytes_of xs) byte)) (looked.Refused (lookup_refusal xs byte)))
      go true e =
          let a = accepted-lookup (eqb-true (lookup_refusal xs byte) 0 e) in (
            number (lawful-fine _ (lawful-map xs a.0).lawful-runs byte),
            omega arith,
            ((change_iff (bytes_of xs) byte (change_of (bytes_of xs) byte) a.1).0 refl).1,
          )
      go false e = let z = eqb-false (lookup_refusal xs byte) 0 e in (omega arith, refusal-most)
