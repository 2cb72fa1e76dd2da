-- What two files answer to a row is the same exactly when a read finds the same row numbers.
use Rattle.std.proofs.Common.{ℕ, arith, ◌≡◌, refl, ◌↔◌, Bool, true, false, cond, List, [], ◌++◌, length, drop, leb-true, ltb-true}
use lib.Dec.{leb, eqb}
use Rattle.rows.specs.Kinds.{READ}
use Rattle.rows.specs.declared.row.Row.{Row}
use Rattle.rows.proofs.Bools.{and_out}
use Rattle.extents_meaning.specs.Cells.{Bytes, number_in, in_range}
use Rattle.extents_meaning.specs.Runs.{pieces_of}
use Rattle.extents_meaning.specs.Maps.{threes}
use Rattle.extents_meaning.proofs.Longest.{range-in, pieces-same, pieces-tell}
use Rattle.extents_meaning.proofs.Threes.{pieces-told}
use Rattle.machine_meaning.specs.Layers.{pieces_read}
use Rattle.machine_meaning.specs.Steps.{refusing, done, listed, answered}
use Rattle.consistency.specs.Files.{Same}

-- An answer is no refusal.
no_refusal : (x : Bool) (count number : ℕ) → cond x (listed count) done ≡ refusing number → ⊥
no_refusal true count number e = let z : ◌≡◌ {A = ℕ} 0 1 = cc in absurd (omega arith)
no_refusal false count number e = let z : ◌≡◌ {A = ℕ} 0 1 = cc in absurd (omega arith)

-- Equal counts.
same_count : {n m : ℕ} → listed n ≡ listed m → n ≡ m
same_count e = cc

module _ (r : Row) (f g : Bytes) (xs ys out : List ℕ) where
  -- A read finds the same row numbers in both files.
  abbrev Found : Type 0
  Found = eqb r.kind READ ≡ true → (b : ℕ) → in_range r.offset r.length b ≡ true → number_in (f b) ≡ number_in (g b)

  -- Files in which a read finds the same row numbers have the same pieces.
  found-pieces : Found → pieces_read r f ≡ pieces_read r g
  found-pieces h = go (eqb r.kind READ) refl
    where
      go : (x : Bool) → eqb r.kind READ ≡ x → cond x (pieces_of f r.offset r.length) [] ≡ cond x (pieces_of g r.offset r.length) []
      go true e = pieces-same f g r.offset r.length (λ b l k. h e b (range-in r.offset r.length b l k))
      go false e = refl

  -- Where both answers are the same, the read finds the same row numbers.
  pieces-found : Same (answered r (pieces_read r f) xs out) (answered r (pieces_read r g) ys out) → Found
  pieces-found same e b h =
      let s = r.offset in
      let n = r.length in
      let in-range = and_out (leb s b) _ h in
      let count : listed (length (pieces_of f s n)) ≡ listed (length (pieces_of g s n)) = rw e at same.answers in
      let told = pieces-told f g s n out (same_count count) (rw e at same.pieces) in
      pieces-tell f g s n told b (leb-true _ _ in-range.0) (ltb-true _ _ in-range.1)

  -- Both answers are the same exactly where the read finds the same row numbers.
  pub same-iff : Same (answered r (pieces_read r f) xs out) (answered r (pieces_read r g) ys out) ↔ Found
  same-iff = (pieces-found, λ h. same (found-pieces h))
    where
      same : pieces_read r f ≡ pieces_read r g → Same (answered r (pieces_read r f) xs out) (answered r (pieces_read r g) ys out)
      same e =
          record {
            accepted = no_refusal (eqb r.kind READ) (length (pieces_read r f));
            plainly_accepted = no_refusal (eqb r.kind READ) (length (pieces_read r g));
            answers = λ i. cond (eqb r.kind READ) (listed (length (e i))) done;
            pieces = λ i. threes (e i) ++ drop (length (threes (e i))) out;
          }
