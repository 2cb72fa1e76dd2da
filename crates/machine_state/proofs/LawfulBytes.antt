-- The bytes of a lawful map change only at points up to the end of files, and a row that passes its questions writes at such points.
use Rattle.std.proofs.Common.{ℕ, zero, suc, ◌+◌, ◌≤◌, ◌<◌, arith, ◌≡◌, sym, ◌∙◌, inl, inr, true, List, [], ◌∷◌}
use native.Mathlib.Decide.{dec_lt, ℕ_discrete}
use Rattle.rows.specs.Limits.{OFFSET_MAX}
use Rattle.rows.specs.Kinds.{WRITE}
use Rattle.rows.specs.declared.row.Row.{Row}
use Rattle.rows.specs.Lists.{In}
use Rattle.rows.proofs.Bools.{and_out}
use Rattle.extents_meaning.specs.Maps.{runs, bytes_of, lawful, lawful_published, no_marks}
use Rattle.extents_meaning.proofs.Longest.{mean-behind, lawful-fine}
use Rattle.extents_meaning.proofs.Trips.{lawful-map, no_marks-out}
use Rattle.machine_meaning.specs.States.{Header}
use Rattle.machine_meaning.specs.Steps.{row_asked}
use Rattle.machine_meaning.proofs.Points.{prior, Pointed, PlainPointed, Writing}
use Rattle.rows.proofs.Asking.{AllYes}
use Rattle.machine_state.proofs.Questions.{asked-number, asked-range}

-- A list that holds every number up to n.
pub points_to : (n : ℕ) → (l : List ℕ) × ((b : ℕ) → b ≤ n → In b l)
points_to zero = (0 ∷ [], λ b h. inl (omega arith))
points_to (suc n) = let r = points_to n in (suc n ∷ r.0, λ b h. go r.0 r.1 b h (ℕ_discrete b (suc n)))
  where
    go : (l : List ℕ) → ((b : ℕ) → b ≤ n → In b l) → (b : ℕ) → b ≤ suc n → Dec (b ≡ suc n) → In b (suc n ∷ l)
    go l m b h (yes e) = inl e
    go l m b h (no e) = inr (m b (omega arith))

-- The points hold every number up to the end of files.
module _ (points : List ℕ) (whole : (b : ℕ) → b ≤ OFFSET_MAX → In b points) where
  -- The bytes of a lawful map change only at the points.
  pub lawful-pointed : (xs : List ℕ) → lawful xs ≡ true → Pointed points (bytes_of xs)
  lawful-pointed xs law =
      let rs = (lawful-map xs law).lawful-runs in
      let ends = mean-behind OFFSET_MAX 0 0 (runs xs) rs.in_order in
      record { fine = lawful-fine (runs xs) rs; ends = ends; changes = λ b d. go ends b d (dec_lt OFFSET_MAX b) }
    where
      go : ((b : ℕ) → OFFSET_MAX ≤ b → bytes_of xs b ≡ 0) → (b : ℕ) → (prior (bytes_of xs) b ≡ bytes_of xs b → ⊥) → Dec (OFFSET_MAX < b) →
          In b points
      go ends zero d l = whole 0 (omega arith)
      go ends (suc b) d (yes l) = absurd (d (ends b (omega arith) ∙ sym (ends (suc b) (omega arith))))
      go ends (suc b) d (no l) = whole (suc b) (omega arith)

  -- The bytes of a lawful published map change only at the points and have no marks.
  pub published-pointed : (xs : List ℕ) → lawful_published xs ≡ true → PlainPointed points (bytes_of xs)
  published-pointed xs law =
      let b = and_out (lawful xs) (no_marks (runs xs)) law in
      record { bytes = lawful-pointed xs b.0; unmarked = no_marks-out (runs xs) b.1 }

  -- A row whose questions all got Yes writes from point to point.
  pub asked-writing : (h : Header) (r : Row) (number : ℕ) → AllYes (row_asked h r number) → Writing points r number
  asked-writing h r number all =
      let n = asked-number h r number all in
      let end : r.kind ≡ WRITE → r.offset + r.length ≤ OFFSET_MAX = λ e. (asked-range h r number all (omega (arith, e))).2 in
      record {
        numbered = n.0;
        number-most = n.1;
        range-end = end;
        at-points = λ e. (whole r.offset (omega (arith, end e)), whole (r.offset + r.length) (end e));
      }
