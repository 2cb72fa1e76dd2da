-- Question 22, put to the rows once every record has passed.
use Rattle.std.proofs.Common.{ℕ, ◌≤◌, arith, ◌≡◌, refl, ap, ◌∙◌, ◌⊎◌, inl, inr, Bool, true, false, cond, List, length, eq-eqb, ne_eqb, eqb-true}
use lib.Dec.{eqb}
use borrow.Author.Tests.{eqb-false}
use Rattle.csv_records.specs.Reading.{Records}
use Rattle.rows.specs.declared.row.Row.{Row}
use Rattle.rows.specs.Refusals.{BARRIER_ORDER}
use Rattle.barriers.specs.Barriers.{barrier_place}
use Rattle.barriers.proofs.Kept.{place-most}
use Rattle.trace.specs.Questions.{Outcome, refused, accepted, read_records, ask_barriers, read_trace}

-- ---- What the question makes of an outcome

-- A refusal of a record stays as it is.
pub asked-refused : {o : Outcome} {number place : ℕ} → o ≡ refused number place → ask_barriers o ≡ refused number place
unfolding ask_barriers
asked-refused e = ap ask_barriers e

module _ {o : Outcome} {rows : List Row} (e : o ≡ accepted rows) where
  -- Rows with a Yes are accepted.
  pub asked-yes : barrier_place rows ≡ 0 → ask_barriers o ≡ accepted rows
  unfolding ask_barriers
  asked-yes y = ap ask_barriers e ∙ rw (eq-eqb (barrier_place rows) 0 y) refl

  -- Rows with a No get 22, at the place of the No.
  pub asked-no : (barrier_place rows ≡ 0 → ⊥) → ask_barriers o ≡ refused BARRIER_ORDER (barrier_place rows)
  unfolding ask_barriers
  asked-no n = ap ask_barriers e ∙ rw (ne_eqb (barrier_place rows) 0 n) refl

-- Rows that are accepted came of the records, and have a Yes.
pub asked-accepted : (o : Outcome) {rows : List Row} → ask_barriers o ≡ accepted rows → (o ≡ accepted rows) × (barrier_place rows ≡ 0)
unfolding ask_barriers
asked-accepted (refused number place) e = let z : ◌≡◌ {A = ℕ} 0 1 = cc in absurd (omega arith)
asked-accepted (accepted all) {rows} e = go (eqb (barrier_place all) 0) refl e
  where
    go : (b : Bool) → eqb (barrier_place all) 0 ≡ b → cond b (accepted all) (refused BARRIER_ORDER (barrier_place all)) ≡ accepted rows →
        (accepted all ≡ accepted rows) × (barrier_place rows ≡ 0)
    go true q e = let same : rows ≡ all = cc in (e, ap barrier_place same ∙ eqb-true (barrier_place all) 0 q)
    go false q e = let z : ◌≡◌ {A = ℕ} 0 1 = cc in absurd (omega arith)

-- A refusal by 22: the rows came of the records, and the place is that of the No, one of the rows.
pub record AskedNo (o : Outcome) (number place : ℕ) : Type 0 where
  pub rows : List Row
  pub passed : o ≡ accepted rows
  pub is_number : number ≡ BARRIER_ORDER
  pub is_place : place ≡ barrier_place rows
  pub some : 1 ≤ place
  pub few : place ≤ length rows

-- A refusal is one of a record, or by 22.
pub asked-no_of : (o : Outcome) {number place : ℕ} → ask_barriers o ≡ refused number place → (o ≡ refused number place) ⊎ AskedNo o number place
unfolding ask_barriers
asked-no_of (refused a b) e = inl e
asked-no_of (accepted rows) {number} {place} e = go (eqb (barrier_place rows) 0) refl e
  where
    go : (b : Bool) → eqb (barrier_place rows) 0 ≡ b → cond b (accepted rows) (refused BARRIER_ORDER (barrier_place rows)) ≡ refused number place →
        (accepted rows ≡ refused number place) ⊎ AskedNo (accepted rows) number place
    go true q e = let z : ◌≡◌ {A = ℕ} 0 1 = cc in absurd (omega arith)
    go false q e =
        let n : number ≡ BARRIER_ORDER = cc in
        let p : place ≡ barrier_place rows = cc in
        inr
        (record {
          rows = rows;
          passed = refl;
          is_number = n;
          is_place = p;
          some = omega (arith, p, eqb-false (barrier_place rows) 0 q);
          few = omega (arith, p, place-most rows);
        })

-- ---- A text

module _ (header rowLimit processLimit : ℕ) (r : Records) where
  -- The rows of an accepted text came of its records, and have a Yes to 22.
  pub accepted-records : {rows : List Row} → read_trace header rowLimit processLimit r ≡ accepted rows →
      (read_records header rowLimit processLimit r ≡ accepted rows) × (barrier_place rows ≡ 0)
  unfolding read_trace
  accepted-records e = asked-accepted (read_records header rowLimit processLimit r) e

  -- The rows of an accepted text have a Yes to 22.
  pub accepted-barriers : {rows : List Row} → read_trace header rowLimit processLimit r ≡ accepted rows → barrier_place rows ≡ 0
  accepted-barriers e = (accepted-records e).1
