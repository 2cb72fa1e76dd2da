-- The races of a trace are the same pairs of rows in every allowed order of its rows.
use Rattle.std.proofs.Common.{ℕ, ◌<◌, arith, ◌≡◌, sym, ap, ◌∙◌, ◌↔◌, ◌⊎◌, inl, inr, true, List, length}
use lib.ListN.{get_or, length-map}
use Rattle.rows.specs.declared.row.Row.{Row}
use Rattle.rows.specs.Rows.{row_at}
use Rattle.rows.proofs.Bools.{or_out, or_right, same_test}
use Rattle.trace.specs.Questions.{accepted, check_trace}
use Rattle.trace.proofs.Laws.{Sound, accepted-kept}
use Rattle.barriers.proofs.Kept.{Kept}
use Rattle.happens_before.proofs.Clocks.{edge-out}
use Rattle.races_meaning.specs.Races.{race, verdict_of, free}
use Rattle.reorder.specs.Renumbering.{SameRows, Renumbered}
use Rattle.reorder.proofs.Edges.{KeepsEdges, renumbered}
use Rattle.reorder.proofs.Moving.{turned, race_moved, free-moves}
use Rattle.consistency.proofs.Messages.{sound_sent_first}
use Rattle.consistency.proofs.Theorems.{sound_trace}
use Rattle.race_laws.specs.Reordered.{Whole, reordered, place_in, race_between}
use Rattle.race_laws.proofs.Places.{place-in, at_in, at_place, stands-less, row_listed, whole-many}

-- ---- The same rows and the same edges

-- Two rows with one new number are one row.
pub one-row : {rows rows' : List Row} {to from : ℕ → ℕ} → SameRows rows rows' to from → (a b : ℕ) → a < length rows → b < length rows →
    to a ≡ to b → a ≡ b
one-row {rows} {rows'} {to} {from} s a b h g e = sym (s.from_to a h) ∙ ap from e ∙ s.from_to b g

-- The reordered rows are as many as the places of the order.
listed-many : (rows : List Row) (order : List ℕ) → length (reordered rows order) ≡ length order
unfolding reordered
listed-many rows order = length-map order (row_at rows)

-- The reordered rows are as many as the rows.
pub reordered-many : {rows : List Row} {order : List ℕ} → Whole rows order → length (reordered rows order) ≡ length rows
reordered-many {rows} {order} o = listed-many rows order ∙ whole-many (length rows) order o.allowed.once o.allowed.of_trace o.all

-- The reordered rows are the same rows, each at the place of its number in the order.
pub whole_same : {rows : List Row} {order : List ℕ} → Whole rows order → SameRows rows (reordered rows order) (place_in order) (λ a. get_or order a 0)
unfolding reordered
whole_same {rows} {order} o =
    record {
      to_within = λ k h. omega (arith, listed-many rows order, (place-in order k (o.all k h)).0);
      from_within = λ a h. o.allowed.of_trace (get_or order a 0) (at_in order a (omega (arith, listed-many rows order)));
      from_to = λ k h. (place-in order k (o.all k h)).1;
      to_from = λ a h. at_place order a o.allowed.once (omega (arith, listed-many rows order));
      same_row =
          λ k h. let p = place-in order k (o.all k h) in row_listed rows order (place_in order k) p.0 ∙ ap (row_at rows) p.1;
    }

-- An allowed order of all rows keeps the order of every direct edge.
whole-keeps : {rows : List Row} {order : List ℕ} → Whole rows order → KeepsEdges rows (place_in order)
whole-keeps {rows} {order} o i j e =
    let f = edge-out rows i j e in
    stands-less i j order o.allowed.once (o.allowed.in_order i j e (o.all i (omega (arith, f.0, f.1))) (o.all j f.1))

module _ {P : ℕ} {rows : List Row} (s : Sound P rows) (w : Kept rows) {order : List ℕ} (o : Whole rows order) where
  -- The reordered rows are the rows of the trace under another numbering, with the same direct edges.
  pub whole-renumbered : Renumbered rows (reordered rows order) (place_in order) (λ a. get_or order a 0)
  whole-renumbered = renumbered (whole_same o) (sound_sent_first s) w (whole-keeps o)

-- ---- Races

-- Two rows that race do so under another numbering, whichever of them stands first.
pub between_moved : {rows rows' : List Row} {to from : ℕ → ℕ} → Renumbered rows rows' to from → (model i j : ℕ) →
    race_between rows model i j ≡ true → race_between rows' model (to i) (to j) ≡ true
between_moved {rows} {rows'} {to} r model i j e = go (or_out (race rows model i j) (race rows model j i) e)
  where
    first : (race rows' model (to i) (to j) ≡ true) ⊎ (race rows' model (to j) (to i) ≡ true) → race_between rows' model (to i) (to j) ≡ true
    first (inl f) = rw f
    first (inr f) = or_right (race rows' model (to i) (to j)) _ f

    second : (race rows' model (to j) (to i) ≡ true) ⊎ (race rows' model (to i) (to j) ≡ true) → race_between rows' model (to i) (to j) ≡ true
    second (inl f) = or_right (race rows' model (to i) (to j)) _ f
    second (inr f) = rw f

    go : (race rows model i j ≡ true) ⊎ (race rows model j i ≡ true) → race_between rows' model (to i) (to j) ≡ true
    go (inl f) = first (race_moved r model i j f)
    go (inr f) = second (race_moved r model j i f)

-- Two rows race under another numbering exactly where they race.
between_moves : {rows rows' : List Row} {to from : ℕ → ℕ} → Renumbered rows rows' to from → (model i j : ℕ) → i < length rows → j < length rows →
    race_between rows' model (to i) (to j) ≡ race_between rows model i j
between_moves {rows} {rows'} {to} r model i j a b =
    same_test _ _
    (λ e. rw (r.same.from_to i a, r.same.from_to j b) at (between_moved (turned r) model (to i) (to j) e))
    (between_moved r model i j)

module _ {P : ℕ} {rows : List Row} (s : Sound P rows) (w : Kept rows) {order : List ℕ} (o : Whole rows order) (model : ℕ) where
  -- The same pairs of rows race in every allowed order of all rows of a trace, under each model.
  pub same-races : (i j : ℕ) → i < length rows → j < length rows →
      race_between (reordered rows order) model (place_in order i) (place_in order j) ≡ race_between rows model i j
  same-races = between_moves (whole-renumbered s w o) model

  -- The verdict is free in every allowed order of all rows exactly where it is on the trace.
  pub same-free : (verdict_of rows model ≡ free) ↔ (verdict_of (reordered rows order) model ≡ free)
  same-free = free-moves (whole-renumbered s w o) model

-- ---- From the text on

module _ (text : List ℕ) (header m R P limit a b : ℕ) (rows : List Row) (taken : check_trace text header m R P limit a b ≡ accepted rows)
    {order : List ℕ} (o : Whole rows order) (model : ℕ) where
  -- The same pairs of rows of an accepted trace race in every allowed order of all its rows.
  pub accepted-same_races : (i j : ℕ) → i < length rows → j < length rows →
      race_between (reordered rows order) model (place_in order i) (place_in order j) ≡ race_between rows model i j
  accepted-same_races =
      same-races (sound_trace text header m R P limit a b rows taken).0 (accepted-kept text header m R P limit a b rows taken) o model

  -- The verdict is free in every allowed order of all rows of an accepted trace exactly where it is on the trace.
  pub accepted-same_free : (verdict_of rows model ≡ free) ↔ (verdict_of (reordered rows order) model ≡ free)
  accepted-same_free =
      same-free (sound_trace text header m R P limit a b rows taken).0 (accepted-kept text header m R P limit a b rows taken) o model
