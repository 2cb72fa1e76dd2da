-- The list of every race in another allowed order of a trace's rows: it has the same pairs of rows, and as many.
use Rattle.std.proofs.Common.{ℕ, ◌≤◌, ◌<◌, arith, ◌≡◌, sym, ◌∙◌, ◌↔◌, ◌⊎◌, inl, inr, true, List, length}
use lib.ListN.{get_or}
use Rattle.rows.specs.declared.row.Row.{Row}
use Rattle.rows.proofs.Bools.{or_out, or_right}
use Rattle.trace.specs.Questions.{accepted, check_trace}
use Rattle.trace.proofs.Laws.{Sound, accepted-kept}
use Rattle.barriers.proofs.Kept.{Kept}
use Rattle.races_meaning.specs.Races.{race}
use Rattle.races_meaning.specs.Lists.{RowPair, race_pairs}
use Rattle.races_meaning.proofs.Lists.{pair_of, no_pair, Stands, stands-iff, listed-race, listed-rising, rising-once, same-pair}
use Rattle.races_meaning.proofs.Verdicts.{race_out}
use Rattle.reorder.specs.Renumbering.{Renumbered}
use Rattle.reorder.proofs.Moving.{turned}
use Rattle.consistency.proofs.Theorems.{sound_trace}
use Rattle.race_laws.specs.Reordered.{Whole, reordered, place_in, race_between}
use Rattle.race_laws.proofs.Places.{leads-few}
use Rattle.race_laws.proofs.Reordered.{one-row, whole-renumbered, between_moved, same-races}

-- ---- The pair of two rows, whichever of them stands first

-- A list has the pair of rows i and j at index k, whichever of them stands first.
abbrev pub StandsEither : List RowPair → ℕ → ℕ → ℕ → Type 0
StandsEither pairs k i j = Stands pairs k (pair_of i j) ⊎ Stands pairs k (pair_of j i)

-- A list has the pair of rows i and j, whichever of them stands first.
abbrev pub Among : List RowPair → ℕ → ℕ → Type 0
Among pairs i j = (k : ℕ) × StandsEither pairs k i j

-- The pair of two rows is listed exactly where they race, whichever of them stands first.
pub among_iff : (rows : List Row) (model i j : ℕ) → (race_between rows model i j ≡ true) ↔ Among (race_pairs rows model) i j
among_iff rows model i j = (λ e. to (or_out (race rows model i j) (race rows model j i) e), from)
  where
    to : (race rows model i j ≡ true) ⊎ (race rows model j i ≡ true) → Among (race_pairs rows model) i j
    to (inl r) = let (k, s) = (stands-iff rows model i j).0 r in (k, inl s)
    to (inr r) = let (k, s) = (stands-iff rows model j i).0 r in (k, inr s)

    from : Among (race_pairs rows model) i j → race_between rows model i j ≡ true
    from (k, inl s) = rw ((stands-iff rows model i j).1 (k, s))
    from (k, inr s) = or_right (race rows model i j) _ ((stands-iff rows model j i).1 (k, s))

-- ---- How many races there are

module _ (pairs : List RowPair) (k : ℕ) where
  -- An index at which a pair stands is within the list.
  either-within : (a b : ℕ) → StandsEither pairs k a b → k < length pairs
  either-within a b (inl s) = s.0
  either-within a b (inr s) = s.0

  -- Two pairs of rows that stand at one index are of the same two rows.
  either_same : (a b c d : ℕ) → StandsEither pairs k a b → StandsEither pairs k c d → ((a ≡ c) × (b ≡ d)) ⊎ ((a ≡ d) × (b ≡ c))
  either_same a b c d (inl s) (inl t) = inl (same-pair a b c d (sym s.1 ∙ t.1))
  either_same a b c d (inl s) (inr t) = inr (same-pair a b d c (sym s.1 ∙ t.1))
  either_same a b c d (inr s) (inl t) = let e = same-pair b a c d (sym s.1 ∙ t.1) in inr (e.1, e.0)
  either_same a b c d (inr s) (inr t) = let e = same-pair b a d c (sym s.1 ∙ t.1) in inl (e.1, e.0)

module _ {rows rows' : List Row} {to from : ℕ → ℕ} (r : Renumbered rows rows' to from) (model : ℕ) where
  -- The race at index k is the race at index i under the new numbers, whichever of its rows stands first there.
  abbrev Moves : ℕ → ℕ → Type 0
  Moves k i = (x : ℕ) × (y : ℕ) × (race rows model x y ≡ true) × (get_or (race_pairs rows model) k no_pair ≡ pair_of x y)
      × StandsEither (race_pairs rows' model) i (to x) (to y)

  -- Each race is one under the new numbers.
  moves : (k : ℕ) → k < length (race_pairs rows model) → (i : ℕ) × (i < length (race_pairs rows' model)) × Moves k i
  moves k h =
      let (x, y, e, q) = listed-race rows model k h in
      let (i, s) = (among_iff rows' model (to x) (to y)).0 (between_moved r model x y (rw e)) in
      (i, either-within (race_pairs rows' model) i (to x) (to y) s, (x, y, e, q, s))

  -- Two races that are one race under the new numbers are one race.
  moves-one : (k l i : ℕ) → k < length (race_pairs rows model) → l < length (race_pairs rows model) → Moves k i → Moves l i → k ≡ l
  moves-one k l i h g (x, y, e, q, s) (u, v, f, p, t) = go (either_same (race_pairs rows' model) i (to x) (to y) (to u) (to v) s t)
    where
      -- The rows of the race at index k stand in this order in the trace.
      x-y : (x < y) × (y < length rows)
      x-y = race_out rows model x y e

      -- So do those of the race at index l.
      u-v : (u < v) × (v < length rows)
      u-v = race_out rows model u v f

      -- The earlier of two rows of the trace is in the trace.
      low : {a b : ℕ} → (a < b) × (b < length rows) → a < length rows
      low o = omega (arith, o.0, o.1)

      go : ((to x ≡ to u) × (to y ≡ to v)) ⊎ ((to x ≡ to v) × (to y ≡ to u)) → k ≡ l
      go (inl (c, d)) =
          let a = one-row r.same x u (low x-y) (low u-v) c in
          let b = one-row r.same y v x-y.1 u-v.1 d in
          rising-once (race_pairs rows model) (listed-rising rows model) k l h g (q ∙ (λ z. pair_of (a z) (b z)) ∙ sym p)
      go (inr (c, d)) =
          let a = one-row r.same x v (low x-y) u-v.1 c in
          let b = one-row r.same y u x-y.1 (low u-v) d in
          absurd (omega (arith, a, b, x-y.0, u-v.0))

  -- There are at least as many races under the new numbers.
  moves-many : length (race_pairs rows model) ≤ length (race_pairs rows' model)
  moves-many = leads-few (length (race_pairs rows model)) (length (race_pairs rows' model)) Moves moves moves-one

-- ---- All rows in an allowed order

module _ {P : ℕ} {rows : List Row} (s : Sound P rows) (w : Kept rows) {order : List ℕ} (o : Whole rows order) (model : ℕ) where
  -- The lists of every race have the same pairs of rows in every allowed order of all rows of a trace, under each model.
  pub same-list : (i j : ℕ) → i < length rows → j < length rows →
      Among (race_pairs rows model) i j ↔ Among (race_pairs (reordered rows order) model) (place_in order i) (place_in order j)
  same-list i j a b =
      let e = same-races s w o model i j a b in
      let old = among_iff rows model i j in
      let new = among_iff (reordered rows order) model (place_in order i) (place_in order j) in
      (λ m. new.0 (e ∙ old.1 m), λ m. old.0 (sym e ∙ new.1 m))

  -- Every allowed order of all rows of a trace has as many races, under each model.
  pub same-many : length (race_pairs (reordered rows order) model) ≡ length (race_pairs rows model)
  same-many = let r = whole-renumbered s w o in omega (arith, moves-many r model, moves-many (turned r) model)

-- ---- From the text on

module _ (text : List ℕ) (header m R P limit a b : ℕ) (rows : List Row) (taken : check_trace text header m R P limit a b ≡ accepted rows)
    {order : List ℕ} (o : Whole rows order) (model : ℕ) where
  -- The lists of every race have the same pairs of rows in every allowed order of all rows of an accepted trace.
  pub accepted-same_list : (i j : ℕ) → i < length rows → j < length rows →
      Among (race_pairs rows model) i j ↔ Among (race_pairs (reordered rows order) model) (place_in order i) (place_in order j)
  accepted-same_list =
      same-list (sound_trace text header m R P limit a b rows taken).0 (accepted-kept text header m R P limit a b rows taken) o model

  -- Every allowed order of all rows of an accepted trace has as many races.
  pub accepted-same_many : length (race_pairs (reordered rows order) model) ≡ length (race_pairs rows model)
  accepted-same_many =
      same-many (sound_trace text header m R P limit a b rows taken).0 (accepted-kept text header m R P limit a b rows taken) o model
