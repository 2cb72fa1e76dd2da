-- Orders of rows, as lists of places with the first row first.
use Rattle.std.specs.Prelude.{ℕ, zero, suc, ◌<◌, ◌≡◌, ◌⊎◌, true, List, [], ◌∷◌, ◌++◌, length}
use Rattle.rows.specs.declared.row.Row.{Row}
use Rattle.happens_before.specs.Order.{edge, HB}
use Rattle.rows.specs.Lists.{In, Once}

-- A stands before b.
abbrev pub Stands : ℕ → ℕ → List ℕ → Type 0
Stands a b [] = ⊥
Stands a b (c ∷ l) = ((a ≡ c) × In b l) ⊎ Stands a b l

-- A set of rows that with each row holds every row that happens before it, in an allowed order: it keeps each process's rows in order and each
-- wait after its send, and lets no process pass a barrier until all have arrived.
pub record Allowed (rows : List Row) (order : List ℕ) : Type 0 where
  pub of_trace : (k : ℕ) → In k order → k < length rows
  pub once : Once order
  pub closed : (i j : ℕ) → HB (edge rows) i j → In j order → In i order
  pub in_order : (i j : ℕ) → edge rows i j ≡ true → In i order → In j order → Stands i j order

-- The places 0 to n - 1 in rising order.
unfoldable pub places_below : ℕ → List ℕ
places_below zero = []
places_below (suc n) = places_below n ++ (n ∷ [])

-- The recorded order: all rows as they stand in the trace.
abbrev pub trace_order : List Row → List ℕ
trace_order rows = places_below (length rows)
