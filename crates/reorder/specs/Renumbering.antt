-- The same rows under another numbering.
use Rattle.std.specs.Prelude.{ℕ, ◌<◌, ◌≡◌, true, List, length}
use Rattle.rows.specs.declared.row.Row.{Row}
use Rattle.rows.specs.Rows.{row_at}
use Rattle.happens_before.specs.Order.{edge}

-- Both lists have the same rows, the row at place k of the first at place `to k` of the second. `from` is the way back.
pub record SameRows (rows rows' : List Row) (to from : ℕ → ℕ) : Type 0 where
  pub to_within : (k : ℕ) → k < length rows → to k < length rows'
  pub from_within : (k : ℕ) → k < length rows' → from k < length rows
  pub from_to : (k : ℕ) → k < length rows → from (to k) ≡ k
  pub to_from : (k : ℕ) → k < length rows' → to (from k) ≡ k
  pub same_row : (k : ℕ) → k < length rows → row_at rows' (to k) ≡ row_at rows k

-- Both lists have the same rows and the same direct edges.
pub record Renumbered (rows rows' : List Row) (to from : ℕ → ℕ) : Type 0 where
  pub same : SameRows rows rows' to from
  pub edge_to : (i j : ℕ) → edge rows i j ≡ true → edge rows' (to i) (to j) ≡ true
  pub edge_from : (i j : ℕ) → edge rows' i j ≡ true → edge rows (from i) (from j) ≡ true
