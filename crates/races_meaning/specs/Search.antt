-- How a chain is searched for: by the first row that publishes after X and the last row that refreshes before Y, which are the best choices,
-- and one comparison of counts. The laws `best_chain_lem` and `counts-tell` say that nothing is lost.
use Rattle.std.specs.Prelude.{ℕ, suc, ◌-◌, Bool, cond, ◌&&◌, List, length, leb, ltb}
use Rattle.rows.specs.Kinds.{READ, WRITE}
use Rattle.models.specs.Table.{publishes, refreshes}
use Rattle.rows.specs.declared.row.Row.{Row}
use Rattle.happens_before.specs.Order.{same_process, edge, hb, count}
use Rattle.rows.specs.Rows.{row_at}
use Rattle.races_meaning.specs.Races.{same_file}
use Rattle.rows.specs.Counting.{least_from, last_below}

module _ (rows : List Row) (model : ℕ) where
  -- Row k publishes the file of row r for row r's process.
  abbrev pub is_publish : Row → ℕ → Bool
  is_publish r k = publishes model (row_at rows k).kind && (same_file r (row_at rows k) && same_process r (row_at rows k))

  -- Row k refreshes the file of row r for row r's process.
  abbrev pub is_refresh : Row → ℕ → Bool
  is_refresh r k = refreshes model (row_at rows k).kind && (same_file r (row_at rows k) && same_process r (row_at rows k))

  -- The first row that publishes the write at x; the number of rows where none does.
  unfoldable pub publish_at : ℕ → ℕ
  publish_at x = cond (publishes model WRITE) x (least_from (length rows - suc x) (suc x) (is_publish (row_at rows x)))

  -- The index of the last row that refreshes for y, plus one; 0 where none does.
  unfoldable pub refresh_at : ℕ → ℕ
  refresh_at y = cond (refreshes model READ) (suc y) (last_below y (is_refresh (row_at rows y)))

  -- Both rows are there, and the row that publishes happens before the one that refreshes.
  unfoldable pub best_chain : ℕ → ℕ → Bool
  best_chain x y = ltb (publish_at x) (length rows) && (ltb 0 (refresh_at y) && hb (edge rows) (publish_at x) (refresh_at y - 1))

-- Row i's count for its own process is at most row j's count for that process.
abbrev pub counts_order : List Row → ℕ → ℕ → Bool
counts_order rows i j = leb (count rows (row_at rows i).process i) (count rows (row_at rows i).process j)
