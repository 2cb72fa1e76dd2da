-- The chain of a model as the table of rows that publish and refresh gives it; the law `table-chain` says that it is the chain of document 01.
use Rattle.std.specs.Prelude.{ℕ, Bool, cond, ◌&&◌, List, length, ltb, eqb}
use Rattle.rows.specs.Kinds.{READ, WRITE}
use Rattle.models.specs.Table.{publishes, refreshes}
use Rattle.rows.specs.declared.row.Row.{Row}
use Rattle.rows.specs.Counting.{any_below}
use Rattle.happens_before.specs.Order.{same_process, edge, hb}
use Rattle.rows.specs.Rows.{row_at}
use Rattle.races_meaning.specs.Races.{same_file}

module _ (rows : List Row) (model : ℕ) where
  -- Row c publishes the write X: X itself where a write publishes, else a later row of its process and file that does.
  unfoldable pub published_by : ℕ → ℕ → Bool
  published_by x c =
      cond (publishes model WRITE) (eqb c x)
      (ltb x c && (publishes model (row_at rows c).kind && (same_file (row_at rows x) (row_at rows c) && same_process (row_at rows x) (row_at rows c))))

  -- Row o refreshes for Y: Y itself where a read refreshes, else an earlier row of its process and file that does.
  unfoldable pub refreshed_by : ℕ → ℕ → Bool
  refreshed_by y o =
      cond (refreshes model READ) (eqb o y)
      (ltb o y && (refreshes model (row_at rows o).kind && (same_file (row_at rows y) (row_at rows o) && same_process (row_at rows y) (row_at rows o))))

  -- The chain of the table: a row that publishes X happens before a row that refreshes for Y.
  unfoldable pub table_chain : ℕ → ℕ → Bool
  table_chain x y = any_below (length rows) (λ c. published_by x c && any_below (length rows) (λ o. refreshed_by y o && hb (edge rows) c o))
