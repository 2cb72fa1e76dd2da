-- How races are found: for each later row one pass that notes, for each process, its last row that publishes and happens before the refresh, and one
-- pass over the earlier rows. The law `race_seen` says that it finds the races.
use Rattle.std.specs.Prelude.{ℕ, suc, ◌-◌, Bool, cond, not, ◌&&◌, List, leb, ltb, eqb}
use Rattle.rows.specs.Kinds.{WRITE}
use Rattle.models.specs.Table.{publishes}
use Rattle.rows.specs.declared.row.Row.{Row}
use Rattle.rows.specs.Rows.{row_at}
use Rattle.happens_before.specs.Order.{count}
use Rattle.races_meaning.specs.Races.{is_write, same_file, conflict}
use Rattle.rows.specs.Counting.{last_below}
use Rattle.races_meaning.specs.Search.{refresh_at}

module _ (rows : List Row) (model : ℕ) where
  -- By the counts, row i, of process p, happens before row j or is row j.
  abbrev pub before : ℕ → ℕ → ℕ → Bool
  before p i j = leb (count rows p i) (count rows p j)

  -- A noted row: row c publishes the file of row y and happens before row o.
  abbrev pub noted : ℕ → ℕ → ℕ → Bool
  noted y o c =
      publishes model (row_at rows c).kind && (same_file (row_at rows y) (row_at rows c) && before (row_at rows c).process c o)

  -- The index of the last noted row of process p below k, plus one; 0 where there is none.
  unfoldable pub last_noted : ℕ → ℕ → ℕ → ℕ → ℕ
  last_noted y o p k = last_below k (λ c. eqb (row_at rows c).process p && noted y o c)

  -- X before Y is properly synchronized: a read by the counts; a write, where there is a refresh, by itself or by its process's last noted row.
  unfoldable pub is_in_order : ℕ → ℕ → Bool
  is_in_order x y =
      let p = (row_at rows x).process in
      cond (is_write (row_at rows x))
      (ltb 0 (refresh_at rows model y)
      && cond (publishes model WRITE) (before p x (refresh_at rows model y - 1)) (ltb (suc x) (last_noted y (refresh_at rows model y - 1) p y)))
      (before p x y)

  -- Row x before row y races with it: the two conflict and are not properly synchronized.
  abbrev pub seen : ℕ → ℕ → Bool
  seen y x = conflict (row_at rows x) (row_at rows y) && not (is_in_order x y)
