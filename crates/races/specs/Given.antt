-- What the search for races relies on.
use Rattle.std.specs.Prelude.{ℕ, suc, ◌*◌, ◌-◌, ◌≤◌, ◌<◌, ◌≡◌, Bool, false, not, ◌&&◌, ◌||◌, List, ◌++◌, length, drop, get_or, Option, None, Some}
use Rattle.rows.specs.declared.row.Row.{Row}
use Rattle.rows.specs.Rows.{rows_in, row_in}
use Rattle.happens_before.specs.Order.{same_process, counts_of}
use Rattle.models.specs.Table.{publishes}
use Rattle.races_meaning.specs.Races.{is_write, is_data, same_file}
use Rattle.races_meaning.specs.Scan.{last_noted}
use Rattle.rows.specs.Kinds.{WRITE}
use Rattle.rows.specs.Limits.{ROWS, PROCESSES, MODELS, FIELDS}

-- The first n rows stand in a slice with their counts in another, their processes are below the limit, and the model is one.
pub record Given (n processes model : ℕ) (xs counts : List ℕ) : Type 0 where
  pub few-rows : n ≤ ROWS
  pub few-processes : processes ≤ PROCESSES
  pub is_model : model < MODELS
  pub rows_within : n * FIELDS ≤ length xs
  pub below : (k : ℕ) → k < n → (row_in xs k).process < processes
  pub counted : counts ≡ counts_of processes (rows_in n xs) ++ drop (n * processes) counts

-- The index of a row, plus one; 0 where there is none.
abbrev pub told_row : Option ℕ → ℕ
told_row None = 0
told_row (Some k) = suc k

-- All of a conflict but the shared byte: two data rows that name the same file and are of different processes, one of them a write.
abbrev pub may_conflict : Row → Row → Bool
may_conflict r s = is_data r && (is_data s && (same_file r s && (not (same_process r s) && (is_write r || is_write s))))

-- Where there is a refresh for row y and a write does not publish by itself, the table holds each process's last noted row before y, plus one.
abbrev pub Noted : List Row → ℕ → ℕ → ℕ → List ℕ → Type 0
Noted rows model y refresh last =
    0 < refresh → publishes model WRITE ≡ false → (p : ℕ) → p < PROCESSES → get_or last p 0 ≡ last_noted rows model y (refresh - 1) p y
