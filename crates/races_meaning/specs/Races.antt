-- Conflicts, chains, races and the verdict, as document 01 restates them from the paper by Wang, Mohror and Snir. Rows are named by their
-- places, from 0; a verdict gives row numbers, which are one more.
use Rattle.std.specs.Prelude.{ℕ, ◌+◌, max, min, Bool, cond, not, ◌&&◌, ◌||◌, List, length, ltb, eqb}
use Rattle.rows.specs.Kinds.{READ, WRITE, COMMIT, OPEN, CLOSE, SYNC}
use Rattle.models.specs.Models.{POSIX, COMMIT_MODEL, SESSION}
use Rattle.rows.specs.declared.row.Row.{Row}
use Rattle.rows.specs.Counting.{any_below, least_from}
use Rattle.happens_before.specs.Order.{same_process, edge, hb}
use Rattle.rows.specs.Rows.{row_at}

-- ---- Conflicts

-- A row that writes.
abbrev pub is_write : Row → Bool
is_write r = eqb r.kind WRITE

-- A data row is a read or a write.
abbrev pub is_data : Row → Bool
is_data r = eqb r.kind READ || is_write r

-- Two rows name one file.
abbrev pub same_file : Row → Row → Bool
same_file r s = eqb r.file s.file

-- Two ranges share at least one byte: the larger start lies below the smaller end.
unfoldable pub share_byte : Row → Row → Bool
share_byte r s = ltb (max r.offset s.offset) (min (r.offset + r.length) (s.offset + s.length))

-- A conflict: two data rows that name the same file, share at least one byte, are of different processes, and one is a write.
unfoldable pub conflict : Row → Row → Bool
conflict r s = is_data r && (is_data s && (same_file r s && (share_byte r s && (not (same_process r s) && (is_write r || is_write s)))))

-- ---- Chains from a write at place x to a row at place y

-- Row s is of this kind and of the file and process of row r.
abbrev pub is_sync : ℕ → Row → Row → Bool
is_sync kind r s = eqb s.kind kind && (same_file r s && same_process r s)

-- Some row after x passes a test.
abbrev pub some_after : List Row → ℕ → (ℕ → Bool) → Bool
some_after rows x test = any_below (length rows) (λ c. ltb x c && test c)

-- Some row before y passes a test.
abbrev pub some_before : ℕ → (ℕ → Bool) → Bool
some_before y test = any_below y test

module _ (rows : List Row) where
  -- The row at index k.
  abbrev row : ℕ → Row
  row k = row_at rows k

  -- POSIX: X happens before Y
  unfoldable pub chain_posix : ℕ → ℕ → Bool
  chain_posix x y = hb (edge rows) x y

  -- commit: a commit by X's process after X, and it happens before Y
  unfoldable pub chain_commit : ℕ → ℕ → Bool
  chain_commit x y = some_after rows x (λ c. is_sync COMMIT (row x) (row c) && hb (edge rows) c y)

  -- session: a close by X's process after X, happening before an open by Y's process before Y
  unfoldable pub chain_session : ℕ → ℕ → Bool
  chain_session x y =
      some_after rows x (λ c. is_sync CLOSE (row x) (row c) && some_before y (λ o. is_sync OPEN (row y) (row o) && hb (edge rows) c o))

  -- MPI-IO: a close or sync by X's process after X, happening before a sync or open by Y's process before Y
  unfoldable pub chain_mpi_io : ℕ → ℕ → Bool
  chain_mpi_io x y =
      some_after rows x
      (λ c. (is_sync CLOSE (row x) (row c) || is_sync SYNC (row x) (row c))
      && some_before y (λ o. (is_sync SYNC (row y) (row o) || is_sync OPEN (row y) (row o)) && hb (edge rows) c o))

  -- The chain of a model by its number.
  unfoldable pub chain : ℕ → ℕ → ℕ → Bool
  chain model x y =
      cond (eqb model POSIX) (chain_posix x y)
      (cond (eqb model COMMIT_MODEL) (chain_commit x y) (cond (eqb model SESSION) (chain_session x y) (chain_mpi_io x y)))

  -- ---- Races and the verdict

  -- Proper synchronization: X, which stands before Y, is a read and happens before Y, or is a write and the model's chain lies between.
  unfoldable pub synchronized : ℕ → ℕ → ℕ → Bool
  synchronized model x y = cond (is_write (row x)) (chain model x y) (hb (edge rows) x y)

  -- A race: a conflicting pair, the earlier row first, that is not properly synchronized.
  unfoldable pub race : ℕ → ℕ → ℕ → Bool
  race model x y = ltb x y && (ltb y (length rows) && (conflict (row x) (row y) && not (synchronized model x y)))

-- A verdict: free, or the numbers of the earlier and the later row of a race.
pub data Verdict : Type 0 where
  free : Verdict
  racing : (earlier later : ℕ) → Verdict

-- The verdict names the race with the smallest later row, then the smallest earlier row.
unfoldable pub verdict_of : List Row → ℕ → Verdict
verdict_of rows model =
    let later = least_from (length rows) 0 (λ y. any_below y (λ x. race rows model x y)) in
    cond (eqb later (length rows)) free (racing (least_from later 0 (λ x. race rows model x later) + 1) (later + 1))
