-- Happens-before, and the counts of every row by their meaning. Rows are named by their places, from 0; row numbers are one more.
use Rattle.std.specs.Prelude.{ℕ, zero, suc, ◌≡◌, Bool, true, false, ◌&&◌, ◌||◌, List, length, ltb, eqb}
use Rattle.rows.specs.declared.row.Row.{Row}
use Rattle.rows.specs.Kinds.{SEND, ARRIVAL, BARRIER}
use Rattle.rows.specs.Counting.{any_below, last_below, count_below, values, blocks}
use Rattle.rows.specs.Rows.{row_at}

-- Two rows are of one process.
abbrev pub same_process : Row → Row → Bool
same_process r s = eqb r.process s.process

-- The message that row r sends arrives at row s.
abbrev pub delivers : Row → Row → Bool
delivers r s = eqb r.kind SEND && (eqb s.kind ARRIVAL && eqb r.message s.message)

-- Two rows are of one barrier.
abbrev pub same_barrier : Row → Row → Bool
same_barrier r s = eqb r.kind BARRIER && (eqb s.kind BARRIER && eqb r.message s.message)

-- The index of the last row of a process below k, plus one; 0 where there is none.
unfoldable pub last_of : (ℕ → ℕ) → ℕ → ℕ → ℕ
last_of process_at process k = last_below k (λ i. eqb (process_at i) process)

-- The last row of row j's process before row j, named so.
abbrev pub last_before : (ℕ → Row) → ℕ → ℕ
last_before at j = last_of (λ k. (at k).process) (at j).process j

-- Row i is of one barrier with the row that such a number names.
unfoldable pub passes : (ℕ → Row) → ℕ → ℕ → Bool
passes at i zero = false
passes at i (suc k) = same_barrier (at i) (at k)

-- Row i leads to row j, of whatever process: what row i sends arrives at row j, or row i is of the barrier just after which row j stands in its
-- process.
unfoldable pub crosses : (ℕ → Row) → ℕ → ℕ → Bool
crosses at i j = delivers (at i) (at j) || passes at i (last_before at j)

-- A direct edge from row i to row j: i stands before j in the trace, and both are of one process or row i leads to row j. No other definition
-- knows of messages and barriers.
unfoldable pub edge : List Row → ℕ → ℕ → Bool
edge rows i j = ltb i j && (ltb j (length rows) && (same_process (row_at rows i) (row_at rows j) || crosses (row_at rows) i j))

-- Happens-before is the transitive closure of direct edges.
pub data HB (edge : ℕ → ℕ → Bool) : ℕ → ℕ → Type 0 where
  one : {i j : ℕ} → edge i j ≡ true → HB edge i j
  more : {i k j : ℕ} → HB edge i k → edge k j ≡ true → HB edge i j

-- Decides happens-before: a direct edge, or a last edge from a row below j. The first number bounds how many edges are taken.
unfoldable pub hb_within : ℕ → (ℕ → ℕ → Bool) → ℕ → ℕ → Bool
hb_within zero edge i j = false
hb_within (suc n) edge i j = edge i j || any_below j (λ k. edge k j && hb_within n edge i k)

-- Row i happens before row j. No chain of edges to row j has more than j edges.
abbrev pub hb : (ℕ → ℕ → Bool) → ℕ → ℕ → Bool
hb edge i j = hb_within j edge i j

-- Row i happens before row j or is row j.
abbrev pub up_to : (ℕ → ℕ → Bool) → ℕ → ℕ → Bool
up_to edge i j = eqb i j || hb edge i j

-- The count of process p at row j: how many rows of p happen before the row or are the row. (A row's counts are its vector clock.)
unfoldable pub count : List Row → ℕ → ℕ → ℕ
count rows p j = count_below (length rows) (λ i. eqb (row_at rows i).process p && up_to (edge rows) i j)

-- The counts of all rows, row after row, and in each row process after process up to the limit.
unfoldable pub counts_of : ℕ → List Row → List ℕ
counts_of processLimit rows = blocks (length rows) (λ j. values processLimit (λ p. count rows p j))
