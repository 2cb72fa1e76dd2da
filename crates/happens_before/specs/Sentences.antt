-- The order in the documents' own words, by which no row need stand before another in the trace. That an accepted trace is ordered so, and by
-- nothing more, is the law `literal_order` of proofs/Barriers.antt.
use Rattle.std.specs.Prelude.{ℕ, Bool, ◌&&◌, ◌||◌, List, length, ltb}
use Rattle.rows.specs.declared.row.Row.{Row}
use Rattle.rows.specs.Counting.{any_below}
use Rattle.rows.specs.Rows.{row_at}
use Rattle.happens_before.specs.Order.{same_process, delivers, same_barrier}

-- Row j follows, in its process, a row of the barrier that row i is of.
abbrev pub follows : List Row → ℕ → ℕ → Bool
follows rows i j = any_below j (λ k. same_barrier (row_at rows k) (row_at rows i) && same_process (row_at rows k) (row_at rows j))

-- Each process's own row order, from a send to the row at which its message arrives, and from each row of a barrier to every row that follows a
-- row of that barrier in any process.
unfoldable pub literal_edge : List Row → ℕ → ℕ → Bool
literal_edge rows i j =
    ltb i (length rows)
    && (ltb j (length rows)
    && ((ltb i j && same_process (row_at rows i) (row_at rows j)) || (delivers (row_at rows i) (row_at rows j) || follows rows i j)))
