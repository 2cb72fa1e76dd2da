-- How the counts are filled, row after row: the definitions that the contracts of the private functions cite. That they give the counts of
-- specs/Order.antt is the law `vector_clock` of proofs/Clocks.antt.
use Rattle.std.specs.Prelude.{ℕ, zero, suc, ◌+◌, ◌*◌, max, Bool, cond, ◌&&◌, ◌||◌, List, ◌++◌, get_or, take, drop, eqb}
use Rattle.rows.specs.declared.row.Row.{Row}
use Rattle.rows.specs.Rows.{row_at, row_in}
use Rattle.rows.specs.Counting.{values}
use Rattle.happens_before.specs.Order.{delivers, same_barrier, last_before, passes, crosses, count}

-- ---- On rows

-- The value at the index that such a number names; 0 where it names none.
abbrev pub from_last : (ℕ → ℕ) → ℕ → ℕ
from_last f zero = 0
from_last f (suc k) = f k

-- A start joined with the values of the rows below k that lead to a row.
unfoldable pub joined_to : (ℕ → Bool) → (ℕ → ℕ) → ℕ → ℕ → ℕ
joined_to leads f start zero = start
joined_to leads f start (suc k) = cond (leads k) (max (joined_to leads f start k) (f k)) (joined_to leads f start k)

-- The clock of row j for process p without the row itself: that of the process's last row before, joined with those of the rows that lead to row j.
unfoldable pub clock : List Row → ℕ → ℕ → ℕ
clock rows p j =
    joined_to (λ k. crosses (row_at rows) k j) (λ k. count rows p k) (from_last (λ k. count rows p k) (last_before (row_at rows) j)) j

-- Two rows of these kinds have one number in the message field: `delivers` and `same_barrier` are such tests.
abbrev pub alike : ℕ → ℕ → Row → Row → Bool
alike one other r s = eqb r.kind one && (eqb s.kind other && eqb r.message s.message)

-- Two rows that belong together: a send and the row at which its message arrives, or two rows of one barrier.
abbrev pub pairs : Row → Row → Bool
pairs r s = delivers r s || same_barrier r s

-- ---- On slices

-- The count of process p at row k in the counts' slice.
abbrev pub cell_in : ℕ → List ℕ → ℕ → ℕ → ℕ
cell_in processLimit counts k p = get_or counts (k * processLimit + p) 0

-- The counts' slice with the counts of row j put in their place.
abbrev pub with_counts : ℕ → List ℕ → ℕ → (ℕ → ℕ) → List ℕ
with_counts processLimit counts j f =
    take (j * processLimit) counts ++ (values processLimit f ++ drop (j * processLimit + processLimit) counts)

-- Row j's counts joined with those of row k.
abbrev pub joined_row : ℕ → List ℕ → ℕ → ℕ → ℕ → ℕ
joined_row processLimit counts j k p = max (cell_in processLimit counts j p) (cell_in processLimit counts k p)

-- Row j's counts joined with those of a last row, if there is one.
abbrev pub joined_last : ℕ → List ℕ → ℕ → ℕ → ℕ → ℕ
joined_last processLimit counts j last p =
    max (cell_in processLimit counts j p) (from_last (λ k. cell_in processLimit counts k p) last)

-- Row j's counts joined with those of the rows before it that belong together with row t.
abbrev pub joined_pairs : ℕ → List ℕ → List ℕ → ℕ → ℕ → ℕ → ℕ
joined_pairs processLimit xs counts j t p =
    joined_to (λ k. pairs (row_in xs k) (row_in xs t)) (λ k. cell_in processLimit counts k p) (cell_in processLimit counts j p) j

-- Row j's counts joined with those of the sends whose message arrives at it.
abbrev pub joined_sends : ℕ → List ℕ → List ℕ → ℕ → ℕ → ℕ
joined_sends processLimit xs counts j p =
    joined_to (λ k. delivers (row_in xs k) (row_in xs j)) (λ k. cell_in processLimit counts k p) (cell_in processLimit counts j p) j

-- Row j's counts joined with those of the rows of the barrier that the row named by `last` is of, if it is of one.
abbrev pub joined_barrier : ℕ → List ℕ → List ℕ → ℕ → ℕ → ℕ → ℕ
joined_barrier processLimit xs counts j last p =
    joined_to (λ k. passes (row_in xs) k last) (λ k. cell_in processLimit counts k p) (cell_in processLimit counts j p) j

-- Counts with the row itself, which is of this process.
abbrev pub with_own : ℕ → (ℕ → ℕ) → ℕ → ℕ
with_own process f p = f p + cond (eqb process p) 1 0

-- What row j's counts become, from 0: those of the last row of its process, joined with those of the rows that lead to it, and row j itself.
unfoldable pub filled_row : ℕ → List ℕ → List ℕ → ℕ → ℕ → ℕ
filled_row processLimit xs counts j =
    with_own (row_in xs j).process
    (λ p. joined_to (λ k. crosses (row_in xs) k j) (λ k. cell_in processLimit counts k p)
    (from_last (λ k. cell_in processLimit counts k p) (last_before (row_in xs) j)) j)
