-- Maps in slices: four numbers for each run (start, length, row number, mark), then 0.
use Rattle.std.specs.Prelude.{ℕ, zero, suc, ◌+◌, ◌*◌, ◌-◌, ◌/◌, ◌%◌, Bool, true, cond, not, ◌&&◌, List, [], ◌∷◌, ◌++◌, length, get_or, take, drop, replicate, leb, eqb}
use Rattle.rows.specs.Limits.{ROWS, OFFSET_MAX}
use Rattle.extents_meaning.specs.Cells.{Bytes, cell_of, number_in, mark_in, unpublished}
use Rattle.extents_meaning.specs.Runs.{Run, run_of, runs_of, cell_at}

-- ---- Writing a map

-- The four numbers of each run, one run behind the other.
unfoldable pub fours : List Run → List ℕ
fours [] = []
fours (r ∷ rs) = r.start ∷ (r.length ∷ (number_in r.cell ∷ (mark_in r.cell ∷ fours rs)))

-- a map of a space: its runs, then 0
unfoldable pub map_of : ℕ → List Run → List ℕ
map_of space rs = fours rs ++ replicate (4 * (space - length rs)) 0

-- the map of what every byte holds
abbrev pub map_for : ℕ → Bytes → List ℕ
map_for space f = map_of space (runs_of f)

-- three numbers for each piece (start, length, row number)
unfoldable pub threes : List Run → List ℕ
threes [] = []
threes (r ∷ rs) = r.start ∷ (r.length ∷ ((r.cell - 1) ∷ threes rs))

-- ---- Reading a map

-- the run that four numbers at the front are
unfoldable pub run_here : List ℕ → Run
run_here xs = run_of (get_or xs 0 0) (get_or xs 1 0) (cell_of (get_or xs 2 0) (get_or xs 3 0))

-- the runs of a slice with space for n: up to the first of length 0
unfoldable pub runs_in : ℕ → List ℕ → List Run
runs_in zero xs = []
runs_in (suc n) xs = cond (eqb (get_or xs 1 0) 0) [] (run_here xs ∷ runs_in n (drop 4 xs))

-- a slice has space for a quarter of its numbers
abbrev pub space_in : List ℕ → ℕ
space_in xs = length xs / 4

-- The runs that a slice holds.
abbrev pub runs : List ℕ → List Run
runs xs = runs_in (space_in xs) xs

-- the cell of every byte by a map
abbrev pub bytes_of : List ℕ → Bytes
bytes_of xs = cell_at (runs xs)

-- ---- Lawful maps

-- Every number of the list is 0.
unfoldable pub all_zero : List ℕ → Bool
all_zero [] = true
all_zero (x ∷ xs) = eqb x 0 && all_zero xs

-- four numbers may follow a run that ends at `end` with cell c: rising, within the offset range, a row number 1 to 4,096, a mark 0 or 1, and
-- no run that could be longer
abbrev pub follows : ℕ → ℕ → ℕ → ℕ → ℕ → ℕ → Bool
follows end c start length number mark =
    leb end start
    && (leb (start + length) OFFSET_MAX
    && (leb 1 number && (leb number ROWS && (leb mark 1 && not (eqb start end && eqb (cell_of number mark) c)))))

-- The four numbers at the front of a slice may follow a run that ends at `end` with cell c.
unfoldable pub may_follow : ℕ → ℕ → List ℕ → Bool
may_follow end c xs = follows end c (get_or xs 0 0) (get_or xs 1 0) (get_or xs 2 0) (get_or xs 3 0)

-- runs in rising order, then 0, behind a run that ends at `end` with cell c
unfoldable pub lawful_from : ℕ → ℕ → ℕ → List ℕ → Bool
lawful_from zero end c xs = true
lawful_from (suc n) end c xs =
    cond (eqb (get_or xs 1 0) 0) (all_zero xs)
    (may_follow end c xs && lawful_from n ((run_here xs).start + (run_here xs).length) (run_here xs).cell (drop 4 xs))

-- Is the slice a lawful map of its space?
unfoldable pub lawful : List ℕ → Bool
lawful xs = eqb (length xs % 4) 0 && lawful_from (space_in xs) 0 0 xs

-- every mark is 0
unfoldable pub no_marks : List Run → Bool
no_marks [] = true
no_marks (r ∷ rs) = not (unpublished r.cell) && no_marks rs

-- Is the slice a lawful published map?
abbrev pub lawful_published : List ℕ → Bool
lawful_published xs = lawful xs && no_marks (runs xs)

-- ---- Maps side by side in a slice

-- The part of a slice that starts at a place and has a size.
abbrev pub part_at : ℕ → ℕ → List ℕ → List ℕ
part_at at size xs = take size (drop at xs)

-- The slice with m in place of that part.
abbrev pub with_part : ℕ → ℕ → List ℕ → List ℕ → List ℕ
with_part at size m xs = (take at xs ++ m) ++ drop (at + size) xs

-- Map k of a slice whose maps all have one space.
abbrev pub map_at : ℕ → ℕ → List ℕ → List ℕ
map_at space k xs = part_at (k * (4 * space)) (4 * space) xs

-- The slice with m in place of map k.
abbrev pub with_map : ℕ → ℕ → List ℕ → List ℕ → List ℕ
with_map space k m xs = with_part (k * (4 * space)) (4 * space) m xs

-- pieces at the front of the answer slice, which keeps the rest
abbrev pub listed_in : List Run → List ℕ → List ℕ
listed_in pieces out = threes pieces ++ drop (length (threes pieces)) out
