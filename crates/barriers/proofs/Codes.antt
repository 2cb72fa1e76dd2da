-- Laws that the functions of this crate cite: on the table by barrier with one row more, and on the count of flags.
use Rattle.std.proofs.Common.{ℕ, zero, suc, ◌+◌, arith, ◌≡◌, refl, sym, Bool, true, false, cond, List, [], ◌∷◌, ◌++◌, length}
use lib.ListN.{get_or}
use Rattle.std.specs.List.{count_by}
use Rattle.std.proofs.lemmas.List.Recursion.{is_count_by}
use Rattle.rows.specs.declared.row.Row.{Row}
use Rattle.rows.specs.Counting.{count_below}
use Rattle.barriers.specs.Tables.{noted_arrival, arrivals_after}

-- ---- One row more

-- The table by barrier of one row more has that row noted too.
pub arrivals_last : (arrivals : List ℕ) (rows : List Row) (r : Row) → arrivals_after arrivals (rows ++ (r ∷ [])) ≡ noted_arrival (arrivals_after arrivals rows) r
unfolding arrivals_after
arrivals_last arrivals [] r = refl
arrivals_last arrivals (x ∷ rows) r = arrivals_last (noted_arrival arrivals x) rows r

-- ---- The count of flags

-- The numbers that pass are 0, where it passes, and those behind it.
count-front : (n : ℕ) (test : ℕ → Bool) → count_below (suc n) test ≡ cond (test 0) 1 0 + count_below n (λ p. test (suc p))
unfolding count_below
count-front zero test = omega arith
count-front (suc n) test = let front = count-front n test in omega arith

-- How many numbers have a flag that is set.
abbrev set_below : List Bool → ℕ
set_below flags = count_below (length flags) (λ p. get_or flags p false)

-- The first flag counts, where it is set, and those behind it do.
set-front : (flag : Bool) (flags : List Bool) → set_below (flag ∷ flags) ≡ cond flag (1 + set_below flags) (set_below flags)
set-front true flags = let front = count-front (length flags) (λ p. get_or (true ∷ flags) p false) in omega arith
set-front false flags = let front = count-front (length flags) (λ p. get_or (false ∷ flags) p false) in omega arith

-- The flags that are set are counted by their numbers.
pub counted : (flags : List Bool) → count_by (λ (flag : Bool). flag) flags ≡ set_below flags
unfolding count_below
counted flags = sym (is_count_by set_below (λ (flag : Bool). flag) refl set-front flags)
