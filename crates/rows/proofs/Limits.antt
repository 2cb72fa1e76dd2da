-- The process limit, by what the code tests and by what a caller may rely on.
use Rattle.std.proofs.Common.{ℕ, ◌≤◌, ◌<◌, ◌≡◌, sym, ◌∙◌, true, false, ◌&&◌, le-leb, leb-true}
use lib.Dec.{leb}
use borrow.Author.Tests.{lt-leb}
use Rattle.rows.specs.Limits.{PROCESSES}
use Rattle.rows.specs.Questions.{is_process_limit}
use Rattle.rows.proofs.Bools.{and_out}

-- A process limit is at least 1.
pub limit-low : (n : ℕ) → n < 1 → false ≡ is_process_limit n
limit-low n h = sym (λ i. lt-leb 1 n h i && leb n PROCESSES)

-- A number of at least 1 is a process limit exactly where it is at most the largest one.
pub limit-high : (n : ℕ) → 1 ≤ n → leb n PROCESSES ≡ is_process_limit n
limit-high n h = sym (λ i. le-leb 1 n h i && leb n PROCESSES)

-- A number from 1 to the largest process limit is a process limit.
pub limit-of : (n : ℕ) → 1 ≤ n → n ≤ PROCESSES → is_process_limit n ≡ true
limit-of n low high = sym (limit-high n low) ∙ le-leb n PROCESSES high

-- A process limit lies between 1 and the largest one.
pub limit-told : (n : ℕ) → is_process_limit n ≡ true → (1 ≤ n) × (n ≤ PROCESSES)
limit-told n e = let both = and_out (leb 1 n) (leb n PROCESSES) e in (leb-true _ _ both.0, leb-true _ _ both.1)
