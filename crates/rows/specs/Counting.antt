-- Numbers below a bound: whether a test passes at one of them or at all, at which first and last, at how many, and the list of a function's
-- values.
use Rattle.std.specs.Prelude.{ℕ, zero, suc, ◌+◌, ◌<◌, ◌≡◌, Bool, true, false, cond, ◌&&◌, ◌||◌, List, [], ◌∷◌, ◌++◌, length, get_or}

-- Some number below n passes.
unfoldable pub any_below : ℕ → (ℕ → Bool) → Bool
any_below zero test = false
any_below (suc n) test = any_below n test || test n

-- Every number below n passes.
unfoldable pub all_below : ℕ → (ℕ → Bool) → Bool
all_below zero test = true
all_below (suc n) test = all_below n test && test n

-- The smallest number from s on that passes, among n of them; s + n where none does.
unfoldable pub least_from : ℕ → ℕ → (ℕ → Bool) → ℕ
least_from zero s test = s
least_from (suc n) s test = cond (test s) s (least_from n (suc s) test)

-- The last number below n that passes, plus one; 0 where none does.
unfoldable pub last_below : ℕ → (ℕ → Bool) → ℕ
last_below zero test = 0
last_below (suc k) test = cond (test k) (suc k) (last_below k test)

-- A table by key: under each key below its size it holds the last number below n that passes the key's test, plus one; 0 where none does.
pub record LastBy (test : ℕ → ℕ → Bool) (size : ℕ) (table : List ℕ) (n : ℕ) : Type 0 where
  pub length_is : length table ≡ size
  pub last_at : (key : ℕ) → key < size → get_or table key 0 ≡ last_below n (test key)

-- How many numbers below n pass.
unfoldable pub count_below : ℕ → (ℕ → Bool) → ℕ
count_below zero test = 0
count_below (suc n) test = count_below n test + cond (test n) 1 0

-- The values of a function at the numbers below n.
unfoldable pub values : ℕ → (ℕ → ℕ) → List ℕ
values zero f = []
values (suc n) f = values n f ++ (f n ∷ [])

-- The lists of a function at the numbers below n, one after the other.
unfoldable pub blocks : ℕ → (ℕ → List ℕ) → List ℕ
blocks zero f = []
blocks (suc n) f = blocks n f ++ f n
