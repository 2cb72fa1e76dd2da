-- The tables by which one pass over the rows finds earlier rows: the last row of each process, the sends of a message and the rows of a barrier.
-- A table names a row by its index plus one, and 0 stands for none.
use Rattle.std.specs.Prelude.{ℕ, ◌%◌, ◌≤◌, ◌<◌, ◌≡◌, Bool, true, ◌&&◌, ◌||◌, List, length, get_or, eqb}
use Rattle.rows.specs.Kinds.{SEND, BARRIER}
use Rattle.rows.specs.Limits.{ROWS, PROCESSES}
use Rattle.rows.specs.Rows.{row_in}
use Rattle.rows.specs.Counting.{last_below, LastBy}

-- How many chains there are.
abbrev pub CHAINS : ℕ
CHAINS = 4096

-- The chain of a number in the message field. Numbers that differ may share a chain, and so may a message and a barrier: the rows of a chain are
-- compared with the row for which they are looked up.
abbrev pub chain_of : ℕ → ℕ
chain_of message = message % CHAINS

-- Rows of this kind stand in chains: sends and barrier rows.
abbrev pub chained : ℕ → Bool
chained kind = eqb kind SEND || eqb kind BARRIER

-- Row k stands in a chain.
abbrev pub in_chain : List ℕ → ℕ → ℕ → Bool
in_chain xs chain k = chained (row_in xs k).kind && eqb (chain_of (row_in xs k).message) chain

-- The last row of a chain below row j.
abbrev pub last_chained : List ℕ → ℕ → ℕ → ℕ
last_chained xs chain j = last_below j (in_chain xs chain)

-- Row k is of a process.
abbrev pub of_process : List ℕ → ℕ → ℕ → Bool
of_process xs process k = eqb (row_in xs k).process process

-- The chains of the rows below row j: each chain's head is its last row, and each row of a chain names the one before it.
pub record Chains (xs : List ℕ) (j : ℕ) (heads earlier : List ℕ) : Type 0 where
  pub heads_hold : LastBy (in_chain xs) CHAINS heads j
  pub few : j ≤ ROWS
  pub earlier_size : length earlier ≡ ROWS
  pub earlier_at : (k : ℕ) → k < j → (chain : ℕ) → in_chain xs chain k ≡ true → get_or earlier k 0 ≡ last_chained xs chain k

-- The tables of the rows below row j.
pub record Tables (xs : List ℕ) (j : ℕ) (lasts heads earlier : List ℕ) : Type 0 where
  pub lasts_hold : LastBy (of_process xs) PROCESSES lasts j
  pub chains : Chains xs j heads earlier
