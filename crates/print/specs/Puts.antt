-- Bytes put into a slice from an index on.
use Rattle.std.specs.Prelude.{ℕ, ◌+◌, Bool, cond, List, ◌++◌, length, take, drop, leb}

-- The slice with the bytes laid from the index on; all others are as they were.
abbrev pub lay : List ℕ → ℕ → List ℕ → List ℕ
lay xs at bytes = (take at xs ++ bytes) ++ drop (at + length bytes) xs

-- There is room for the bytes.
abbrev pub room : List ℕ → ℕ → List ℕ → Bool
room xs at bytes = leb (at + length bytes) (length xs)

-- The slice with the bytes where there is room, and as it was where there is none.
unfoldable pub put_in : List ℕ → ℕ → List ℕ → List ℕ
put_in xs at bytes = cond (room xs at bytes) (lay xs at bytes) xs

-- The index behind the bytes; the index itself where there is no room.
unfoldable pub put_end : List ℕ → ℕ → List ℕ → ℕ
put_end xs at bytes = cond (room xs at bytes) (at + length bytes) at
