-- Cursors into a map's runs: what the functions rely on.
use Rattle.std.specs.Prelude.{ℕ, ◌+◌, ◌*◌, ◌-◌, ◌≤◌, ◌<◌, min, ◌≡◌, true, cond, List, [], ◌∷◌, length, drop, eqb, ltb}
use Rattle.rows.specs.Limits.{OFFSET_MAX}
use Rattle.extents_meaning.specs.Cells.{in_range}
use Rattle.extents_meaning.specs.Runs.{Run, run_of, cell_at, Open}
use Rattle.extents_meaning.specs.Maps.{runs, bytes_of, lawful}
use Rattle.extents_meaning.specs.Lookups.{change_of}
use Rattle.extents_map.specs.declared.scan.Look.{Look}
use Rattle.extents_map.specs.declared.scan.Both.{Both}
use Rattle.extents_map.specs.declared.modes.Range.{Range}

-- The runs of a slice from run i on.
abbrev pub ahead : List ℕ → ℕ → List Run
ahead xs i = runs (drop (4 * i) xs)

-- The part of a slice from run i on is a lawful map, and byte x is a byte.
pub record Part (xs : List ℕ) (i x : ℕ) : Type 0 where
  pub fits : 4 * i ≤ length xs
  pub law : lawful (drop (4 * i) xs) ≡ true
  pub below : x < OFFSET_MAX

-- The runs of a slice from run `from` up to run i end at byte x or before: from x on the runs from run i on say all.
pub record Passing (xs : List ℕ) (from x i : ℕ) : Type 0 where
  pub fits : 4 * i ≤ length xs
  pub law : lawful (drop (4 * i) xs) ≡ true
  pub count : i + length (ahead xs i) ≡ from + length (ahead xs from)
  pub same : (b : ℕ) → x ≤ b → cell_at (ahead xs i) b ≡ cell_at (ahead xs from) b

-- What stands at byte x by the runs from run `from` on: the cell, the next byte of another, and the first run that does not end at x or before.
pub record Looked (xs : List ℕ) (from x : ℕ) (r : Look) : Type 0 where
  pub passing : Passing xs from x r.at
  pub first : Open x (ahead xs r.at)
  pub cell : r.cell ≡ bytes_of (drop (4 * from) xs) x
  pub next : r.next ≡ change_of (bytes_of (drop (4 * from) xs)) x

-- The next byte behind x at which a range starts or ends, the end of all bytes where there is none.
abbrev pub edge_of : ℕ → ℕ → ℕ → ℕ
edge_of start end x = cond (ltb x start) start (cond (ltb x end) end OFFSET_MAX)

-- What a map from run i on, another one from run j on and a range have at byte x, and the next byte at which one of them changes.
pub record BothLooked (xs : List ℕ) (i : ℕ) (os : List ℕ) (j : ℕ) (range : Range) (x : ℕ) (r : Both) : Type 0 where
  pub mine : Passing xs i x r.i
  pub first : Open x (ahead xs r.i)
  pub theirs : Passing os j x r.j
  pub cell : r.cell ≡ bytes_of (drop (4 * i) xs) x
  pub other : r.other ≡ bytes_of (drop (4 * j) os) x
  pub inside : r.inside ≡ in_range range.start (range.end - range.start) x
  pub next :
      r.next ≡ min (min (change_of (bytes_of (drop (4 * i) xs)) x) (change_of (bytes_of (drop (4 * j) os)) x)) (edge_of range.start range.end x)

-- ---- Runs put into a map

-- a part of a run, none where its length is 0
unfoldable pub part_of : ℕ → ℕ → ℕ → List Run
part_of start length cell = cond (eqb length 0) [] (run_of start length cell ∷ [])
