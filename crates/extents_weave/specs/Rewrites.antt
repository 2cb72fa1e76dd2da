-- A walk that writes runs into the front of a map while it reads the runs further back, and a map rewritten by two of them: what they rely on and
-- leave.
use Rattle.std.specs.Prelude.{ℕ, ◌+◌, ◌*◌, ◌-◌, ◌/◌, ◌≤◌, ◌≡◌, ◌⊎◌, Bool, true, cond, List, length, take, drop, replicate}
use Rattle.rows.specs.Limits.{OFFSET_MAX}
use Rattle.extents_meaning.specs.Cells.{Bytes}
use Rattle.extents_meaning.specs.Runs.{Run, runs_of}
use Rattle.extents_meaning.specs.Maps.{fours, bytes_of, lawful, part_at, with_part}
use Rattle.extents_map.specs.Cursors.{ahead}
use Rattle.extents_map.specs.Mixes.{Mix, view_is_target, becomes_in}
use Rattle.extents_pair.specs.declared.Pair.{Pair}
use Rattle.extents_weave_meaning.specs.Walks.{trimmed}
use Rattle.extents_weave_meaning.specs.Kept.{Results, result, held, needs, Roomy}

-- The number of the map that a mix of a pair writes.
abbrev pub target_in : Mix → Pair → ℕ
target_in mix pair = cond (view_is_target mix.mode) pair.view pair.below

-- What a walk writes at each byte: the cells to keep, or the results.
abbrev pub written_by : Bool → Results → Bytes → Bytes
written_by keep m f b = cond keep (held m f b) (m b (f b))

-- Which bytes need it.
abbrev pub needed_by : Bool → Results → Bytes → ℕ → Bool
needed_by keep m f b = cond keep (needs m f b) true

module _ (size t o : ℕ) (mix : Mix) (xs : List ℕ) where
  -- What every byte of the map at t becomes, for each cell that it may have.
  abbrev pub results_in : Results
  results_in = becomes_in mix (bytes_of (part_at o size xs))

  -- The bytes that a rewrite gives the map at t.
  abbrev pub woven_in : Bytes
  woven_in = result results_in (bytes_of (part_at t size xs))

  module _ (from : ℕ) where
    -- The bytes of the map at t from run `from` on.
    abbrev pub source_in : Bytes
    source_in = bytes_of (drop (4 * from) (part_at t size xs))

    -- The place behind its last run.
    abbrev pub source_end : ℕ
    source_end = from + length (ahead (part_at t size xs) from)

    -- The runs that a walk writes.
    abbrev pub runs_written : Bool → List Run
    runs_written keep = runs_of (trimmed OFFSET_MAX (written_by keep results_in source_in) (needed_by keep results_in source_in))

-- Two slices differ at most in a part.
pub record OnlyPart (at size : ℕ) (xs ys : List ℕ) : Type 0 where
  pub same : ys ≡ with_part at size (part_at at size ys) xs
  pub filled : length (part_at at size ys) ≡ size

-- Two parts of a slice stand apart, and the one at o is a lawful map.
pub record Apart (size t o : ℕ) (xs : List ℕ) : Type 0 where
  pub target_within : t + size ≤ length xs
  pub other_in : o + size ≤ length xs
  pub apart : (o + size ≤ t) ⊎ (t + size ≤ o)
  pub other_law : lawful (part_at o size xs) ≡ true

-- The map at t can be rewritten: the result has at most `room` runs, for which there is space.
pub record Weavable (size t o : ℕ) (mix : Mix) (room : ℕ) (xs : List ℕ) : Type 0 where
  pub two : Apart size t o xs
  pub law : lawful (part_at t size xs) ≡ true
  pub order : mix.start ≤ mix.end
  pub few : length (runs_of (woven_in size t o mix xs)) ≤ room
  pub fit : 4 * room ≤ size

-- A walk may start: the part of the map at t from run `from` on is a lawful map, and the walk never writes over a run that it has not read.
pub record Ready (size t o from : ℕ) (mix : Mix) (keep : Bool) (xs : List ℕ) : Type 0 where
  pub two : Apart size t o xs
  pub order : mix.start ≤ mix.end
  pub fits : 4 * from ≤ size
  pub law : lawful (drop (4 * from) (part_at t size xs)) ≡ true
  pub room :
      Roomy OFFSET_MAX (source_end size t o mix xs from) (source_in size t o mix xs from)
      (written_by keep (results_in size t o mix xs) (source_in size t o mix xs from))

-- A walk has written r runs: they stand in front of the map at t, and behind the source's last run all is 0.
pub record Rewritten (size t o from : ℕ) (mix : Mix) (keep : Bool) (xs : List ℕ) (r : ℕ) (ys : List ℕ) : Type 0 where
  pub only : OnlyPart t size xs ys
  pub count : r ≡ length (runs_written size t o mix xs from keep)
  pub front : take (4 * r) (part_at t size ys) ≡ fours (runs_written size t o mix xs from keep)
  pub behind : drop (4 * source_end size t o mix xs from) (part_at t size ys) ≡ replicate (4 * (size / 4 - source_end size t o mix xs from)) 0
