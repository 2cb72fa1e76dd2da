-- Parts of a slice that are lent and come back, and the bytes of the maps that they hold.
use Rattle.std.proofs.Common.{ℕ, ◌+◌, ◌-◌, ◌≤◌, ◌<◌, arith, ◌≡◌, sym, ap, ◌∙◌, ◌⊎◌, inl, inr, Bool, true, cond, List, ◌++◌, append_assoc, length, take, drop, length-append, length-drop, take-append-drop, length-take-le, drop-drop, take-add, take_at, drop_at, le-leb}
use native.Mathlib.Decide.{dec_lt}
use lib.Seq.{take-append-le, drop-append-le}
use lib.Dec.{leb}
use borrow.Rule.Slice.PartMut.{put_mid}
use Rattle.rows.specs.Limits.{OFFSET_MAX}
use Rattle.extents_meaning.specs.Cells.{Bytes}
use Rattle.extents_meaning.specs.Runs.{Run, cell_at, runs_of, Lawful}
use Rattle.extents_meaning.specs.Maps.{map_of, map_for, space_in, runs, bytes_of, lawful, part_at, with_part}
use Rattle.extents_meaning.proofs.Longest.{mean-behind, runs-mean, runs_same, runs-lawful, runs-back, lawful-fine}
use Rattle.extents_meaning.proofs.Trips.{map_back, map_lawful, lawful-map}
use Rattle.extents_pair.proofs.Sweeps.{Fits}

-- ---- A part lent and home again

-- a part is lent
pub lent : (at size : ℕ) (xs : List ℕ) → take (at + size - at) (drop at xs) ≡ part_at at size xs
lent at size xs = let e : at + size - at ≡ size = omega arith in ap (λ (n : ℕ). take n (drop at xs)) e

-- A lent part comes back changed.
pub home : (at size : ℕ) (xs m : List ℕ) → put_mid at (at + size - at) xs m ≡ with_part at size m xs
home at size xs m = let e : at + (at + size - at) ≡ at + size = omega arith in rw (drop-drop, e, append_assoc)

-- ---- Laws of parts

module _ (at size : ℕ) (xs : List ℕ) (h : at + size ≤ length xs) where
  -- the length of a part
  pub part_length : length (part_at at size xs) ≡ size
  part_length = length-take-le size (drop at xs) (omega (arith, length-drop at xs))

  -- The length of what lies before the part.
  before-length : length (take at xs) ≡ at
  before-length = length-take-le at xs (omega arith)

  -- a part put where it stands
  pub with_part_lem : with_part at size (part_at at size xs) xs ≡ xs
  with_part_lem = rw (← take-add at size xs) (take-append-drop (at + size) xs)

  module _ (m : List ℕ) (l : length m ≡ size) where
    -- The length of what lies before the part and of the part.
    both-length : length (take at xs ++ m) ≡ at + size
    both-length = omega (arith, length-append (take at xs) m, before-length)

    -- The numbers before the part stay.
    take-with : take at (with_part at size m xs) ≡ take at xs
    take-with = rw append_assoc (take_at (take at xs) (m ++ drop (at + size) xs) at before-length)

    -- What lies behind the part stays.
    drop_with : drop (at + size) (with_part at size m xs) ≡ drop (at + size) xs
    drop_with = drop_at (take at xs ++ m) (drop (at + size) xs) (at + size) both-length

    -- the slice is as long as it was
    pub with_length : length (with_part at size m xs) ≡ length xs
    with_length = omega (arith, length-append (take at xs ++ m) (drop (at + size) xs), both-length, length-drop (at + size) xs)

    -- the part is read back
    pub part-with : part_at at size (with_part at size m xs) ≡ m
    part-with = rw (append_assoc, drop_at (take at xs) (m ++ drop (at + size) xs) at before-length) (take_at m (drop (at + size) xs) size l)

    -- the last part counts
    pub with-with : (n : List ℕ) → with_part at size n (with_part at size m xs) ≡ with_part at size n xs
    with-with n = λ i. (take-with i ++ n) ++ drop_with i

    -- a part that stands apart is as it was
    pub part_apart : (o : ℕ) → (o + size ≤ at) ⊎ (at + size ≤ o) → part_at o size (with_part at size m xs) ≡ part_at o size xs
    part_apart o (inl k) = rw append_assoc (front (m ++ drop (at + size) xs) ∙ sym (front (drop at xs)) ∙ ap (part_at o size) (take-append-drop at xs))
      where
        front : (rest : List ℕ) → part_at o size (take at xs ++ rest) ≡ part_at o size (take at xs)
        front rest =
            ap (take size) (drop-append-le o (take at xs) rest (omega (arith, before-length)))
            ∙ take-append-le size (drop o (take at xs)) rest (omega (arith, before-length, length-drop o (take at xs)))
    part_apart o (inr k) =
        let d = o - (at + size) in
        let e : o ≡ at + size + d = omega arith in
        rw (e, ← drop-drop d (at + size) (with_part at size m xs), ← drop-drop d (at + size) xs, drop_with)

-- ---- Bytes of maps

-- The bytes of a lawful map have its runs.
pub bytes_count : (xs : List ℕ) → lawful xs ≡ true → length (runs_of (bytes_of xs)) ≡ length (runs xs)
bytes_count xs e = ap (λ (rs : List Run). length rs) (runs-back (runs xs) (lawful-map xs e).lawful-runs)

-- The bytes of a lawful map are good and fit.
pub bytes_fit : (xs : List ℕ) → lawful xs ≡ true → Fits (space_in xs) (bytes_of xs)
bytes_fit xs e =
    let m = lawful-map xs e in
    record {
      good = record { fine = lawful-fine (runs xs) m.lawful-runs; ends = mean-behind OFFSET_MAX 0 0 (runs xs) m.lawful-runs.in_order };
      few = omega (arith, bytes_count xs e, m.fit);
    }

-- The bytes of a lawful map make the map again.
pub bytes-map : (xs : List ℕ) → lawful xs ≡ true → map_for (space_in xs) (bytes_of xs) ≡ xs
bytes-map xs e = let m = lawful-map xs e in ap (map_of (space_in xs)) (runs-back (runs xs) m.lawful-runs) ∙ sym m.whole

module _ (space : ℕ) (f : Bytes) (k : Fits space f) where
  -- the runs of bytes that fit are lawful
  fits-runs : Lawful (runs_of f)
  fits-runs = runs-lawful f (λ b _. k.good.fine b)

  -- the map of bytes that fit is lawful
  pub fits-lawful : lawful (map_for space f) ≡ true
  fits-lawful = map_lawful space (runs_of f) fits-runs k.few

  -- The map of bytes that fit has those bytes.
  pub fits-back : (b : ℕ) → bytes_of (map_for space f) b ≡ f b
  fits-back b = ap (λ (rs : List Run). cell_at rs b) (map_back space (runs_of f) fits-runs k.few) ∙ go (dec_lt b OFFSET_MAX)
    where
      go : Dec (b < OFFSET_MAX) → cell_at (runs_of f) b ≡ f b
      go (yes l) = runs-mean f b l
      go (no l) = mean-behind OFFSET_MAX 0 0 (runs_of f) fits-runs.in_order b (omega arith) ∙ sym (k.good.ends b (omega arith))

-- equal bytes have one map
pub map_same : (space : ℕ) (f g : Bytes) → ((b : ℕ) → f b ≡ g b) → map_for space f ≡ map_for space g
map_same space f g h = ap (map_of space) (runs_same f g (λ b _. h b))

-- ---- A range laid in a map

-- What fits is laid.
pub laid-fit : (xs : List ℕ) (f : Bytes) {r : Bool} {ys : List ℕ} → length (runs_of f) ≤ space_in xs →
    r ≡ leb (length (runs_of f)) (space_in xs) → ys ≡ cond r (map_for (space_in xs) f) xs → ys ≡ map_for (space_in xs) f
laid-fit xs f {r} {ys} h a b = b ∙ ap (λ (x : Bool). cond x (map_for (space_in xs) f) xs) (a ∙ le-leb (length (runs_of f)) (space_in xs) h)
