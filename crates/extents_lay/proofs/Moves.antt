-- Runs put into a map, and numbers moved within it.
use Rattle.std.proofs.Common.{ℕ, ◌+◌, ◌*◌, ◌-◌, ◌/◌, ◌%◌, ◌≤◌, ◌<◌, min, add-one, arith, ◌≡◌, refl, sym, ap, ◌∙◌, List, [], ◌∷◌, ◌++◌, append_assoc, append-nil, length, take, drop, replicate, length-append, length-drop, take-append-drop, length-take-le, drop-drop, take-add, take_at, drop_at, le-leb}
use native.Mathlib.Decide.{dec_lt}
use native.Mathlib.Numerals.{add-two, add-three}
use lib.ListN.{set, length-replicate, replicate-append-replicate}
use lib.Seq.{sets-eq, paste, take-paste, drop-paste, slice}
use borrow.Rule.Slice.PartMut.{put_mid}
use Rattle.rows.specs.Rows.{with_group}
use Rattle.extents_meaning.specs.Runs.{Run, run_of}
use Rattle.extents_meaning.specs.Maps.{fours}
use Rattle.extents_meaning.proofs.Trips.{fours-append}
use Rattle.extents_map.specs.Cursors.{part_of}
use Rattle.extents_map.proofs.Parted.{part_none, part-some}

-- ---- Lists

-- lists that are the same from a place on are the same from a later place on
drop_more : (m n : ℕ) (xs ys : List ℕ) → m ≤ n → drop m xs ≡ drop m ys → drop n xs ≡ drop n ys
drop_more m n xs ys h e =
    let q : m + (n - m) ≡ n = omega arith in
    (λ t. drop (sym q t) xs) ∙ sym (drop-drop (n - m) m xs) ∙ ap (drop (n - m)) e ∙ drop-drop (n - m) m ys ∙ (λ t. drop (q t) ys)

-- ---- Runs put

-- how many runs a part is
pub part-size : (s l c : ℕ) → length (part_of s l c) ≡ min l 1
part-size s l c = go (dec_lt 0 l)
  where
    go : Dec (0 < l) → length (part_of s l c) ≡ min l 1
    go (yes h) = rw (part-some s l c h) (omega arith)
    go (no h) = rw (part_none s l c (omega arith)) (omega arith)

-- A part was put behind the first i runs of a slice: the first r are those and the part, and from run r on the slice is unchanged.
abbrev pub Put : List ℕ → ℕ → ℕ → ℕ → ℕ → ℕ → List ℕ → Type 0
Put xs i s l c r ys =
    (r ≡ i + min l 1) × (((ps : List Run) → take (4 * i) xs ≡ fours ps → take (4 * r) ys ≡ fours (ps ++ part_of s l c))
    × ((k : ℕ) → r ≤ k → drop (4 * k) ys ≡ drop (4 * k) xs))

-- no part changes nothing
pub put-none : (xs : List ℕ) (i s l c : ℕ) → l ≡ 0 → Put xs i s l c i xs
put-none xs i s l c e = rw (part_none s l c e) (omega arith, (λ ps f. rw append-nil f, λ k h. refl))

-- four numbers put one run
pub put_one : (xs : List ℕ) (i s l c : ℕ) → 1 ≤ l → 4 * (i + 1) ≤ length xs → {ys : List ℕ} →
    ys ≡ with_group 4 i (s ∷ (l ∷ (c / 2 ∷ (c % 2 ∷ [])))) xs → Put xs i s l c (i + 1) ys
unfolding fours with_group
put_one xs i s l c f h {ys} w =
    let new = s ∷ (l ∷ (c / 2 ∷ (c % 2 ∷ []))) in
    let q : i * 4 ≡ 4 * i = omega arith in
    let e : i * 4 + 4 ≡ 4 * (i + 1) = omega arith in
    let front = take (4 * i) xs ++ new in
    let back = drop (4 * (i + 1)) xs in
    let stored : ys ≡ front ++ back =
    w
    ∙ rw (le-leb (i * 4 + 4) (length xs) (omega arith))
    ((λ t. take (q t) xs ++ (new ++ drop (e t) xs)) ∙ sym (append_assoc (take (4 * i) xs) new back)) in
    let n : length front ≡ 4 * (i + 1) = omega (arith, length-append (take (4 * i) xs) new, length-take-le (4 * i) xs (omega arith)) in
    rw (part-some s l c f) (
      omega arith,
      (
        λ ps q. ap (take (4 * (i + 1))) stored ∙ take_at front back (4 * (i + 1)) n ∙ (λ t. q t ++ new) ∙ sym (fours-append ps (run_of s l c ∷ [])),
        λ k o. drop_more (4 * (i + 1)) (4 * k) ys xs (omega arith) (ap (drop (4 * (i + 1))) stored ∙ drop_at front back (4 * (i + 1)) n),
      ),
    )

-- Four numbers copied into a slice are four stores.
pub four_stored : (xs : List ℕ) (at a b c d : ℕ) → at + 4 ≤ length xs → {ys : List ℕ} → ys ≡ a ∷ (b ∷ (c ∷ (d ∷ []))) →
    put_mid at (at + 4 - at) xs ys ≡ set (set (set (set xs at a) (at + 1) b) (at + 2) c) (at + 3) d
four_stored xs at a b c d h {ys} e =
    let new = a ∷ (b ∷ (c ∷ (d ∷ []))) in
    let k : at + (at + 4 - at) ≡ at + 4 = omega arith in
    let stored : set (set (set (set xs at a) (at + 1) b) (at + 2) c) (at + 3) d ≡ (take at xs ++ new) ++ drop (at + 4) xs =
    rw (add-one, add-two, add-three) (sets-eq new xs at h) in
    (λ t. take at xs ++ (e t ++ (drop-drop (at + 4 - at) at xs ∙ (λ v. drop (k v) xs)) t))
    ∙ sym (append_assoc (take at xs) new (drop (at + 4) xs)) ∙ sym stored

-- ---- Numbers copied within a slice

-- Numbers copied up by some places.
pub copied_up : (xs : List ℕ) (from end by : ℕ) → from ≤ end → end + by ≤ length xs →
    paste xs (from + by) (drop from xs) (end - from) ≡ take (from + by) xs ++ (slice from end xs ++ drop (end + by) xs)
copied_up xs from end by h k =
    let n = end - from in
    let e : from + n ≡ end = omega arith in
    let d : from + by + n ≡ end + by = omega arith in
    let part : take n (drop from xs) ≡ slice from end xs =
    sym
    ((λ t. drop from (take (sym e t) xs)) ∙ ap (drop from) (take-add from n xs)
    ∙ drop_at (take from xs) (take n (drop from xs)) from (length-take-le from xs (omega arith))) in
    append_assoc (take (from + by) xs) (take n (drop from xs)) (drop (from + by + n) xs) ∙ (λ t. take (from + by) xs ++ (part t ++ drop (d t) xs))

-- ---- Numbers moved, and zeros behind them

module _ (xs : List ℕ) (from end to : ℕ)
    (p : ((from ≤ end) × (end ≤ length xs) × (to + (end - from) ≤ length xs)) × (drop end xs ≡ replicate (length xs - end) 0)) where
  -- the numbers that move, and the slice once they stand at their new place
  abbrev moving : List ℕ
  moving = take (end - from) (drop from xs)

  abbrev pub Moved : List ℕ → Type 0
  Moved ys = ys ≡ take to xs ++ (moving ++ replicate (length xs - to - (end - from)) 0)

  -- From a place behind `end` on there are fewer zeros.
  fewer : (by n : ℕ) → by + n ≡ length xs - end → drop (end + by) xs ≡ replicate n 0
  fewer by n e =
      sym (drop-drop by end xs) ∙ ap (drop by) (p.1 ∙ (λ t. replicate (sym e t) 0) ∙ sym (replicate-append-replicate by n 0))
      ∙ drop_at (replicate by 0) (replicate n 0) by (length-replicate by 0)

  -- the numbers copied to their new place
  abbrev copied : List ℕ
  copied = paste xs to (drop from xs) (end - from)

  -- Numbers that do not move stand there.
  pub moved_none : from ≡ to → Moved xs
  moved_none e =
      let d : from + (end - from) ≡ end + 0 = omega arith in
      let back : drop (end - from) (drop from xs) ≡ replicate (length xs - to - (end - from)) 0 =
      drop-drop (end - from) from xs ∙ (λ t. drop (d t) xs) ∙ fewer 0 (length xs - to - (end - from)) (omega arith) in
      sym (take-append-drop from xs)
      ∙ (λ t. take (e t) xs ++ sym (take-append-drop (end - from) (drop from xs)) t)
      ∙ (λ t. take to xs ++ (moving ++ back t))

  -- Numbers copied up stand there.
  pub moved_up : from ≤ to → Moved copied
  moved_up l =
      let e : to + (end - from) ≡ end + (to - from) = omega arith in
      append_assoc (take to xs) moving (drop (to + (end - from)) xs)
      ∙ (λ t. take to xs ++ (moving ++ ((λ v. drop (e v) xs) ∙ fewer (to - from) (length xs - to - (end - from)) (omega arith)) t))

  -- Numbers copied down stand there once zeros are stored behind them.
  pub moved_down : to ≤ from → {ys : List ℕ} → ys ≡ (take (to + (end - from)) copied ++ replicate (end - (to + (end - from))) 0) ++ drop end copied → Moved ys
  moved_down l q =
      let s = drop from xs in
      let n = end - from in
      let a = end - (to + n) in
      let b = length xs - end in
      let m : a + b ≡ length xs - to - n = omega arith in
      let room : n ≤ length s = omega (arith, length-drop from xs) in
      let front : take (to + n) copied ≡ take to xs ++ moving = take-paste xs to s n (omega arith) room in
      let back : drop end copied ≡ replicate b 0 = drop_more (to + n) end copied xs (omega arith) (drop-paste xs to s n (omega arith) room) ∙ p.1 in
      q ∙ (λ t. (front t ++ replicate a 0) ++ back t)
      ∙ append_assoc (take to xs ++ moving) (replicate a 0) (replicate b 0)
      ∙ append_assoc (take to xs) moving (replicate a 0 ++ replicate b 0)
      ∙ (λ t. take to xs ++ (moving ++ (replicate-append-replicate a b 0 ∙ (λ v. replicate (m v) 0)) t))
