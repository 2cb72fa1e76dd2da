-- Counting the runs of a mix of two maps and a range, from one byte that may start a run to the next.
use Rattle.std.proofs.Common.{ℕ, zero, suc, ◌+◌, ◌-◌, ◌≤◌, ◌<◌, min, zero-add, add-zero, suc-add, arith, ◌≡◌, refl, sym, ap, ◌∙◌, List, length}
use Rattle.rows.specs.Limits.{OFFSET_MAX}
use Rattle.extents_meaning.specs.Cells.{Bytes}
use Rattle.extents_meaning.specs.Runs.{runs_from}
use Rattle.extents_meaning.specs.Maps.{bytes_of}
use Rattle.extents_meaning.specs.Points.{starts}
use Rattle.extents_meaning.proofs.Points.{begins, begins-same, begins-most, count-starts}
use Rattle.extents_map.specs.Mixes.{Mode, mix_for, mixed, mix_in}
use Rattle.extents_map.specs.Cursors.{Passing, BothLooked}
use Rattle.extents_map.specs.declared.scan.Both.{Both}
use Rattle.extents_map.specs.declared.modes.Range.{Range}
use Rattle.extents_map.proofs.Looking.{passing-on, passing-then, both-on, both-cell, both-other, both-inside}

-- ---- Starts

-- no more starts than bytes
pub starts-most : (n s c : ℕ) (f : Bytes) → starts n s c f ≤ n
unfolding starts
starts-most zero s c f = omega arith
starts-most (suc n) s c f = omega (arith, begins-most (f s) c, starts-most n (suc s) (f s) f)

-- k bytes of the cell before them start no run
starts-same : (k n x here : ℕ) (f : Bytes) → ((b : ℕ) → x ≤ b → b < x + k → f b ≡ here) → starts (k + n) x here f ≡ starts n (x + k) here f
unfolding starts
starts-same zero n x here f h = rw (zero-add, add-zero)
starts-same (suc k) n x here f h =
    let q = h x (omega arith) (omega arith) in
    let r = starts-same k n (suc x) here f (λ b l m. h b (omega arith) (omega arith)) in
    let e : suc x + k ≡ x + suc k = omega arith in
    rw (suc-add, ← e, q, begins-same here here refl) (omega (arith, r))

-- the bytes from x to y, of one cell, count once; the rest stands behind that cell
starts-on : (x y to c here : ℕ) (f : Bytes) → x < y → y ≤ to → ((b : ℕ) → x ≤ b → b < y → f b ≡ here) →
    starts (to - x) x c f ≡ begins here c + starts (to - y) y here f
unfolding starts
starts-on x y to c here f l m h =
    let k : to - x ≡ suc (y - suc x + (to - y)) = omega arith in
    let e : suc x + (y - suc x) ≡ y = omega arith in
    let r = starts-same (y - suc x) (to - y) (suc x) here f (λ b o p. h b (omega arith) (omega arith)) in
    rw (k, h x (omega arith) l) (ap (λ (s : ℕ). begins here c + s) (rw e at r))

-- ---- The walk

-- of the runs of the mix from byte `from` to byte `to`, n start before byte x, behind a byte of a cell; i and j are cursors into both maps
pub record Counted (map below : List ℕ) (mode : Mode) (range : Range) (from to x n last i j : ℕ) : Type 0 where
  pub sum :
      starts (to - from) from 0 (mix_in (mix_for mode range) (bytes_of map) (bytes_of below))
      ≡ n + starts (to - x) x last (mix_in (mix_for mode range) (bytes_of map) (bytes_of below))
  pub view : Passing map 0 x i
  pub under : Passing below 0 x j

module _ {map below : List ℕ} {mode : Mode} {range : Range} {from to x n last i j : ℕ} (k : Counted map below mode range from to x n last i j) where
  -- what is counted
  abbrev mix_of : Bytes
  mix_of = mix_in (mix_for mode range) (bytes_of map) (bytes_of below)

  -- no more runs than bytes: the count fits
  pub count_most : n ≤ to
  count_most = omega (arith, k.sum, starts-most (to - from) from 0 mix_of)

  -- at the end all are counted
  pub count-end : to ≤ x → n ≡ length (runs_from (to - from) from mix_of)
  count-end h = omega (arith, k.sum, starts-most (to - x) x last mix_of, count-starts (to - from) from mix_of)

  -- a turn goes to the nearest byte y at which a map or the range changes
  module _ {s : Both} {y : ℕ} (h : x < to) (top : to ≤ OFFSET_MAX) (o : range.start ≤ range.end)
      (p : BothLooked map i below j range x s) (l : y ≡ min s.next to) where
    -- y lies behind x
    pub further : x < y
    further = omega (arith, (both-on p (omega arith) o).0)

    module _ {here new : ℕ} (m : here ≡ mixed mode s.inside range.cell s.cell s.other) (r : new ≡ begins here last) where
      -- up to there the mix has one cell
      same-there : (z : ℕ) → x ≤ z → z < y → mix_of z ≡ here
      same-there z a u =
          let below : x < OFFSET_MAX = omega arith in
          let f = sym (k.view.same z a) ∙ both-cell p below o z a (omega arith) in
          let g = sym (k.under.same z a) ∙ both-other p below o z a (omega arith) in
          (λ t. mixed mode (both-inside p below o z a (omega arith) t) range.cell (f t) (g t)) ∙ sym m

      -- The turn counts the runs before y.
      pub count_next : Counted map below mode range from to y (n + new) here s.i s.j
      count_next =
          let f : x ≤ y = omega (arith, further) in
          record {
            sum = omega (arith, k.sum, starts-on x y to last here mix_of further (omega arith) same-there, r);
            view = passing-on (passing-then k.view p.mine) y f;
            under = passing-on (passing-then k.under p.theirs) y f;
          }
