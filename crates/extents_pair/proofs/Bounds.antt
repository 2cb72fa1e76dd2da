-- How many runs a mix has at most, from the runs of the maps.
use Rattle.std.proofs.Common.{ℕ, zero, suc, ◌+◌, ◌*◌, ◌≤◌, ◌<◌, arith, ◌≡◌, refl, sym, ap, ◌∙◌, Bool, true, false, cond, List, [], ◌∷◌, length, ltb-true}
use native.Mathlib.Decide.{dec_lt}
use mathlib.Core.Bool.{false≢true}
use lib.Dec.{leb}
use Rattle.rows.proofs.Bools.{and_out}
use Rattle.rows.specs.Limits.{OFFSET_MAX}
use Rattle.extents_meaning.specs.Cells.{Bytes, unpublished, cleared, in_range, overwrite, as_published}
use Rattle.extents_meaning.specs.Runs.{Run, cell_at, runs_of, Rising, Lawful}
use Rattle.extents_meaning.specs.Maps.{runs, bytes_of, lawful, map_at}
use Rattle.extents_meaning.specs.Points.{starts}
use Rattle.extents_meaning.proofs.Longest.{mean-before, runs_same}
use Rattle.extents_meaning.proofs.Trips.{lawful-map}
use Rattle.extents_meaning.proofs.Points.{begins, begins-same, begins-most, count-starts, runs_by}
use Rattle.extents_meaning.proofs.Overwrites.{over-in, over-before, over-behind}
use Rattle.extents_map.specs.Mixes.{Mode, Publish, MarkPublished, Refresh, ReadMap, ReadFresh, mixed, mix, makes_map, is_mark_published}
use Rattle.extents_meaning.specs.Pairs.{two_maps}
use Rattle.extents_pair.specs.Marks.{marked}
use Rattle.extents_pair.proofs.Gathering.{marked-fewer}
pub use Rattle.extents_pair.proofs.Gathering.{marked-first}
use Rattle.extents_pair.proofs.Parts.{bytes_count}
use Rattle.extents_pair.proofs.Pairing.{two-told, map-few}

-- ---- One range

module _ (a n c : ℕ) (f : Bytes) where
  -- some bytes with a range written over them
  abbrev g : Bytes
  g = overwrite a n c f

  -- Behind the range the bytes g have the starts of f.
  starts-behind : (k s p : ℕ) → a + n ≤ s → starts k s p g ≡ starts k s p f
  unfolding starts
  starts-behind zero s p h = refl
  starts-behind (suc k) s p h = rw (over-behind a n c f s h) (omega (arith, starts-behind k (suc s) (f s) (omega arith)))

  -- From a byte of the range on the bytes g have at most one start more.
  starts-inside : (k s p : ℕ) → a ≤ s → s ≤ a + n → starts k s c g ≤ starts k s p f + 1
  unfolding starts
  starts-inside zero s p h l = omega arith
  starts-inside (suc k) s p h l = go (dec_lt s (a + n)) (starts-inside k (suc s) (f s) (omega arith))
    where
      go : Dec (s < a + n) → (suc s ≤ a + n → starts k (suc s) c g ≤ starts k (suc s) (f s) f + 1) →
          begins (g s) c + starts k (suc s) (g s) g ≤ begins (f s) p + starts k (suc s) (f s) f + 1
      go (yes m) ih = rw (over-in a n c f s h m) (omega (arith, begins-same c c refl, ih (omega arith)))
      go (no m) ih =
          rw (over-behind a n c f s (omega arith)) (omega (arith, begins-most (f s) c, starts-behind k (suc s) (f s) (omega arith)))

  -- From a byte before the range on the bytes g have at most two starts more.
  starts-before : (k s p : ℕ) → s ≤ a → starts k s p g ≤ starts k s p f + 2
  unfolding starts
  starts-before zero s p h = omega arith
  starts-before (suc k) s p h = go (dec_lt s a) (dec_lt s (a + n)) (starts-before k (suc s) (f s))
    where
      go : Dec (s < a) → Dec (s < a + n) → (suc s ≤ a → starts k (suc s) (f s) g ≤ starts k (suc s) (f s) f + 2) →
          begins (g s) p + starts k (suc s) (g s) g ≤ begins (f s) p + starts k (suc s) (f s) f + 2
      go (yes l) m ih = rw (over-before a n c f s l) (omega (arith, ih (omega arith)))
      go (no l) (yes m) ih =
          let r = starts-inside k (suc s) (f s) (omega arith) (omega arith) in
          rw (over-in a n c f s (omega arith) m) (omega (arith, begins-most c p, r))
      go (no l) (no m) ih = rw (over-behind a n c f s (omega arith)) (omega (arith, starts-behind k (suc s) (f s) (omega arith)))

  -- Writing one range adds at most two runs.
  over-more : length (runs_of g) ≤ length (runs_of f) + 2
  unfolding runs_of
  over-more = omega (arith, count-starts OFFSET_MAX 0 f, count-starts OFFSET_MAX 0 g, starts-before OFFSET_MAX 0 0 (omega arith))

-- ---- The ranges of some runs

-- runs written over bytes, each with a cell made of its own
unfoldable pub laid : (ℕ → ℕ) → List Run → Bytes → Bytes
laid h [] f = f
laid h (r ∷ rs) f = overwrite r.start r.length (h r.cell) (laid h rs f)

-- Each run that is written adds at most two runs.
pub laid_more : (h : ℕ → ℕ) (rs : List Run) (f : Bytes) → length (runs_of (laid h rs f)) ≤ length (runs_of f) + 2 * length rs
unfolding laid
laid_more h [] f = omega arith
laid_more h (r ∷ rs) f = omega (arith, over-more r.start r.length (h r.cell) (laid h rs f), laid_more h rs f)

-- what a byte gets of a view's cell where that is unpublished
abbrev over : (ℕ → ℕ) → ℕ → ℕ → ℕ
over h v w = cond (unpublished v) (h v) w

-- The unpublished runs written over some bytes say what each byte gets of the view's cell.
marked-over : (h : ℕ → ℕ) (top end c : ℕ) (rs : List Run) → Rising top end c rs → (w : Bytes) (b : ℕ) →
    over h (cell_at rs b) (w b) ≡ laid h (marked rs) w b
unfolding laid marked cell_at
marked-over h top end c [] g w b = refl
marked-over h top end c (r ∷ rs) g w b =
    go (unpublished r.cell) refl (in_range r.start r.length b) refl
    (marked-over h top (r.start + r.length) r.cell rs g.1 w b)
  where
    go : (t : Bool) → unpublished r.cell ≡ t → (x : Bool) → in_range r.start r.length b ≡ x →
        over h (cell_at rs b) (w b) ≡ laid h (marked rs) w b →
        over h (cond x r.cell (cell_at rs b)) (w b) ≡ laid h (cond t (r ∷ marked rs) (marked rs)) w b
    go true e true d ih = rw (d, e)
    go true e false d ih = rw d ih
    go false e true d ih =
        let l : b < r.start + r.length = ltb-true b (r.start + r.length) (and_out (leb r.start b) _ d).1 in
        rw e (ap (λ (v : ℕ). over h v (w b)) (sym (mean-before top (r.start + r.length) r.cell rs g.1 b l)) ∙ ih)
    go false e false d ih = ih

-- ---- Mixes

module _ (rs : List Run) (law : Lawful rs) (w : Bytes) where
  -- the unpublished runs written over the published map
  pub laid-over : (h : ℕ → ℕ) (b : ℕ) → over h (cell_at rs b) (w b) ≡ laid h (marked rs) w b
  laid-over h = marked-over h OFFSET_MAX 0 0 rs law.in_order w

  -- The unpublished runs written over the published map add at most two runs each.
  over-most : (h : ℕ → ℕ) → length (runs_of (λ b. over h (cell_at rs b) (w b))) ≤ length (runs_of w) + 2 * length (marked rs)
  over-most h =
      let e = runs_same (λ b. over h (cell_at rs b) (w b)) (laid h (marked rs) w) (λ b _. laid-over h b) in
      omega (arith, ap (λ (l : List Run). length l) e, laid_more h (marked rs) w)

-- ---- Two maps

module _ (v w : List ℕ) (v-law : lawful v ≡ true) (w-law : lawful w ≡ true) where
  -- A view's unpublished bytes over the published map have at most two runs more than that for each unpublished run.
  most-over : (h : ℕ → ℕ) → length (runs_of (λ b. over h (bytes_of v b) (bytes_of w b))) ≤ length (runs w) + 2 * length (marked (runs v))
  most-over h = omega (arith, over-most (runs v) (lawful-map v v-law).lawful-runs (bytes_of w) h, bytes_count w w-law)

  -- The view marked published has at most two runs more, for the range. The published map after publishing and the refreshed view have at most
  -- two runs more than the published map for each unpublished run, and two for the range.
  pub most : (start n c : ℕ) (mode : Mode) → makes_map mode ≡ true → length (runs_of (mix mode start n c (bytes_of v) (bytes_of w))) ≤
      cond (is_mark_published mode) (length (runs v) + 2) (length (runs w) + 2 * length (marked (runs v)) + 2)
  unfolding mixed
  most start n c Publish q = omega (arith, over-more start n c (λ b. over cleared (bytes_of v b) (bytes_of w b)), most-over cleared)
  most start n c MarkPublished q =
      omega (arith, over-more start n c (as_published (bytes_of v)), runs_by cleared refl (bytes_of v), bytes_count v v-law)
  most start n c Refresh q = omega (arith, most-over (λ k. k))
  most start n c ReadMap q = absurd (false≢true q)
  most start n c ReadFresh q = absurd (false≢true q)

-- The count of the view's unpublished runs is at most the space.
pub marked-room : (space view below : ℕ) (xs : List ℕ) → two_maps space view below xs ≡ true → {k : ℕ} →
    k ≡ length (marked (runs (map_at space view xs))) → k ≤ space
marked-room space view below xs two e =
    let t = two-told space view below xs two in
    omega (arith, e, marked-fewer (runs (map_at space view xs)), map-few space view xs t.view_within t.view-law)
