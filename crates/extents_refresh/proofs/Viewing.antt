-- A view refreshed or marked published: what the copy and the rewrite leave.
use Rattle.std.proofs.Common.{ℕ, ◌+◌, ◌*◌, ◌-◌, ◌≤◌, arith, ◌≡◌, refl, sym, ap, ◌∙◌, true, List, length, le-leb}
use lib.Dec.{leb}
use borrow.Rule.Slice.PartMut.{put_mid}
use Rattle.extents_meaning.specs.Cells.{Bytes, cleared, as_published, refreshed}
use Rattle.extents_meaning.specs.Runs.{runs_of}
use Rattle.extents_meaning.specs.Maps.{map_of, map_for, runs, bytes_of, lawful, lawful_published, map_at, with_map}
use Rattle.extents_meaning.specs.Pairs.{two_maps, view_of, below_of}
use Rattle.extents_meaning.proofs.Longest.{range-behind, runs_same}
use Rattle.extents_meaning.proofs.Points.{runs_by}
use Rattle.extents_meaning.proofs.Trips.{lawful-map, length-map}
use Rattle.extents_meaning.proofs.Sides.{with_length, at_same, at_other, with_over}
use Rattle.extents_map.specs.Mixes.{MarkPublished, mixed, mix}
use Rattle.extents_pair.specs.Marks.{marked}
use Rattle.extents_pair.proofs.Parts.{home, bytes_fit}
use Rattle.extents_pair.proofs.Pairing.{Told, two-told, two-apart, last-law, lent_map, map_lent, map_length, map_space, map_whole, made-home}
use Rattle.extents_pair.proofs.Gathering.{refreshed-none}
use Rattle.extents_refresh.specs.Clearing.{Cleared}
use Rattle.extents_refresh.proofs.Clearing.{cleared-all}

-- ---- A view without unpublished runs

module _ (space view below : ℕ) (xs : List ℕ) (two : two_maps space view below xs ≡ true) where
  -- The slice with the copy is what a refresh leaves.
  pub view-copied : {own : ℕ} → own ≡ length (marked (runs (map_at space view xs))) → own ≡ 0 → {zs : List ℕ} →
      zs ≡ with_map space view (map_at space below xs) xs →
      zs ≡ with_map space view (map_for space (refreshed (view_of space view below xs) (below_of space view below xs))) xs
  view-copied e z q =
      let u = two-told space view below xs two in
      let law = (lawful-map (map_at space view xs) u.view-law).lawful-runs in
      let same : runs_of (refreshed (view_of space view below xs) (below_of space view below xs)) ≡ runs_of (below_of space view below xs) =
      runs_same _ _ (λ b _. refreshed-none (runs (map_at space view xs)) law (sym e ∙ z) (below_of space view below xs) b) in
      q ∙ ap (λ (m : List ℕ). with_map space view m xs) (sym (ap (map_of space) same ∙ map_whole space below xs u.below_within u.below-law))

-- ---- A view marked published

-- The mix that marks a view published has the runs of its bytes without marks.
marks-are : (v w : Bytes) → runs_of (mix MarkPublished 0 0 0 v w) ≡ runs_of (as_published v)
unfolding mixed
marks-are v w = runs_same (mix MarkPublished 0 0 0 v w) (as_published v) (λ b _. rw (range-behind 0 0 b (omega arith)))

-- Of two maps in a slice the view was lent, and some of its marks are cleared.
pub record ViewCleared (space view below : ℕ) (xs : List ℕ) (left : ℕ) (end : List ℕ) : Type 0 where
  pub two : two_maps space view below xs ≡ true
  pub marks : Cleared (lent_map space view xs) left end

module _ {space view below : ℕ} {xs : List ℕ} {left : ℕ} {end : List ℕ} (k : ViewCleared space view below xs left end) where
  told : Told space view below xs
  told = two-told space view below xs k.two

  -- the slice with that view
  abbrev ys : List ℕ
  ys = put_mid (view * (4 * space)) (view * (4 * space) + 4 * space - view * (4 * space)) xs end

  ys_is : ys ≡ with_map space view end xs
  ys_is = home (view * (4 * space)) (4 * space) xs end

  end-size : length end ≡ 4 * space
  end-size = k.marks.same ∙ ap length (map_lent space view xs) ∙ map_length space view xs told.view_within

  -- the slice is as long as it was, and has the cleared view
  pub cleared-length : length ys ≡ length xs
  cleared-length = ap length ys_is ∙ with_length space view end xs end-size told.view_within

  view-is : map_at space view ys ≡ end
  view-is = ap (map_at space view) ys_is ∙ at_same space view end xs end-size told.view_within

  -- no mark is left
  pub cleared-end : left ≡ 0 → ys ≡ with_map space view (map_for space (as_published (view_of space view below xs))) xs
  cleared-end z = made-home space view xs told.view_within as_published (cleared-all k.marks z)

  -- Both maps are lawful still.
  pub cleared-two : two_maps space view below ys ≡ true
  cleared-two =
      let apart = two-apart space view below xs k.two in
      let room : (n : ℕ) → n ≤ length xs → leb n (length ys) ≡ true = λ n h. le-leb n (length ys) (omega (arith, cleared-length)) in
      sym (last-law space view below ys apart (room _ told.view_within) (room _ told.below_within) (ap lawful view-is ∙ k.marks.law))
      ∙ ap (λ (l : List ℕ). lawful_published (map_at space below l)) ys_is
      ∙ ap lawful_published (at_other space view end xs end-size told.view_within below (λ q. apart (sym q)))
      ∙ last-law space view below xs apart (le-leb _ _ told.view_within) (le-leb _ _ told.below_within) told.view-law
      ∙ k.two

  -- The marks that are left are counted.
  pub cleared-own : left ≡ length (marked (runs (map_at space view ys)))
  cleared-own = k.marks.all ∙ ap (λ (m : List ℕ). length (marked (runs m))) (sym view-is)

  -- The view marked published fits.
  pub cleared-fits : length (runs_of (mix MarkPublished 0 0 0 (view_of space view below ys) (below_of space view below ys))) ≤ space
  cleared-fits =
      let t = two-told space view below ys cleared-two in
      let v = view_of space view below ys in
      let few = (bytes_fit (map_at space view ys) t.view-law).few in
      omega (arith, ap length (marks-are v (below_of space view below ys)), runs_by cleared refl v, few, map_space space view ys t.view_within)

  -- Rewritten, it is the view marked published.
  pub cleared-woven : {zs : List ℕ} →
      zs ≡ with_map space view (map_for space (mix MarkPublished 0 0 0 (view_of space view below ys) (below_of space view below ys))) ys →
      zs ≡ with_map space view (map_for space (as_published (view_of space view below xs))) xs
  cleared-woven q =
      let v = view_of space view below ys in
      let new = map_for space (mix MarkPublished 0 0 0 v (below_of space view below ys)) in
      let same : (b : ℕ) → as_published v b ≡ as_published (view_of space view below xs) b =
      λ b. ap (λ (m : List ℕ). as_published (bytes_of m) b) view-is ∙ k.marks.mean b ∙ ap (λ (m : List ℕ). as_published (bytes_of m) b) (map_lent space view xs) in
      q
      ∙ ap (with_map space view new) ys_is
      ∙ with_over space view new end xs (length-map space _ cleared-fits) end-size told.view_within
      ∙ ap (λ (l : List ℕ). with_map space view l xs) (ap (map_of space) (marks-are v (below_of space view below ys) ∙ runs_same _ _ (λ b _. same b)))
