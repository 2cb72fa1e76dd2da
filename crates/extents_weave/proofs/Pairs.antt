-- A pair of maps as the two parts of a slice that a rewrite takes.
use Rattle.std.proofs.Common.{ℕ, ◌+◌, ◌*◌, ◌≤◌, arith, add-mul, one-mul, ◌≡◌, sym, ap, ◌∙◌, ◌⊎◌, inl, inr, true, false, List, length}
use Rattle.extents_meaning.specs.Cells.{Bytes}
use Rattle.extents_meaning.specs.Runs.{runs_of}
use Rattle.extents_meaning.specs.Maps.{lawful, part_at}
use Rattle.extents_meaning.proofs.Longest.{runs_same}
use Rattle.extents_map.specs.Mixes.{Mix, view_is_target, mix_in}
use Rattle.extents_pair.specs.InPairs.{two_maps_in, view_in, below_in}
use Rattle.extents_pair.specs.declared.Pair.{Pair}
use Rattle.extents_pair.proofs.Pairing.{rows_apart, two-told, two-apart}
use Rattle.extents_weave.specs.Rewrites.{woven_in, Apart, Weavable}

module _ (pair : Pair) (mix : Mix) (xs : List ℕ) (two : two_maps_in pair xs ≡ true) where
  -- the numbers of a map, and where both maps start
  abbrev size : ℕ
  size = 4 * pair.space

  abbrev v : ℕ
  v = pair.view * size

  abbrev w : ℕ
  w = pair.below * size

  -- Both maps stand in the slice.
  pub maps-in : (v + size ≤ length xs) × (w + size ≤ length xs)
  maps-in =
      let t = two-told pair.space pair.view pair.below xs two in
      (omega (arith, t.view_within, next pair.view), omega (arith, t.below_within, next pair.below))
    where
      next : (k : ℕ) → (k + 1) * size ≡ k * size + size
      next k = add-mul k 1 size ∙ ap (λ (n : ℕ). k * size + n) (one-mul size)

  -- The two maps stand apart.
  apart : (w + size ≤ v) ⊎ (v + size ≤ w)
  apart = rows_apart pair.below pair.view size (λ e. two-apart pair.space pair.view pair.below xs two (sym e))

  -- what the mix makes of both maps
  abbrev made : Bytes
  made = mix_in mix (view_in pair xs) (below_in pair xs)

  module _ {room : ℕ} (order : mix.start ≤ mix.end) (few : length (runs_of made) ≤ room) (fit : room ≤ pair.space) where
    -- a map at t, with the other one at o, that becomes the mix
    module _ (t o : ℕ) (woven : (b : ℕ) → woven_in size t o mix xs b ≡ made b) where
      same_runs : runs_of (woven_in size t o mix xs) ≡ runs_of made
      same_runs = runs_same (woven_in size t o mix xs) made (λ b _. woven b)

      weavable : Apart size t o xs → lawful (part_at t size xs) ≡ true → Weavable size t o mix room xs
      weavable stand law =
          record { two = stand; law = law; order = order; few = omega (arith, few, ap length same_runs); fit = omega (arith, fit) }

    module _ (e : view_is_target mix.mode ≡ true) where
      -- The view can be rewritten.
      pub view-weavable : Weavable size v w mix room xs
      view-weavable =
          let t = two-told pair.space pair.view pair.below xs two in
          weavable v w (λ b. rw e) (record { target_within = maps-in.0; other_in = maps-in.1; apart = apart; other_law = t.below-law }) t.view-law

    module _ (e : view_is_target mix.mode ≡ false) where
      turn : (w + size ≤ v) ⊎ (v + size ≤ w) → (v + size ≤ w) ⊎ (w + size ≤ v)
      turn (inl h) = inr h
      turn (inr h) = inl h

      -- The published map can be rewritten.
      pub below-weavable : Weavable size w v mix room xs
      below-weavable =
          let t = two-told pair.space pair.view pair.below xs two in
          weavable w v (λ b. rw e) (record { target_within = maps-in.1; other_in = maps-in.0; apart = turn apart; other_law = t.view-law }) t.below-law
