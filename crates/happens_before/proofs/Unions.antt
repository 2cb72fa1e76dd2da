-- Unions of closed sets of rows, and how many rows of a process they hold.
use Rattle.std.proofs.Common.{ℕ, zero, suc, max, ◌≡◌, ◌⊎◌, inl, inr, Bool, true, false, cond, ◌&&◌, ◌||◌}
use mathlib.Core.Bool.{or-false, or_assoc}
use Rattle.rows.specs.Counting.{any_below, count_below}
use Rattle.happens_before.specs.Clock.{joined_to}
use Rattle.rows.proofs.Bools.{and_out, or_out, or_right}
use Rattle.rows.proofs.Below.{any-in, any_out, Closed, count-union}

-- The first test passes, or one of the tests chosen below m.
abbrev pub union_to : (ℕ → Bool) → (ℕ → ℕ → Bool) → (ℕ → Bool) → ℕ → ℕ → Bool
union_to chosen test first m i = first i || any_below m (λ k. chosen k && test k i)

module _ (n : ℕ) (is_p chosen : ℕ → Bool) (test : ℕ → ℕ → Bool) (first : ℕ → Bool)
    (c : Closed n is_p first) (d : (k : ℕ) → Closed n is_p (test k)) where
  -- A union of closed tests is closed.
  closed-union : (m : ℕ) → Closed n is_p (union_to chosen test first m)
  closed-union m i k l b p q e = go (or_out (first k) (any_below m (λ s. chosen s && test s k)) e)
    where
      go : (first k ≡ true) ⊎ (any_below m (λ s. chosen s && test s k) ≡ true) → union_to chosen test first m i ≡ true
      go (inl t) = rw (c i k l b p q t)
      go (inr t) =
          let r = any_out m (λ s. chosen s && test s k) t in
          let o = and_out (chosen r.0) (test r.0 k) r.2 in
          or_right (first i) _ (any-in m (λ s. chosen s && test s i) r.0 r.1 (rw o.0 (d r.0 i k l b p q o.1)))

  -- The count of a union is the join of the counts.
  pub count-joined : (m : ℕ) →
      count_below n (λ i. is_p i && union_to chosen test first m i)
      ≡ joined_to chosen (λ k. count_below n (λ i. is_p i && test k i)) (count_below n (λ i. is_p i && first i)) m
  unfolding any_below joined_to
  count-joined zero = simp or-false
  count-joined (suc m) = go (chosen m) (count-joined m)
    where
      U : ℕ
      U = count_below n (λ i. is_p i && union_to chosen test first m i)

      J : ℕ
      J = joined_to chosen (λ k. count_below n (λ i. is_p i && test k i)) (count_below n (λ i. is_p i && first i)) m

      go : (b : Bool) → U ≡ J →
          count_below n (λ i. is_p i && (first i || (any_below m (λ k. chosen k && test k i) || (b && test m i))))
          ≡ cond b (max J (count_below n (λ i. is_p i && test m i))) J
      go true h = simp (← or_assoc) (rw (← h) (count-union n is_p (union_to chosen test first m) (test m) (closed-union m) (d m)))
      go false h = simp or-false h
