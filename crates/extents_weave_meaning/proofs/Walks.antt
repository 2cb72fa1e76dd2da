-- What a walk lists is the runs of its bytes without the ends that are not needed, and trimming leaves as many runs.
use Rattle.std.proofs.Common.{ℕ, zero, suc, ◌+◌, ◌-◌, ◌≤◌, ◌<◌, arith, ◌≡◌, refl, sym, ap, subst, ◌∙◌, ◌⊎◌, inl, inr, Bool, true, false, cond, List, [], eq-eqb, ne_eqb}
use native.Mathlib.Decide.{dec_lt, ℕ_discrete}
use lib.Dec.{eqb}
use Rattle.extents_meaning.specs.Cells.{Bytes}
use Rattle.extents_meaning.specs.Runs.{Run, runs_from}
use Rattle.extents_meaning.specs.Points.{starts}
use Rattle.extents_meaning.proofs.Points.{begins, begins-zero, begins-same, begins-one}
use Rattle.extents_weave_meaning.specs.Walks.{last, live, trimmed, put, listed, Needed}
use Rattle.extents_weave_meaning.proofs.Starts.{starts-step, last-next, last_none}
use Rattle.extents_weave_meaning.proofs.Rests.{rest, rest-none, rest-skip, close, put-none}

module _ (g : Bytes) (need : ℕ → Bool) where
  -- ---- One byte

  pub live-needed : (n s c : ℕ) → g s ≡ c → need s ≡ true → live g need (suc n) s c ≡ 1
  unfolding live
  live-needed n s c p q = rw (eq-eqb (g s) c p, q)

  pub live_on : (n s c : ℕ) → g s ≡ c → need s ≡ false → live g need (suc n) s c ≡ live g need n (suc s) c
  unfolding live
  live_on n s c p q = rw (eq-eqb (g s) c p, q)

  pub live-not : (n s c : ℕ) → (g s ≡ c → ⊥) → live g need (suc n) s c ≡ 0
  unfolding live
  live-not n s c p = rw (ne_eqb (g s) c p)

  pub live-most : (n s c : ℕ) → live g need n s c ≤ 1
  unfolding live
  live-most zero s c = omega arith
  live-most (suc n) s c = go (eqb (g s) c) (need s) (live-most n (suc s) c)
    where
      go : (x y : Bool) → live g need n (suc s) c ≤ 1 → cond x (cond y 1 (live g need n (suc s) c)) 0 ≤ 1
      go true true ih = omega arith
      go true false ih = ih
      go false y ih = omega arith

  pub listed-needed : (n s a e c : ℕ) → g s ≡ c → need s ≡ true → listed g need (suc n) s a e c ≡ listed g need n (suc s) a (suc s) c
  unfolding listed
  listed-needed n s a e c p q = rw (eq-eqb (g s) c p, q)

  pub listed-on : (n s a e c : ℕ) → g s ≡ c → need s ≡ false → listed g need (suc n) s a e c ≡ listed g need n (suc s) a e c
  unfolding listed
  listed-on n s a e c p q = rw (eq-eqb (g s) c p, q)

  pub listed-put : (n s a e c : ℕ) → (g s ≡ c → ⊥) → listed g need (suc n) s a e c ≡ put a e c (listed g need n (suc s) s (suc s) (g s))
  unfolding listed
  listed-put n s a e c p = rw (ne_eqb (g s) c p)

  -- ---- A stretch: the turn of a walk

  same-needed : (k n s a c : ℕ) → ((b : ℕ) → s ≤ b → b < s + k → g b ≡ c) → ((b : ℕ) → s ≤ b → b < s + k → need b ≡ true) →
      listed g need (k + n) s a s c ≡ listed g need n (s + k) a (s + k) c
  same-needed zero n s a c p q =
      let i : 0 + n ≡ n = omega arith in
      let j : s + 0 ≡ s = omega arith in
      rw (i, j)
  same-needed (suc k) n s a c p q =
      let i : suc k + n ≡ suc (k + n) = omega arith in
      let j : s + suc k ≡ suc s + k = omega arith in
      rw (i, j)
      (listed-needed (k + n) s a s c (p s (omega arith) (omega arith)) (q s (omega arith) (omega arith))
      ∙ same-needed k n (suc s) a c (λ b l h. p b (omega arith) (omega arith)) (λ b l h. q b (omega arith) (omega arith)))

  -- the cell in hand stays, and is not needed
  pub turn_on : (k n s a e c : ℕ) → ((b : ℕ) → s ≤ b → b < s + k → g b ≡ c) → ((b : ℕ) → s ≤ b → b < s + k → need b ≡ false) →
      listed g need (k + n) s a e c ≡ listed g need n (s + k) a e c
  turn_on zero n s a e c p q =
      let i : 0 + n ≡ n = omega arith in
      let j : s + 0 ≡ s = omega arith in
      rw (i, j)
  turn_on (suc k) n s a e c p q =
      let i : suc k + n ≡ suc (k + n) = omega arith in
      let j : s + suc k ≡ suc s + k = omega arith in
      rw (i, j)
      (listed-on (k + n) s a e c (p s (omega arith) (omega arith)) (q s (omega arith) (omega arith))
      ∙ turn_on k n (suc s) a e c (λ b l h. p b (omega arith) (omega arith)) (λ b l h. q b (omega arith) (omega arith)))

  -- it stays, and is needed
  pub turn-needed : (k n s a e c : ℕ) → ((b : ℕ) → s ≤ b → b < s + suc k → g b ≡ c) → ((b : ℕ) → s ≤ b → b < s + suc k → need b ≡ true) →
      listed g need (suc k + n) s a e c ≡ listed g need n (s + suc k) a (s + suc k) c
  turn-needed k n s a e c p q =
      let i : suc k + n ≡ suc (k + n) = omega arith in
      let j : s + suc k ≡ suc s + k = omega arith in
      rw (i, j)
      (listed-needed (k + n) s a e c (p s (omega arith) (omega arith)) (q s (omega arith) (omega arith))
      ∙ same-needed k n (suc s) a c (λ b l h. p b (omega arith) (omega arith)) (λ b l h. q b (omega arith) (omega arith)))

  -- another cell d, needed
  pub turn-put : (k n s a e c d : ℕ) → (d ≡ c → ⊥) → ((b : ℕ) → s ≤ b → b < s + suc k → g b ≡ d) →
      ((b : ℕ) → s ≤ b → b < s + suc k → need b ≡ true) →
      listed g need (suc k + n) s a e c ≡ put a e c (listed g need n (s + suc k) s (s + suc k) d)
  turn-put k n s a e c d o p q =
      let i : suc k + n ≡ suc (k + n) = omega arith in
      let j : s + suc k ≡ suc s + k = omega arith in
      let f : g s ≡ d = p s (omega arith) (omega arith) in
      rw (i, j)
      (listed-put (k + n) s a e c (λ z. o (sym f ∙ z))
      ∙ ap (λ (w : ℕ). put a e c (listed g need (k + n) (suc s) s (suc s) w)) f
      ∙ ap (put a e c) (same-needed k n (suc s) s d (λ b l h. p b (omega arith) (omega arith)) (λ b l h. q b (omega arith) (omega arith))))

  -- with nothing in hand, where the run was and whether a byte needs it do not matter
  pub listed_free : (n s a e u v : ℕ) → listed g need n s a e 0 ≡ listed g need n s u v 0
  unfolding listed
  listed_free zero s a e u v = put-none a e 0 [] refl ∙ sym (put-none u v 0 [] refl)
  listed_free (suc n) s a e u v = go (eqb (g s) 0) (listed_free n (suc s) a (cond (need s) (suc s) e) u (cond (need s) (suc s) v))
    where
      more : List Run
      more = listed g need n (suc s) s (suc s) (g s)

      go : (x : Bool) → listed g need n (suc s) a (cond (need s) (suc s) e) 0 ≡ listed g need n (suc s) u (cond (need s) (suc s) v) 0 →
          cond x (listed g need n (suc s) a (cond (need s) (suc s) e) 0) (put a e 0 more) ≡
          cond x (listed g need n (suc s) u (cond (need s) (suc s) v) 0) (put u v 0 more)
      go true ih = ih
      go false ih = put-none a e 0 more refl ∙ sym (put-none u v 0 more refl)

  -- bytes of cell 0 with nothing in hand
  pub turn-free : (k n s a e u v : ℕ) → ((b : ℕ) → s ≤ b → b < s + k → g b ≡ 0) → listed g need (k + n) s a e 0 ≡ listed g need n (s + k) u v 0
  unfolding listed
  turn-free zero n s a e u v p =
      let i : 0 + n ≡ n = omega arith in
      let j : s + 0 ≡ s = omega arith in
      rw (i, j) (listed_free n s a e u v)
  turn-free (suc k) n s a e u v p =
      let i : suc k + n ≡ suc (k + n) = omega arith in
      let j : s + suc k ≡ suc s + k = omega arith in
      rw (i, j)
      (rw (eq-eqb (g s) 0 (p s (omega arith) (omega arith)))
      (turn-free k n (suc s) a (cond (need s) (suc s) e) u v (λ b l h. p b (omega arith) (omega arith))))

  -- bytes of cell 0 behind a run
  pub turn-none : (k n s a e c u v : ℕ) → (c ≡ 0 → ⊥) → ((b : ℕ) → s ≤ b → b < s + suc k → g b ≡ 0) →
      listed g need (suc k + n) s a e c ≡ put a e c (listed g need n (s + suc k) u v 0)
  turn-none k n s a e c u v o p =
      let i : suc k + n ≡ suc (k + n) = omega arith in
      let j : s + suc k ≡ suc s + k = omega arith in
      let f : g s ≡ 0 = p s (omega arith) (omega arith) in
      rw (i, j)
      (listed-put (k + n) s a e c (λ z. o (sym z ∙ f))
      ∙ ap (λ (w : ℕ). put a e c (listed g need (k + n) (suc s) s (suc s) w)) f
      ∙ ap (put a e c) (turn-free k n (suc s) s (suc s) u v (λ b l h. p b (omega arith) (omega arith))))

-- ---- Trimmed bytes

module _ (top : ℕ) (g : Bytes) (need : ℕ → Bool) where
  pub trimmed-none : (n s : ℕ) → s + suc n ≡ top → live g need (suc n) s (g s) ≡ 0 → trimmed top g need s ≡ 0
  unfolding trimmed
  trimmed-none n s h l =
      let d : top - s ≡ suc n = omega arith in
      rw (d, eq-eqb (live g need (suc n) s (g s)) 0 l)

  pub trimmed-some : (n s : ℕ) → s + suc n ≡ top → (live g need (suc n) s (g s) ≡ 0 → ⊥) → trimmed top g need s ≡ g s
  unfolding trimmed
  trimmed-some n s h l =
      let d : top - s ≡ suc n = omega arith in
      rw (d, ne_eqb (live g need (suc n) s (g s)) 0 l)

  -- a byte that needs its cell has it
  pub trimmed-needed : (s : ℕ) → s < top → need s ≡ true → trimmed top g need s ≡ g s
  trimmed-needed s h q =
      let u = live-needed g need (top - suc s) s (g s) refl q in
      trimmed-some (top - suc s) s (omega arith) (λ z. omega (arith, z, u))

  -- a byte that does not has its cell or 0
  pub trimmed-either : (P : ℕ → Type 0) (s : ℕ) → s < top → P (g s) → (need s ≡ false → P 0) → P (trimmed top g need s)
  trimmed-either P s h p q = go (ℕ_discrete (live g need (suc (top - suc s)) s (g s)) 0) (need s) refl
    where
      e : s + suc (top - suc s) ≡ top
      e = omega arith

      go : Dec (live g need (suc (top - suc s)) s (g s) ≡ 0) → (x : Bool) → need s ≡ x → P (trimmed top g need s)
      go (no l) x i = subst P (sym (trimmed-some (top - suc s) s e l)) p
      go (yes l) true i = subst P (sym (trimmed-needed s h i)) p
      go (yes l) false i = subst P (sym (trimmed-none (top - suc s) s e l)) (q i)

module _ (top : ℕ) (g : Bytes) (need : ℕ → Bool) (first : Needed g need) where
  abbrev k : Bytes
  k = trimmed top g need

  -- ---- As many runs

  -- behind the cell before a byte, and behind 0
  abbrev Same : ℕ → ℕ → Type 0
  Same n s = (c : ℕ) → last g s ≡ c → starts n s c k ≡ starts n s c g

  abbrev More : ℕ → ℕ → Type 0
  More n s = (c : ℕ) → last g s ≡ c → (c ≡ 0 → ⊥) → starts n s 0 k ≡ starts n s c g + live g need n s c

  -- a byte of cell 0
  zero_here : (n s : ℕ) → s + suc n ≡ top → g s ≡ 0 → k s ≡ 0
  zero_here n s h z = trimmed-either top g need (λ c. c ≡ 0) s (omega arith) z (λ q. refl)

  -- a byte whose kept cell is its own, or 0
  own-step : (n s p : ℕ) → Same n (suc s) → k s ≡ g s → starts (suc n) s p k ≡ begins (g s) p + starts n (suc s) (g s) g
  own-step n s p i z = starts-step n s p k ∙ rw z (omega (arith, i (g s) (last-next s g)))

  none-step : (n s p : ℕ) → k s ≡ 0 → starts (suc n) s p k ≡ starts n (suc s) 0 k
  none-step n s p z = starts-step n s p k ∙ rw z (omega (arith, begins-zero 0 p refl))

  -- behind any cell other than its own
  other_step : (n s c p : ℕ) → s + suc n ≡ top → Same n (suc s) → last g s ≡ c → (g s ≡ c → ⊥) → (g s ≡ p → ⊥) ⊎ (p ≡ 0) →
      starts (suc n) s p k ≡ starts (suc n) s c g
  other_step n s c p h i e o d = go (ℕ_discrete (g s) 0)
    where
      apart : (g s ≡ 0 → ⊥) → (g s ≡ p → ⊥) ⊎ (p ≡ 0) → g s ≡ p → ⊥
      apart z (inl q) w = q w
      apart z (inr q) w = z (w ∙ q)

      go : Dec (g s ≡ 0) → starts (suc n) s p k ≡ starts (suc n) s c g
      go (yes z) =
          let a = none-step n s p (zero_here n s h z) in
          let b = i 0 (last-next s g ∙ z) in
          let w = ap (λ (x : ℕ). starts n (suc s) x g) z in
          omega (arith, a, b, w, starts-step n s c g, begins-zero (g s) c z)
      go (no z) =
          let q = first s (λ w. o (w ∙ e)) z in
          let a = own-step n s p i (trimmed-needed top g need s (omega arith) q) in
          omega (arith, a, starts-step n s c g, begins-one (g s) c z o, begins-one (g s) p z (apart z d))

  same_step : (n s c : ℕ) → s + suc n ≡ top → Same n (suc s) → More n (suc s) → g s ≡ c → (c ≡ 0 → ⊥) →
      (starts (suc n) s c k ≡ starts (suc n) s c g) × (starts (suc n) s 0 k ≡ starts (suc n) s c g + live g need (suc n) s c)
  same_step n s c h i j q o = go (ℕ_discrete (live g need (suc n) s (g s)) 0) (need s) refl
    where
      l : live g need (suc n) s (g s) ≡ live g need (suc n) s c
      l = ap (live g need (suc n) s) q

      w : starts n (suc s) (g s) g ≡ starts n (suc s) c g
      w = ap (λ (x : ℕ). starts n (suc s) x g) q

      go : Dec (live g need (suc n) s (g s) ≡ 0) → (x : Bool) → need s ≡ x →
          (starts (suc n) s c k ≡ starts (suc n) s c g) × (starts (suc n) s 0 k ≡ starts (suc n) s c g + live g need (suc n) s c)
      go (no z) x y =
          let t = trimmed-some top g need n s h z in
          let a = own-step n s c i t in
          let b = own-step n s 0 i t in
          let v = begins-same (g s) c q in
          let u = begins-one (g s) 0 (λ r. o (sym q ∙ r)) (λ r. o (sym q ∙ r)) in
          (omega (arith, a, v, starts-step n s c g), omega (arith, b, u, v, starts-step n s c g, l, z, live-most g need (suc n) s c))
      go (yes z) true y = absurd (omega (arith, z, live-needed g need n s (g s) refl y))
      go (yes z) false y =
          let t = trimmed-none top g need n s h z in
          let a = none-step n s c t in
          let b = none-step n s 0 t in
          let r = j c (last-next s g ∙ q) o in
          let u = live_on g need n s c q y in
          let v = begins-same (g s) c q in
          (omega (arith, a, r, u, l, z, w, v, starts-step n s c g), omega (arith, b, r, u, l, z, w, v, starts-step n s c g))

  counts : (n s : ℕ) → s + n ≡ top → Same n s × More n s
  unfolding starts live
  counts zero s h = (λ c e. refl, λ c e o. refl)
  counts (suc n) s h =
      let ih = counts n (suc s) (omega arith) in
      (λ c e. go_same ih.0 ih.1 c e (ℕ_discrete (g s) c) (ℕ_discrete c 0), λ c e o. go-more ih.0 ih.1 c e o (ℕ_discrete (g s) c))
    where
      go_same : Same n (suc s) → More n (suc s) → (c : ℕ) → last g s ≡ c → Dec (g s ≡ c) → Dec (c ≡ 0) → starts (suc n) s c k ≡ starts (suc n) s c g
      go_same i j c e (yes q) (yes o) =
          let a = none-step n s c (zero_here n s h (q ∙ o)) in
          let b = i 0 (last-next s g ∙ q ∙ o) in
          let w = ap (λ (x : ℕ). starts n (suc s) x g) (q ∙ o) in
          omega (arith, a, b, w, starts-step n s c g, begins-same (g s) c q)
      go_same i j c e (yes q) (no o) = (same_step n s c h i j q o).0
      go_same i j c e (no q) d = other_step n s c c h i e q (inl q)

      go-more : Same n (suc s) → More n (suc s) → (c : ℕ) → last g s ≡ c → (c ≡ 0 → ⊥) → Dec (g s ≡ c) →
          starts (suc n) s 0 k ≡ starts (suc n) s c g + live g need (suc n) s c
      go-more i j c e o (yes q) = (same_step n s c h i j q o).1
      go-more i j c e o (no q) = omega (arith, other_step n s c 0 h i e q (inr refl), live-not g need n s c q)

  -- from byte s on there are the runs that start there or later, and the one before if it is needed further on
  pub runs-from : (n s c : ℕ) → s + n ≡ top → last g s ≡ c → (c ≡ 0 → ⊥) → starts n s 0 k ≡ starts n s c g + live g need n s c
  runs-from n s c h = (counts n s h).1 c

  pub runs-free : (n s : ℕ) → s + n ≡ top → last g s ≡ 0 → starts n s 0 k ≡ starts n s 0 g
  runs-free n s h e = (counts n s h).0 0 e

  -- ---- They are what a walk lists

  -- nothing is in hand
  abbrev Free : ℕ → ℕ → Type 0
  Free n s = (a e : ℕ) → last g s ≡ 0 → rest top k s ≡ listed g need n s a e 0

  -- a run is in hand: from its end on the bytes have its cell, if it is still needed, or none
  abbrev Held : ℕ → ℕ → Type 0
  Held n s =
      (a e c : ℕ) → last g s ≡ c → (c ≡ 0 → ⊥) → a < e → e ≤ s → ((b : ℕ) → a ≤ b → b < e → k b ≡ c) →
      (live g need n s c ≡ 0 → (b : ℕ) → e ≤ b → b < s → k b ≡ 0) → ((live g need n s c ≡ 0 → ⊥) → (b : ℕ) → e ≤ b → b < s → k b ≡ c) →
      rest top k a ≡ listed g need n s a e c

  -- a range and one byte more
  more : (e s : ℕ) (P : ℕ → Type 0) → ((b : ℕ) → e ≤ b → b < s → P b) → P s → (b : ℕ) → e ≤ b → b < suc s → P b
  more e s P f p b l h = go (dec_lt b s)
    where
      go : Dec (b < s) → P b
      go (yes q) = f b l q
      go (no q) = let i : s ≡ b = omega arith in subst P i p

  -- a new run at byte s
  begin : (n s : ℕ) → s + suc n ≡ top → Held n (suc s) → (g s ≡ last g s → ⊥) → (g s ≡ 0 → ⊥) →
      (k s ≡ g s) × (rest top k s ≡ listed g need n (suc s) s (suc s) (g s))
  begin n s h f o z =
      let t = trimmed-needed top g need s (omega arith) (first s o z) in (
        t,
        f s (suc s) (g s) (last-next s g) z (omega arith) (omega arith) (λ b l u. let j : s ≡ b = omega arith in ap k (sym j) ∙ t ∙ refl)
            (λ w b l u. absurd (omega arith)) (λ w b l u. absurd (omega arith)),
      )

  free_step : (n s : ℕ) → s + suc n ≡ top → Free n (suc s) → Held n (suc s) → Free (suc n) s
  free_step n s h f d a e i = go (ℕ_discrete (g s) 0) (need s) refl
    where
      skip : g s ≡ 0 → rest top k s ≡ rest top k (suc s)
      skip z = rest-skip top k s (suc s) (omega arith) (omega arith) (λ b l u. let j : s ≡ b = omega arith in ap k (sym j) ∙ zero_here n s h z)

      go : Dec (g s ≡ 0) → (x : Bool) → need s ≡ x → rest top k s ≡ listed g need (suc n) s a e 0
      go (yes z) true y = skip z ∙ f a (suc s) (last-next s g ∙ z) ∙ sym (listed-needed g need n s a e 0 z y)
      go (yes z) false y = skip z ∙ f a e (last-next s g ∙ z) ∙ sym (listed-on g need n s a e 0 z y)
      go (no z) x y =
          (begin n s h d (λ w. z (w ∙ i)) z).1 ∙ sym (put-none a e 0 (listed g need n (suc s) s (suc s) (g s)) refl) ∙ sym (listed-put g need n s a e 0 z)

  held-step : (n s : ℕ) → s + suc n ≡ top → Free n (suc s) → Held n (suc s) → Held (suc n) s
  held-step n s h f d a e c i o ae es one none some = go (ℕ_discrete (g s) c) (need s) refl (ℕ_discrete (g s) 0)
    where
      -- trimmed and live at byte s, where its cell is in hand
      gone : g s ≡ c → live g need (suc n) s c ≡ 0 → k s ≡ 0
      gone q l = trimmed-none top g need n s h (ap (live g need (suc n) s) q ∙ l)

      there : g s ≡ c → (live g need (suc n) s c ≡ 0 → ⊥) → k s ≡ c
      there q l = trimmed-some top g need n s h (λ z. l (sym (ap (live g need (suc n) s) q) ∙ z)) ∙ q

      both : (live g need (suc n) s c ≡ 0 → ⊥) → (b : ℕ) → a ≤ b → b < s → Dec (b < e) → k b ≡ c
      both l b x y (yes z) = one b x z
      both l b x y (no z) = some l b (omega arith) y

      go : Dec (g s ≡ c) → (x : Bool) → need s ≡ x → Dec (g s ≡ 0) → rest top k a ≡ listed g need (suc n) s a e c
      go (yes q) false y z =
          let j = live_on g need n s c q y in
          d a e c (last-next s g ∙ q) o ae (omega arith) one (λ l. more e s (λ b. k b ≡ 0) (none (j ∙ l)) (gone q (j ∙ l)))
          (λ l. more e s (λ b. k b ≡ c) (some (λ v. l (sym j ∙ v))) (there q (λ v. l (sym j ∙ v))))
          ∙ sym (listed-on g need n s a e c q y)
      go (yes q) true y z =
          let u = live-needed g need n s c q y in
          let l : live g need (suc n) s c ≡ 0 → ⊥ = λ v. omega (arith, v, u) in
          d a (suc s) c (last-next s g ∙ q) o (omega arith) (omega arith)
          (more a s (λ b. k b ≡ c) (λ b x w. both l b x w (dec_lt b e)) (there q l))
          (λ v b x w. absurd (omega arith)) (λ v b x w. absurd (omega arith))
          ∙ sym (listed-needed g need n s a e c q y)
      go (no q) x y (yes z) =
          close top k a e (suc s) c ae (omega arith) (omega arith) o one (more e s (λ b. k b ≡ 0) (none (live-not g need n s c q)) (zero_here n s h z))
          (λ j. absurd (omega arith))
          ∙ ap (put a e c) (f s (suc s) (last-next s g ∙ z)) ∙ ap (λ (w : ℕ). put a e c (listed g need n (suc s) s (suc s) w)) (sym z)
          ∙ sym (listed-put g need n s a e c q)
      go (no q) x y (no z) =
          let r = begin n s h d (λ w. q (w ∙ i)) z in
          close top k a e s c ae es (omega arith) o one (none (live-not g need n s c q)) (λ j v w. q (sym r.0 ∙ w))
          ∙ ap (put a e c) r.1 ∙ sym (listed-put g need n s a e c q)

  walk_both : (n s : ℕ) → s + n ≡ top → Free n s × Held n s
  unfolding listed live
  walk_both zero s h = (
    λ a e i. rest-none top k s (omega arith) ∙ sym (put-none a e 0 [] refl),
    λ a e c i o ae es one none some.
        close top k a e s c ae es (omega arith) o one (none refl) (λ j v. absurd (omega arith)) ∙ ap (put a e c) (rest-none top k s (omega arith)),
  )
  walk_both (suc n) s h =
      let ih = walk_both n (suc s) (omega arith) in
      (free_step n s h ih.0 ih.1, held-step n s h ih.0 ih.1)

  -- all that a walk lists
  pub listed-is : listed g need top 0 0 0 0 ≡ runs_from top 0 (trimmed top g need)
  listed-is =
      let e : top - 0 ≡ top = omega arith in
      sym ((walk_both top 0 (omega arith)).0 0 0 (last_none g)) ∙ ap (λ (n : ℕ). runs_from n 0 k) e
