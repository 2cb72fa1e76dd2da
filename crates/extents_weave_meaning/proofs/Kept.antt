-- What is kept of a target: it gives the result at every byte, and there is room for its runs and for the result's.
use Rattle.std.proofs.Common.{ℕ, zero, suc, ◌+◌, ◌≤◌, ◌<◌, arith, ◌≡◌, refl, sym, ap, ◌∙◌, true, false, eq-eqb, ne_eqb, eqb-true}
use native.Mathlib.Decide.{ℕ_discrete}
use lib.Dec.{eqb}
use borrow.Author.Tests.{not-false}
use Rattle.extents_meaning.specs.Cells.{Bytes}
use Rattle.extents_meaning.specs.Points.{starts}
use Rattle.extents_meaning.proofs.Points.{begins, begins-zero, begins-same, begins-one, begins-most}
use Rattle.extents_weave_meaning.specs.Walks.{last, live, Needed}
use Rattle.extents_weave_meaning.specs.Kept.{Results, result, next, hand, held, needs, kept, Lasting, Roomy}
use Rattle.extents_weave_meaning.proofs.Starts.{starts-step, starts-most, starts_more, starts_other, starts-at, starts-next, last-next, last_none}
use Rattle.extents_weave_meaning.proofs.Walks.{live-needed, live_on, live-not, trimmed-either, runs-from, runs-free}

-- ---- The four cases of a byte

-- with c in hand: it gives the result and is not needed; it does and is needed; it does not, and 0 does; neither does
pub data Case (m : Results) (t : Bytes) (s c : ℕ) : Type 0 where
  idle : m s c ≡ m s (t s) → m s 0 ≡ m s (t s) → Case m t s c
  used : m s c ≡ m s (t s) → (m s 0 ≡ m s (t s) → ⊥) → Case m t s c
  dropped : (m s c ≡ m s (t s) → ⊥) → m s 0 ≡ m s (t s) → Case m t s c
  taken : (m s c ≡ m s (t s) → ⊥) → (m s 0 ≡ m s (t s) → ⊥) → Case m t s c

pub case : (m : Results) (t : Bytes) (s c : ℕ) → Case m t s c
case m t s c = go (ℕ_discrete (m s c) (m s (t s))) (ℕ_discrete (m s 0) (m s (t s)))
  where
    go : Dec (m s c ≡ m s (t s)) → Dec (m s 0 ≡ m s (t s)) → Case m t s c
    go (yes p) (yes q) = idle p q
    go (yes p) (no q) = used p q
    go (no p) (yes q) = dropped p q
    go (no p) (no q) = taken p q

module _ (m : Results) (t : Bytes) (s c : ℕ) where
  -- The cell in hand stays where it gives the result.
  pub next-same : m s c ≡ m s (t s) → next m t s c ≡ c
  unfolding next
  next-same p = rw (eq-eqb (m s c) (m s (t s)) p)

  -- Else 0 is taken where it gives the result.
  pub next-none : (m s c ≡ m s (t s) → ⊥) → m s 0 ≡ m s (t s) → next m t s c ≡ 0
  unfolding next
  next-none p q = rw (ne_eqb (m s c) (m s (t s)) p, eq-eqb (m s 0) (m s (t s)) q)

  -- Else the target's cell is taken.
  pub next-taken : (m s c ≡ m s (t s) → ⊥) → (m s 0 ≡ m s (t s) → ⊥) → next m t s c ≡ t s
  unfolding next
  next-taken p q = rw (ne_eqb (m s c) (m s (t s)) p, ne_eqb (m s 0) (m s (t s)) q)

  -- the next cell in hand gives the result
  pub next-gives : m s (next m t s c) ≡ m s (t s)
  next-gives = go (case m t s c)
    where
      go : Case m t s c → m s (next m t s c) ≡ m s (t s)
      go (idle p q) = ap (m s) (next-same p) ∙ p
      go (used p q) = ap (m s) (next-same p) ∙ p
      go (dropped p q) = ap (m s) (next-none p q) ∙ q
      go (taken p q) = ap (m s) (next-taken p q)

module _ (m : Results) (t : Bytes) where
  -- No byte needs a cell where 0 gives the result, and every other does.
  pub needs-not : (s : ℕ) → m s 0 ≡ m s (t s) → needs m t s ≡ false
  needs-not s q = rw (eq-eqb (m s 0) (m s (t s)) q)

  pub needs-so : (s : ℕ) → (m s 0 ≡ m s (t s) → ⊥) → needs m t s ≡ true
  needs-so s q = rw (ne_eqb (m s 0) (m s (t s)) q)

  pub needs-false : (s : ℕ) → needs m t s ≡ false → m s 0 ≡ m s (t s)
  needs-false s q = eqb-true (m s 0) (m s (t s)) (not-false (eqb (m s 0) (m s (t s))) q)

  -- the cell in hand before a byte
  pub last-held : (s : ℕ) → last (held m t) s ≡ hand m t s
  unfolding hand
  last-held zero = last_none (held m t)
  last-held (suc s) = last-next s (held m t)

  pub held_next : (s : ℕ) → held m t s ≡ next m t s (hand m t s)
  unfolding hand
  held_next s = refl

  -- a cell that is taken into hand is needed
  pub held-needed : Needed (held m t) (needs m t)
  held-needed s h k = go (case m t s c)
    where
      c : ℕ
      c = hand m t s

      go : Case m t s c → needs m t s ≡ true
      go (idle p q) = absurd (h (held_next s ∙ next-same m t s c p ∙ sym (last-held s)))
      go (used p q) = needs-so s q
      go (dropped p q) = absurd (k (held_next s ∙ next-none m t s c p q))
      go (taken p q) = needs-so s q

  -- ---- What is kept gives the result

  -- What is kept gives the result.
  pub kept_gives : (top b : ℕ) → b < top → m b (kept top m t b) ≡ m b (t b)
  kept_gives top b h =
      trimmed-either top (held m t) (needs m t) (λ c. m b c ≡ m b (t b)) b h (ap (m b) (held_next b) ∙ next-gives m t b (hand m t b)) (needs-false b)

-- ---- No more than the runs of the result

-- the cell c was needed where the result is p
abbrev Bound : Results → ℕ → ℕ → Type 0
Bound m c p = (b : ℕ) × (m b c ≡ p) × (m b c ≡ m b 0 → ⊥)

module _ (m : Results) (t : Bytes) (l : Lasting m) where
  abbrev g : Bytes
  g = held m t

  abbrev r : Bytes
  r = result m t

  abbrev lives : ℕ → ℕ → ℕ → ℕ
  lives = live (held m t) (needs m t)

  bound_written : (c p : ℕ) → Bound m c p → p ≡ 0 → ⊥
  bound_written c p w e = l.written w.0 c w.2 (w.1 ∙ e)

  bound_gives : (c p : ℕ) → Bound m c p → (s : ℕ) → m s (t s) ≡ p → m s c ≡ m s (t s)
  bound_gives c p w s e = l.sticky w.0 c w.2 s (t s) (e ∙ sym w.1) ∙ w.1 ∙ sym e

  -- the cells still to be taken, and the one in hand if it is still needed
  abbrev Few : ℕ → ℕ → Type 0
  Few n s = (c : ℕ) → hand m t s ≡ c → (c ≡ 0 → starts n s 0 g ≤ starts n s 0 r) × ((c ≡ 0 → ⊥) → starts n s c g + lives n s c ≤ starts n s 0 r)

  -- where the one in hand has a run of the result, the others have runs of their own behind it
  abbrev Fewer : ℕ → ℕ → Type 0
  Fewer n s = (c p : ℕ) → hand m t s ≡ c → Bound m c p → starts n s c g ≤ starts n s p r

  -- the cell in hand behind byte s is d
  along : (n s p d : ℕ) → g s ≡ d → starts (suc n) s p g ≡ begins d p + starts n (suc s) d g
  along n s p d e = starts-step n s p g ∙ rw e (omega arith)

  -- a needed cell has the run of the result that has byte s
  one : (n s d : ℕ) → Fewer n (suc s) → g s ≡ d → m s d ≡ m s (t s) → (m s 0 ≡ m s (t s) → ⊥) → suc (starts n (suc s) d g) ≤ starts (suc n) s 0 r
  one n s d f e p q =
      let w : Bound m d (m s (t s)) = (s, p, λ z. q (sym z ∙ p)) in
      let z = bound_written d (m s (t s)) w in
      omega (arith, starts-step n s 0 r, begins-one (m s (t s)) 0 z z, f d (m s (t s)) e w)

  few-step : (n s : ℕ) → Few n (suc s) → Fewer n (suc s) → Few (suc n) s
  few-step n s f h c e = (λ z. free z (case m t s c), λ o. full o (case m t s c))
    where
      same : m s c ≡ m s (t s) → g s ≡ c
      same p = held_next m t s ∙ ap (next m t s) e ∙ next-same m t s c p

      gone : (m s c ≡ m s (t s) → ⊥) → m s 0 ≡ m s (t s) → g s ≡ 0
      gone p q = held_next m t s ∙ ap (next m t s) e ∙ next-none m t s c p q

      fresh : (m s c ≡ m s (t s) → ⊥) → (m s 0 ≡ m s (t s) → ⊥) → g s ≡ t s
      fresh p q = held_next m t s ∙ ap (next m t s) e ∙ next-taken m t s c p q

      free : c ≡ 0 → Case m t s c → starts (suc n) s 0 g ≤ starts (suc n) s 0 r
      free z (idle p q) = omega (arith, along n s 0 0 (same p ∙ z), begins-zero 0 0 refl, (f 0 (same p ∙ z)).0 refl, starts_more n s r)
      free z (used p q) = absurd (q (sym (ap (m s) z) ∙ p))
      free z (dropped p q) = absurd (p (ap (m s) z ∙ q))
      free z (taken p q) = omega (arith, along n s 0 (t s) (fresh p q), begins-most (t s) 0, one n s (t s) h (fresh p q) refl q)

      full : (c ≡ 0 → ⊥) → Case m t s c → starts (suc n) s c g + lives (suc n) s c ≤ starts (suc n) s 0 r
      full o (idle p q) =
          omega (arith, along n s c c (same p), begins-same c c refl, live_on g (needs m t) n s c (same p) (needs-not m t s q), (f c (same p)).1 o, starts_more n s r)
      full o (used p q) =
          omega (arith, along n s c c (same p), begins-same c c refl, live-needed g (needs m t) n s c (same p) (needs-so m t s q), one n s c h (same p) p q)
      full o (dropped p q) =
          omega (arith, along n s c 0 (gone p q), begins-zero 0 c refl, live-not g (needs m t) n s c (λ z. o (sym z ∙ gone p q)), (f 0 (gone p q)).0 refl, starts_more n s r)
      full o (taken p q) =
          omega (
            arith,
            along n s c (t s) (fresh p q),
            begins-most (t s) c,
            live-not g (needs m t) n s c (λ z. p (sym (ap (m s) (sym (fresh p q) ∙ z)))),
            one n s (t s) h (fresh p q) refl q,
          )

  fewer-step : (n s : ℕ) → Few (suc n) s → Fewer n (suc s) → Fewer (suc n) s
  fewer-step n s f h c p e w = go (ℕ_discrete (m s (t s)) p) (ℕ_discrete c 0)
    where
      go : Dec (m s (t s) ≡ p) → Dec (c ≡ 0) → starts (suc n) s c g ≤ starts (suc n) s p r
      go (yes q) d =
          let i : g s ≡ c = held_next m t s ∙ ap (next m t s) e ∙ next-same m t s c (bound_gives c p w s q) in
          let b : starts n (suc s) (m s (t s)) r ≡ starts n (suc s) p r = ap (λ (x : ℕ). starts n (suc s) x r) q in
          omega (arith, along n s c c i, begins-same c c refl, b, starts-step n s p r, begins-same (m s (t s)) p q, h c p i w)
      go (no q) (yes d) = absurd (w.2 (ap (m w.0) d))
      go (no q) (no d) = omega (arith, (f c e).1 d, starts_other n s p r q)

  few-both : (n s : ℕ) → Few n s × Fewer n s
  unfolding live starts
  few-both zero s = (λ c e. (λ z. omega arith, λ o. omega arith), λ c p e w. omega arith)
  few-both (suc n) s =
      let ih = few-both n (suc s) in
      let f = few-step n s ih.0 ih.1 in
      (f, fewer-step n s f ih.1)

  -- from any byte on no more kept runs than runs of the result
  pub few-from : (top x n : ℕ) → x + n ≡ top → starts n x 0 (kept top m t) ≤ starts n x 0 (result m t)
  few-from top x n h = go (ℕ_discrete (hand m t x) 0)
    where
      go : Dec (hand m t x ≡ 0) → starts n x 0 (kept top m t) ≤ starts n x 0 (result m t)
      go (yes z) = omega (arith, runs-free top g (needs m t) (held-needed m t) n x h (last-held m t x ∙ z), ((few-both n x).0 0 z).0 refl)
      go (no z) = omega (arith, runs-from top g (needs m t) (held-needed m t) n x (hand m t x) h (last-held m t x) z, ((few-both n x).0 (hand m t x) refl).1 z)

-- ---- No more than the runs of the target that are read

module _ (m : Results) (t : Bytes) where
  -- where the target's run at a byte is not in hand, it has not been counted
  taken_step : (s : ℕ) → begins (held m t s) (hand m t s) + begins (t s) (held m t s) ≤ begins (t s) (last t s) + begins (last t s) (hand m t s)
  taken_step s = rw (held_next m t s) (go (case m t s c))
    where
      c : ℕ
      c = hand m t s

      p : ℕ
      p = last t s

      -- a target's cell that is not in hand
      fresh : (t s ≡ c → ⊥) → (t s ≡ 0 → ⊥) → 1 ≤ begins (t s) p + begins p c
      fresh h k = sub (ℕ_discrete (t s) p)
        where
          sub : Dec (t s ≡ p) → 1 ≤ begins (t s) p + begins p c
          sub (yes e) = omega (arith, begins-one p c (λ z. k (e ∙ z)) (λ z. h (e ∙ z)))
          sub (no e) = omega (arith, begins-one (t s) p k e)

      less : (d : ℕ) → (t s ≡ c → t s ≡ d) → begins (t s) d ≤ begins (t s) p + begins p c
      less d h = sub (ℕ_discrete (t s) c) (ℕ_discrete (t s) 0)
        where
          sub : Dec (t s ≡ c) → Dec (t s ≡ 0) → begins (t s) d ≤ begins (t s) p + begins p c
          sub (yes e) z = omega (arith, begins-same (t s) d (h e))
          sub (no e) (yes z) = omega (arith, begins-zero (t s) d z)
          sub (no e) (no z) = omega (arith, begins-most (t s) d, fresh e z)

      go : Case m t s c → begins (next m t s c) c + begins (t s) (next m t s c) ≤ begins (t s) p + begins p c
      go (idle a b) = rw (next-same m t s c a) (omega (arith, begins-same c c refl, less c (λ e. e)))
      go (used a b) = rw (next-same m t s c a) (omega (arith, begins-same c c refl, less c (λ e. e)))
      go (dropped a b) = rw (next-none m t s c a b) (omega (arith, begins-zero 0 c refl, less 0 (λ e. absurd (a (sym (ap (m s) e))))))
      go (taken a b) =
          rw (next-taken m t s c a b)
          (omega (arith, begins-most (t s) c, begins-same (t s) (t s) refl, fresh (λ e. a (sym (ap (m s) e))) (λ e. b (sym (ap (m s) e)))))

  -- below byte x: the cells taken into hand, and the target's run there if it is not in hand
  pub taken-early : (x : ℕ) → starts x 0 0 (held m t) + begins (last t x) (hand m t x) ≤ starts x 0 0 t
  unfolding starts hand
  taken-early zero = omega (arith, begins-zero (last t 0) 0 (last_none t))
  taken-early (suc x) =
      let a = starts-next x (held m t) in
      let b = starts-next x t in
      let c : begins (last t (suc x)) (held m t x) ≡ begins (t x) (held m t x) = ap (λ (w : ℕ). begins w (held m t x)) (last-next x t) in
      let d : begins (held m t x) (last (held m t) x) ≡ begins (held m t x) (hand m t x) = ap (λ (w : ℕ). begins (held m t x) w) (last-held m t x) in
      omega (arith, a, b, c, d, taken_step x, taken-early x)

-- ---- Room

-- The walk that writes the result has room behind the result's runs: it reads the kept ones.
pub weave_room : (top : ℕ) (m : Results) (t : Bytes) → Lasting m → Roomy top (starts top 0 0 (result m t)) (kept top m t) (result m t)
unfolding starts
weave_room top m t l x zero h o = let e : top ≡ x = omega arith in rw e (omega arith)
weave_room top m t l x (suc n) h o =
    let e : starts (x + suc n) 0 0 (result m t) ≡ starts top 0 0 (result m t) = ap (λ (k : ℕ). starts k 0 0 (result m t)) h in
    omega (arith, e, few-from m t l top x (suc n) h, starts-at x (suc n) (result m t), starts_other n x (last (result m t) x) (result m t) (o (omega arith)))

-- The walk that keeps has room behind the target's runs, which it reads.
pub pack_room : (top : ℕ) (m : Results) (t : Bytes) → Roomy top (starts top 0 0 t) t (held m t)
unfolding starts
pack_room top m t x zero h o = let e : top ≡ x = omega arith in rw e (omega (arith, taken-early m t x))
pack_room top m t x (suc n) h o = go (ℕ_discrete (t x) p) (ℕ_discrete p 0)
  where
    p : ℕ
    p = last t x

    e : starts (x + suc n) 0 0 t ≡ starts top 0 0 t
    e = ap (λ (k : ℕ). starts k 0 0 t) h

    -- the target's cell is not in hand
    other : t x ≡ hand m t x → ⊥
    other z = o (omega arith) (held_next m t x ∙ next-same m t x (hand m t x) (ap (m x) (sym z)) ∙ sym (last-held m t x))

    go : Dec (t x ≡ p) → Dec (p ≡ 0) → starts x 0 0 (held m t) + starts (suc n) x 0 t ≤ starts top 0 0 t
    go (yes q) (yes z) = omega (arith, e, taken-early m t x, starts-at x (suc n) t, ap (λ (w : ℕ). starts (suc n) x w t) z)
    go (yes q) (no z) =
        omega (arith, e, taken-early m t x, starts-at x (suc n) t, starts-most (suc n) x 0 p t, begins-one p (hand m t x) z (λ w. other (q ∙ w)))
    go (no q) z = omega (arith, e, taken-early m t x, starts-at x (suc n) t, starts_other n x p t q)
