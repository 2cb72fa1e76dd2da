-- The two walks of a rewrite: what a stretch of both maps tells them, that there is room for them, and what they leave.
use Rattle.std.proofs.Common.{ℕ, zero, suc, ◌+◌, ◌-◌, ◌≤◌, ◌<◌, arith, ◌≡◌, refl, sym, ap, ◌∙◌, Bool, true, false, cond, not, length}
use lib.Dec.{eqb}
use Rattle.extents_meaning.specs.Cells.{Bytes}
use Rattle.extents_meaning.specs.Runs.{runs_from}
use Rattle.extents_meaning.specs.Points.{starts}
use Rattle.extents_meaning.proofs.Longest.{same_from}
use Rattle.extents_meaning.proofs.Points.{count-starts, begins}
use Rattle.extents_weave_meaning.specs.Walks.{trimmed, last}
use Rattle.extents_weave_meaning.proofs.Starts.{last-next, last_none}
use Rattle.extents_weave_meaning.specs.Kept.{Results, result, next, hand, held, needs, kept, Lasting, Roomy}
use Rattle.extents_weave_meaning.proofs.Walks.{trimmed-needed, trimmed-either}
use Rattle.extents_weave_meaning.proofs.Kept.{next-same, next-gives, held_next, kept_gives, few-from, weave_room}

-- ---- A stretch of both maps

module _ (m : Results) (t : Bytes) (x k : ℕ) (flat : (b : ℕ) → x ≤ b → b < x + suc k → t b ≡ t x)
    (even : (b : ℕ) → x ≤ b → b < x + suc k → (w : ℕ) → m b w ≡ m x w) where
  -- the result
  pub result-flat : (b : ℕ) → x ≤ b → b < x + suc k → result m t b ≡ m x (t x)
  result-flat b l h = even b l h (t b) ∙ ap (m x) (flat b l h)

  -- the cell in hand
  held-along : (j : ℕ) → j ≤ k → held m t (x + j) ≡ next m t x (hand m t x)
  held-along zero h = let e : x + 0 ≡ x = omega arith in ap (held m t) e ∙ held_next m t x
  held-along (suc j) h =
      let d = next m t x (hand m t x) in
      let e : x + suc j ≡ suc (x + j) = omega arith in
      let b = x + suc j in
      let i : hand m t b ≡ d = ap (hand m t) e ∙ held-along j (omega arith) in
      let g : m b d ≡ m b (t b) = even b (omega arith) (omega arith) d ∙ next-gives m t x (hand m t x) ∙ sym (result-flat b (omega arith) (omega arith)) in
      held_next m t b ∙ ap (next m t b) i ∙ next-same m t b d g

  -- On the whole stretch the cell in hand is that of its first byte.
  pub held-flat : (b : ℕ) → x ≤ b → b < x + suc k → held m t b ≡ next m t x (hand m t x)
  held-flat b l h = let e : b ≡ x + (b - x) = omega arith in ap (held m t) e ∙ held-along (b - x) (omega arith)

  -- whether it is needed
  pub needs-flat : (b : ℕ) → x ≤ b → b < x + suc k → needs m t b ≡ needs m t x
  needs-flat b l h = λ j. not (eqb (even b l h 0 j) (result-flat b l h j))

-- ---- The second walk: the kept runs stand up to place `all`, which the result's runs do not pass

-- a place further back has room too
pub roomy_more : (top all more : ℕ) (f g : Bytes) → all ≤ more → Roomy top all f g → Roomy top more f g
roomy_more top all more f g h r x n e o = omega (arith, r x n e o)

-- No more runs are kept than the result has.
pub few-kept : (top : ℕ) (m : Results) (t : Bytes) → Lasting m → length (runs_from top 0 (kept top m t)) ≤ length (runs_from top 0 (result m t))
few-kept top m t l = omega (arith, count-starts top 0 (kept top m t), count-starts top 0 (result m t), few-from m t l top 0 top (omega arith))

-- Bytes that are equal have as many starts.
starts-same : (n s c : ℕ) (f g : Bytes) → ((b : ℕ) → s ≤ b → b < s + n → f b ≡ g b) → starts n s c f ≡ starts n s c g
unfolding starts
starts-same zero s c f g h = refl
starts-same (suc n) s c f g h =
    let e = h s (omega arith) (omega arith) in
    rw e (ap (λ (k : ℕ). begins (g s) c + k) (starts-same n (suc s) (g s) f g (λ b l u. h b (omega arith) (omega arith))))

-- Bytes that are equal below byte x have one cell before it.
last-same : (x : ℕ) (f g : Bytes) → ((b : ℕ) → b < x → f b ≡ g b) → last f x ≡ last g x
last-same zero f g h = last_none f ∙ sym (last_none g)
last-same (suc x) f g h = last-next x f ∙ h x (omega arith) ∙ sym (last-next x g)

-- bytes that are equal below the top have the same room
roomy_same : (top all : ℕ) (f g u v : Bytes) → ((b : ℕ) → b < top → f b ≡ u b) → ((b : ℕ) → b < top → g b ≡ v b) → Roomy top all u v → Roomy top all f g
roomy_same top all f g u v i h r x n e o =
    omega (
      arith,
      starts-same n x 0 f u (λ b l k. i b (omega arith)),
      starts-same x 0 0 g v (λ b l k. h b (omega arith)),
      r x n e (λ l z. o l (h x (omega arith) ∙ z ∙ sym (last-same x g v (λ b k. h b (omega arith))))),
    )

-- The second walk has room: it reads bytes that are the kept ones below the top, and writes what it makes of them.
pub weave_ready : (top all : ℕ) (m w : Results) (t f : Bytes) → Lasting m → length (runs_from top 0 (result m t)) ≤ all →
    ((b : ℕ) → b < top → f b ≡ kept top m t b) → ((b c : ℕ) → w b c ≡ m b c) → Roomy top all f (result w f)
weave_ready top all m w t f l fit e i =
    roomy_same top all f (result w f) (kept top m t) (result m t) e (λ b h. i b (f b) ∙ ap (m b) (e b h) ∙ kept_gives m t top b h)
    (roomy_more top (starts top 0 0 (result m t)) all (kept top m t) (result m t) (omega (arith, fit, count-starts top 0 (result m t))) (weave_room top m t l))

-- What the second walk leaves in front are the runs of the result.
pub weave_end : (top : ℕ) (m w : Results) (t f : Bytes) → ((b : ℕ) → b < top → f b ≡ kept top m t b) → ((b c : ℕ) → w b c ≡ m b c) →
    runs_from top 0 (trimmed top (result w f) (λ b. true)) ≡ runs_from top 0 (result m t)
weave_end top m w t f e i =
    same_from top 0 (trimmed top (result w f) (λ b. true)) (result m t)
    (λ b o k.
    let h : b < top = omega arith in
    trimmed-needed top (result w f) (λ b. true) b h refl ∙ i b (f b) ∙ ap (m b) (e b h) ∙ kept_gives m t top b h)

-- ---- What is kept

-- the cell in hand is 0 or a cell of the target
hand-either : (P : ℕ → Type 0) (m : Results) (t : Bytes) → P 0 → ((b : ℕ) → P (t b)) → (x : ℕ) → P (hand m t x)
unfolding hand next
hand-either P m t z p zero = z
hand-either P m t z p (suc x) = go (eqb (m x (hand m t x)) (m x (t x))) (eqb (m x 0) (m x (t x))) (hand-either P m t z p x)
  where
    go : (u v : Bool) → P (hand m t x) → P (cond u (hand m t x) (cond v 0 (t x)))
    go true v q = q
    go false true q = z
    go false false q = p x

-- Every kept cell is 0 or a cell of the target.
pub kept_either : (P : ℕ → Type 0) (top : ℕ) (m : Results) (t : Bytes) → P 0 → ((b : ℕ) → P (t b)) → (b : ℕ) → b < top → P (kept top m t b)
kept_either P top m t z p b h = trimmed-either top (held m t) (needs m t) P b h (hand-either P m t z p (suc b)) (λ q. z)
