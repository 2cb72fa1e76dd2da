-- How many runs and pieces there are: as many as bytes that start one, so no more than points outside of which no value changes.
use Rattle.std.proofs.Common.{ℕ, zero, suc, ◌+◌, ◌≤◌, ◌<◌, arith, ◌≡◌, refl, sym, ap, ◌∙◌, inl, inr, Bool, true, false, cond, not, ◌&&◌, List, [], ◌∷◌, length, eq-eqb, ne_eqb, eqb-true}
use native.Mathlib.Decide.{ℕ_discrete}
use mathlib.Core.Bool.{and-false}
use lib.Dec.{eqb}
use borrow.Author.Tests.{eqb-false}
use Rattle.rows.specs.Limits.{OFFSET_MAX}
use Rattle.extents_meaning.specs.Cells.{Bytes, number_in}
use Rattle.extents_meaning.specs.Runs.{Run, cell_at, joined, runs_from, runs_of, pieces_of, Rising}
use Rattle.extents_meaning.specs.Points.{starts}
use Rattle.rows.specs.Lists.{In}
use Rattle.extents_meaning.proofs.Longest.{cell-first, mean-end, Joint, longer, alone, joint, rising-from, mean-in}

-- ---- A byte that starts a run

-- whether a byte of cell w behind one of cell c starts a run, as a number
abbrev pub begins : ℕ → ℕ → ℕ
begins w c = cond (not (eqb w 0) && not (eqb w c)) 1 0

-- a byte of cell 0 and one of the cell before it start none, every other does
pub begins-zero : (w c : ℕ) → w ≡ 0 → begins w c ≡ 0
begins-zero w c e = rw (eq-eqb w 0 e)

-- A byte of the cell before it starts no run.
pub begins-same : (w c : ℕ) → w ≡ c → begins w c ≡ 0
begins-same w c e = rw (eq-eqb w c e, and-false)

-- A written byte of another cell than the one before starts a run.
pub begins-one : (w c : ℕ) → (w ≡ 0 → ⊥) → (w ≡ c → ⊥) → begins w c ≡ 1
begins-one w c h k = rw (ne_eqb w 0 h, ne_eqb w c k)

-- One byte starts at most one run.
pub begins-most : (w c : ℕ) → begins w c ≤ 1
begins-most w c = go (not (eqb w 0) && not (eqb w c))
  where
    go : (x : Bool) → cond x 1 0 ≤ 1
    go true = omega arith
    go false = omega arith

-- a cell other than the one before starts a run as if behind 0
begins-other : (w c : ℕ) → (w ≡ c → ⊥) → begins w 0 ≡ begins w c
begins-other w c h = go (ℕ_discrete w 0)
  where
    go : Dec (w ≡ 0) → begins w 0 ≡ begins w c
    go (yes e) = begins-zero w 0 e ∙ sym (begins-zero w c e)
    go (no e) = begins-one w 0 e e ∙ sym (begins-one w c e h)

-- ---- As many runs as starts

-- a byte put before a list makes one run more, unless the byte behind it has its cell
joint-length : {rs js : List Run} (top s v : ℕ) → Joint s v rs js → 1 ≤ v → Rising top (suc s) 0 rs →
    length js + begins (cell_at rs (suc s)) 0 ≡ suc (length rs) + begins (cell_at rs (suc s)) v
joint-length top s v (longer {r} {rs} p q) h g =
    let n = g.0 in
    let e = cell-first r rs (suc s) (omega arith) (omega arith) ∙ q in
    rw e (omega (arith, begins-same v v refl, begins-one v 0 (omega arith) (omega arith)))
joint-length top s v (alone {rs} f) h g = omega (arith, begins-other (cell_at rs (suc s)) v (mean-end top (suc s) v rs (f top g) h))

-- the cell before matters to the first byte alone
starts-behind : (n s v : ℕ) (f : Bytes) →
    starts n s v f + begins (cell_at (runs_from n s f) s) 0 ≡ starts n s 0 f + begins (cell_at (runs_from n s f) s) v
unfolding starts runs_from cell_at
starts-behind zero s v f = refl
starts-behind (suc n) s v f = rw (mean-in (suc n) s f s (omega arith) (omega arith)) (omega arith)

-- A byte function has one run for each byte that starts one.
pub count-starts : (n s : ℕ) (f : Bytes) → length (runs_from n s f) ≡ starts n s 0 f
unfolding starts runs_from
count-starts zero s f = refl
count-starts (suc n) s f = go (eqb (f s) 0) refl (count-starts n (suc s) f)
  where
    rest : List Run
    rest = runs_from n (suc s) f

    go : (x : Bool) → eqb (f s) 0 ≡ x → length rest ≡ starts n (suc s) 0 f →
        length (cond x rest (joined s (f s) rest)) ≡ begins (f s) 0 + starts n (suc s) (f s) f
    go true e ih = rw (eqb-true (f s) 0 e) (omega arith)
    go false e ih =
        let z : f s ≡ 0 → ⊥ = eqb-false (f s) 0 e in
        let j = joint-length (suc s + n) s (f s) (joint s (f s) rest) (omega arith) (rising-from n (suc s) f) in
        omega (arith, j, starts-behind n (suc s) (f s) f, begins-one (f s) 0 z z)

-- ---- No more starts than points

-- a list without one of its members: one shorter, all others still in it
pub without : (a : ℕ) (l : List ℕ) → In a l → (k : List ℕ) × (length l ≡ suc (length k)) × ((b : ℕ) → (b ≡ a → ⊥) → In b l → In b k)
without a [] m = absurd m
without a (x ∷ l) (inl e) = (l, refl, λ b n. elim [ inl q ↦ absurd (n (q ∙ sym e)) | inr m ↦ m ])
without a (x ∷ l) (inr m) = let r = without a l m in (x ∷ r.0, ap suc r.1, λ b n. elim [ inl q ↦ inl q | inr j ↦ inr (r.2 b n j) ])

-- where every change of value is at a point, there are no more starts than points behind the first byte
pub few-later : (n s : ℕ) (f : Bytes) (ps : List ℕ) → ((b : ℕ) → s ≤ b → suc b < s + suc n → (f b ≡ f (suc b) → ⊥) → In (suc b) ps) →
    starts n (suc s) (f s) f ≤ length ps
unfolding starts
few-later zero s f ps k = omega arith
few-later (suc n) s f ps k = go (ℕ_discrete (f s) (f (suc s))) (few-later n (suc s) f)
  where
    go : Dec (f s ≡ f (suc s)) →
        ((qs : List ℕ) → ((b : ℕ) → suc s ≤ b → suc b < suc s + suc n → (f b ≡ f (suc b) → ⊥) → In (suc b) qs) →
        starts n (suc (suc s)) (f (suc s)) f ≤ length qs) → begins (f (suc s)) (f s) + starts n (suc (suc s)) (f (suc s)) f ≤ length ps
    go (yes e) rest = omega (arith, begins-same (f (suc s)) (f s) (sym e), rest ps (λ b l h. k b (omega arith) (omega arith)))
    go (no e) rest =
        let w = without (suc s) ps (k s (omega arith) (omega arith) e) in
        let r = rest w.0 (λ b l h d. w.2 (suc b) (omega arith) (k b (omega arith) (omega arith) d)) in
        omega (arith, begins-most (f (suc s)) (f s), w.1, r)

-- With the first byte there is at most one start more than points.
pub few-more : (n s c : ℕ) (f : Bytes) (ps : List ℕ) → ((b : ℕ) → s ≤ b → suc b < s + n → (f b ≡ f (suc b) → ⊥) → In (suc b) ps) →
    starts n s c f ≤ suc (length ps)
unfolding starts
few-more zero s c f ps k = omega arith
few-more (suc n) s c f ps k = omega (arith, begins-most (f s) c, few-later n s f ps k)

-- With the first byte there are no more starts than points, if that byte is a point too or not written.
pub few-starts : (n s : ℕ) (f : Bytes) (ps : List ℕ) → ((f s ≡ 0 → ⊥) → In s ps) →
    ((b : ℕ) → s ≤ b → suc b < s + n → (f b ≡ f (suc b) → ⊥) → In (suc b) ps) → starts n s 0 f ≤ length ps
unfolding starts
few-starts zero s f ps h k = omega arith
few-starts (suc n) s f ps h k = go (ℕ_discrete (f s) 0)
  where
    go : Dec (f s ≡ 0) → begins (f s) 0 + starts n (suc s) (f s) f ≤ length ps
    go (yes e) = omega (arith, begins-zero (f s) 0 e, few-later n s f ps k)
    go (no e) =
        let w = without s ps (h e) in
        let r = few-later n s f w.0 (λ b l u d. w.2 (suc b) (omega arith) (k b l u d)) in
        omega (arith, begins-most (f s) 0, w.1, r)

-- where every change of value is at a point, and so is the first byte if it is written, there are no more runs than points
pub few-runs : (f : Bytes) (ps : List ℕ) → ((f 0 ≡ 0 → ⊥) → In 0 ps) → ((b : ℕ) → suc b < OFFSET_MAX → (f b ≡ f (suc b) → ⊥) → In (suc b) ps) →
    length (runs_of f) ≤ length ps
unfolding runs_of
few-runs f ps h k = omega (arith, count-starts OFFSET_MAX 0 f, few-starts OFFSET_MAX 0 f ps h (λ b _. k b))

-- A range has at most one piece more than there are points.
pub few-pieces : (f : Bytes) (ps : List ℕ) (s n : ℕ) →
    ((b : ℕ) → s ≤ b → suc b < s + n → (number_in (f b) ≡ number_in (f (suc b)) → ⊥) → In (suc b) ps) → length (pieces_of f s n) ≤ suc (length ps)
unfolding pieces_of
few-pieces f ps s n k =
    let g : Bytes = λ b. suc (number_in (f b)) in
    rw (count-starts n s g) (few-more n s 0 g ps (λ b l u d. k b l u (λ e. d (ap suc e))))

-- ---- A function of cells

-- equal cells stay equal, and 0 stays 0: no byte starts a run that did not before
begins-by : (h : ℕ → ℕ) → h 0 ≡ 0 → (w c : ℕ) → begins (h w) (h c) ≤ begins w c
begins-by h z w c = go (ℕ_discrete w 0) (ℕ_discrete w c)
  where
    go : Dec (w ≡ 0) → Dec (w ≡ c) → begins (h w) (h c) ≤ begins w c
    go (yes e) d = omega (arith, begins-zero (h w) (h c) (ap h e ∙ z))
    go (no e) (yes q) = omega (arith, begins-same (h w) (h c) (ap h q))
    go (no e) (no q) = omega (arith, begins-one w c e q, begins-most (h w) (h c))

starts_by : (h : ℕ → ℕ) → h 0 ≡ 0 → (n s c : ℕ) (f : Bytes) → starts n s (h c) (λ b. h (f b)) ≤ starts n s c f
unfolding starts
starts_by h z zero s c f = omega arith
starts_by h z (suc n) s c f = omega (arith, begins-by h z (f s) c, starts_by h z n (suc s) (f s) f)

-- A function of cells that keeps 0 makes no more runs.
pub runs_by : (h : ℕ → ℕ) → h 0 ≡ 0 → (f : Bytes) → length (runs_of (λ b. h (f b))) ≤ length (runs_of f)
unfolding runs_of
runs_by h z f =
    let e : starts OFFSET_MAX 0 (h 0) (λ b. h (f b)) ≡ starts OFFSET_MAX 0 0 (λ b. h (f b)) = ap (λ (c : ℕ). starts OFFSET_MAX 0 c (λ b. h (f b))) z in
    omega (arith, starts_by h z OFFSET_MAX 0 0 f, e, count-starts OFFSET_MAX 0 (λ b. h (f b)), count-starts OFFSET_MAX 0 f)
