-- The runs of bytes from x up to a top, and how a walk takes one off.
use Rattle.std.proofs.Common.{ℕ, ◌+◌, ◌-◌, ◌≤◌, ◌<◌, arith, ◌≡◌, sym, ap, subst, ◌∙◌, List, [], ◌∷◌, eq-eqb, ne_eqb}
use native.Mathlib.Decide.{dec_lt}
use Rattle.extents_meaning.specs.Cells.{Bytes}
use Rattle.extents_meaning.specs.Runs.{Run, run_of, cell_at, runs_from, Rising}
use Rattle.extents_meaning.proofs.Longest.{cell-first, cell-behind, mean-before, mean-behind, rising-from, mean-in, unique_from, rising-earlier}
use Rattle.extents_weave_meaning.specs.Walks.{put}

-- the runs from x on
abbrev pub rest : ℕ → Bytes → ℕ → List Run
rest top f x = runs_from (top - x) x f

-- A cell 0 puts no run down, and every other puts one.
pub put-none : (a e c : ℕ) (rs : List Run) → c ≡ 0 → put a e c rs ≡ rs
unfolding put
put-none a e c rs h = rw (eq-eqb c 0 h)

pub put_some : (a e c : ℕ) (rs : List Run) → (c ≡ 0 → ⊥) → put a e c rs ≡ run_of a (e - a) c ∷ rs
unfolding put
put_some a e c rs h = rw (ne_eqb c 0 h)

-- runs behind a byte are behind a run of a cell that the byte has not, or that ends before them
rising-behind : (top end x c : ℕ) (rs : List Run) → end ≤ x → (end ≡ x → cell_at rs x ≡ c → ⊥) → Rising top x 0 rs → Rising top end c rs
rising-behind top end x c [] l h g = tt
rising-behind top end x c (r ∷ rs) l h g =
    let n = g.0 in
    let apart : r.start ≡ end → r.cell ≡ c → ⊥ =
    λ a b. let e : end ≡ x = omega arith in h e (cell-first r rs x (omega arith) (omega arith) ∙ b) in
    (record { rising = omega arith; filled = n.filled; inside = n.inside; written = n.written; longest = apart }, g.1)

module _ (top : ℕ) (f : Bytes) where
  pub rest-rising : (x : ℕ) → x ≤ top → Rising top x 0 (rest top f x)
  rest-rising x h = let e : x + (top - x) ≡ top = omega arith in subst (λ (t : ℕ). Rising t x 0 (rest top f x)) e (rising-from (top - x) x f)

  pub rest-mean : (x b : ℕ) → x ≤ b → b < top → cell_at (rest top f x) b ≡ f b
  rest-mean x b h k = mean-in (top - x) x f b h (omega arith)

  pub rest-unique : (x : ℕ) (rs : List Run) → x ≤ top → Rising top x 0 rs → ((b : ℕ) → x ≤ b → b < top → cell_at rs b ≡ f b) → rest top f x ≡ rs
  rest-unique x rs h g m =
      let e : top ≡ x + (top - x) = omega arith in
      sym (unique_from (top - x) x f rs (subst (λ (t : ℕ). Rising t x 0 rs) e g) (λ b l k. m b l (omega arith)))

  pub rest-none : (x : ℕ) → top ≤ x → rest top f x ≡ []
  unfolding runs_from
  rest-none x h = let e : top - x ≡ 0 = omega arith in ap (λ (n : ℕ). runs_from n x f) e

  -- bytes of cell 0 are skipped
  pub rest-skip : (x y : ℕ) → x ≤ y → y ≤ top → ((b : ℕ) → x ≤ b → b < y → f b ≡ 0) → rest top f x ≡ rest top f y
  rest-skip x y h k z = rest-unique x (rest top f y) (omega arith) (rising-earlier top y 0 x (rest top f y) h g) (λ b l m. go b l m (dec_lt b y))
    where
      g : Rising top y 0 (rest top f y)
      g = rest-rising y k

      go : (b : ℕ) → x ≤ b → b < top → Dec (b < y) → cell_at (rest top f y) b ≡ f b
      go b l m (yes q) = mean-before top y 0 (rest top f y) g b q ∙ sym (z b l q)
      go b l m (no q) = rest-mean y b (omega arith) m

  -- A run from a to e is put down at byte x: its bytes have its cell, those from its end to x have none, and byte x is no more of it.
  pub close : (a e x c : ℕ) → a < e → e ≤ x → x ≤ top → (c ≡ 0 → ⊥) → ((b : ℕ) → a ≤ b → b < e → f b ≡ c) → ((b : ℕ) → e ≤ b → b < x → f b ≡ 0) →
      (e ≡ x → x < top → f x ≡ c → ⊥) → rest top f a ≡ put a e c (rest top f x)
  close a e x c h k t o one none other =
      rest-unique a (run_of a (e - a) c ∷ more) (omega arith)
      (record { rising = omega arith; filled = omega arith; inside = omega arith; written = omega arith; longest = λ u v. omega arith }, g)
      (λ b p m. go b p m (dec_lt b e) (dec_lt b x))
      ∙ sym (put_some a e c more o)
    where
      more : List Run
      more = rest top f x

      r : Rising top x 0 more
      r = rest-rising x t

      apart : Dec (x < top) → e ≡ x → cell_at more x ≡ c → ⊥
      apart (yes q) i w = other i q (sym (rest-mean x x (omega arith) q) ∙ w)
      apart (no q) i w = o (sym w ∙ mean-behind top x 0 more r x (omega arith))

      g : Rising top (a + (e - a)) c more
      g = let i : e ≡ a + (e - a) = omega arith in subst (λ (j : ℕ). Rising top j c more) i (rising-behind top e x c more k (apart (dec_lt x top)) r)

      go : (b : ℕ) → a ≤ b → b < top → Dec (b < e) → Dec (b < x) → cell_at (run_of a (e - a) c ∷ more) b ≡ f b
      go b p m (yes q) w = cell-first (run_of a (e - a) c) more b p (omega arith) ∙ sym (one b p q)
      go b p m (no q) (yes w) = cell-behind (run_of a (e - a) c) more b (omega arith) ∙ mean-before top x 0 more r b w ∙ sym (none b (omega arith) w)
      go b p m (no q) (no w) = cell-behind (run_of a (e - a) c) more b (omega arith) ∙ rest-mean x b (omega arith) m
