-- What runs of allowed orders keep under commit: a published number was published by its process after its write, and an unpublished number
-- stays unpublished until its process publishes.
use Rattle.std.proofs.Common.{ℕ, suc, ◌<◌, arith, ◌≡◌, refl, sym, ap, ◌∙◌, inl, inr, Bool, true, false, cond, List, [], ◌∷◌, ◌++◌, eq-eqb, ne_eqb}
use native.Mathlib.Decide.{dec_lt, ℕ_discrete}
use mathlib.Core.Bool.{false≢true}
use Rattle.consistency.proofs.Byte.{Byte, put, fresh_byte, write_byte, publish_byte, refresh_byte, step_byte}
use Rattle.rows.specs.Lists.{In}
use Rattle.consistency.proofs.Core.{Trace, run, Ok, none, next, publish_all, Commits}

-- ---- One byte

-- The value at the process where it was put.
put_same : {A : Type 0} (p : ℕ) (a : A) (f : ℕ → A) (q : ℕ) → q ≡ p → put p a f q ≡ a
unfolding put
put_same p a f q e = rw (eq-eqb q p e)

-- The values at other processes stay.
put_other : {A : Type 0} (p : ℕ) (a : A) (f : ℕ → A) (q : ℕ) → (q ≡ p → ⊥) → put p a f q ≡ f q
unfolding put
put_other p a f q n = rw (ne_eqb q p n)

-- After a refresh, a process sees its unpublished number or the published one.
sees : (p : ℕ) (s : Byte) → (refresh_byte p s).view p ≡ cond (s.unpublished p) (s.view p) s.published
unfolding refresh_byte
sees p s = put_same p _ s.view p refl

-- A refresh leaves unpublished numbers.
refresh_own : (p : ℕ) (s : Byte) (q : ℕ) → s.unpublished q ≡ true → (refresh_byte p s).view q ≡ s.view q
unfolding refresh_byte
refresh_own p s q u = go (ℕ_discrete q p)
  where
    go : Dec (q ≡ p) → put p (cond (s.unpublished p) (s.view p) s.published) s.view q ≡ s.view q
    go (yes e) = put_same p _ s.view q e ∙ rw (← e, u)
    go (no n) = put_other p _ s.view q n

-- Publishing by all, a process with an unpublished number last, publishes that number.
pub last-published : (p : ℕ) (qs : List ℕ) (s : Byte) → (In p qs → ⊥) → s.unpublished p ≡ true →
    (publish_all (qs ++ (p ∷ [])) s).published ≡ s.view p
unfolding publish_all publish_byte
last-published p [] s n u = rw u
last-published p (q ∷ qs) s n u =
    last-published p qs (publish_byte q s) (λ m. n (inr m)) (put_other q false s.unpublished p (λ e. n (inl e)) ∙ u)

module _ (t : Trace) where
  -- ---- Allowed orders

  -- The rows of an allowed order are rows of the trace.
  rows_within : {h : List ℕ} → Ok t h → (k : ℕ) → In k h → k < t.rows
  rows_within none k m = absurd m
  rows_within (next b n d o) k (inl e) = rw e b
  rows_within (next b n d o) k (inr m) = rows_within o k m

  -- An allowed order has the direct predecessors of its rows.
  predecessors_in : {h : List ℕ} → Ok t h → (i j : ℕ) → t.edge i j ≡ true → In j h → In i h
  predecessors_in none i j a m = absurd m
  predecessors_in (next b n d o) i j a (inl e) = inr (d i (rw e at a))
  predecessors_in (next b n d o) i j a (inr m) = inr (predecessors_in o i j a m)

  -- A row that comes next is after the rows of its process.
  after-own : {h : List ℕ} → Ok t h → (y : ℕ) → (In y h → ⊥) → (w : ℕ) → In w h → t.process w ≡ t.process y → w < y
  after-own o y n w m e = go (dec_lt w y) (dec_lt y w)
    where
      go : Dec (w < y) → Dec (y < w) → w < y
      go (yes l) r = l
      go (no l) (yes r) = absurd (n (predecessors_in o y w (t.program y w r (rows_within o w m) (sym e)) m))
      go (no l) (no r) = let q : y ≡ w = omega arith in absurd (n (rw q m))

  -- ---- What a run keeps

  -- The process of row w publishes after w.
  abbrev pub Released : List ℕ → ℕ → Type 0
  Released h w = (c : ℕ) × In c h × (w < c) × (t.publishes c ≡ true) × (t.process c ≡ t.process w)

  -- A published number is released; an unpublished number is of the process's own rows; a number that a process wrote and did not release is unpublished.
  pub record Kept (h : List ℕ) (s : Byte) : Type 0 where
    pub released : (w : ℕ) → s.published ≡ suc w → Released h w
    pub own : (q : ℕ) → s.unpublished q ≡ true → (w : ℕ) × In w h × (t.process w ≡ q) × (s.view q ≡ suc w)
    pub pending : (x : ℕ) → In x h → t.writes x ≡ true → (Released h x → ⊥) → s.unpublished (t.process x) ≡ true

  -- A released row stays released.
  released_more : (y : ℕ) (h : List ℕ) (w : ℕ) → Released h w → Released (y ∷ h) w
  released_more y h w (c, m, l, p, e) = (c, inr m, l, p, e)

  -- A write is not the latest row where the latest row does not write.
  earlier : (y : ℕ) (h : List ℕ) → t.writes y ≡ false → (x : ℕ) → In x (y ∷ h) → t.writes x ≡ true → In x h
  earlier y h f x (inl e) w = absurd (false≢true (sym f ∙ (rw e at w)))
  earlier y h f x (inr m) w = m

  module _ (y : ℕ) (h : List ℕ) (s : Byte) (k : Kept h s) where
    -- With one more row in the order, an unpublished number is of the process's own rows.
    own-more : (q : ℕ) → s.unpublished q ≡ true → (w : ℕ) × In w (y ∷ h) × (t.process w ≡ q) × (s.view q ≡ suc w)
    own-more q u = let r = k.own q u in (r.0, inr r.1, r.2, r.3)

    -- A row that does nothing keeps the record.
    kept-idle : t.writes y ≡ false → Kept (y ∷ h) s
    kept-idle f =
        record {
          released = λ w e. released_more y h w (k.released w e);
          own = own-more;
          pending = λ x m w n. k.pending x (earlier y h f x m w) w (λ r. n (released_more y h x r));
        }

    -- A refresh keeps the record.
    kept-refresh : t.writes y ≡ false → Kept (y ∷ h) (refresh_byte (t.process y) s)
    unfolding refresh_byte
    kept-refresh f =
        record {
          released = λ w e. released_more y h w (k.released w e);
          own = λ q u. let r = k.own q u in (r.0, inr r.1, r.2, refresh_own (t.process y) s q u ∙ r.3);
          pending = λ x m w n. k.pending x (earlier y h f x m w) w (λ r. n (released_more y h x r));
        }

    -- A write keeps the record.
    kept-write : Kept (y ∷ h) (write_byte (t.process y) (suc y) s)
    unfolding write_byte
    kept-write =
        record {
          released = λ w e. released_more y h w (k.released w e);
          own = λ q u. its q (ℕ_discrete q (t.process y)) u;
          pending = λ x m w n. marked x m w n (ℕ_discrete (t.process x) (t.process y));
        }
      where
        p : ℕ
        p = t.process y

        its : (q : ℕ) → Dec (q ≡ p) → put p true s.unpublished q ≡ true →
            (w : ℕ) × In w (y ∷ h) × (t.process w ≡ q) × (put p (suc y) s.view q ≡ suc w)
        its q (yes e) u = (y, inl refl, sym e, put_same p (suc y) s.view q e)
        its q (no n) u =
            let r = k.own q (sym (put_other p true s.unpublished q n) ∙ u) in
            (r.0, inr r.1, r.2, put_other p (suc y) s.view q n ∙ r.3)

        marked : (x : ℕ) → In x (y ∷ h) → t.writes x ≡ true → (Released (y ∷ h) x → ⊥) → Dec (t.process x ≡ p) →
            put p true s.unpublished (t.process x) ≡ true
        marked x m w n (yes e) = put_same p true s.unpublished (t.process x) e
        marked x (inl e) w n (no d) = absurd (d (ap t.process e))
        marked x (inr m) w n (no d) =
            put_other p true s.unpublished (t.process x) d ∙ k.pending x m w (λ r. n (released_more y h x r))

    -- A row that publishes keeps the record.
    kept-publish : Ok t h → (In y h → ⊥) → t.writes y ≡ false → t.publishes y ≡ true → Kept (y ∷ h) (publish_byte (t.process y) s)
    unfolding publish_byte
    kept-publish o new f a =
        record {
          released = λ w e. shared w (s.unpublished p) refl e;
          own = λ q u. its q (ℕ_discrete q p) u;
          pending = λ x m w n. marked x (earlier y h f x m w) w n (ℕ_discrete (t.process x) p);
        }
      where
        p : ℕ
        p = t.process y

        freed : (w : ℕ) → In w h → t.process w ≡ p → Released (y ∷ h) w
        freed w m e = (y, inl refl, after-own o y new w m e, a, sym e)

        shared : (w : ℕ) (b : Bool) → s.unpublished p ≡ b → cond b (s.view p) s.published ≡ suc w → Released (y ∷ h) w
        shared w true u e =
            let r = k.own p u in
            let v = r.3 in
            let q : w ≡ r.0 = omega arith in
            rw q (freed r.0 r.1 r.2)
        shared w false u e = released_more y h w (k.released w e)

        its : (q : ℕ) → Dec (q ≡ p) → put p false s.unpublished q ≡ true →
            (w : ℕ) × In w (y ∷ h) × (t.process w ≡ q) × (s.view q ≡ suc w)
        its q (yes e) u = absurd (false≢true (sym (put_same p false s.unpublished q e) ∙ u))
        its q (no n) u = own-more q (sym (put_other p false s.unpublished q n) ∙ u)

        marked : (x : ℕ) → In x h → t.writes x ≡ true → (Released (y ∷ h) x → ⊥) → Dec (t.process x ≡ p) →
            put p false s.unpublished (t.process x) ≡ true
        marked x m w n (yes e) = absurd (n (freed x m e))
        marked x m w n (no d) = put_other p false s.unpublished (t.process x) d ∙ k.pending x m w (λ r. n (released_more y h x r))

  module _ (commits : Commits t) where
    -- Any row keeps the record: under commit a row writes, or publishes, or refreshes, or does none of these.
    kept_next : (y : ℕ) (h : List ℕ) (s : Byte) → Kept h s → Ok t h → (In y h → ⊥) →
        Kept (y ∷ h) (step_byte (t.writes y) (t.publishes y) (t.refreshes y) (t.process y) (suc y) s)
    kept_next y h s k o new = go (t.writes y) (t.publishes y) (t.refreshes y) refl refl refl
      where
        go : (w p r : Bool) → t.writes y ≡ w → t.publishes y ≡ p → t.refreshes y ≡ r →
            Kept (y ∷ h) (step_byte w p r (t.process y) (suc y) s)
        go true true r a b c = absurd (false≢true (sym (commits.publish-alone y b).0 ∙ a))
        go true false true a b c = absurd (false≢true (sym (commits.refresh-alone y c).0 ∙ a))
        go true false false a b c = kept-write y h s k
        go false true true a b c = absurd (false≢true (sym (commits.refresh-alone y c).1 ∙ b))
        go false true false a b c = kept-publish y h s k o new a b
        go false false true a b c = kept-refresh y h s k a
        go false false false a b c = kept-idle y h s k a

    -- The record holds after every allowed order.
    pub kept : {h : List ℕ} → Ok t h → Kept h (run t h)
    unfolding run fresh_byte
    kept none =
        record {
          released = λ w e. absurd (omega arith);
          own = λ q u. absurd (false≢true u);
          pending = λ x m w n. absurd m;
        }
    kept (next {y} {h} b n d o) = kept_next y h (run t h) (kept o) o n

    -- A read does not see an unreleased row of another process.
    pub unseen : {l : List ℕ} → Ok t l → (y w : ℕ) → t.reads y ≡ true → (t.process w ≡ t.process y → ⊥) → (Released l w → ⊥) →
        (run t (y ∷ l)).view (t.process y) ≡ suc w → ⊥
    unfolding run
    unseen {l} o y w r n u e = go (s.unpublished p) refl (sym (sees p s) ∙ (rw (f.0, f.1, g) at e))
      where
        s : Byte
        s = run t l

        p : ℕ
        p = t.process y

        g : t.refreshes y ≡ true
        g = t.read-refreshes commits.every-read y r

        f : (t.writes y ≡ false) × (t.publishes y ≡ false)
        f = commits.refresh-alone y g

        go : (b : Bool) → s.unpublished p ≡ b → cond b (s.view p) s.published ≡ suc w → ⊥
        go true a e =
            let k = (kept o).own p a in
            let v = k.3 in
            let q : w ≡ k.0 = omega arith in
            n (ap t.process q ∙ k.2)
        go false a e = u ((kept o).released w e)
