-- The layered byte by itself: who is unpublished, and who holds a number whatever is published and refreshed.
use Rattle.std.proofs.Common.{ℕ, ◌≡◌, refl, sym, ◌∙◌, ◌⊎◌, inl, inr, Bool, true, false, cond, List, [], ◌∷◌, eq-eqb, ne_eqb}
use native.Mathlib.Decide.{ℕ_discrete}
use mathlib.Core.Bool.{false≢true}
use Rattle.consistency.proofs.Byte.{Byte, put, write_byte, publish_byte, refresh_byte}
use Rattle.rows.specs.Lists.{In}
use Rattle.consistency.proofs.Core.{publish_all}

-- ---- One process's value in a function

-- The value that was put.
put_same : {A : Type 0} (p q : ℕ) (a : A) (f : ℕ → A) → q ≡ p → put p a f q ≡ a
unfolding put
put_same p q a f e = rw (eq-eqb q p e)

-- The value of another process.
put_other : {A : Type 0} (p q : ℕ) (a : A) (f : ℕ → A) → (q ≡ p → ⊥) → put p a f q ≡ f q
unfolding put
put_other p q a f n = rw (ne_eqb q p n)

-- A value that was there and was put.
put-either : {A : Type 0} (p q : ℕ) (a b : A) (f : ℕ → A) → (q ≡ p → a ≡ b) → ((q ≡ p → ⊥) → f q ≡ b) → put p a f q ≡ b
put-either p q a b f same other = go (ℕ_discrete q p)
  where
    go : Dec (q ≡ p) → put p a f q ≡ b
    go (yes e) = put_same p q a f e ∙ same e
    go (no n) = put_other p q a f n ∙ other n

-- ---- What holds a number

-- Nobody is unpublished, and the published number is n.
abbrev pub AllPublished : ℕ → Byte → Type 0
AllPublished n s = (s.published ≡ n) × ((q : ℕ) → s.unpublished q ≡ false)

-- Process p and nobody else is unpublished, and its view is n.
abbrev pub Pending : ℕ → ℕ → Byte → Type 0
Pending n p s = (s.unpublished p ≡ true) × (s.view p ≡ n) × ((q : ℕ) → (q ≡ p → ⊥) → s.unpublished q ≡ false)

-- Process p's view is n, and publishing and refreshing by anybody leave it so.
abbrev pub Holds : ℕ → ℕ → Byte → Type 0
Holds n p s = Pending n p s ⊎ (AllPublished n s × (s.view p ≡ n))

-- What is held is in the view.
pub holds-view : (n p : ℕ) (s : Byte) → Holds n p s → s.view p ≡ n
holds-view n p s (inl w) = w.1
holds-view n p s (inr w) = w.1

-- A writer holds what it writes where nobody else is unpublished.
pub write_holds : (n p : ℕ) (s : Byte) → ((q : ℕ) → (q ≡ p → ⊥) → s.unpublished q ≡ false) → Holds n p (write_byte p n s)
unfolding write_byte
write_holds n p s alone = inl (put_same p p true _ refl, put_same p p n _ refl, λ q o. put_other p q true _ o ∙ alone q o)

-- What is marked published stays so when a process publishes.
publish_as_published : (n p : ℕ) (s : Byte) → AllPublished n s → AllPublished n (publish_byte p s)
unfolding publish_byte
publish_as_published n p s w = (rw (w.1 p) w.0, λ q. put-either p q false false _ (λ e. refl) (λ o. w.1 q))

-- What is held stays so when a process publishes.
publish_holds : (n p q : ℕ) (s : Byte) → Holds n q s → Holds n q (publish_byte p s)
unfolding publish_byte
publish_holds n p q s (inr w) = inr (publish_as_published n p s w.0, w.1)
publish_holds n p q s (inl w) = go (ℕ_discrete q p)
  where
    go : Dec (q ≡ p) → Holds n q (publish_byte p s)
    go (yes e) =
        inr ((rw (← e, w.0) w.1, λ r. put-either p r false false _ (λ d. refl) (λ o. w.2 r (λ d. o (d ∙ e)))), w.1)
    go (no o) = inl (put_other p q false _ o ∙ w.0, w.1, λ r d. put-either p r false false _ (λ i. refl) (λ i. w.2 r d))

-- What is held stays so when a process refreshes.
refresh_holds : (n p q : ℕ) (s : Byte) → Holds n q s → Holds n q (refresh_byte p s)
unfolding refresh_byte
refresh_holds n p q s (inl w) = inl (w.0, put-either p q _ n _ (λ e. rw (← e, w.0) w.1) (λ o. w.1), w.2)
refresh_holds n p q s (inr w) = inr (w.0, put-either p q _ n _ (λ e. rw (w.0.1 p) w.0.0) (λ o. w.1))

-- Who refreshes holds what is marked published.
refresh_as_published : (n p : ℕ) (s : Byte) → AllPublished n s → Holds n p (refresh_byte p s)
unfolding refresh_byte
refresh_as_published n p s w = inr (w, put-either p p _ n _ (λ e. rw (w.1 p) w.0) (λ o. absurd (o refl)))

-- ---- What a row does after its write

-- A process publishes, where a test says so.
abbrev pub may_publish : Bool → ℕ → Byte → Byte
may_publish b p s = cond b (publish_byte p s) s

-- A process refreshes, where a test says so.
abbrev pub may_refresh : Bool → ℕ → Byte → Byte
may_refresh r p s = cond r (refresh_byte p s) s

-- What is marked published stays so when a process may publish.
may_publish-as_published : (n p : ℕ) (s : Byte) (b : Bool) → AllPublished n s → AllPublished n (may_publish b p s)
may_publish-as_published n p s true w = publish_as_published n p s w
may_publish-as_published n p s false w = w

-- What is held stays so when a process may publish.
may_publish-holds : (n p q : ℕ) (s : Byte) (b : Bool) → Holds n q s → Holds n q (may_publish b p s)
may_publish-holds n p q s true w = publish_holds n p q s w
may_publish-holds n p q s false w = w

-- What is held stays so when a process may refresh.
may_refresh-holds : (n p q : ℕ) (s : Byte) (r : Bool) → Holds n q s → Holds n q (may_refresh r p s)
may_refresh-holds n p q s true w = refresh_holds n p q s w
may_refresh-holds n p q s false w = w

-- What is held stays so when a row is done after its write.
pub shared-holds : (n p q : ℕ) (s : Byte) (b r : Bool) → Holds n q s → Holds n q (may_refresh r p (may_publish b p s))
shared-holds n p q s b r w = may_refresh-holds n p q (may_publish b p s) r (may_publish-holds n p q s b w)

-- The process of a row that refreshes holds what is marked published.
pub shared-as_published : (n p q : ℕ) (s : Byte) (b r : Bool) → q ≡ p → r ≡ true → AllPublished n s → Holds n q (may_refresh r p (may_publish b p s))
shared-as_published n p q s b true e h w = rw e (refresh_as_published n p (may_publish b p s) (may_publish-as_published n p s b w))
shared-as_published n p q s b false e h w = absurd (false≢true h)

-- ---- Who is left unpublished

-- Who is unpublished after a publishing was so before, and is another.
publish_left : (p q : ℕ) (s : Byte) → (publish_byte p s).unpublished q ≡ true → (s.unpublished q ≡ true) × (q ≡ p → ⊥)
unfolding publish_byte
publish_left p q s u = go (ℕ_discrete q p)
  where
    go : Dec (q ≡ p) → (s.unpublished q ≡ true) × (q ≡ p → ⊥)
    go (yes e) = absurd (false≢true (sym (put_same p q false _ e) ∙ u))
    go (no o) = (sym (put_other p q false _ o) ∙ u, o)

-- Who is unpublished after a process may publish was so before, its view too, and did not publish.
may_publish-left : (p q : ℕ) (s : Byte) (b : Bool) → (may_publish b p s).unpublished q ≡ true →
    (s.unpublished q ≡ true) × ((may_publish b p s).view q ≡ s.view q) × (q ≡ p → b ≡ false)
unfolding publish_byte
may_publish-left p q s true u = let l = publish_left p q s u in (l.0, refl, λ e. absurd (l.1 e))
may_publish-left p q s false u = (u, refl, λ e. refl)

-- Who is unpublished after a process may refresh was so before, its view too.
may_refresh-left : (p q : ℕ) (s : Byte) (r : Bool) → (may_refresh r p s).unpublished q ≡ true →
    (s.unpublished q ≡ true) × ((may_refresh r p s).view q ≡ s.view q)
unfolding refresh_byte
may_refresh-left p q s true u = (u, put-either p q _ (s.view q) _ (λ e. rw (← e, u)) (λ o. refl))
may_refresh-left p q s false u = (u, refl)

-- Who is unpublished when a row is done was so after its write, its view too, and did not publish.
pub shared-left : (p q : ℕ) (s : Byte) (b r : Bool) → (may_refresh r p (may_publish b p s)).unpublished q ≡ true →
    (s.unpublished q ≡ true) × ((may_refresh r p (may_publish b p s)).view q ≡ s.view q) × (q ≡ p → b ≡ false)
shared-left p q s b r u =
    let l = may_refresh-left p q (may_publish b p s) r u in
    let k = may_publish-left p q s b l.0 in
    (k.0, l.1 ∙ k.1, k.2)

-- The writer's view is what it writes.
pub write_own : (n p q : ℕ) (s : Byte) → q ≡ p → (write_byte p n s).view q ≡ n
unfolding write_byte
write_own n p q s e = put_same p q n _ e

-- Of another process, who is unpublished after a write was so before, its view too.
pub write_other : (n p q : ℕ) (s : Byte) → (q ≡ p → ⊥) → (write_byte p n s).unpublished q ≡ true →
    (s.unpublished q ≡ true) × ((write_byte p n s).view q ≡ s.view q)
unfolding write_byte
write_other n p q s o u = (sym (put_other p q true _ o) ∙ u, put_other p q n _ o)

-- ---- Publishing by all

-- What is held is published in the end, where the one who holds it publishes or has published.
pub all-publish : (n q : ℕ) (s : Byte) (ps : List ℕ) → Holds n q s → (s.unpublished q ≡ true → In q ps) → (publish_all ps s).published ≡ n
unfolding publish_all
all-publish n q s [] (inl w) m = absurd (m w.0)
all-publish n q s [] (inr w) m = w.0.0
all-publish n q s (p ∷ ps) w m = all-publish n q (publish_byte p s) ps (publish_holds n p q s w) left
  where
    left : (publish_byte p s).unpublished q ≡ true → In q ps
    left u = let l = publish_left p q s u in go (m l.0) l.1
      where
        go : (q ≡ p) ⊎ In q ps → (q ≡ p → ⊥) → In q ps
        go (inl e) o = absurd (o e)
        go (inr i) o = i
