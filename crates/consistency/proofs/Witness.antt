-- A race under commit is shown by an allowed order, and which one.
use Rattle.std.proofs.Common.{ℕ, zero, suc, ◌≤◌, ◌<◌, arith, ◌≡◌, refl, sym, ap, ◌∙◌, ◌↔◌, ◌≢◌, ◌⊎◌, inl, inr, Bool, true, false, cond, ◌||◌, List, [], ◌∷◌, ◌++◌, eq-eqb, eqb-true}
use mathlib.Core.Bool.{false≢true}
use lib.Dec.{eqb}
use borrow.Author.Tests.{eqb-false}
use Rattle.happens_before.specs.Order.{HB, one, hb, up_to}
use Rattle.rows.proofs.Bools.{or_out, or_right}
use Rattle.happens_before.proofs.Clocks.{HB-less, HB-trans, hb-iff}
use Rattle.rows.specs.Lists.{In}
use Rattle.consistency.proofs.Core.{Trace, run, plain, Ok, next, Conflict, Synchronized, publish_all, Commits, Shown, by_read, at-end}
use Rattle.consistency.proofs.Runs.{Released, kept, unseen, last-published}
use Rattle.consistency.proofs.Selections.{select, select_in, select-out, select-top, Closed, closed-or, select-ok, Latest, plain-latest}

-- ---- The order that shows a race, as a list with its latest row first

module _ (t : Trace) where
  -- A row is x or y or happens before one of them.
  abbrev pub either_up_to : ℕ → ℕ → ℕ → Bool
  either_up_to x y k = up_to t.edge k x || up_to t.edge k y

  -- A row happens before x, or is y or happens before y. Row x is none of these where x does not happen before y.
  abbrev pub other_up_to : ℕ → ℕ → ℕ → Bool
  other_up_to x y k = hb t.edge k x || up_to t.edge k y

  -- The rows up to x or y, in trace order.
  abbrev pub in_turn : ℕ → ℕ → List ℕ
  in_turn x y = select (either_up_to x y) t.rows

  -- The rows up to x or y, with x put last.
  abbrev pub put_last : ℕ → ℕ → List ℕ
  put_last x y = x ∷ select (other_up_to x y) t.rows

  -- For a write x and a read y, by the number of the last write in turn: where it is of another process than x, the order for x and that write.
  abbrev pub in_turn_for : ℕ → ℕ → ℕ → List ℕ
  in_turn_for x y zero = in_turn x y
  in_turn_for x y (suc w) = cond (eqb (t.process w) (t.process x)) (in_turn x y) (in_turn x w)

  -- The order that shows a race of x and y.
  unfoldable pub witness : ℕ → ℕ → List ℕ
  witness x y = cond (t.writes x) (cond (t.writes y) (in_turn x y) (in_turn_for x y (plain t (in_turn x y)))) (put_last x y)

  -- ---- The order is allowed

  -- A row is another or happens before it.
  up_to-iff : (k y : ℕ) → (up_to t.edge k y ≡ true) ↔ ((k ≡ y) ⊎ HB t.edge k y)
  up_to-iff k y = (λ e. there (or_out (eqb k y) (hb t.edge k y) e), back)
    where
      there : (eqb k y ≡ true) ⊎ (hb t.edge k y ≡ true) → (k ≡ y) ⊎ HB t.edge k y
      there (inl e) = inl (eqb-true k y e)
      there (inr e) = inr ((hb-iff t.forward k y).0 e)

      back : (k ≡ y) ⊎ HB t.edge k y → up_to t.edge k y ≡ true
      back (inl e) = rw (eq-eqb k y e)
      back (inr b) = or_right (eqb k y) (hb t.edge k y) ((hb-iff t.forward k y).1 b)

  -- A row up to y is no later than y.
  up_to-most : (k y : ℕ) → up_to t.edge k y ≡ true → k ≤ y
  up_to-most k y e = go ((up_to-iff k y).0 e)
    where
      go : (k ≡ y) ⊎ HB t.edge k y → k ≤ y
      go (inl q) = omega arith
      go (inr b) = omega (arith, HB-less t.forward b)

  -- A row is up to itself.
  up_to-self : (y : ℕ) → up_to t.edge y y ≡ true
  up_to-self y = (up_to-iff y y).1 (inl refl)

  -- The rows that happen before y are closed under direct predecessors.
  closed-hb : (y : ℕ) → Closed t (λ k. hb t.edge k y)
  closed-hb y i j a e = (hb-iff t.forward i y).1 (HB-trans (one a) ((hb-iff t.forward j y).0 e))

  -- The rows up to y are closed under direct predecessors.
  closed-up_to : (y : ℕ) → Closed t (λ k. up_to t.edge k y)
  closed-up_to y i j a e = (up_to-iff i y).1 (inr (go ((up_to-iff j y).0 e)))
    where
      go : (j ≡ y) ⊎ HB t.edge j y → HB t.edge i y
      go (inl q) = one (rw q at a)
      go (inr b) = HB-trans (one a) b

  -- The first of the rows in turn are an allowed order.
  first-ok : (x y n : ℕ) → n ≤ t.rows → Ok t (select (either_up_to x y) n)
  first-ok x y = select-ok t (either_up_to x y) (closed-or t _ _ (closed-up_to x) (closed-up_to y))

  -- All rows in turn are an allowed order.
  in_turn_ok : (x y : ℕ) → Ok t (in_turn x y)
  in_turn_ok x y = first-ok x y t.rows (omega arith)

  -- The rows in turn without x are an allowed order.
  others-ok : (x y : ℕ) → Ok t (select (other_up_to x y) t.rows)
  others-ok x y = select-ok t (other_up_to x y) (closed-or t _ _ (closed-hb x) (closed-up_to y)) t.rows (omega arith)

  -- Row x is not among the rows in turn without x.
  others-new : (x y : ℕ) → x < y → (HB t.edge x y → ⊥) → In x (select (other_up_to x y) t.rows) → ⊥
  others-new x y l n m = go (or_out (hb t.edge x x) _ (select-out (other_up_to x y) t.rows x m).1)
    where
      same : (x ≡ y) ⊎ HB t.edge x y → ⊥
      same (inl e) = omega arith
      same (inr b) = n b

      go : (hb t.edge x x ≡ true) ⊎ (up_to t.edge x y ≡ true) → ⊥
      go (inl e) = let b = HB-less t.forward ((hb-iff t.forward x x).0 e) in omega arith
      go (inr e) = same ((up_to-iff x y).0 e)

  -- The direct predecessors of x are among the rows in turn without x.
  others-before : (x y : ℕ) → x < t.rows → (k : ℕ) → t.edge k x ≡ true → In k (select (other_up_to x y) t.rows)
  others-before x y b k a =
      let l : k < t.rows = omega (arith, t.forward k x a) in
      select_in (other_up_to x y) t.rows k l (rw ((hb-iff t.forward k x).1 (one a)))

  -- The rows with x last are an allowed order.
  put_last-ok : (x y : ℕ) → x < y → y < t.rows → (HB t.edge x y → ⊥) → Ok t (put_last x y)
  put_last-ok x y l b n =
      let c : x < t.rows = omega arith in
      next c (others-new x y l n) (others-before x y c) (others-ok x y)

  -- ---- Its rows

  -- In turn, no row is later than y.
  either-most : (x y : ℕ) → x < y → (k : ℕ) → either_up_to x y k ≡ true → k ≤ y
  either-most x y l k e = go (or_out (up_to t.edge k x) (up_to t.edge k y) e)
    where
      go : (up_to t.edge k x ≡ true) ⊎ (up_to t.edge k y ≡ true) → k ≤ y
      go (inl u) = omega (arith, up_to-most k x u)
      go (inr u) = up_to-most k y u

  -- Without x, none is either.
  other-most : (x y : ℕ) → x < y → (k : ℕ) → other_up_to x y k ≡ true → k ≤ y
  other-most x y l k e = go (or_out (hb t.edge k x) (up_to t.edge k y) e)
    where
      go : (hb t.edge k x ≡ true) ⊎ (up_to t.edge k y ≡ true) → k ≤ y
      go (inl u) = omega (arith, HB-less t.forward ((hb-iff t.forward k x).0 u))
      go (inr u) = up_to-most k y u

  -- In turn, a row after x is y or happens before it.
  after-x : (x y k : ℕ) → either_up_to x y k ≡ true → x < k → (k ≡ y) ⊎ HB t.edge k y
  after-x x y k e l = go (or_out (up_to t.edge k x) (up_to t.edge k y) e)
    where
      go : (up_to t.edge k x ≡ true) ⊎ (up_to t.edge k y ≡ true) → (k ≡ y) ⊎ HB t.edge k y
      go (inl u) = absurd (omega (arith, up_to-most k x u))
      go (inr u) = (up_to-iff k y).0 u

  -- In turn, y is the last row.
  in_turn_top : (x y : ℕ) → x < y → y < t.rows → in_turn x y ≡ y ∷ select (either_up_to x y) y
  in_turn_top x y l b =
      select-top (either_up_to x y) y t.rows b (or_right (up_to t.edge y x) _ (up_to-self y)) (either-most x y l)

  -- Without x, it is too.
  others-top : (x y : ℕ) → x < y → y < t.rows → select (other_up_to x y) t.rows ≡ y ∷ select (other_up_to x y) y
  others-top x y l b = select-top (other_up_to x y) y t.rows b (or_right (hb t.edge y x) _ (up_to-self y)) (other-most x y l)

  -- The plain byte after a write.
  plain-write : (y : ℕ) (l : List ℕ) → t.writes y ≡ true → plain t (y ∷ l) ≡ suc y
  unfolding plain
  plain-write y l e = rw e

  -- The plain byte after any other row.
  plain_other : (y : ℕ) (l : List ℕ) → t.writes y ≡ false → plain t (y ∷ l) ≡ plain t l
  unfolding plain
  plain_other y l e = rw e

  -- ---- It shows the race

  module _ (commits : Commits t) (x y : ℕ) (l : x < y) (b : y < t.rows) (d : t.process x ≡ t.process y → ⊥) where
    -- In turn, where the write x is not synchronized with y, no row of its process from x on is released.
    unreleased : t.writes x ≡ true → (Synchronized t x y → ⊥) → (n w : ℕ) → x ≤ w → t.process w ≡ t.process x →
        Released t (select (either_up_to x y) n) w → ⊥
    unreleased a s n w m q (c, i, f, p, e) = go (after-x x y c (select-out (either_up_to x y) n c i).1 g)
      where
        g : x < c
        g = omega arith

        go : (c ≡ y) ⊎ HB t.edge c y → ⊥
        go (inl z) = d (sym q ∙ (sym e ∙ ap t.process z))
        go (inr h) = s (inl (a, (c, y, inr (commits.no_write, g, p, e ∙ q), inl (commits.every-read, refl), h)))

    -- x is one of the rows in turn
    x-in-turn : In x (in_turn x y)
    x-in-turn = let c : x < t.rows = omega arith in select_in (either_up_to x y) t.rows x c (rw (up_to-self x))

    -- Two writes: x's process, publishing last, puts its own write over y.
    shown-two-writes : t.writes x ≡ true → t.writes y ≡ true → (Synchronized t x y → ⊥) → Shown t (in_turn x y)
    shown-two-writes a g s = at-end (t.process x) x x-in-turn refl wrong
      where
        h : List ℕ
        h = in_turn x y

        u : (run t h).unpublished (t.process x) ≡ true
        u = (kept t commits (in_turn_ok x y)).pending x x-in-turn a (unreleased a s t.rows x (omega arith) refl)

        wrong : (qs : List ℕ) → (In (t.process x) qs → ⊥) → (publish_all (qs ++ (t.process x ∷ [])) (run t h)).published ≡ plain t h → ⊥
        wrong qs out e =
            let r = (kept t commits (in_turn_ok x y)).own (t.process x) u in
            let v = sym (last-published (t.process x) qs (run t h) out u) ∙ (e ∙ (ap (plain t) (in_turn_top x y l b) ∙ plain-write y _ g)) in
            let w = r.3 in
            let q : r.0 ≡ y = omega arith in
            d (sym r.2 ∙ ap t.process q)

    -- A read y after a last write by x's process: it does not see that write.
    shown_read : t.writes x ≡ true → t.reads y ≡ true → (Synchronized t x y → ⊥) → (w : ℕ) → plain t (in_turn x y) ≡ suc w → x ≤ w →
        t.process w ≡ t.process x → Shown t (in_turn x y)
    shown_read a r s w v m q =
        by_read y rest (in_turn_top x y l b) r
        (λ e. unseen t commits (first-ok x y y (omega arith)) y w r (λ z. d (sym q ∙ z)) (unreleased a s y w m q)
        (ap (λ (k : List ℕ). (run t k).view (t.process y)) (sym (in_turn_top x y l b)) ∙ (e ∙ (sym same ∙ v))))
      where
        rest : List ℕ
        rest = select (either_up_to x y) y

        same : plain t (in_turn x y) ≡ plain t rest
        same = ap (plain t) (in_turn_top x y l b) ∙ plain_other y rest (t.one-kind y r)

    -- A read x put last does not see the write y.
    shown-last : t.reads x ≡ true → t.writes y ≡ true → Shown t (put_last x y)
    shown-last r g =
        by_read x rest refl r
        (λ e. unseen t commits (others-ok x y) x y r (λ z. d (sym z)) early
        (e ∙ (ap (plain t) (others-top x y l b) ∙ plain-write y _ g)))
      where
        rest : List ℕ
        rest = select (other_up_to x y) t.rows

        early : Released t rest y → ⊥
        early (c, i, f, p, e) = omega (arith, other-most x y l c (select-out (other_up_to x y) t.rows c i).1)

  -- A write after x in turn is not synchronized with the write x where the read y is not.
  unsynchronized : (commits : Commits t) (x y w : ℕ) → t.writes x ≡ true → t.reads y ≡ true → (Synchronized t x y → ⊥) → x < w →
      t.writes w ≡ true → either_up_to x y w ≡ true → Synchronized t x w → ⊥
  unsynchronized commits x y w a r s l g e z = by_chain (before (after-x x y w e l)) z
    where
      before : (w ≡ y) ⊎ HB t.edge w y → HB t.edge w y
      before (inl q) = absurd (false≢true (sym (t.one-kind y r) ∙ (rw q at g)))
      before (inr h) = h

      by_chain : HB t.edge w y → Synchronized t x w → ⊥
      by_chain k (inl (_, (c, o, p, inl (_, q), h))) = s (inl (a, (c, y, p, inl (commits.every-read, refl), HB-trans (rw q at h) k)))
      by_chain k (inl (_, (c, o, p, inr f, h))) = false≢true (sym f.0 ∙ commits.every-read)
      by_chain k (inr (f, _)) = false≢true (sym (t.one-kind x f) ∙ a)

  -- A write x and a read y, by the last write up to them.
  shown_for : (commits : Commits t) (x y : ℕ) → x < y → y < t.rows → (t.process x ≡ t.process y → ⊥) → t.writes x ≡ true →
      t.reads y ≡ true → (Synchronized t x y → ⊥) → (v : ℕ) → plain t (in_turn x y) ≡ v → Latest t (either_up_to x y) t.rows v →
      Ok t (in_turn_for x y v) × Shown t (in_turn_for x y v)
  shown_for commits x y l b d a r s zero e latest = absurd (latest x (omega arith) (rw (up_to-self x)) a)
  shown_for commits x y l b d a r s (suc w) e (f, u, g, most) = go (eqb (t.process w) (t.process x)) refl
    where
      m : x ≤ w
      m = most x (omega arith) (rw (up_to-self x)) a

      after : (t.process x ≡ t.process w → ⊥) → x < w
      after n = let k : x ≢ w = λ z. n (ap t.process z) in omega (arith, m)

      go : (own : Bool) → eqb (t.process w) (t.process x) ≡ own →
          Ok t (cond own (in_turn x y) (in_turn x w)) × Shown t (cond own (in_turn x y) (in_turn x w))
      go true q = (in_turn_ok x y, shown_read commits x y l b d a r s w e m (eqb-true _ _ q))
      go false q =
          let n : t.process x ≡ t.process w → ⊥ = λ z. eqb-false _ _ q (sym z) in
          (in_turn_ok x w, shown-two-writes commits x w (after n) f n a g (unsynchronized commits x y w a r s (after n) g u))

module _ (t : Trace) (commits : Commits t) where
  -- The order for an unsynchronized conflict is allowed and shows it.
  pub witness_shown : (x y : ℕ) → Conflict t x y → (Synchronized t x y → ⊥) → Ok t (witness t x y) × Shown t (witness t x y)
  unfolding witness
  witness_shown x y (l, b, d, inl (a, inl g)) s = rw (a, g) (in_turn_ok t x y, shown-two-writes t commits x y l b d a g s)
  witness_shown x y (l, b, d, inl (a, inr r)) s =
      rw (a, t.one-kind y r) (shown_for t commits x y l b d a r s _ refl (plain-latest t (either_up_to t x y) t.rows))
  witness_shown x y (l, b, d, inr (r, g)) s =
      rw (t.one-kind x r) (put_last-ok t x y l b (λ h. s (inr (r, h))), shown-last t commits x y l b d r g)

  -- Every race is shown by an allowed order.
  pub race_shown : (x y : ℕ) → Conflict t x y → (Synchronized t x y → ⊥) → (h : List ℕ) × Ok t h × Shown t h
  race_shown x y c s = let r = witness_shown x y c s in (witness t x y, r.0, r.1)
