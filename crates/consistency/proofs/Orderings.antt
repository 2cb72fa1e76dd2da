-- Allowed orders of a trace are those that one byte of one file sees, latest row first.
use Rattle.std.proofs.Common.{ℕ, zero, suc, arith, ◌≡◌, refl, ap, ◌∙◌, ◌⊎◌, inl, inr, true, List, [], ◌∷◌, ◌++◌, reverse, length}
use mathlib.Core.List.{reverse_aux, reverse-cons, reverse_aux-append, reverse-reverse}
use Rattle.rows.specs.declared.row.Row.{Row}
use Rattle.happens_before.specs.Order.{edge, HB, one}
use Rattle.consistency.specs.Orders.{Stands, Allowed, places_below, trace_order}
use Rattle.rows.specs.Lists.{In, Once}
use Rattle.consistency.proofs.Core.{Trace, Ok, none, next}
use Rattle.consistency.proofs.Freedom.{Before, row-of, closed, stands}
use Rattle.consistency.proofs.Selections.{select, select-ok}
use Rattle.consistency.proofs.Meaning.{byte_trace}

-- ---- A list turned, with another one behind it: `reverse_aux l r`

-- A number in the turned list stands in one of the two lists.
in_turned : (a : ℕ) (l r : List ℕ) → In a (reverse_aux l r) → In a l ⊎ In a r
in_turned a [] r m = inr m
in_turned a (c ∷ l) r m = go (in_turned a l (c ∷ r) m)
  where
    go : In a l ⊎ ((a ≡ c) ⊎ In a r) → ((a ≡ c) ⊎ In a l) ⊎ In a r
    go (inl i) = inl (inr i)
    go (inr (inl q)) = inl (inl q)
    go (inr (inr i)) = inr i

-- A number in one of the two lists stands in the turned list.
pub turned-in : (a : ℕ) (l r : List ℕ) → In a l ⊎ In a r → In a (reverse_aux l r)
turned-in a [] r (inl m) = absurd m
turned-in a [] r (inr m) = m
turned-in a (c ∷ l) r (inl (inl q)) = turned-in a l (c ∷ r) (inr (inl q))
turned-in a (c ∷ l) r (inl (inr m)) = turned-in a l (c ∷ r) (inl m)
turned-in a (c ∷ l) r (inr m) = turned-in a l (c ∷ r) (inr (inr m))

-- A number in a turned list stands in the list.
pub in_reverse : (a : ℕ) (l : List ℕ) → In a (reverse l) → In a l
in_reverse a l m = go (in_turned a l [] m)
  where
    go : In a l ⊎ ⊥ → In a l
    go (inl i) = i
    go (inr i) = absurd i

-- Where each number stands once there, so it does in the second, and they have none in common.
once-turned : (l r : List ℕ) → Once (reverse_aux l r) → Once r × ((a : ℕ) → In a l → In a r → ⊥)
once-turned [] r o = (o, λ a m. absurd m)
once-turned (c ∷ l) r o = go (once-turned l (c ∷ r) o)
  where
    go : ((In c r → ⊥) × Once r) × ((a : ℕ) → In a l → In a (c ∷ r) → ⊥) → Once r × ((a : ℕ) → In a (c ∷ l) → In a r → ⊥)
    go ((n, o), d) = (o, apart)
      where
        apart : (a : ℕ) → In a (c ∷ l) → In a r → ⊥
        apart a (inl q) i = n (rw q at i)
        apart a (inr m) i = d a m (inr i)

-- Where each stands once in both, and they have none in common, each stands once there.
pub turned-once : (l r : List ℕ) → Once l → Once r → ((a : ℕ) → In a l → In a r → ⊥) → Once (reverse_aux l r)
turned-once [] r o p d = p
turned-once (c ∷ l) r o p d = turned-once l (c ∷ r) o.1 (d c (inl refl), p) apart
  where
    apart : (a : ℕ) → In a l → In a (c ∷ r) → ⊥
    apart a m (inl q) = o.0 (rw q at m)
    apart a m (inr i) = d a (inr m) i

-- What stands before b there stands in the first, or before b in the second.
stands-turned : (a b : ℕ) (l r : List ℕ) → Stands a b (reverse_aux l r) → In a l ⊎ Stands a b r
stands-turned a b [] r s = inr s
stands-turned a b (c ∷ l) r s = go (stands-turned a b l (c ∷ r) s)
  where
    go : In a l ⊎ Stands a b (c ∷ r) → In a (c ∷ l) ⊎ Stands a b r
    go (inl m) = inl (inr m)
    go (inr (inl (q, _))) = inl (inl q)
    go (inr (inr s)) = inr s

-- What stands in the first stands before all of the second, and what stands before b in the second does so there.
turned-stands : (a b : ℕ) (l r : List ℕ) → (In a l × In b r) ⊎ Stands a b r → Stands a b (reverse_aux l r)
turned-stands a b [] r (inl (m, _)) = absurd m
turned-stands a b [] r (inr s) = s
turned-stands a b (c ∷ l) r (inl (inl q, i)) = turned-stands a b l (c ∷ r) (inr (inl (q, i)))
turned-stands a b (c ∷ l) r (inl (inr m, i)) = turned-stands a b l (c ∷ r) (inl (m, inr i))
turned-stands a b (c ∷ l) r (inr s) = turned-stands a b l (c ∷ r) (inr (inr s))

-- What stands before b, latest row first, stands before b in the turned list.
before-turned : (a b : ℕ) (l r : List ℕ) → Before a b l → Stands a b (reverse_aux l r)
before-turned a b [] r s = absurd s
before-turned a b (c ∷ l) r (inl (q, m)) = turned-stands a b l (c ∷ r) (inl (m, inl q))
before-turned a b (c ∷ l) r (inr s) = before-turned a b l (c ∷ r) s

-- What another stands before stands.
stands-in : (a b : ℕ) (l : List ℕ) → Stands a b l → In b l
stands-in a b [] s = absurd s
stands-in a b (c ∷ l) (inl (_, m)) = inr m
stands-in a b (c ∷ l) (inr s) = inr (stands-in a b l s)

-- ---- Orders

module _ (t : Trace) where
  -- What was put to an allowed order last may be left out.
  ok_rest : (l h : List ℕ) → Ok t (reverse_aux l h) → Ok t h
  ok_rest [] h ok = ok
  ok_rest (y ∷ l) h ok = go (ok_rest l (y ∷ h) ok)
    where
      go : Ok t (y ∷ h) → Ok t h
      go (next b n e o) = o

  -- In an allowed order each row stands once.
  ok_once : {h : List ℕ} → Ok t h → Once h
  ok_once none = tt
  ok_once (next b n e ok) = (n, ok_once ok)

-- The next row of an order: its direct predecessors are passed.
predecessor_passed : (rows : List Row) (y : ℕ) (passed rest : List ℕ) → Allowed rows (reverse_aux passed (y ∷ rest)) → (k : ℕ) →
    edge rows k y ≡ true → In k passed
predecessor_passed rows y passed rest a k e = go (stands-turned k y passed (y ∷ rest) (a.in_order k y e (a.closed k y (one e) here) here))
  where
    here : In y (reverse_aux passed (y ∷ rest))
    here = turned-in y passed (y ∷ rest) (inr (inl refl))

    new : In y rest → ⊥
    new = (once-turned passed (y ∷ rest) a.once).0.0

    go : In k passed ⊎ Stands k y (y ∷ rest) → In k passed
    go (inl m) = m
    go (inr (inl (_, m))) = absurd (new m)
    go (inr (inr s)) = absurd (new (stands-in k y rest s))

-- Where the rows passed are allowed, so are all of an order.
passed_ok : (rows : List Row) (model file b : ℕ) (passed rest : List ℕ) → Ok (byte_trace rows model file b) passed →
    Allowed rows (reverse_aux passed rest) → Ok (byte_trace rows model file b) (reverse_aux rest passed)
passed_ok rows model file b passed [] ok a = ok
passed_ok rows model file b passed (y ∷ rest) ok a =
    passed_ok rows model file b (y ∷ passed) rest
    (next (a.of_trace y (turned-in y passed (y ∷ rest) (inr (inl refl))))
    (λ m. (once-turned passed (y ∷ rest) a.once).1 y m (inl refl)) (predecessor_passed rows y passed rest a) ok) a

-- An allowed order, latest row first, is one for every byte.
pub allowed-ok : (rows : List Row) (model file b : ℕ) (order : List ℕ) → Allowed rows order → Ok (byte_trace rows model file b) (reverse order)
allowed-ok rows model file b order a = passed_ok rows model file b [] order none a

-- What is allowed for a byte is allowed.
pub ok_allowed : (rows : List Row) (model file b : ℕ) (h : List ℕ) → Ok (byte_trace rows model file b) h → Allowed rows (reverse h)
ok_allowed rows model file b h ok =
    record {
      of_trace = λ k m. row-of t ok k (in_reverse k h m);
      once = turned-once h [] (ok_once t ok) tt (λ a m i. i);
      closed = λ i j before m. turned-in i h [] (inl (closed t ok before (in_reverse j h m)));
      in_order = λ i j e m n. before-turned i j h [] (stands t ok (one e) (in_reverse j h n));
    }
  where
    t : Trace
    t = byte_trace rows model file b

-- In an allowed order whatever happens before a row stands before it.
pub allowed-stands : (rows : List Row) (order : List ℕ) → Allowed rows order → (i j : ℕ) → HB (edge rows) i j → In j order → Stands i j order
allowed-stands rows order a i j before m =
    rw (reverse-reverse order) at (before-turned i j (reverse order) []
    (stands (byte_trace rows 0 0 0) (allowed-ok rows 0 0 0 order a) before (turned-in j order [] (inl m))))

-- Each first part of an allowed order is allowed.
pub first-allowed : (rows : List Row) (first rest : List ℕ) → Allowed rows (first ++ rest) → Allowed rows first
first-allowed rows first rest a =
    rw (reverse-reverse first) at (ok_allowed rows 0 0 0 (reverse first)
    (ok_rest (byte_trace rows 0 0 0) rest (reverse first) (rw (reverse_aux-append first rest []) at (allowed-ok rows 0 0 0 (first ++ rest) a))))

-- ---- The recorded order

-- Places below a bound, the largest first, turned.
places_turned : (n : ℕ) → reverse (select (λ k. true) n) ≡ places_below n
unfolding select places_below
places_turned zero = refl
places_turned (suc n) = reverse-cons n (select (λ k. true) n) ∙ ap (λ (l : List ℕ). l ++ (n ∷ [])) (places_turned n)

-- The order in which a trace was recorded is allowed.
pub trace_order_lem : (rows : List Row) → Allowed rows (trace_order rows)
trace_order_lem rows =
    let n = length rows in
    rw (places_turned n) at (ok_allowed rows 0 0 0 (select (λ k. true) n)
    (select-ok (byte_trace rows 0 0 0) (λ k. true) (λ i j e t. refl) n (omega arith)))
