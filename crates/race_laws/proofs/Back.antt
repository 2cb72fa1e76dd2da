-- The way back from another allowed order is an allowed order of the reordered rows, and gives the rows of the trace again.
use Rattle.std.proofs.Common.{ℕ, zero, suc, ◌≤◌, ◌<◌, arith, ◌≡◌, refl, sym, ap, ◌∙◌, ◌⊎◌, inl, inr, true, List, [], ◌∷◌, ◌++◌, map, length, take, take-suc}
use native.Mathlib.Decide.{dec_lt}
use mathlib.Core.List.{map-append}
use lib.Seq.{take-length}
use Rattle.rows.specs.declared.row.Row.{Row}
use Rattle.rows.specs.Rows.{row_at, no_row}
use Rattle.rows.specs.Lists.{In, Once}
use Rattle.trace.proofs.Laws.{Sound}
use Rattle.barriers.proofs.Kept.{Kept}
use Rattle.happens_before.specs.Order.{edge}
use Rattle.happens_before.proofs.Clocks.{edge-out}
use Rattle.races_meaning.proofs.Chains.{HB-start}
use Rattle.reorder.specs.Renumbering.{SameRows, Renumbered}
use Rattle.consistency.specs.Orders.{Stands, Allowed, places_below, trace_order}
use Rattle.consistency.proofs.Orderings.{trace_order_lem}
use Rattle.race_laws.specs.Reordered.{Whole, reordered, place_in}
use Rattle.race_laws.proofs.Reordered.{one-row, whole_same, whole-renumbered}

-- ---- Numbers of a list, each renamed

module _ (f : ℕ → ℕ) where
  -- A number of the list is there under its new name.
  named_in : (l : List ℕ) (k : ℕ) → In k l → In (f k) (map f l)
  named_in [] k m = absurd m
  named_in (c ∷ l) k (inl q) = inl (ap f q)
  named_in (c ∷ l) k (inr m) = inr (named_in l k m)

  -- A name there is the name of a number of the list.
  named-out : (l : List ℕ) (c : ℕ) → In c (map f l) → (k : ℕ) × In k l × (c ≡ f k)
  named-out [] c m = absurd m
  named-out (k ∷ l) c (inl q) = (k, inl refl, q)
  named-out (k ∷ l) c (inr m) = let t = named-out l c m in (t.0, inr t.1, t.2)

  -- Where no two numbers of the list have one name, each name stands once.
  named-once : (l : List ℕ) → ((a b : ℕ) → In a l → In b l → f a ≡ f b → a ≡ b) → Once l → Once (map f l)
  named-once [] e o = tt
  named-once (c ∷ l) e o = (
    λ m. let t = named-out l (f c) m in o.0 (rw (e c t.0 (inl refl) (inr t.1) t.2) t.1),
    named-once l (λ a b i j. e a b (inr i) (inr j)) o.1,
  )

  -- Names stand in the order of their numbers.
  named-stands : (a b : ℕ) (l : List ℕ) → Stands a b l → Stands (f a) (f b) (map f l)
  named-stands a b [] s = absurd s
  named-stands a b (c ∷ l) (inl (q, m)) = inl (ap f q, named_in l b m)
  named-stands a b (c ∷ l) (inr s) = inr (named-stands a b l s)

-- A number of one of two lists is in the two together.
in_both : (k : ℕ) (l m : List ℕ) → In k l ⊎ In k m → In k (l ++ m)
in_both k [] m (inl i) = absurd i
in_both k [] m (inr i) = i
in_both k (c ∷ l) m (inl (inl q)) = inl q
in_both k (c ∷ l) m (inl (inr i)) = inr (in_both k l m (inl i))
in_both k (c ∷ l) m (inr i) = inr (in_both k l m (inr i))

-- Each place below a bound is among the places below it.
below_within : (n k : ℕ) → k < n → In k (places_below n)
unfolding places_below
below_within zero k h = absurd (omega arith)
below_within (suc n) k h = in_both k (places_below n) (n ∷ []) (go (dec_lt k n) (below_within n k))
  where
    go : Dec (k < n) → (k < n → In k (places_below n)) → In k (places_below n) ⊎ In k (n ∷ [])
    go (yes l) ih = inl (ih l)
    go (no l) ih = inr (inl (omega arith))

-- The rows at the places below n are the first n rows.
below_rows : (rows : List Row) (n : ℕ) → n ≤ length rows → map (row_at rows) (places_below n) ≡ take n rows
unfolding places_below
below_rows rows zero h = refl
below_rows rows (suc n) h =
    map-append (row_at rows) (places_below n) (n ∷ []) ∙ ap (λ (l : List Row). l ++ (row_at rows n ∷ [])) (below_rows rows n (omega arith))
    ∙ sym (take-suc rows n no_row h)

-- ---- The way back

-- The new places of a trace's rows, in trace order, are an allowed order of all rows under the new numbers.
renumbered-whole : {rows rows' : List Row} {to from : ℕ → ℕ} → Renumbered rows rows' to from → Whole rows' (map to (trace_order rows))
renumbered-whole {rows} {rows'} {to} {from} r =
    record {
      allowed =
          record {
            of_trace = λ c m. let t = named-out to places c m in rw t.2 (r.same.to_within t.0 (order.of_trace t.0 t.1));
            once = named-once to places (λ a b i j e. one-row r.same a b (order.of_trace a i) (order.of_trace b j) e) order.once;
            closed = λ i j before m. all i (HB-start rows' before);
            in_order = λ i j e m n. stands i j e;
          };
      all = all;
    }
  where
    places : List ℕ
    places = trace_order rows

    order : Allowed rows places
    order = trace_order_lem rows

    all : (k : ℕ) → k < length rows' → In k (map to places)
    all k h = rw (r.same.to_from k h) at (named_in to places (from k) (below_within (length rows) (from k) (r.same.from_within k h)))

    stands : (i j : ℕ) → edge rows' i j ≡ true → Stands i j (map to places)
    stands i j e =
        let f = edge-out rows' i j e in
        let h : i < length rows' = omega (arith, f.0, f.1) in
        let a = below_within (length rows) (from i) (r.same.from_within i h) in
        let b = below_within (length rows) (from j) (r.same.from_within j f.1) in
        rw (r.same.to_from i h, r.same.to_from j f.1) at (named-stands to (from i) (from j) places (order.in_order (from i) (from j) (r.edge_from i j e) a b))

-- The rows at the new places of old places are the rows at the old ones.
rows_back : {rows rows' : List Row} {to from : ℕ → ℕ} → SameRows rows rows' to from → (l : List ℕ) → ((k : ℕ) → In k l → k < length rows) →
    map (row_at rows') (map to l) ≡ map (row_at rows) l
rows_back s [] b = refl
rows_back s (c ∷ l) b = λ i. s.same_row c (b c (inl refl)) i ∷ rows_back s l (λ k m. b k (inr m)) i

-- The reordered rows in the order of the old places are the rows of the trace again.
pub back-rows : {rows : List Row} {order : List ℕ} → Whole rows order →
    reordered (reordered rows order) (map (place_in order) (trace_order rows)) ≡ rows
unfolding reordered
back-rows {rows} {order} o =
    rows_back (whole_same o) (trace_order rows) (trace_order_lem rows).of_trace ∙ below_rows rows (length rows) (omega arith) ∙ take-length rows

-- The new places of a trace's rows, in trace order, are an allowed order of the reordered rows.
pub back_whole : {P : ℕ} {rows : List Row} → Sound P rows → Kept rows → {order : List ℕ} → Whole rows order →
    Whole (reordered rows order) (map (place_in order) (trace_order rows))
back_whole s w o = renumbered-whole (whole-renumbered s w o)
