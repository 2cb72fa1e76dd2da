-- The first row that publishes and the last row that refreshes are the best choices for a chain, and counts tell happens-before.
use Rattle.std.proofs.Common.{ℕ, zero, suc, ◌-◌, ◌≤◌, ◌<◌, arith, ◌≡◌, refl, sym, ap, ◌∙◌, ◌⊎◌, inl, inr, Bool, true, false, cond, ◌&&◌, List, length, lt-ltb, ltb-true, le-leb, leb-true, eq-eqb, ne_eqb, eqb-true}
use native.Mathlib.Numerals.{unary_clauses}
use native.Mathlib.Decide.{dec_lt}
use mathlib.Core.Bool.{false≢true}
use lib.Dec.{leb, ltb, eqb}
use Rattle.rows.specs.Kinds.{READ, WRITE}
use Rattle.models.specs.Table.{publishes, refreshes}
use Rattle.rows.specs.declared.row.Row.{Row}
use Rattle.rows.specs.Counting.{any_below, least_from, last_below}
use Rattle.happens_before.specs.Order.{edge, HB, one, more, hb, up_to, count}
use Rattle.rows.specs.Rows.{row_at}
use Rattle.rows.proofs.Bools.{and_out, or_out, or_right, same_test, not_passed}
use Rattle.rows.proofs.Below.{count_less, count_cut}
use Rattle.happens_before.proofs.Clocks.{edge-forward, program-order, HB-less, HB-trans, hb-iff, place_of, place-iff}
use Rattle.races_meaning.specs.Races.{same_file}
use Rattle.races_meaning.specs.TableChain.{published_by, refreshed_by, table_chain}
use Rattle.races_meaning.specs.Search.{is_publish, is_refresh, publish_at, refresh_at, best_chain, counts_order}
use Rattle.races_meaning.proofs.Verdicts.{Least, least-is}
use Rattle.races_meaning.proofs.Chains.{HB-in, HB-start, two-iff}

-- ---- The first that passes and the last that passes

-- The number p is the first below n that passes, or is not below n where none passes.
pub record Earliest (n : ℕ) (test : ℕ → Bool) (p : ℕ) : Type 0 where
  pub passes : p < n → test p ≡ true
  pub first : (c : ℕ) → test c ≡ true → p ≤ c

-- The number q is one more than the last below n that passes, or 0 where none passes.
pub record Latest (n : ℕ) (test : ℕ → Bool) (q : ℕ) : Type 0 where
  pub high : q ≤ n
  pub passes : 0 < q → test (q - 1) ≡ true
  pub last : (o : ℕ) → o < n → test o ≡ true → o < q

-- `last_below` finds the last number that passes.
pub last-is : (n : ℕ) (test : ℕ → Bool) → Latest n test (last_below n test)
unfolding last_below
last-is zero test = record { high = omega arith; passes = λ h. absurd (omega arith); last = λ o l e. omega arith }
last-is (suc n) test = go (test n) refl (last-is n test)
  where
    go : (b : Bool) → test n ≡ b → Latest n test (last_below n test) → Latest (suc n) test (cond b (suc n) (last_below n test))
    go true e r = record { high = omega arith; passes = λ h. simp unary_clauses e; last = λ o l t. omega arith }
    go false e r = record { high = omega (arith, r.high); passes = r.passes; last = λ o l t. rest o l t (dec_lt o n) }
      where
        rest : (o : ℕ) → o < suc n → test o ≡ true → Dec (o < n) → o < last_below n test
        rest o l t (yes b) = r.last o b t
        rest o l t (no b) = let s : n ≡ o = omega arith in absurd (false≢true (sym e ∙ ap test s ∙ t))

module _ (rows : List Row) where
  -- The process of the row at an index.
  abbrev process_at : ℕ → ℕ
  process_at k = (row_at rows k).process

  -- A row that happens after another happens after every earlier row of that one's process.
  HB-early : (p c o : ℕ) → p ≤ c → process_at p ≡ process_at c → HB (edge rows) c o → HB (edge rows) p o
  HB-early p c o l s h = go (dec_lt p c)
    where
      go : Dec (p < c) → HB (edge rows) p o
      go (yes b) = HB-trans (one (program-order rows p c b (HB-start rows h) s)) h
      go (no b) = let q : p ≡ c = omega arith in rw q h

  -- A row that happens before another happens before every later row of that one's process.
  HB-late : (c o r : ℕ) → o ≤ r → r < length rows → process_at o ≡ process_at r → HB (edge rows) c o → HB (edge rows) c r
  HB-late c o r l b s h = go (dec_lt o r)
    where
      go : Dec (o < r) → HB (edge rows) c r
      go (yes a) = more h (program-order rows o r a b s)
      go (no a) = let q : o ≡ r = omega arith in rw q at h

  -- Of two processes, some row that passes happens before some row that passes exactly where the first of the one does before the last of the other.
  best_pair : (by for : ℕ → Bool) (x y p q n : ℕ) → n ≤ length rows → ((c : ℕ) → by c ≡ true → process_at x ≡ process_at c) →
      ((o : ℕ) → for o ≡ true → (o < n) × (process_at y ≡ process_at o)) → Earliest (length rows) by p → Latest n for q →
      any_below (length rows) (λ c. by c && any_below (length rows) (λ o. for o && hb (edge rows) c o))
      ≡ ltb p (length rows) && (ltb 0 q && hb (edge rows) p (q - 1))
  best_pair by for x y p q n m a b f g = same_test _ _ (λ e. there ((two-iff rows (length rows) by for).0 e)) back
    where
      there : (c : ℕ) × (o : ℕ) × (by c ≡ true) × (o < length rows) × (for o ≡ true) × HB (edge rows) c o →
          ltb p (length rows) && (ltb 0 q && hb (edge rows) p (q - 1)) ≡ true
      there (c, o, t, l, u, h) =
          let i : p ≤ c = f.first c t in
          let k : c < length rows = HB-start rows h in
          let j : p < length rows = omega arith in
          let v : o < q = g.last o (b o u).0 u in
          let w : q ≤ n = g.high in
          let z : 0 < q = omega arith in
          let s = HB-early p c o i (sym (a p (f.passes j)) ∙ a c t) h in
          let r = HB-late p o (q - 1) (omega arith) (omega arith) (sym (b o u).1 ∙ (b (q - 1) (g.passes z)).1) s in
          rw (lt-ltb p (length rows) j, lt-ltb 0 q z) ((hb-iff (edge-forward rows) p (q - 1)).1 r)

      back : ltb p (length rows) && (ltb 0 q && hb (edge rows) p (q - 1)) ≡ true →
          any_below (length rows) (λ c. by c && any_below (length rows) (λ o. for o && hb (edge rows) c o)) ≡ true
      back e =
          let i = and_out (ltb p (length rows)) _ e in
          let j = and_out (ltb 0 q) _ i.1 in
          let h = (hb-iff (edge-forward rows) p (q - 1)).0 j.1 in
          (two-iff rows (length rows) by for).1
          (p, q - 1, f.passes (ltb-true p (length rows) i.0), HB-in rows h, g.passes (ltb-true 0 q j.0), h)

  -- ---- The choices

  -- A row that publishes x is of x's process.
  published : (model x c : ℕ) → published_by rows model x c ≡ true → process_at x ≡ process_at c
  unfolding published_by
  published model x c = go (publishes model WRITE)
    where
      go : (b : Bool) → cond b (eqb c x) (ltb x c && is_publish rows model (row_at rows x) c) ≡ true → process_at x ≡ process_at c
      go true e = ap process_at (sym (eqb-true c x e))
      go false e =
          let i = and_out (ltb x c) _ e in
          let j = and_out (publishes model (row_at rows c).kind) _ i.1 in
          eqb-true _ _ (and_out (same_file (row_at rows x) (row_at rows c)) _ j.1).1

  -- A row that refreshes for y is y or stands before y, and is of y's process.
  pub refreshed : (model y o : ℕ) → refreshed_by rows model y o ≡ true → (o < suc y) × (process_at y ≡ process_at o)
  unfolding refreshed_by
  refreshed model y o = go (refreshes model READ)
    where
      go : (b : Bool) → cond b (eqb o y) (ltb o y && is_refresh rows model (row_at rows y) o) ≡ true → (o < suc y) × (process_at y ≡ process_at o)
      go true e = let q = eqb-true o y e in (omega arith, ap process_at (sym q))
      go false e =
          let i = and_out (ltb o y) _ e in
          let j = and_out (refreshes model (row_at rows o).kind) _ i.1 in
          let l = ltb-true o y i.0 in
          (omega arith, eqb-true _ _ (and_out (same_file (row_at rows y) (row_at rows o)) _ j.1).1)

  -- `publish_at_lem` names the first row that publishes x.
  pub publish_first : (model x : ℕ) → x < length rows → Earliest (length rows) (published_by rows model x) (publish_at rows model x)
  unfolding published_by publish_at
  publish_first model x h = go (publishes model WRITE)
    where
      test : ℕ → Bool
      test = is_publish rows model (row_at rows x)

      p : ℕ
      p = least_from (length rows - suc x) (suc x) test

      r : Least (length rows - suc x) (suc x) test p
      r = least-is (length rows - suc x) (suc x) test

      after : (c : ℕ) → ltb x c && test c ≡ true → p ≤ c
      after c e =
          let i = and_out (ltb x c) (test c) e in
          let l = ltb-true x c i.0 in
          omega (arith, r.least c l i.1)

      go : (b : Bool) → Earliest (length rows) (λ c. cond b (eqb c x) (ltb x c && test c)) (cond b x p)
      go true = record { passes = λ l. eq-eqb x x refl; first = λ c e. omega (arith, eqb-true c x e) }
      go false = record { passes = λ l. rw (lt-ltb x p r.low) (r.passes (omega arith)); first = after }

  -- `refresh_at_lem` names the last row that refreshes for y, plus one.
  pub refresh_last : (model y : ℕ) → Latest (suc y) (refreshed_by rows model y) (refresh_at rows model y)
  unfolding refreshed_by refresh_at
  refresh_last model y = go (refreshes model READ)
    where
      test : ℕ → Bool
      test = is_refresh rows model (row_at rows y)

      q : ℕ
      q = last_below y test

      r : Latest y test q
      r = last-is y test

      before : (o : ℕ) → ltb o y && test o ≡ true → o < q
      before o e = let i = and_out (ltb o y) (test o) e in r.last o (ltb-true o y i.0) i.1

      go : (b : Bool) → Latest (suc y) (λ o. cond b (eqb o y) (ltb o y && test o)) (cond b (suc y) q)
      go true = record { high = omega arith; passes = λ l. eq-eqb (suc y - 1) y (omega arith); last = λ o l e. l }
      go false =
          record {
            high = omega (arith, r.high);
            passes = λ l. rw (lt-ltb (q - 1) y (omega (arith, r.high, l))) (r.passes l);
            last = λ o l e. before o e;
          }

-- The table has a chain exactly where the best choices make one.
pub best_chain_lem : (rows : List Row) (model x y : ℕ) → x < length rows → y < length rows → table_chain rows model x y ≡ best_chain rows model x y
unfolding table_chain best_chain
best_chain_lem rows model x y h g =
    best_pair rows (published_by rows model x) (refreshed_by rows model y) x y (publish_at rows model x) (refresh_at rows model y) (suc y) g
    (published rows model x) (refreshed rows model y) (publish_first rows model x h) (refresh_last rows model y)

-- ---- Counts

-- A row that is j or happens before j does not stand behind j.
up_to-least : (rows : List Row) (k i : ℕ) → up_to (edge rows) k i ≡ true → k ≤ i
up_to-least rows k i e = go (or_out (eqb k i) _ e)
  where
    go : (eqb k i ≡ true) ⊎ (hb (edge rows) k i ≡ true) → k ≤ i
    go (inl q) = omega (arith, eqb-true k i q)
    go (inr h) = let l = HB-less (edge-forward rows) ((hb-iff (edge-forward rows) k i).0 h) in omega arith

-- A row's count for its own process is at most its place among that process's rows.
own-most : (rows : List Row) (i : ℕ) → i < length rows → count rows (row_at rows i).process i ≤ place_of rows i
unfolding count place_of
own-most rows i h =
    let a = count_cut (suc i) (length rows) both h out in
    let b = count_less (suc i) both is_p (λ k l e. (and_out (is_p k) _ e).0) in
    omega arith
  where
    is_p : ℕ → Bool
    is_p k = eqb (row_at rows k).process (row_at rows i).process

    both : ℕ → Bool
    both k = is_p k && up_to (edge rows) k i

    out : (k : ℕ) → suc i ≤ k → k < length rows → both k ≡ false
    out k l b = not_passed (both k) (λ e. let m = up_to-least rows k i (and_out (is_p k) _ e).1 in omega arith)

-- A row's count for its own process is its place among that process's rows.
own-place : (rows : List Row) (i : ℕ) → i < length rows → count rows (row_at rows i).process i ≡ place_of rows i
own-place rows i h =
    let a = own-most rows i h in
    let b = (place-iff rows i i h h).0 (rw (eq-eqb i i refl)) in
    omega arith

-- Row i happens before row j of another process exactly where row i's own count is at most row j's count for row i's process.
pub counts-tell : (rows : List Row) (i j : ℕ) → i < length rows → j < length rows → (i ≡ j → ⊥) → hb (edge rows) i j ≡ counts_order rows i j
counts-tell rows i j h g n = same_test _ _ there back
  where
    here : ℕ
    here = count rows (row_at rows i).process i

    later : ℕ
    later = count rows (row_at rows i).process j

    own : here ≡ place_of rows i
    own = own-place rows i h

    there : hb (edge rows) i j ≡ true → leb here later ≡ true
    there e = le-leb here later (rw own ((place-iff rows i j h g).0 (or_right (eqb i j) _ e)))

    back : leb here later ≡ true → hb (edge rows) i j ≡ true
    back e = let u = (place-iff rows i j h g).1 (rw own at (leb-true here later e)) in rw (ne_eqb i j n) at u
