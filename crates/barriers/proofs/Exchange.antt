-- Question 22 of the same rows in another order: rows that pass the same tests have the same answers, and a row in its turn stays so where a row of
-- another process moves before it or behind it.
use Rattle.std.proofs.Common.{ℕ, suc, ◌≡◌, refl, sym, ap, ◌∙◌, Bool, true, false, cond, not, ◌&&◌, ◌||◌, List, [], ◌∷◌, ◌++◌, append-nil, length, ne_eqb}
use mathlib.Core.Bool.{false≢true, or-false}
use lib.Seq.{append_snoc}
use lib.Dec.{eqb}
use borrow.Author.Tests.{not-true}
use Rattle.rows.specs.declared.row.Row.{Row}
use Rattle.rows.specs.Kinds.{BARRIER}
use Rattle.rows.specs.Rows.{row_at}
use Rattle.rows.specs.Tests.{any, carries_by}
use Rattle.rows.proofs.Bools.{and_out, not_passed, not_both}
use Rattle.rows.proofs.Tests.{Alike, any_last, any_same, some_out, some_in, carries_by-iff}
use Rattle.barriers.specs.Barriers.{is_barrier, arrived, all_arrived, goes_on, repeats, out_of_turn, first_out, unfinished}
use Rattle.barriers.proofs.Arrivals.{covers-next, all_more}
use Rattle.barriers.proofs.Telling.{in_turn}

-- ---- Rows that pass the same tests

module _ (all all' taken taken' : List Row) (a : Alike all all') (t : Alike taken taken') where
  -- All have arrived by the one as by the other.
  alike-arrived : (m : ℕ) → all_arrived m all taken ≡ all_arrived m all' taken'
  unfolding all_arrived
  alike-arrived m =
      ap not (any_same _ _ all (λ k h. ap not (t (carries_by (row_at all k).process BARRIER m))) ∙ a (λ q. not (arrived m q.process taken')))

  -- A row goes on early behind the one as behind the other.
  pub alike-goes : (r : Row) → goes_on all taken r ≡ goes_on all' taken' r
  unfolding goes_on
  alike-goes r =
      any_same _ _ taken (λ k h. ap (λ (b : Bool). eqb (row_at taken k).process r.process && (is_barrier (row_at taken k) && not b)) (alike-arrived (row_at taken k).message))
      ∙ t (λ s. eqb s.process r.process && (is_barrier s && not (all_arrived s.message all' taken')))

  -- So it is out of turn behind the one as behind the other.
  pub alike-out : (r : Row) → out_of_turn all taken r ≡ out_of_turn all' taken' r
  unfolding out_of_turn repeats
  alike-out r = λ i. alike-goes r i || (is_barrier r && t (carries_by r.process BARRIER r.message) i)

-- The first row out of turn depends on the processes of the trace alone.
pub alike-first : (all all' : List Row) → Alike all all' → (rest taken : List Row) → first_out all taken rest ≡ first_out all' taken rest
unfolding first_out
alike-first all all' a [] taken = refl
alike-first all all' a (r ∷ rest) taken =
    λ i. cond (alike-out all all' taken taken a (λ test. refl) r i) (suc (length taken)) (alike-first all all' a rest (taken ++ (r ∷ [])) i)

-- The same rows leave the same barriers unfinished.
pub alike-unfinished : (l n : List Row) → Alike l n → unfinished l ≡ unfinished n
unfolding unfinished
alike-unfinished l n a =
    any_same _ _ l (λ k h. ap (λ (b : Bool). is_barrier (row_at l k) && not b) (alike-arrived l n l n a a (row_at l k).message))
    ∙ a (λ r. is_barrier r && not (all_arrived r.message n n))

-- One row more in its turn leaves all rows in turn.
pub first-last : (all rest taken : List Row) (r : Row) → first_out all taken rest ≡ 0 → out_of_turn all (taken ++ rest) r ≡ false → first_out all taken (rest ++ (r ∷ [])) ≡ 0
unfolding first_out
first-last all [] taken r e o = rw (rw append-nil at o)
first-last all (x ∷ rest) taken r e o = go (out_of_turn all taken x) e (first-last all rest (taken ++ (x ∷ [])) r)
  where
    go : (b : Bool) → cond b (suc (length taken)) (first_out all (taken ++ (x ∷ [])) rest) ≡ 0 →
        (first_out all (taken ++ (x ∷ [])) rest ≡ 0 → out_of_turn all ((taken ++ (x ∷ [])) ++ rest) r ≡ false → first_out all (taken ++ (x ∷ [])) (rest ++ (r ∷ [])) ≡ 0) →
        cond b (suc (length taken)) (first_out all (taken ++ (x ∷ [])) (rest ++ (r ∷ []))) ≡ 0
    go true z ih = z
    go false z ih = ih z (rw append_snoc o)

-- ---- Two rows of two processes

-- A test that passes only where another does passes for no row where that does for none.
none-weaker : (s t : Row → Bool) (rows : List Row) → ((r : Row) → s r ≡ true → t r ≡ true) → any t rows ≡ false → any s rows ≡ false
none-weaker s t rows f e =
    not_passed _ (λ q. let k = some_out s rows q in false≢true (sym e ∙ some_in t rows k.0 k.1 (f (row_at rows k.0) k.2)))

module _ (all before : List Row) (x e : Row) (apart : x.process ≡ e.process → ⊥) where
  -- A row that may go on may do so behind one row more of another process.
  pub goes_more : goes_on all before e ≡ false → goes_on all (before ++ (x ∷ [])) e ≡ false
  unfolding goes_on
  goes_more g =
      any_last _ before x
      ∙ (λ i. none-weaker _ _ before weaker g i || (ne_eqb x.process e.process apart i && (is_barrier x && not (all_arrived x.message all (before ++ (x ∷ []))))))
    where
      weaker : (s : Row) → (eqb s.process e.process && (is_barrier s && not (all_arrived s.message all (before ++ (x ∷ []))))) ≡ true →
          (eqb s.process e.process && (is_barrier s && not (all_arrived s.message all before))) ≡ true
      weaker s q =
          let a = and_out (eqb s.process e.process) _ q in
          let b = and_out (is_barrier s) _ a.1 in
          let missing : all_arrived s.message all before ≡ false =
          not_passed _ (λ w. false≢true (sym (not-true _ b.1) ∙ all_more s.message all before (before ++ (x ∷ [])) (covers-next before x) w)) in
          rw (a.0, b.0, missing)

  -- It repeats no number behind the row of another process that it did not repeat before.
  repeats-more : repeats before e ≡ false → repeats (before ++ (x ∷ [])) e ≡ false
  unfolding repeats
  repeats-more g =
      ap (λ (b : Bool). is_barrier e && b)
      (any_last (carries_by e.process BARRIER e.message) before x
      ∙ ap (λ (b : Bool). arrived e.message e.process before || b)
      (not_passed _ (λ q. apart ((carries_by-iff e.process BARRIER e.message x).0 q).1)) ∙ or-false _)
      ∙ g

  -- A row in its turn stays so behind one row more of another process.
  pub turn-later : out_of_turn all before e ≡ false → out_of_turn all (before ++ (x ∷ [])) e ≡ false
  unfolding out_of_turn
  turn-later o = let t = in_turn all before e o in λ i. goes_more t.0 i || repeats-more t.1 i

  -- A row in its turn behind another row is so without it, if it may go on there.
  pub turn-earlier : goes_on all before e ≡ false → out_of_turn all (before ++ (x ∷ [])) e ≡ false → out_of_turn all before e ≡ false
  unfolding out_of_turn repeats
  turn-earlier g o =
      let t = in_turn all (before ++ (x ∷ [])) e o in
      rw g
      (not_both (is_barrier e) _ (λ b a. false≢true (sym (rw b at t.1) ∙ any_last (carries_by e.process BARRIER e.message) before x
      ∙ ap (λ (y : Bool). y || carries_by e.process BARRIER e.message x) a)))
