-- Who has arrived at a barrier, and how many rows a barrier has as long as no process goes on before all have arrived.
use Rattle.std.proofs.Common.{ℕ, zero, suc, ◌+◌, ◌≤◌, ◌<◌, arith, ◌≡◌, refl, sym, ap, subst, ◌∙◌, ◌⊎◌, inl, inr, Bool, true, false, cond, not, ◌&&◌, ◌||◌, List, [], ◌∷◌, ◌++◌, length, eq-eqb, eqb-true, le-leb}
use mathlib.Core.Bool.{false≢true, or_comm}
use lib.Dec.{leb, eqb}
use borrow.Author.Tests.{lt-leb, not-true, not-false}
use Rattle.rows.specs.declared.row.Row.{Row}
use Rattle.rows.specs.Kinds.{BARRIER}
use Rattle.rows.specs.Limits.{PROCESSES}
use Rattle.rows.specs.Rows.{row_at}
use Rattle.rows.specs.Counting.{count_below}
use Rattle.rows.specs.Tests.{any, carries, carries_by}
use Rattle.rows.proofs.Bools.{and_out, or_out, not_passed, same_test}
use Rattle.rows.proofs.Below.{count_same, count_less, count-fewer, count-own}
use Rattle.rows.proofs.Tests.{some_out, some_in, any_last, any-fails, any-more, carries_by-iff}
use Rattle.barriers.specs.Barriers.{is_barrier, arrived, all_arrived, goes_on, repeats}
use Rattle.barriers.specs.Participants.{has_row, participants}

-- ---- All have arrived

module _ (m : ℕ) (all taken : List Row) where
  -- Where all have arrived, each process that has a row has.
  pub all-out : all_arrived m all taken ≡ true → (p : ℕ) → has_row p all ≡ true → arrived m p taken ≡ true
  unfolding all_arrived
  all-out e p h = go (arrived m p taken) refl
    where
      go : (b : Bool) → arrived m p taken ≡ b → b ≡ true
      go true q = refl
      go false q =
          let t = some_out (λ r. eqb r.process p) all h in
          let same = eqb-true (row_at all t.0).process p t.2 in
          absurd (false≢true (sym (not-true _ e) ∙ some_in (λ s. not (arrived m s.process taken)) all t.0 t.1
          (ap not (ap (λ (x : ℕ). arrived m x taken) same ∙ q))))

  -- Where not all have arrived, here is a process that has a row and has not.
  pub all-missing : all_arrived m all taken ≡ false → (p : ℕ) × (has_row p all ≡ true) × (arrived m p taken ≡ false)
  unfolding all_arrived
  all-missing e =
      let t = some_out (λ s. not (arrived m s.process taken)) all (not-false _ e) in
      let p = (row_at all t.0).process in
      (p, some_in (λ r. eqb r.process p) all t.0 t.1 (eq-eqb p p refl), not-true (arrived m p taken) t.2)

  -- Where each process that has a row has arrived, all have.
  pub all_in : ((p : ℕ) → has_row p all ≡ true → arrived m p taken ≡ true) → all_arrived m all taken ≡ true
  all_in f = go (all_arrived m all taken) refl
    where
      go : (b : Bool) → all_arrived m all taken ≡ b → b ≡ true
      go true q = refl
      go false q = let t = all-missing q in absurd (false≢true (sym t.2 ∙ f t.0 t.1))

-- Who has arrived by some rows has arrived by others too.
abbrev pub Covers : List Row → List Row → Type 0
Covers taken later = (m p : ℕ) → arrived m p taken ≡ true → arrived m p later ≡ true

-- One row more keeps who has arrived.
pub covers-next : (taken : List Row) (r : Row) → Covers taken (taken ++ (r ∷ []))
covers-next taken r m p e = any-more (carries_by p BARRIER m) taken r e

-- All who have arrived stay arrived.
pub all_more : (m : ℕ) (all taken later : List Row) → Covers taken later → all_arrived m all taken ≡ true → all_arrived m all later ≡ true
all_more m all taken later c e = all_in m all later (λ p h. c m p (all-out m all taken e p h))

-- ---- Rows that do not go on early

-- Behind a row of its process that is of a barrier, a row that does not go on early finds that all have arrived there.
pub waited_for_lem : (all taken : List Row) (r : Row) → goes_on all taken r ≡ false → (k : ℕ) → k < length taken → (row_at taken k).process ≡ r.process →
    (row_at taken k).kind ≡ BARRIER → all_arrived (row_at taken k).message all taken ≡ true
unfolding goes_on
waited_for_lem all taken r e k h p b = go (all_arrived (row_at taken k).message all taken) refl
  where
    go : (x : Bool) → all_arrived (row_at taken k).message all taken ≡ x → x ≡ true
    go true q = refl
    go false q =
        absurd (false≢true (sym e ∙ some_in (λ s. eqb s.process r.process && (is_barrier s && not (all_arrived s.message all taken))) taken k h
        (rw (eq-eqb (row_at taken k).process r.process p, eq-eqb (row_at taken k).kind BARRIER b, q))))

-- A row does not go on early where all have arrived at the barrier of each row of its process before it.
pub not_early : (all taken : List Row) (r : Row) → ((k : ℕ) → k < length taken → (row_at taken k).process ≡ r.process → (row_at taken k).kind ≡ BARRIER →
    all_arrived (row_at taken k).message all taken ≡ true) → goes_on all taken r ≡ false
unfolding goes_on
not_early all taken r f =
    not_passed _
    (λ e. let t = some_out (λ s. eqb s.process r.process && (is_barrier s && not (all_arrived s.message all taken))) taken e in
    let a = and_out (eqb (row_at taken t.0).process r.process) _ t.2 in
    let b = and_out (is_barrier (row_at taken t.0)) _ a.1 in
    false≢true (sym (not-true _ b.1) ∙ f t.0 t.1 (eqb-true _ _ a.0) (eqb-true _ _ b.0)))

-- Where a process has arrived, one of the rows is its row of that barrier.
pub arrived-out : (m p : ℕ) (taken : List Row) → arrived m p taken ≡ true →
    (k : ℕ) × (k < length taken) × (((row_at taken k).kind ≡ BARRIER) × ((row_at taken k).message ≡ m)) × ((row_at taken k).process ≡ p)
arrived-out m p taken e =
    let t = some_out (carries_by p BARRIER m) taken e in
    let c = (carries_by-iff p BARRIER m (row_at taken t.0)).0 t.2 in
    (t.0, t.1, c.0, c.1)

-- Rows taken one after the other, each of a process that has a row in the trace, and none goes on before all have arrived.
pub data NonePassed (all : List Row) : List Row → Type 0 where
  none : NonePassed all []
  next : {rows : List Row} (r : Row) → NonePassed all rows → r.process < PROCESSES → has_row r.process all ≡ true → goes_on all rows r ≡ false →
      NonePassed all (rows ++ (r ∷ []))

-- Who has arrived has a row in the trace.
pub arrived-has : {all taken : List Row} → NonePassed all taken → (m p : ℕ) → arrived m p taken ≡ true → has_row p all ≡ true
unfolding any
arrived-has none m p e = absurd (false≢true e)
arrived-has {all} (next {rows} r n low has g) m p e =
    go (λ q. arrived-has n m p q) (or_out (arrived m p rows) (carries_by p BARRIER m r) (sym (any_last (carries_by p BARRIER m) rows r) ∙ e))
  where
    go : (arrived m p rows ≡ true → has_row p all ≡ true) → (arrived m p rows ≡ true) ⊎ (carries_by p BARRIER m r ≡ true) → has_row p all ≡ true
    go ih (inl q) = ih q
    go ih (inr q) = subst (λ (x : ℕ). has_row x all ≡ true) ((carries_by-iff p BARRIER m r).0 q).1 has

-- ---- How many rows a barrier has

-- How many rows pass a test.
unfoldable pub how_many : (Row → Bool) → List Row → ℕ
how_many test [] = 0
how_many test (r ∷ rs) = cond (test r) (suc (how_many test rs)) (how_many test rs)

-- One row more counts where it passes.
pub many-last : (test : Row → Bool) (rows : List Row) (r : Row) → how_many test (rows ++ (r ∷ [])) ≡ cond (test r) (suc (how_many test rows)) (how_many test rows)
unfolding how_many
many-last test [] r = refl
many-last test (x ∷ rows) r = go (test x) (test r) (many-last test rows r)
  where
    go : (b c : Bool) → how_many test (rows ++ (r ∷ [])) ≡ cond c (suc (how_many test rows)) (how_many test rows) →
        cond b (suc (how_many test (rows ++ (r ∷ [])))) (how_many test (rows ++ (r ∷ [])))
        ≡ cond c (suc (cond b (suc (how_many test rows)) (how_many test rows))) (cond b (suc (how_many test rows)) (how_many test rows))
    go true true e = ap suc e
    go true false e = ap suc e
    go false true e = e
    go false false e = e

-- How many rows are of barrier m.
abbrev pub rows_of_barrier : ℕ → List Row → ℕ
rows_of_barrier m rows = how_many (carries BARRIER m) rows

-- How many processes have arrived at barrier m.
abbrev pub arrived_many : ℕ → List Row → ℕ
arrived_many m taken = count_below PROCESSES (λ p. arrived m p taken)

module _ (m : ℕ) (taken : List Row) (r : Row) where
  -- A row of another barrier, or of none, brings nobody.
  many-kept : carries BARRIER m r ≡ false → arrived_many m (taken ++ (r ∷ [])) ≡ arrived_many m taken
  many-kept e = count_same PROCESSES _ _ (λ p h. any-fails (carries_by p BARRIER m) taken (rw e))

  -- A row of the barrier brings its process, if that had not arrived.
  many_more : r.process < PROCESSES → carries BARRIER m r ≡ true → arrived m r.process taken ≡ false →
      arrived_many m (taken ++ (r ∷ [])) ≡ arrived_many m taken + 1
  many_more low e n =
      count_same PROCESSES _ (λ p. true && (eqb p r.process || arrived m p taken)) (λ p h. at p)
      ∙ count-own PROCESSES r.process (λ p. true) (λ p. arrived m p taken) low n
    where
      flip : (p : ℕ) → eqb r.process p ≡ eqb p r.process
      flip p = same_test _ _ (λ q. eq-eqb p r.process (sym (eqb-true r.process p q))) (λ q. eq-eqb r.process p (sym (eqb-true p r.process q)))

      at : (p : ℕ) → arrived m p (taken ++ (r ∷ [])) ≡ (eqb p r.process || arrived m p taken)
      at p =
          any_last (carries_by p BARRIER m) taken r ∙ ap (λ (b : Bool). arrived m p taken || (b && eqb r.process p)) e
          ∙ or_comm (arrived m p taken) (eqb r.process p) ∙ ap (λ (b : Bool). b || arrived m p taken) (flip p)

  -- A row of the barrier whose process had arrived brings nobody.
  many-again : carries BARRIER m r ≡ true → arrived m r.process taken ≡ true → arrived_many m (taken ++ (r ∷ [])) ≡ arrived_many m taken
  many-again e a = count_same PROCESSES _ _ (λ p h. same_test _ _ (back p) (λ q. any-more (carries_by p BARRIER m) taken r q))
    where
      back : (p : ℕ) → arrived m p (taken ++ (r ∷ [])) ≡ true → arrived m p taken ≡ true
      back p q = go (or_out (arrived m p taken) (carries_by p BARRIER m r) (sym (any_last (carries_by p BARRIER m) taken r) ∙ q))
        where
          go : (arrived m p taken ≡ true) ⊎ (carries_by p BARRIER m r ≡ true) → arrived m p taken ≡ true
          go (inl x) = x
          go (inr x) = subst (λ (y : ℕ). arrived m y taken ≡ true) ((carries_by-iff p BARRIER m r).0 x).1 a

-- By no rows nobody has arrived.
none-many : (n m : ℕ) → count_below n (λ p. arrived m p []) ≡ 0
unfolding count_below any
none-many zero m = refl
none-many (suc n) m = omega (arith, none-many n m)

-- A barrier has at least as many rows as processes have arrived there.
rows-enough : {all taken : List Row} → NonePassed all taken → (m : ℕ) → arrived_many m taken ≤ rows_of_barrier m taken
unfolding how_many
rows-enough none m = omega (arith, none-many PROCESSES m)
rows-enough (next {rows} r n low has g) m = go (carries BARRIER m r) refl (arrived m r.process rows) refl (rows-enough n m)
  where
    go : (b : Bool) → carries BARRIER m r ≡ b → (a : Bool) → arrived m r.process rows ≡ a → arrived_many m rows ≤ rows_of_barrier m rows →
        arrived_many m (rows ++ (r ∷ [])) ≤ rows_of_barrier m (rows ++ (r ∷ []))
    go false e a q h = rw (many-kept m rows r e, many-last (carries BARRIER m) rows r, e) h
    go true e false q h = rw (many_more m rows r low e q, many-last (carries BARRIER m) rows r, e) (omega arith)
    go true e true q h = rw (many-again m rows r e q, many-last (carries BARRIER m) rows r, e) (omega arith)

-- As long as not all have arrived at a barrier, it has one row of each process that has.
rows-open : {all taken : List Row} → NonePassed all taken → (m : ℕ) → all_arrived m all taken ≡ false → rows_of_barrier m taken ≡ arrived_many m taken
unfolding how_many
rows-open none m e = sym (none-many PROCESSES m)
rows-open {all} (next {rows} r n low has g) m e = go (carries BARRIER m r) refl (arrived m r.process rows) refl (rows-open n m before)
  where
    before : all_arrived m all rows ≡ false
    before = not_passed (all_arrived m all rows) (λ q. false≢true (sym e ∙ all_more m all rows (rows ++ (r ∷ [])) (covers-next rows r) q))

    go : (b : Bool) → carries BARRIER m r ≡ b → (a : Bool) → arrived m r.process rows ≡ a → rows_of_barrier m rows ≡ arrived_many m rows →
        rows_of_barrier m (rows ++ (r ∷ [])) ≡ arrived_many m (rows ++ (r ∷ []))
    go false q a w h = rw (many-kept m rows r q, many-last (carries BARRIER m) rows r, q) h
    go true q false w h = rw (many_more m rows r low q w, many-last (carries BARRIER m) rows r, q) (omega arith)
    go true q true w h =
        let t = arrived-out m r.process rows w in
        let f = waited_for_lem all rows r g t.0 t.1 t.3 t.2.0 in
        absurd (false≢true (sym before ∙ subst (λ (x : ℕ). all_arrived x all rows ≡ true) t.2.1 f))

-- As long as none goes on early, all have arrived at a barrier exactly where it has as many rows as there are processes.
pub finished_told : {all taken : List Row} → ((k : ℕ) → k < length all → (row_at all k).process < PROCESSES) → NonePassed all taken → (m : ℕ) →
    all_arrived m all taken ≡ leb (participants all) (rows_of_barrier m taken)
finished_told {all} {taken} few n m = go (all_arrived m all taken) refl
  where
    go : (b : Bool) → all_arrived m all taken ≡ b → b ≡ leb (participants all) (rows_of_barrier m taken)
    go true e =
        let a = count_less PROCESSES (λ p. has_row p all) (λ p. arrived m p taken) (λ p h q. all-out m all taken e p q) in
        sym (le-leb (participants all) (rows_of_barrier m taken) (omega (arith, a, rows-enough n m)))
    go false e =
        let t = all-missing m all taken e in
        let s = some_out (λ r. eqb r.process t.0) all t.1 in
        let low : t.0 < PROCESSES = omega (arith, few s.0 s.1, eqb-true (row_at all s.0).process t.0 s.2) in
        let a = count-fewer PROCESSES (λ p. arrived m p taken) (λ p. has_row p all) (λ p h q. arrived-has n m p q) t.0 low t.2 t.1 in
        sym (lt-leb (participants all) (rows_of_barrier m taken) (omega (arith, a, rows-open n m e)))

-- A row that does not go on early repeats a barrier number exactly where all have arrived at its barrier before it.
pub repeats-told : (all taken : List Row) (r : Row) → has_row r.process all ≡ true → goes_on all taken r ≡ false →
    repeats taken r ≡ (is_barrier r && all_arrived r.message all taken)
unfolding repeats
repeats-told all taken r has g =
    ap (λ (b : Bool). is_barrier r && b)
    (same_test _ _
    (λ e. let t = arrived-out r.message r.process taken e in
    subst (λ (x : ℕ). all_arrived x all taken ≡ true) t.2.1 (waited_for_lem all taken r g t.0 t.1 t.3 t.2.0))
    (λ e. all-out r.message all taken e r.process has))
