-- Laws of tests on the rows of a list: whether some row passes, by its place, with one row more, and in another order.
use Rattle.std.proofs.Common.{ℕ, zero, suc, ◌<◌, arith, ◌≡◌, refl, sym, ap, ◌∙◌, ◌↔◌, ◌⊎◌, inl, inr, Bool, true, false, ◌||◌, List, [], ◌∷◌, ◌++◌, length, eq-eqb, eqb-true}
use mathlib.Core.Bool.{false≢true, or-false, or-true, or_assoc}
use lib.Dec.{eqb}
use Rattle.rows.specs.declared.row.Row.{Row}
use Rattle.rows.specs.Rows.{row_at}
use Rattle.rows.specs.Tests.{any, carries, carries_by}
use Rattle.rows.proofs.Bools.{and_out, or_out, or_right, not_passed}

-- ---- By places

-- Where some row passes, one of them.
pub some_out : (test : Row → Bool) (rows : List Row) → any test rows ≡ true → (k : ℕ) × (k < length rows) × (test (row_at rows k) ≡ true)
unfolding any
some_out test [] e = absurd (false≢true e)
some_out test (r ∷ rs) e = go (or_out (test r) (any test rs) e) (some_out test rs)
  where
    go : (test r ≡ true) ⊎ (any test rs ≡ true) → (any test rs ≡ true → (k : ℕ) × (k < length rs) × (test (row_at rs k) ≡ true)) →
        (k : ℕ) × (k < suc (length rs)) × (test (row_at (r ∷ rs) k) ≡ true)
    go (inl q) rest = (0, omega arith, q)
    go (inr q) rest = let t = rest q in (suc t.0, omega (arith, t.1), t.2)

-- Where one passes, some row does.
pub some_in : (test : Row → Bool) (rows : List Row) (k : ℕ) → k < length rows → test (row_at rows k) ≡ true → any test rows ≡ true
unfolding any
some_in test [] k h e = absurd (omega arith)
some_in test (r ∷ rs) zero h e = rw e
some_in test (r ∷ rs) (suc k) h e = or_right (test r) (any test rs) (some_in test rs k (omega arith) e)

module _ (test : Row → Bool) (Q : Row → Type 0) (means : (r : Row) → (test r ≡ true) ↔ Q r) (rows : List Row) where
  -- Some row passes exactly where one is as the test says.
  pub some-iff : (any test rows ≡ true) ↔ ((k : ℕ) × (k < length rows) × Q (row_at rows k))
  some-iff = (
    λ e. let s = some_out test rows e in (s.0, s.1, (means (row_at rows s.0)).0 s.2),
    λ (k, h, q). some_in test rows k h ((means (row_at rows k)).1 q),
  )

  -- No row passes exactly where none is as the test says.
  pub none-iff : (any test rows ≡ false) ↔ ((k : ℕ) → k < length rows → Q (row_at rows k) → ⊥)
  none-iff = (
    λ e k h q. false≢true (sym e ∙ some-iff.1 (k, h, q)),
    λ f. not_passed (any test rows) (λ e. let s = some-iff.0 e in f s.0 s.1 s.2),
  )

-- ---- Kind, message and process

-- A row of a kind with a message.
pub carries-iff : (kind message : ℕ) (r : Row) → (carries kind message r ≡ true) ↔ ((r.kind ≡ kind) × (r.message ≡ message))
carries-iff kind message r = (
  λ e. let a = and_out (eqb r.kind kind) (eqb r.message message) e in (eqb-true _ _ a.0, eqb-true _ _ a.1),
  λ (k, m). rw (eq-eqb r.kind kind k, eq-eqb r.message message m),
)

-- A row of a kind with a message, by a process.
pub carries_by-iff : (process kind message : ℕ) (r : Row) →
    (carries_by process kind message r ≡ true) ↔ (((r.kind ≡ kind) × (r.message ≡ message)) × (r.process ≡ process))
carries_by-iff process kind message r = (
  λ e. let a = and_out (carries kind message r) (eqb r.process process) e in ((carries-iff kind message r).0 a.0, eqb-true _ _ a.1),
  λ (c, p). rw ((carries-iff kind message r).1 c) (eq-eqb r.process process p),
)

-- ---- One row more

-- Some row passes, or the last one does.
pub any_last : (test : Row → Bool) (rows : List Row) (r : Row) → any test (rows ++ (r ∷ [])) ≡ (any test rows || test r)
unfolding any
any_last test [] r = or-false (test r)
any_last test (x ∷ rows) r = ap (λ (b : Bool). test x || b) (any_last test rows r) ∙ sym (or_assoc (test x) (any test rows) (test r))

-- A last row that does not pass changes nothing.
pub any-fails : (test : Row → Bool) (rows : List Row) {r : Row} → test r ≡ false → any test (rows ++ (r ∷ [])) ≡ any test rows
any-fails test rows {r} e = any_last test rows r ∙ rw e (or-false (any test rows))

-- Where the last row passes, some row does.
pub any-passes : (test : Row → Bool) (rows : List Row) {r : Row} → test r ≡ true → any test (rows ++ (r ∷ [])) ≡ true
any-passes test rows {r} e = any_last test rows r ∙ rw e (or-true (any test rows))

-- Two tests that answer false together answer false each.
pub or_none : (x y : Bool) → x || y ≡ false → (x ≡ false) × (y ≡ false)
or_none true y e = absurd (false≢true (sym e))
or_none false y e = (refl, e)

-- Where one row before passes, some row does.
pub any-more : (test : Row → Bool) (l : List Row) (x : Row) → any test l ≡ true → any test (l ++ (x ∷ [])) ≡ true
any-more test l x e = any_last test l x ∙ ap (λ (b : Bool). b || test x) e

-- Where no row passes, none before does, and the last does not.
pub none-snoc : (test : Row → Bool) (l : List Row) (x : Row) → any test (l ++ (x ∷ [])) ≡ false → (any test l ≡ false) × (test x ≡ false)
none-snoc test l x e = or_none (any test l) (test x) (sym (any_last test l x) ∙ e)

-- Where no row before passes and the last does not, none does.
pub none_more : (test : Row → Bool) (l : List Row) (x : Row) → any test l ≡ false → (test x ≡ true → ⊥) → any test (l ++ (x ∷ [])) ≡ false
none_more test l x e f = any_last test l x ∙ (λ i. e i || not_passed (test x) f i)

-- Some row of two lists passes where one of either does.
pub any_append : (test : Row → Bool) (a b : List Row) → any test (a ++ b) ≡ (any test a || any test b)
unfolding any
any_append test [] b = refl
any_append test (r ∷ a) b = ap (λ (x : Bool). test r || x) (any_append test a b) ∙ sym (or_assoc (test r) (any test a) (any test b))

-- ---- Other lists

-- Two lists of rows pass the same tests.
abbrev pub Alike : List Row → List Row → Type 0
Alike l m = (test : Row → Bool) → any test l ≡ any test m

-- Tests that agree on the rows of a list have the same answer.
pub any_same : (s t : Row → Bool) (rows : List Row) → ((k : ℕ) → k < length rows → s (row_at rows k) ≡ t (row_at rows k)) → any s rows ≡ any t rows
unfolding any
any_same s t [] h = refl
any_same s t (r ∷ rs) h = λ i. h 0 (omega arith) i || any_same s t rs (λ k l. h (suc k) (omega arith)) i
