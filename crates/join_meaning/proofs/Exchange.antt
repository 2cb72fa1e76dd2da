-- Rows whose messages are in order and whose barriers are kept stay so where the next row of one file, if it does not wait, moves to the front.
use Rattle.std.proofs.Common.{ℕ, suc, ◌+◌, ◌<◌, arith, ◌≡◌, refl, sym, ap, subst, ◌∙◌, Bool, false, ◌||◌, List, [], ◌∷◌, ◌++◌, append-nil, length, take}
use mathlib.Core.Bool.{false≢true, or_assoc, or_comm}
use lib.Seq.{append_snoc}
use Rattle.rows.specs.declared.row.Row.{Row}
use Rattle.rows.specs.Rows.{row_at}
use Rattle.rows.specs.Tests.{any}
use Rattle.rows.proofs.Tests.{any_last, Alike}
use Rattle.messages.proofs.Asks.{Passes}
use Rattle.messages.proofs.Exchange.{passes-ready, ready-more, alike-passes, passes-earlier, passes-later}
use Rattle.barriers.specs.Barriers.{out_of_turn, barrier_place}
use Rattle.barriers.proofs.Telling.{in_turn}
use Rattle.barriers.proofs.Kept.{place-yes, none_out}
use Rattle.barriers.proofs.Exchange.{alike-out, goes_more, turn-later, turn-earlier}
use Rattle.trace.proofs.Laws.{Sound}
use Rattle.trace.proofs.Laws as sound
use Rattle.join_meaning.specs.Joining.{waits}
use Rattle.join_meaning.specs.Merging.{Merged, none, first, second}
use Rattle.join_meaning.proofs.Tests.{Apart, ready-out, held_out, ready-in}
use Rattle.join_meaning.proofs.Taking.{NextWaits}

-- ---- Mergings pass the same tests

-- A row in the middle counts as at the front.
any-middle : (test : Row → Bool) (a b : List Row) (r : Row) → any test (a ++ (r ∷ b)) ≡ (test r || any test (a ++ b))
unfolding any
any-middle test [] b r = refl
any-middle test (x ∷ a) b r =
    ap (λ (y : Bool). test x || y) (any-middle test a b r) ∙ sym (or_assoc (test x) (test r) (any test (a ++ b)))
    ∙ ap (λ (y : Bool). y || any test (a ++ b)) (or_comm (test x) (test r)) ∙ or_assoc (test r) (test x) (any test (a ++ b))

-- A merging passes the tests that its two lists pass.
pub merged_alike : {a b m : List Row} → Merged a b m → Alike (a ++ b) m
unfolding any
merged_alike none test = refl
merged_alike (first {r} d) test = ap (λ (y : Bool). test r || y) (merged_alike d test)
merged_alike (second {r} {a} {b} d) test = any-middle test a b r ∙ ap (λ (y : Bool). test r || y) (merged_alike d test)

-- ---- Rows in order one after the other

-- Each row passes the questions from 12 on behind the rows before it.
abbrev Orderly : List Row → List Row → Type 0
Orderly before [] = Unit {0}
Orderly before (r ∷ m) = Passes before r × Orderly (before ++ (r ∷ [])) m

-- Rows in order stay so with one row more that passes behind them.
orderly-snoc : (before m : List Row) (r : Row) → Orderly before m → Passes (before ++ m) r → Orderly before (m ++ (r ∷ []))
orderly-snoc before [] r o e = (rw append-nil at e, tt)
orderly-snoc before (x ∷ m) r o e = (o.0, orderly-snoc (before ++ (x ∷ [])) m r o.1 (rw append_snoc e))

-- Sound rows are in order.
sound_orderly : {P : ℕ} {m : List Row} → Sound P m → Orderly [] m
sound_orderly sound.none = tt
sound_orderly (sound.next {rows} {r} s w q) = orderly-snoc [] rows r (sound_orderly s) q

-- Each row passes the questions from 12 on behind the rows before it, and is in its turn among the rows of both files.
abbrev pub Ordered : List Row → List Row → List Row → Type 0
Ordered both before [] = Unit {0}
Ordered both before (r ∷ m) = (Passes before r × (out_of_turn both before r ≡ false)) × Ordered both (before ++ (r ∷ [])) m

-- Rows whose messages are in order and that are in their turn.
ordered_both : (both before m : List Row) → Orderly before m → ((k : ℕ) → k < length m → out_of_turn both (before ++ take k m) (row_at m k) ≡ false) →
    Ordered both before m
ordered_both both before [] o f = tt
ordered_both both before (r ∷ m) o f = (
  (o.0, rw append-nil at (f 0 (omega arith))),
  ordered_both both (before ++ (r ∷ [])) m o.1
      (λ k h. subst (λ (x : List Row). out_of_turn both x (row_at m k) ≡ false) (sym (append_snoc before r (take k m))) (f (suc k) (omega arith))),
)

-- Sound rows with a Yes to question 22 are ordered so.
pub sound_ordered : {P : ℕ} {m : List Row} → Sound P m → barrier_place m ≡ 0 → (both : List Row) → Alike both m → Ordered both [] m
sound_ordered {P} {m} s e both a =
    ordered_both both [] m (sound_orderly s)
    (λ k h. alike-out both m (take k m) (take k m) a (λ test. refl) (row_at m k) ∙ none_out m m [] ((place-yes m).0 e).0 k h)

-- What is in order behind rows is in order behind other rows that pass the same tests.
alike-ordered : (both l n m : List Row) → Alike l n → Ordered both l m → Ordered both n m
alike-ordered both l n [] a o = tt
alike-ordered both l n (r ∷ m) a o =
    ((alike-passes l n r a o.0.0, sym (alike-out both both l n (λ test. refl) a r) ∙ o.0.1), alike-ordered both (l ++ (r ∷ [])) (n ++ (r ∷ [])) m more o.1)
  where
    more : Alike (l ++ (r ∷ [])) (n ++ (r ∷ []))
    more test = any_last test l r ∙ ap (λ (b : Bool). b || test r) (a test) ∙ sym (any_last test n r)

-- Two rows behind others pass the same tests in either order.
swap_alike : (before : List Row) (x e : Row) → Alike (before ++ (x ∷ []) ++ (e ∷ [])) (before ++ (e ∷ []) ++ (x ∷ []))
swap_alike before x e test =
    both x e ∙ or_assoc (any test before) (test x) (test e) ∙ ap (λ (b : Bool). any test before || b) (or_comm (test x) (test e))
    ∙ sym (or_assoc (any test before) (test e) (test x)) ∙ sym (both e x)
  where
    both : (r s : Row) → any test (before ++ (r ∷ []) ++ (s ∷ [])) ≡ any test before || test r || test s
    both r s = any_last test (before ++ (r ∷ [])) s ∙ ap (λ (b : Bool). b || test s) (any_last test before r)

-- Two rows of two processes in order stay so where the second moves before the first, if it does not wait there.
ordered_swap : (both before m : List Row) (x e : Row) → (x.process ≡ e.process → ⊥) → waits both before e ≡ false → Ordered both before (x ∷ (e ∷ m)) →
    Ordered both before (e ∷ (x ∷ m))
ordered_swap both before m x e apart w o =
    let ready = ready-out both before e w in
    let behind = alike-ordered both _ _ m (swap_alike before x e) o.1.1 in (
      (
        passes-earlier before x e apart o.0.0 o.1.0.0 ready,
        turn-earlier both before x e apart (held_out both before e w) o.1.0.1,
      ),
      (
        (passes-later before x e apart o.0.0 o.1.0.0 ready, turn-later both before e x (λ q. apart (sym q)) o.0.1),
        behind,
      ),
    )

-- ---- Mergings in order

-- The next row of one of two files that share no process moves to the front of a merging in order, if it does not wait there.
pub to_front : (both before : List Row) {e : Row} {a b m : List Row} → Apart (e ∷ a) b → Merged (e ∷ a) b m → Ordered both before m →
    waits both before e ≡ false → (n : List Row) × Merged a b n × Ordered both before (e ∷ n)
to_front both before f (first {m} d) o w = (m, d, o)
to_front both before {e} f (second {r} d) o w =
    let apart : r.process ≡ e.process → ⊥ = λ q. f 0 0 (omega arith) (omega arith) (sym q) in
    let more =
    ready-in both (before ++ (r ∷ [])) e (ready-more before r e (ready-out both before e w))
    (goes_more both before r e apart (held_out both before e w)) in
    let t = to_front both (before ++ (r ∷ [])) (λ i j h l. f i (suc j) h (omega arith)) d o.1 more in
    (r ∷ t.0, second t.1, ordered_swap both before t.0 r e apart w (o.0, t.2))

-- A row in order does not wait.
ordered_ready : (both before : List Row) (r : Row) → Passes before r → out_of_turn both before r ≡ false → waits both before r ≡ false
ordered_ready both before r p o = ready-in both before r (passes-ready before r p) (in_turn both before r o).0

-- A merging in order is never stuck: its first row is a next row of a file and does not wait.
pub not_stuck : (both before : List Row) {a b m : List Row} → Merged a b m → Ordered both before m → 0 < length a + length b →
    NextWaits both before a → NextWaits both before b → ⊥
not_stuck both before none o h v w = omega arith
not_stuck both before (first {r} d) o h v w = false≢true (sym (ordered_ready both before r o.0.0 o.0.1) ∙ v)
not_stuck both before (second {r} d) o h v w = false≢true (sym (ordered_ready both before r o.0.0 o.0.1) ∙ w)
