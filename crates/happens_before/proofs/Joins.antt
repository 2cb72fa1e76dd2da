-- The last row of a process, the rows that belong together with a row, and a row's counts joined from those of other rows.
use Rattle.std.proofs.Common.{ℕ, zero, suc, ◌+◌, ◌*◌, ◌-◌, ◌≤◌, ◌<◌, max, add-zero, arith, ◌≡◌, refl, sym, ap, ap₂, ◌∙◌, ◌⊎◌, inl, inr, Bool, true, false, cond, ◌&&◌, ◌||◌, List, ◌++◌, length, take, drop, length-set, get_or-drop, get_or-set_same, get_or-set_other, drop-set-lt, eq-eqb, ne_eqb, eqb-true}
use native.Mathlib.Nat.{max-zero, zero-max, max-le, sub-add-eq-max}
use native.Mathlib.Decide.{ℕ_discrete}
use mathlib.Core.Bool.{and-false, or-true, or-false, false≢true}
use lib.ListN.{get_or, set}
use lib.Seq.{take-set-le}
use lib.Dec.{eqb}
use Rattle.rows.specs.Kinds.{SEND, ARRIVAL, BARRIER}
use Rattle.rows.specs.Rows.{row_here, row_in}
use Rattle.rows.specs.Counting.{values, last_below}
use Rattle.happens_before.specs.Order.{delivers, same_barrier, last_of, last_before, passes, crosses}
use Rattle.happens_before.specs.Clock.{from_last, joined_to, alike, pairs, cell_in, with_counts, joined_row, joined_last, joined_pairs, joined_sends, joined_barrier, with_own, filled_row}
use Rattle.happens_before.proofs.Cells.{put, values_same, put_same, put-at, put-before, put-behind, put_next, put-over}
use Rattle.rows.specs.Limits.{ROWS}
use Rattle.rows.proofs.Bools.{and_out, or_out}
use Rattle.rows.proofs.Below.{last-most, last-again, last-passes}
use Rattle.rows.proofs.Products.{block_before}
use Rattle.happens_before.specs.Tables.{chain_of, in_chain, last_chained}

-- ---- Rows of a slice

module _ (xs : List ℕ) (k : ℕ) where
  -- The process of row k is its first number.
  pub process-in : (row_in xs k).process ≡ get_or xs (k * 6) 0
  unfolding row_here
  process-in = get_or-drop (k * 6) xs 0 0 ∙ ap (λ (i : ℕ). get_or xs i 0) (add-zero (k * 6))

  -- The kind of row k is its second number.
  pub kind-in : (row_in xs k).kind ≡ get_or xs (k * 6 + 1) 0
  unfolding row_here
  kind-in = get_or-drop (k * 6) xs 1 0

  -- The message of row k is its last number.
  pub message-in : (row_in xs k).message ≡ get_or xs (k * 6 + 5) 0
  unfolding row_here
  message-in = get_or-drop (k * 6) xs 5 0

-- The last row of a process lies below the bound.
pub last-low : (f : ℕ → ℕ) (q n : ℕ) → last_of f q n ≤ n
unfolding last_of
last-low f q n = last-most n (λ i. eqb (f i) q)

module _ (one other : ℕ) (xs : List ℕ) (k t : ℕ) where
  -- A first row of another kind.
  pub first-other : (get_or xs (k * 6 + 1) 0 ≡ one → ⊥) → false ≡ alike one other (row_in xs k) (row_in xs t)
  first-other e = rw (kind-in xs k, ne_eqb (get_or xs (k * 6 + 1) 0) one e)

  -- A second row of another kind.
  pub second-other : (get_or xs (t * 6 + 1) 0 ≡ other → ⊥) → false ≡ alike one other (row_in xs k) (row_in xs t)
  second-other e = rw (kind-in xs t, ne_eqb (get_or xs (t * 6 + 1) 0) other e) (sym (and-false (eqb (row_in xs k).kind one)))

  -- Of two rows of these kinds, the numbers decide.
  pub by_message : get_or xs (k * 6 + 1) 0 ≡ one → get_or xs (t * 6 + 1) 0 ≡ other →
      eqb (get_or xs (k * 6 + 5) 0) (get_or xs (t * 6 + 5) 0) ≡ alike one other (row_in xs k) (row_in xs t)
  by_message s r =
      rw (
        kind-in xs k,
        eq-eqb (get_or xs (k * 6 + 1) 0) one s,
        kind-in xs t,
        eq-eqb (get_or xs (t * 6 + 1) 0) other r,
        message-in xs k,
        message-in xs t,
      )

-- ---- Values joined with those of the rows that lead to a row

-- Tests, values and starts that agree join to the same value.
pub joined_same : (s t : ℕ → Bool) {f g : ℕ → ℕ} {a b : ℕ} (n : ℕ) → ((k : ℕ) → k < n → s k ≡ t k) → ((k : ℕ) → k < n → f k ≡ g k) → a ≡ b →
    joined_to s f a n ≡ joined_to t g b n
unfolding joined_to
joined_same s t zero h e q = q
joined_same s t (suc n) h e q =
    let ih = joined_same s t n (λ k l. h k (omega arith)) (λ k l. e k (omega arith)) q in
    λ i. cond (h n (omega arith) i) (max (ih i) (e n (omega arith) i)) (ih i)

module _ (leads : ℕ → Bool) where
  -- Where no row leads there, the start stays.
  joined-none : (f : ℕ → ℕ) (s n : ℕ) → ((k : ℕ) → leads k ≡ false) → joined_to leads f s n ≡ s
  unfolding joined_to
  joined-none f s zero e = refl
  joined-none f s (suc n) e = rw (e n) (joined-none f s n e)

  -- Values up to a bound join to a value up to that bound.
  joined-low : {f : ℕ → ℕ} {s b : ℕ} (n : ℕ) → ((k : ℕ) → k < n → f k ≤ b) → s ≤ b → joined_to leads f s n ≤ b
  unfolding joined_to
  joined-low zero e q = q
  joined-low {f} {s} {b} (suc n) e q = go (leads n) (joined-low n (λ k h. e k (omega arith)) q) (e n (omega arith))
    where
      go : (t : Bool) → joined_to leads f s n ≤ b → f n ≤ b → cond t (max (joined_to leads f s n) (f n)) (joined_to leads f s n) ≤ b
      go true h g = max-le h g
      go false h g = h

-- A last row's value is up to the bound of all values.
from_low : {f : ℕ → ℕ} {b n : ℕ} (m : ℕ) → m ≤ n → ((k : ℕ) → k < n → f k ≤ b) → from_last f m ≤ b
from_low zero h e = omega arith
from_low (suc m) h e = e m (omega arith)

-- ---- One row joined

-- Functions that agree put the same row.
with_same : (P : ℕ) (l : List ℕ) (j : ℕ) {f g : ℕ → ℕ} → ((p : ℕ) → p < P → f p ≡ g p) → with_counts P l j f ≡ with_counts P l j g
with_same P l j e = λ i. take (j * P) l ++ (values_same P e i ++ drop (j * P + P) l)

module _ (P : ℕ) (l : List ℕ) (j : ℕ) (fits : j * P + P ≤ length l) where
  -- Putting row j keeps the rows before row j.
  pub row_kept : (f : ℕ → ℕ) {k p : ℕ} → k < j → p < P → cell_in P (with_counts P l j f) k p ≡ cell_in P l k p
  row_kept f {k} {p} h g = put-before (j * P) P l f fits (k * P + p) (omega (arith, block_before P h))

  -- Storing the next joined count puts one count more.
  pub join-next : {x : List ℕ} {k p r : ℕ} → k < j → p < P → x ≡ put (j * P) p l (joined_row P l j k) → r ≡ joined_row P x j k p →
      set x (j * P + p) r ≡ put (j * P) (p + 1) l (joined_row P l j k)
  join-next {x} {k} {p} {r} h g e q =
      let f = joined_row P l j k in
      let m : j * P + p ≤ length l = omega arith in
      let v : r ≡ f p =
      q ∙ ap (λ (y : List ℕ). joined_row P y j k p) e
      ∙ ap₂ max (put-behind (j * P) p l f m) (put-before (j * P) p l f m (k * P + p) (omega (arith, block_before P h))) in
      (λ i. set (e i) (j * P + p) (v i)) ∙ put_next (j * P) p l f m (omega arith)

  -- Where there is no last row, the slice stays.
  pub last_none : {last : ℕ} → last ≤ 0 → l ≡ with_counts P l j (joined_last P l j last)
  last_none {last} h = let e : last ≡ 0 = omega arith in put_same (j * P) P l fits (λ p g. rw e (sym (max-zero (cell_in P l j p))))

  -- Adding 1 to its process's count counts row j itself.
  pub own_in : {q : ℕ} → q < P → set l (j * P + q) (cell_in P l j q + 1) ≡ with_counts P l j (with_own q (λ p. cell_in P l j p))
  own_in {q} h =
      let v = cell_in P l j q + 1 in
      let f = with_own q (λ p. cell_in P l j p) in
      let m : j * P + P ≤ length (set l (j * P + q) v) = omega (arith, length-set l (j * P + q) v) in
      put_same (j * P) P (set l (j * P + q) v) m {f = f} (λ p g. go p (ℕ_discrete p q))
      ∙ (λ i. take-set-le (j * P) l (j * P + q) v (omega arith) i ++ (values P f ++ drop-set-lt (j * P + P) l (j * P + q) v (omega arith) i))
    where
      go : (p : ℕ) → Dec (p ≡ q) → get_or (set l (j * P + q) (cell_in P l j q + 1)) (j * P + p) 0 ≡ with_own q (λ i. cell_in P l j i) p
      go p (yes e) = rw (e, eq-eqb q q refl) (get_or-set_same l (j * P + q) (cell_in P l j q + 1) 0 (omega arith))
      go p (no n) =
          get_or-set_other l (j * P + q) (j * P + p) (cell_in P l j q + 1) 0 (λ e. n (omega arith))
          ∙ sym (rw (ne_eqb q p (λ e. n (sym e))) (add-zero (cell_in P l j p)))

-- ---- Rows joined one after the other

-- Of three numbers the larger two join in either order.
max_swap : (a b c : ℕ) → max (max a b) c ≡ max (max a c) b
max_swap a b c =
    let swap : a - b + b - c + c ≡ a - c + c - b + b = omega arith in
    sym (λ i. sub-add-eq-max (sub-add-eq-max a b i) c i) ∙ swap ∙ (λ i. sub-add-eq-max (sub-add-eq-max a c i) b i)

module _ (leads : ℕ → Bool) (f : ℕ → ℕ) where
  -- What is joined with the start is joined with the whole.
  joined-start : (a b n : ℕ) → joined_to leads f (max a b) n ≡ max (joined_to leads f a n) b
  unfolding joined_to
  joined-start a b zero = refl
  joined-start a b (suc n) = go (leads n) (joined-start a b n)
    where
      go : (t : Bool) → joined_to leads f (max a b) n ≡ max (joined_to leads f a n) b →
          cond t (max (joined_to leads f (max a b) n) (f n)) (joined_to leads f (max a b) n)
          ≡ max (cond t (max (joined_to leads f a n) (f n)) (joined_to leads f a n)) b
      go true rest = ap (λ (x : ℕ). max x (f n)) rest ∙ max_swap (joined_to leads f a n) b (f n)
      go false rest = rest

  -- The rows below n that lead there are those up to the last that passes a test that each of them passes.
  joined-skip : (test : ℕ → Bool) → ((k : ℕ) → leads k ≡ true → test k ≡ true) → (a n : ℕ) →
      joined_to leads f a n ≡ joined_to leads f a (last_below n test)
  unfolding joined_to last_below
  joined-skip test h a zero = refl
  joined-skip test h a (suc n) = go (test n) refl (leads n) refl (joined-skip test h a n)
    where
      go : (t : Bool) → test n ≡ t → (s : Bool) → leads n ≡ s → joined_to leads f a n ≡ joined_to leads f a (last_below n test) →
          joined_to leads f a (suc n) ≡ joined_to leads f a (cond t (suc n) (last_below n test))
      go true e s d rest = refl
      go false e true d rest = absurd (false≢true (sym e ∙ h n d))
      go false e false d rest = rw d rest

-- Joining the rows that pass one test and then those that pass another joins the rows that pass either.
joined-either : (s t : ℕ → Bool) (f : ℕ → ℕ) (a n : ℕ) → joined_to t f (joined_to s f a n) n ≡ joined_to (λ k. s k || t k) f a n
unfolding joined_to
joined-either s t f a zero = refl
joined-either s t f a (suc n) = go (s n) (t n) (joined-either s t f a n)
  where
    S : ℕ
    S = joined_to s f a n

    E : ℕ
    E = joined_to (λ k. s k || t k) f a n

    -- Row n joined first is joined with the whole.
    first : joined_to t f S n ≡ E → joined_to t f (max S (f n)) n ≡ max E (f n)
    first rest = joined-start t f S (f n) n ∙ ap (λ (x : ℕ). max x (f n)) rest

    go : (b c : Bool) → joined_to t f S n ≡ E →
        cond c (max (joined_to t f (cond b (max S (f n)) S) n) (f n)) (joined_to t f (cond b (max S (f n)) S) n) ≡ cond (b || c) (max E (f n)) E
    go true true rest = ap (λ (x : ℕ). max x (f n)) (first rest) ∙ omega arith
    go true false rest = first rest
    go false true rest = ap (λ (x : ℕ). max x (f n)) rest
    go false false rest = rest

-- ---- The rows joined that belong together with a row

-- Every row that belongs together with row t is in the chain of row t's number.
paired_chain : (xs : List ℕ) (t k : ℕ) → pairs (row_in xs k) (row_in xs t) ≡ true → in_chain xs (chain_of (row_in xs t).message) k ≡ true
paired_chain xs t k d = go (or_out (delivers (row_in xs k) (row_in xs t)) (same_barrier (row_in xs k) (row_in xs t)) d)
  where
    -- Two rows with one number have one chain.
    one : (kind : ℕ) → eqb (row_in xs t).kind kind && eqb (row_in xs k).message (row_in xs t).message ≡ true →
        eqb (chain_of (row_in xs k).message) (chain_of (row_in xs t).message) ≡ true
    one kind e =
        let m = eqb-true (row_in xs k).message (row_in xs t).message (and_out (eqb (row_in xs t).kind kind) _ e).1 in
        eq-eqb (chain_of (row_in xs k).message) (chain_of (row_in xs t).message) (ap chain_of m)

    go : (delivers (row_in xs k) (row_in xs t) ≡ true) ⊎ (same_barrier (row_in xs k) (row_in xs t) ≡ true) →
        in_chain xs (chain_of (row_in xs t).message) k ≡ true
    go (inl e) = let a = and_out (eqb (row_in xs k).kind SEND) _ e in rw a.0 (one ARRIVAL a.1)
    go (inr e) =
        let a = and_out (eqb (row_in xs k).kind BARRIER) _ e in
        rw (a.0, or-true (eqb (row_in xs k).kind SEND)) (one BARRIER a.1)

-- The rows that belong together with row t are joined from the last to the first: `next` is 0 or names a row of the chain, row j's counts joined
-- with those of such rows below `next` are those of all such rows below row j, and nothing but row j's counts has changed.
pub record Joining (P : ℕ) (xs l : List ℕ) (t j : ℕ) (x : List ℕ) (next : ℕ) : Type 0 where
  pub low : next ≤ j
  pub linked : last_chained xs (chain_of (row_in xs t).message) next ≡ next
  pub size : length x ≡ length l
  pub others : x ≡ with_counts P l j (cell_in P x j)
  pub left : (p : ℕ) → p < P →
      joined_to (λ i. pairs (row_in xs i) (row_in xs t)) (λ i. cell_in P l i p) (cell_in P x j p) next ≡ joined_pairs P xs l j t p

module _ (P : ℕ) (xs l : List ℕ) (t j : ℕ) (fits : j * P + P ≤ length l) where
  -- Row i belongs together with row t.
  abbrev paired : ℕ → Bool
  paired i = pairs (row_in xs i) (row_in xs t)

  -- The last row of row t's chain below a row.
  abbrev previous : ℕ → ℕ
  previous = last_chained xs (chain_of (row_in xs t).message)

  -- Row j's counts joined with those of the rows below n are those joined with the rows up to the chain's last row below n.
  skipped : (p a n : ℕ) → joined_to paired (λ i. cell_in P l i p) a n ≡ joined_to paired (λ i. cell_in P l i p) a (previous n)
  skipped p a n = joined-skip paired (λ i. cell_in P l i p) (in_chain xs (chain_of (row_in xs t).message)) (paired_chain xs t) a n

  -- The chain's last row below row j comes first.
  pub pairs_first : {next : ℕ} → next ≡ previous j → Joining P xs l t j l next
  pairs_first e =
      record {
        low = rw e (last-most j _);
        linked = rw e (last-again j _);
        size = refl;
        others = put_same (j * P) P l fits (λ p h. refl);
        left = λ p h. rw e (sym (skipped p (cell_in P l j p) j));
      }

  -- Where no row is left, all are joined.
  pub pairs-done : {x : List ℕ} {next : ℕ} → Joining P xs l t j x next → next ≤ 0 → x ≡ with_counts P l j (joined_pairs P xs l j t)
  unfolding joined_to
  pairs-done {x} {next} g h =
      let z : next ≡ 0 = omega arith in
      g.others ∙ with_same P l j (λ p m. ap (joined_to paired (λ i. cell_in P l i p) (cell_in P x j p)) (sym z) ∙ g.left p m)

  module _ {x : List ℕ} {next k : ℕ} (g : Joining P xs l t j x next) (here : next ≡ suc k) where
    -- The row that comes next is in the chain.
    pub next-chained : in_chain xs (chain_of (row_in xs t).message) k ≡ true
    next-chained = last-passes k _ (rw here at g.linked)

    -- The row that comes next stands before row j.
    before : k < j
    before = omega (arith, g.low)

    -- The counts that are left to join are those of the row that comes next, if it belongs together with row t, and of those before it.
    split : (p : ℕ) → p < P →
        cond (paired k) (joined_to paired (λ i. cell_in P l i p) (max (cell_in P x j p) (cell_in P l k p)) k) (joined_to paired (λ i. cell_in P l i p) (cell_in P x j p) k)
        ≡ joined_pairs P xs l j t p
    unfolding joined_to
    split p h =
        ap (λ (v : ℕ). cond (paired k) v (joined_to paired (λ i. cell_in P l i p) (cell_in P x j p) k)) (joined-start paired (λ i. cell_in P l i p) (cell_in P x j p) (cell_in P l k p) k)
        ∙ ap (joined_to paired (λ i. cell_in P l i p) (cell_in P x j p)) (sym here) ∙ g.left p h

    module _ {b : Bool} {after : ℕ} (d : b ≡ paired k) (link : after ≡ previous k) where
      -- Where it does not belong together with row t, the chain goes on with the row before it.
      pub pairs-skip : b ≡ false → Joining P xs l t j x after
      pairs-skip q =
          record {
            low = rw link (omega (arith, last-most k (in_chain xs (chain_of (row_in xs t).message)), before));
            linked = rw link (last-again k _);
            size = g.size;
            others = g.others;
            left = λ p h. rw link (sym (skipped p (cell_in P x j p) k) ∙ rw (sym d ∙ q) at (split p h));
          }

      -- Where it does, its counts are joined, and the chain goes on with the row before it.
      pub pairs-join : {y : List ℕ} → b ≡ true → length y ≡ length x → y ≡ with_counts P x j (joined_row P x j k) → Joining P xs l t j y after
      pairs-join {y} q s f =
          record {
            low = rw link (omega (arith, last-most k (in_chain xs (chain_of (row_in xs t).message)), before));
            linked = rw link (last-again k _);
            size = s ∙ g.size;
            others =
                f ∙ (λ i. with_counts P (g.others i) j (joined_row P x j k)) ∙ put-over (j * P) P l (cell_in P x j) fits (joined_row P x j k)
                ∙ with_same P l j (λ p h. sym (cell p h));
            left = λ p h. rw (link, cell p h, kept p h) (sym (skipped p _ k) ∙ rw (sym d ∙ q) at (split p h));
          }
        where
          room : j * P + P ≤ length x
          room = omega (arith, g.size)

          -- Row j's counts after the join.
          cell : (p : ℕ) → p < P → cell_in P y j p ≡ joined_row P x j k p
          cell p h = ap (λ (w : List ℕ). cell_in P w j p) f ∙ put-at (j * P) P x (joined_row P x j k) room p h

          -- The counts of the row that was joined are as they were.
          kept : (p : ℕ) → p < P → cell_in P x k p ≡ cell_in P l k p
          kept p h = ap (λ (w : List ℕ). cell_in P w k p) g.others ∙ row_kept P l j fits (cell_in P x j) before h

-- ---- Sends and barrier rows

module _ (P : ℕ) (xs l : List ℕ) (j : ℕ) (fits : j * P + P ≤ length l) where
  -- A test that no row passes joins nothing.
  none-joined : (leads : ℕ → Bool) → ((k : ℕ) → leads k ≡ false) →
      l ≡ with_counts P l j (λ p. joined_to leads (λ k. cell_in P l k p) (cell_in P l j p) j)
  none-joined leads e = put_same (j * P) P l fits (λ p h. sym (joined-none leads _ _ j e))

  -- Where the rows that belong together with row t are those that pass a test, they are joined.
  pairs-joined : (leads : ℕ → Bool) (t : ℕ) → ((k : ℕ) → pairs (row_in xs k) (row_in xs t) ≡ leads k) →
      with_counts P l j (joined_pairs P xs l j t) ≡ with_counts P l j (λ p. joined_to leads (λ k. cell_in P l k p) (cell_in P l j p) j)
  pairs-joined leads t e = with_same P l j (λ p h. joined_same _ leads j (λ k m. e k) (λ k m. refl) refl)

  -- A row at which nothing arrives joins no send.
  pub sends_none : (get_or xs (j * 6 + 1) 0 ≡ ARRIVAL → ⊥) → l ≡ with_counts P l j (joined_sends P xs l j)
  sends_none e = none-joined _ (λ k. sym (second-other SEND ARRIVAL xs k j e))

  -- The rows that belong together with a row at which a message arrives are the sends of the message.
  pub sends-some : get_or xs (j * 6 + 1) 0 ≡ ARRIVAL → with_counts P l j (joined_pairs P xs l j j) ≡ with_counts P l j (joined_sends P xs l j)
  sends-some e =
      pairs-joined (λ k. delivers (row_in xs k) (row_in xs j)) j
      (λ k. rw (← second-other BARRIER BARRIER xs k j (λ b. omega arith)) (or-false (delivers (row_in xs k) (row_in xs j))))

  -- Where there is no last row, no barrier row is joined.
  pub barrier_none : {last : ℕ} → last ≡ 0 → l ≡ with_counts P l j (joined_barrier P xs l j last)
  unfolding passes
  barrier_none {last} z = rw z (none-joined _ (λ k. refl))

  module _ {last : ℕ} (h : 0 < last) where
    -- The last row is row `last` - 1.
    named : (k : ℕ) → passes (row_in xs) k last ≡ same_barrier (row_in xs k) (row_in xs (last - 1))
    unfolding passes
    named k = let e : last ≡ suc (last - 1) = omega arith in ap (passes (row_in xs) k) e

    -- Where the last row is of no barrier, no barrier row is joined.
    pub barrier-other : (get_or xs ((last - 1) * 6 + 1) 0 ≡ BARRIER → ⊥) → l ≡ with_counts P l j (joined_barrier P xs l j last)
    barrier-other e = none-joined _ (λ k. named k ∙ sym (second-other BARRIER BARRIER xs k (last - 1) e))

    -- The rows that belong together with a barrier row are those of its barrier.
    pub barrier-some : get_or xs ((last - 1) * 6 + 1) 0 ≡ BARRIER →
        with_counts P l j (joined_pairs P xs l j (last - 1)) ≡ with_counts P l j (joined_barrier P xs l j last)
    barrier-some e =
        pairs-joined (λ k. passes (row_in xs) k last) (last - 1)
        (λ k. rw (← second-other SEND ARRIVAL xs k (last - 1) (λ a. omega arith)) (sym (named k)))

-- ---- A row filled

-- Row j's counts from its process's last row and the rows that lead to row j.
abbrev joined : ℕ → List ℕ → List ℕ → ℕ → ℕ → ℕ
joined P xs l j p =
    joined_to (λ k. crosses (row_in xs) k j) (λ k. cell_in P l k p) (from_last (λ k. cell_in P l k p) (last_before (row_in xs) j)) j

module _ (P : ℕ) (xs l : List ℕ) (j : ℕ) (fits : j * P + P ≤ length l) where
  -- Rows that are joined into a row j that was put are joined with what was put.
  then-joined : (leads : ℕ → Bool) (f : ℕ → ℕ) {x y : List ℕ} → x ≡ with_counts P l j f →
      y ≡ with_counts P x j (λ p. joined_to leads (λ k. cell_in P x k p) (cell_in P x j p) j) →
      y ≡ with_counts P l j (λ p. joined_to leads (λ k. cell_in P l k p) (f p) j)
  then-joined leads f {x} a b =
      let g : ℕ → ℕ = λ p. joined_to leads (λ k. cell_in P x k p) (cell_in P x j p) j in
      b ∙ ap (λ (w : List ℕ). with_counts P w j g) a ∙ put-over (j * P) P l f fits g
      ∙ with_same P l j (λ p h. joined_same leads leads j (λ k m. refl)
      (λ k m. ap (λ (w : List ℕ). cell_in P w k p) a ∙ row_kept P l j fits f m h)
      (ap (λ (w : List ℕ). cell_in P w j p) a ∙ put-at (j * P) P l f fits p h))

  module _ (zeros : (p : ℕ) → p < P → cell_in P l j p ≡ 0) {x y z : List ℕ} {last : ℕ} (e : last ≡ last_before (row_in xs) j)
      (a : x ≡ with_counts P l j (joined_last P l j last)) (b : y ≡ with_counts P x j (joined_sends P xs x j))
      (c : z ≡ with_counts P y j (joined_barrier P xs y j last)) where
    -- Row j holds its counts, before the row itself is counted.
    row-joined : z ≡ with_counts P l j (joined P xs l j)
    unfolding crosses
    row-joined =
        let sent : ℕ → Bool = λ k. delivers (row_in xs k) (row_in xs j) in
        let passed : ℕ → Bool = λ k. passes (row_in xs) k last in
        then-joined passed _ (then-joined sent (joined_last P l j last) a b) c
        ∙ with_same P l j (λ p h. joined-either sent passed (λ k. cell_in P l k p) (joined_last P l j last p) j
        ∙ (λ i. joined_to (λ k. sent k || passes (row_in xs) k (e i)) (λ k. cell_in P l k p) (max (zeros p h i) (from_last (λ k. cell_in P l k p) (e i))) j)
        ∙ ap (λ (s : ℕ). joined_to (λ k. crosses (row_in xs) k j) (λ k. cell_in P l k p) s j) (zero-max _))

    -- Row j's counts are at most the largest row limit, if those of the rows before are.
    pub joined-most : ((k : ℕ) → (p : ℕ) → k < j → p < P → cell_in P l k p ≤ ROWS) → (p : ℕ) → p < P → cell_in P z j p ≤ ROWS
    joined-most low p h =
        rw (ap (λ (w : List ℕ). cell_in P w j p) row-joined ∙ put-at (j * P) P l (joined P xs l j) fits p h)
        (joined-low _ j (λ k m. low k p m h) (from_low _ (last-low _ (row_in xs j).process j) (λ k m. low k p m h)))

    -- With row j itself counted, row j is filled.
    pub row-filled : {w : List ℕ} → w ≡ with_counts P z j (with_own (get_or xs (j * 6) 0) (λ p. cell_in P z j p)) → w ≡ with_counts P l j (filled_row P xs l j)
    unfolding filled_row
    row-filled f =
        let g = with_own (get_or xs (j * 6) 0) (λ p. cell_in P z j p) in
        f ∙ ap (λ (w : List ℕ). with_counts P w j g) row-joined ∙ put-over (j * P) P l (joined P xs l j) fits g
        ∙ rw (← process-in xs j) (with_same P l j (λ p h. ap (λ (n : ℕ). n + cond (eqb (row_in xs j).process p) 1 0)
        (ap (λ (w : List ℕ). cell_in P w j p) row-joined ∙ put-at (j * P) P l (joined P xs l j) fits p h)))
