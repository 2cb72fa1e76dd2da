-- What the tables tell of the rows noted in them: at which barrier each process stands, how many rows a barrier has, and so which rows are out of turn.
use Rattle.std.proofs.Common.{ℕ, zero, suc, ◌+◌, ◌≤◌, ◌<◌, min, arith, ◌≡◌, refl, sym, ap, subst, ◌∙◌, Bool, true, false, cond, not, ◌&&◌, ◌||◌, List, [], ◌∷◌, ◌++◌, append-nil, length, replicate, length-set, length-append, get_or-set_same, get_or-set_other, eq-eqb, ne_eqb, eqb-true, lt-ltb, le-ltb, le-leb}
use native.Mathlib.Decide.{dec_lt, ℕ_discrete}
use mathlib.Core.Bool.{false≢true, or-false}
use lib.ListN.{get_or, set, length-replicate, get_or-append}
use lib.Seq.{get_or_at, append_snoc}
use lib.Dec.{leb, ltb, eqb}
use borrow.Author.Tests.{lt-leb, not-true}
use Rattle.rows.specs.declared.row.Row.{Row}
use Rattle.rows.specs.Kinds.{BARRIER}
use Rattle.rows.specs.Limits.{PROCESSES, MESSAGES}
use Rattle.rows.specs.Rows.{row_at, no_row}
use Rattle.rows.specs.Tests.{any, carries}
use Rattle.rows.proofs.Bools.{and_out, not_passed}
use Rattle.rows.proofs.Below.{count-below}
use Rattle.rows.proofs.Tests.{some_out, some_in, any_last, any_same}
use Rattle.rows.proofs.Zeros.{zeros}
use Rattle.barriers.specs.Barriers.{is_barrier, all_arrived, goes_on, repeats, out_of_turn, first_out, unfinished, barrier_place}
use Rattle.barriers.specs.Participants.{has_row, participants}
use Rattle.barriers.specs.Tables.{stand_of, noted_stand, one_more, noted_arrival, open_by, held_by, out_by, first_out_by, stands_after, arrivals_after, stands_of, arrivals_of, unfinished_by}
use Rattle.barriers.proofs.Codes.{arrivals_last}
use Rattle.barriers.proofs.Arrivals.{Covers, covers-next, all_more, waited_for_lem, NonePassed, none, next, rows_of_barrier, how_many, finished_told, repeats-told}

-- ---- Where each process stands

-- The barrier at which process p stands behind rows, plus one, from what it was before them.
unfoldable pub stand_from : ℕ → ℕ → List Row → ℕ
stand_from p before [] = before
stand_from p before (r ∷ rs) = stand_from p (cond (eqb r.process p) (stand_of r) before) rs

-- One row more moves its process alone.
stand_last : (p before : ℕ) (rows : List Row) (r : Row) → stand_from p before (rows ++ (r ∷ [])) ≡ cond (eqb r.process p) (stand_of r) (stand_from p before rows)
unfolding stand_from
stand_last p before [] r = refl
stand_last p before (x ∷ rows) r = stand_last p (cond (eqb x.process p) (stand_of x) before) rows r

-- The table by process tells where each process stands.
stands-told : (stands : List ℕ) (rows : List Row) (p : ℕ) → p < length stands → get_or (stands_after stands rows) p 0 ≡ stand_from p (get_or stands p 0) rows
unfolding stands_after stand_from
stands-told stands [] p h = refl
stands-told stands (r ∷ rs) p h =
    let l : p < length (noted_stand stands r) = omega (arith, length-set stands r.process (stand_of r)) in
    stands-told (noted_stand stands r) rs p l ∙ ap (λ (x : ℕ). stand_from p x rs) (go (ℕ_discrete p r.process))
  where
    go : Dec (p ≡ r.process) → get_or (set stands r.process (stand_of r)) p 0 ≡ cond (eqb r.process p) (stand_of r) (get_or stands p 0)
    go (yes e) =
        let l : r.process < length stands = omega arith in
        ap (λ (x : ℕ). get_or (set stands r.process (stand_of r)) x 0) e ∙ get_or-set_same stands r.process (stand_of r) 0 l
        ∙ sym (ap (λ (b : Bool). cond b (stand_of r) (get_or stands p 0)) (eq-eqb r.process p (sym e)))
    go (no n) =
        get_or-set_other stands r.process p (stand_of r) 0 n
        ∙ sym (ap (λ (b : Bool). cond b (stand_of r) (get_or stands p 0)) (ne_eqb r.process p (λ e. n (sym e))))

-- ---- How many rows each barrier has

-- A number up to the largest process limit, one more.
more-small : (n : ℕ) → one_more (min PROCESSES n) ≡ min PROCESSES (suc n)
more-small n = go (dec_lt (min PROCESSES n) PROCESSES)
  where
    go : Dec (min PROCESSES n < PROCESSES) → cond (ltb (min PROCESSES n) PROCESSES) (suc (min PROCESSES n)) (min PROCESSES n) ≡ min PROCESSES (suc n)
    go (yes h) = rw (lt-ltb (min PROCESSES n) PROCESSES h) (omega arith)
    go (no h) = rw (le-ltb (min PROCESSES n) PROCESSES (omega arith)) (omega arith)

-- How many rows barrier m has behind rows, from how many it had before them.
unfoldable count_from : ℕ → ℕ → List Row → ℕ
count_from m before [] = before
count_from m before (r ∷ rs) = count_from m (cond (carries BARRIER m r) (suc before) before) rs

-- That many are as many as pass the test.
count-from : (m before : ℕ) (rows : List Row) → count_from m before rows ≡ before + rows_of_barrier m rows
unfolding count_from how_many
count-from m before [] = omega arith
count-from m before (r ∷ rs) = go (carries BARRIER m r) (count-from m (suc before) rs) (count-from m before rs)
  where
    go : (b : Bool) → count_from m (suc before) rs ≡ suc before + rows_of_barrier m rs → count_from m before rs ≡ before + rows_of_barrier m rs →
        count_from m (cond b (suc before) before) rs ≡ before + cond b (suc (rows_of_barrier m rs)) (rows_of_barrier m rs)
    go true e f = omega arith
    go false e f = omega arith

-- A row noted in the table by barrier.
noted-at : (arrivals : List ℕ) (r : Row) (m n : ℕ) → m < length arrivals → get_or arrivals m 0 ≡ min PROCESSES n →
    get_or (noted_arrival arrivals r) m 0 ≡ min PROCESSES (cond (carries BARRIER m r) (suc n) n)
unfolding noted_arrival
noted-at arrivals r m n h e = go (is_barrier r) refl (ℕ_discrete m r.message)
  where
    go : (b : Bool) → is_barrier r ≡ b → Dec (m ≡ r.message) →
        get_or (cond b (set arrivals r.message (one_more (get_or arrivals r.message 0))) arrivals) m 0 ≡ min PROCESSES (cond (is_barrier r && eqb r.message m) (suc n) n)
    go false q d = rw q e
    go true q (yes s) =
        let l : r.message < length arrivals = omega arith in
        ap (λ (x : ℕ). get_or (set arrivals r.message (one_more (get_or arrivals r.message 0))) x 0) s
        ∙ get_or-set_same arrivals r.message (one_more (get_or arrivals r.message 0)) 0 l
        ∙ ap (λ (x : ℕ). one_more (get_or arrivals x 0)) (sym s) ∙ ap one_more e ∙ more-small n
        ∙ sym (rw (q, eq-eqb r.message m (sym s)))
    go true q (no s) =
        get_or-set_other arrivals r.message m (one_more (get_or arrivals r.message 0)) 0 s ∙ e ∙ sym (rw (q, ne_eqb r.message m (λ t. s (sym t))))

-- Noting a row keeps the table's length.
noted-length : (arrivals : List ℕ) (r : Row) → length (noted_arrival arrivals r) ≡ length arrivals
unfolding noted_arrival
noted-length arrivals r = go (is_barrier r)
  where
    go : (b : Bool) → length (cond b (set arrivals r.message (one_more (get_or arrivals r.message 0))) arrivals) ≡ length arrivals
    go true = length-set arrivals r.message _
    go false = refl

-- The table by barrier tells how many rows each barrier has.
arrivals_told : (arrivals : List ℕ) (rows : List Row) (m n : ℕ) → m < length arrivals → get_or arrivals m 0 ≡ min PROCESSES n →
    get_or (arrivals_after arrivals rows) m 0 ≡ min PROCESSES (count_from m n rows)
unfolding arrivals_after count_from
arrivals_told arrivals [] m n h e = e
arrivals_told arrivals (r ∷ rs) m n h e =
    let l : m < length (noted_arrival arrivals r) = omega (arith, noted-length arrivals r) in
    arrivals_told (noted_arrival arrivals r) rs m (cond (carries BARRIER m r) (suc n) n) l (noted-at arrivals r m n h e)

-- So does the table of rows from 0.
pub arrivals_many : (rows : List Row) (m : ℕ) → m < MESSAGES → get_or (arrivals_of rows) m 0 ≡ min PROCESSES (rows_of_barrier m rows)
arrivals_many rows m h =
    let l : m < length (replicate {A = ℕ} MESSAGES 0) = omega (arith, length-replicate {A = ℕ} MESSAGES 0) in
    let z : get_or (replicate MESSAGES 0) m 0 ≡ min PROCESSES 0 = zeros MESSAGES m ∙ omega arith in
    let s : count_from m 0 rows ≡ rows_of_barrier m rows = omega (arith, count-from m 0 rows) in
    arrivals_told (replicate MESSAGES 0) rows m 0 l z ∙ ap (min PROCESSES) s

-- ---- Which rows go on early

-- The rows of the processes that stand so are held back: not all have arrived at the barrier that a number names, plus one.
abbrev open_for : List Row → List Row → ℕ → Bool
open_for all later zero = false
open_for all later (suc m) = not (all_arrived m all later)

-- The number of a barrier at which a process stands, plus one, is at most how many numbers there are.
stand_small : (p before : ℕ) (rows : List Row) → before ≤ MESSAGES → stand_from p before rows ≤ MESSAGES
unfolding stand_from
stand_small p before [] h = h
stand_small p before (r ∷ rs) h = stand_small p (cond (eqb r.process p) (cond (is_barrier r && ltb r.message MESSAGES) (suc r.message) 0) before) rs (go (eqb r.process p) (is_barrier r) (dec_lt r.message MESSAGES))
  where
    go : (b c : Bool) → Dec (r.message < MESSAGES) → cond b (cond (c && ltb r.message MESSAGES) (suc r.message) 0) before ≤ MESSAGES
    go false c d = h
    go true false d = omega arith
    go true true (yes l) = rw (lt-ltb r.message MESSAGES l) (omega arith)
    go true true (no l) = rw (le-ltb r.message MESSAGES (omega arith)) (omega arith)

-- The row behind others is the last.
row_last : (rows : List Row) (r : Row) → row_at (rows ++ (r ∷ [])) (length rows) ≡ r
row_last rows r = get_or_at rows r [] no_row (length rows) refl

-- A row of the process p is of a barrier at which not all have arrived by later rows.
abbrev open_row : List Row → List Row → ℕ → Row → Bool
open_row all later p s = eqb s.process p && (is_barrier s && not (all_arrived s.message all later))

-- Where no row of a process went on early, each barrier of its rows before its last is finished.
none_open : (all later rows : List Row) (r : Row) → Covers rows later → goes_on all rows r ≡ false → any (open_row all later r.process) rows ≡ false
none_open all later rows r c g =
    not_passed _
    (λ e. let t = some_out (open_row all later r.process) rows e in
    let a = and_out (eqb (row_at rows t.0).process r.process) _ t.2 in
    let b = and_out (is_barrier (row_at rows t.0)) _ a.1 in
    let f = waited_for_lem all rows r g t.0 t.1 (eqb-true _ _ a.0) (eqb-true _ _ b.0) in
    false≢true (sym (not-true _ b.1) ∙ all_more (row_at rows t.0).message all rows later c f))

-- Every row's message is a barrier's number or less than one.
abbrev pub Numbered : List Row → Type 0
Numbered rows = (k : ℕ) → k < length rows → (row_at rows k).message < MESSAGES

-- As long as none goes on early, the barrier at which a process stands decides whether it goes on early.
last-decides : (all later : List Row) {taken : List Row} → NonePassed all taken → Numbered taken → Covers taken later → (p : ℕ) →
    any (open_row all later p) taken ≡ open_for all later (stand_from p 0 taken)
unfolding any stand_from
last-decides all later none few c p = refl
last-decides all later (next {rows} r n low has g) few c p =
    any_last (open_row all later p) rows r ∙ go (eqb r.process p) refl (last-decides all later n before within p)
    ∙ ap (open_for all later) (sym (stand_last p 0 rows r))
  where
    before : Numbered rows
    before k h = subst (λ (x : Row). x.message < MESSAGES) (get_or-append rows (r ∷ []) no_row k h) (few k (simp length-append (omega arith)))

    here : r.message < MESSAGES
    here = subst (λ (x : Row). x.message < MESSAGES) (row_last rows r) (few (length rows) (simp length-append (omega arith)))

    within : Covers rows later
    within m q e = c m q (covers-next rows r m q e)

    at : (b : Bool) → (b && not (all_arrived r.message all later)) ≡ open_for all later (cond (b && true) (suc r.message) 0)
    at true = refl
    at false = refl

    go : (b : Bool) → eqb r.process p ≡ b → any (open_row all later p) rows ≡ open_for all later (stand_from p 0 rows) →
        (any (open_row all later p) rows || (b && (is_barrier r && not (all_arrived r.message all later)))) ≡ open_for all later (cond b (stand_of r) (stand_from p 0 rows))
    go false q ih = rw ih (or-false _)
    go true q ih =
        let e = eqb-true r.process p q in
        let shut : any (open_row all later p) rows ≡ false = subst (λ (x : ℕ). any (open_row all later x) rows ≡ false) e (none_open all later rows r within g) in
        rw (shut, lt-ltb r.message MESSAGES here) (at (is_barrier r))

module _ (all : List Row) (few : (k : ℕ) → k < length all → (row_at all k).process < PROCESSES) {taken : List Row} (n : NonePassed all taken)
    (numbered : Numbered taken) where
  -- The table by barrier tells where all have arrived.
  open_told : (m : ℕ) → m < MESSAGES → ltb (get_or (arrivals_of taken) m 0) (participants all) ≡ not (all_arrived m all taken)
  open_told m h =
      let most = count-below PROCESSES (λ p. has_row p all) in
      rw (arrivals_many taken m h, finished_told few n m) (go (dec_lt (rows_of_barrier m taken) (participants all)) most)
    where
      go : Dec (rows_of_barrier m taken < participants all) → participants all ≤ PROCESSES →
          ltb (min PROCESSES (rows_of_barrier m taken)) (participants all) ≡ not (leb (participants all) (rows_of_barrier m taken))
      go (yes l) most = rw (lt-ltb (min PROCESSES (rows_of_barrier m taken)) (participants all) (omega arith), lt-leb (participants all) (rows_of_barrier m taken) l)
      go (no l) most =
          rw (le-ltb (min PROCESSES (rows_of_barrier m taken)) (participants all) (omega arith), le-leb (participants all) (rows_of_barrier m taken) (omega arith))

  -- So does the barrier at which a process stands.
  stand_told : (s : ℕ) → s ≤ MESSAGES → open_by (arrivals_of taken) (participants all) s ≡ open_for all taken s
  stand_told zero h = refl
  stand_told (suc m) h = open_told m (omega arith)

  -- The tables tell which rows go on early.
  pub held-told : (r : Row) → r.process < PROCESSES → held_by (stands_of taken) (arrivals_of taken) (participants all) r ≡ goes_on all taken r
  unfolding held_by goes_on
  held-told r low =
      let l : r.process < length (replicate {A = ℕ} PROCESSES 0) = omega (arith, length-replicate {A = ℕ} PROCESSES 0) in
      let s : get_or (stands_of taken) r.process 0 ≡ stand_from r.process 0 taken =
      stands-told (replicate PROCESSES 0) taken r.process l ∙ ap (λ (x : ℕ). stand_from r.process x taken) (zeros PROCESSES r.process) in
      rw s (stand_told (stand_from r.process 0 taken) (stand_small r.process 0 taken (omega arith))
      ∙ sym (last-decides all taken n numbered (λ m p e. e) r.process))

  -- The table by barrier tells which barriers have all their rows.
  full_told : (m : ℕ) → m < MESSAGES → leb (participants all) (get_or (arrivals_of taken) m 0) ≡ all_arrived m all taken
  full_told m h =
      let most = count-below PROCESSES (λ p. has_row p all) in
      rw (arrivals_many taken m h, finished_told few n m) (go (dec_lt (rows_of_barrier m taken) (participants all)) most)
    where
      go : Dec (rows_of_barrier m taken < participants all) → participants all ≤ PROCESSES →
          leb (participants all) (min PROCESSES (rows_of_barrier m taken)) ≡ leb (participants all) (rows_of_barrier m taken)
      go (yes l) most = rw (lt-leb (participants all) (min PROCESSES (rows_of_barrier m taken)) (omega arith), lt-leb (participants all) (rows_of_barrier m taken) l)
      go (no l) most =
          rw (le-leb (participants all) (min PROCESSES (rows_of_barrier m taken)) (omega arith), le-leb (participants all) (rows_of_barrier m taken) (omega arith))

  -- The tables tell which rows are out of turn.
  pub out-told : (r : Row) → r.process < PROCESSES → r.message < MESSAGES → has_row r.process all ≡ true →
      out_by (stands_of taken) (arrivals_of taken) (participants all) r ≡ out_of_turn all taken r
  unfolding out_by out_of_turn
  out-told r low number has = rw (held-told r low) (go (goes_on all taken r) refl)
    where
      go : (b : Bool) → goes_on all taken r ≡ b → (b || (is_barrier r && leb (participants all) (get_or (arrivals_of taken) r.message 0))) ≡ (b || repeats taken r)
      go true e = refl
      go false e = ap (λ (x : Bool). is_barrier r && x) (full_told r.message number) ∙ sym (repeats-told all taken r has e)

-- ---- All rows

-- The table by process with one row more.
pub stands-last : (stands : List ℕ) (rows : List Row) (r : Row) → stands_after stands (rows ++ (r ∷ [])) ≡ noted_stand (stands_after stands rows) r
unfolding stands_after
stands-last stands [] r = refl
stands-last stands (x ∷ rows) r = stands-last (noted_stand stands x) rows r

-- A row in its turn does not go on early and repeats no barrier number.
pub in_turn : (all taken : List Row) (r : Row) → out_of_turn all taken r ≡ false → (goes_on all taken r ≡ false) × (repeats taken r ≡ false)
unfolding out_of_turn
in_turn all taken r e = go (goes_on all taken r) (repeats taken r) e
  where
    go : (x y : Bool) → x || y ≡ false → (x ≡ false) × (y ≡ false)
    go true y q = absurd (false≢true (sym q))
    go false y q = (refl, q)

-- Rows whose messages are in range stay so with one more.
pub numbered_next : (rows : List Row) (r : Row) → Numbered rows → r.message < MESSAGES → Numbered (rows ++ (r ∷ []))
numbered_next rows r few h k l = go (dec_lt k (length rows))
  where
    go : Dec (k < length rows) → (row_at (rows ++ (r ∷ [])) k).message < MESSAGES
    go (yes b) = subst (λ (x : Row). x.message < MESSAGES) (sym (get_or-append rows (r ∷ []) no_row k b)) (few k b)
    go (no b) =
        let e : length rows ≡ k = omega (arith, l, length-append rows (r ∷ [])) in
        subst (λ (j : ℕ). (row_at (rows ++ (r ∷ [])) j).message < MESSAGES) e (subst (λ (x : Row). x.message < MESSAGES) (sym (row_last rows r)) h)

-- A row of the trace whose process and message are in range.
pub record Fit (all : List Row) (r : Row) : Type 0 where
  pub low : r.process < PROCESSES
  pub number : r.message < MESSAGES
  pub has : has_row r.process all ≡ true

-- Each row is so.
abbrev pub Fits : List Row → List Row → Type 0
Fits all rows = (k : ℕ) → k < length rows → Fit all (row_at rows k)

-- Each row's process and message are in range.
abbrev pub Bounded : List Row → Type 0
Bounded rows = (k : ℕ) → k < length rows → ((row_at rows k).process < PROCESSES) × ((row_at rows k).message < MESSAGES)

-- The rows of a trace are rows of the trace.
pub own-fits : (all : List Row) → Bounded all → Fits all all
own-fits all b k h =
    record {
      low = (b k h).0;
      number = (b k h).1;
      has = some_in (λ r. eqb r.process (row_at all k).process) all k h (eq-eqb (row_at all k).process _ refl);
    }

module _ (all : List Row) (few : (k : ℕ) → k < length all → (row_at all k).process < PROCESSES) where
  -- The tables tell the first row out of turn.
  pub first-told : (rest : List Row) {taken : List Row} → NonePassed all taken → Numbered taken → Fits all rest →
      first_out all taken rest ≡ first_out_by (stands_of taken) (arrivals_of taken) (participants all) (length taken) rest
  unfolding first_out first_out_by
  first-told [] n numbered f = refl
  first-told (r ∷ rest) {taken} n numbered f = go (out_of_turn all taken r) refl (λ t m q g. first-told rest {taken = t} m q g)
    where
      o : Fit all r
      o = f 0 (omega arith)

      by : out_by (stands_of taken) (arrivals_of taken) (participants all) r ≡ out_of_turn all taken r
      by = out-told all few n numbered r o.low o.number o.has

      go : (b : Bool) → out_of_turn all taken r ≡ b →
          ((t : List Row) → NonePassed all t → Numbered t → Fits all rest →
          first_out all t rest ≡ first_out_by (stands_of t) (arrivals_of t) (participants all) (length t) rest) →
          cond b (suc (length taken)) (first_out all (taken ++ (r ∷ [])) rest)
          ≡ cond (out_by (stands_of taken) (arrivals_of taken) (participants all) r) (suc (length taken))
          (first_out_by (noted_stand (stands_of taken) r) (noted_arrival (arrivals_of taken) r) (participants all) (suc (length taken)) rest)
      go true e ih = rw (by ∙ e)
      go false e ih =
          let many : length (taken ++ (r ∷ [])) ≡ suc (length taken) = length-append taken (r ∷ []) ∙ omega arith in
          rw (by ∙ e)
          (ih (taken ++ (r ∷ [])) (next r n o.low o.has (in_turn all taken r e).0) (numbered_next taken r numbered o.number) (λ k h. f (suc k) (omega arith))
          ∙ (λ i. first_out_by (stands-last (replicate PROCESSES 0) taken r i) (arrivals_last (replicate MESSAGES 0) taken r i) (participants all) (many i) rest))

  -- Where no row is out of turn, none goes on early.
  pub none_passed : (rest : List Row) {taken : List Row} → NonePassed all taken → Fits all rest → first_out all taken rest ≡ 0 → NonePassed all (taken ++ rest)
  unfolding first_out
  none_passed [] {taken} n f e = rw append-nil n
  none_passed (r ∷ rest) {taken} n f e = go (out_of_turn all taken r) refl e (λ t m g z. none_passed rest {taken = t} m g z)
    where
      o : Fit all r
      o = f 0 (omega arith)

      go : (b : Bool) → out_of_turn all taken r ≡ b → cond b (suc (length taken)) (first_out all (taken ++ (r ∷ [])) rest) ≡ 0 →
          ((t : List Row) → NonePassed all t → Fits all rest → first_out all t rest ≡ 0 → NonePassed all (t ++ rest)) → NonePassed all (taken ++ (r ∷ rest))
      go true q z ih = absurd (omega arith)
      go false q z ih =
          subst (NonePassed all) (append_snoc taken r rest)
          (ih (taken ++ (r ∷ [])) (next r n o.low o.has (in_turn all taken r q).0) (λ k h. f (suc k) (omega arith)) z)

-- Where no row is out of turn, the table by barrier tells which barriers are unfinished.
pub unfinished-told : (all : List Row) → Bounded all → NonePassed all all → any (unfinished_by (arrivals_of all) (participants all)) all ≡ unfinished all
unfolding unfinished
unfinished-told all b n =
    any_same _ _ all
    (λ k h. ap (λ (x : Bool). is_barrier (row_at all k) && x)
    (open_told all (λ i l. (b i l).0) n (λ i l. (b i l).1) (row_at all k).message (b k h).1))

-- Question 22 by the tables.
pub place-told : (all : List Row) → Bounded all → (out : ℕ) → out ≡ first_out_by (replicate PROCESSES 0) (replicate MESSAGES 0) (participants all) 0 all →
    barrier_place all ≡ cond (eqb out 0) (cond (any (unfinished_by (arrivals_of all) (participants all)) all) (length all) 0) out
unfolding barrier_place stands_after arrivals_after
place-told all b out e = go (eqb out 0) refl
  where
    numbered : Numbered []
    numbered k h = absurd (omega arith)

    same : first_out all [] all ≡ out
    same = first-told all (λ k h. (b k h).0) all none numbered (own-fits all b) ∙ sym e

    go : (x : Bool) → eqb out 0 ≡ x →
        cond (eqb (first_out all [] all) 0) (cond (unfinished all) (length all) 0) (first_out all [] all)
        ≡ cond x (cond (any (unfinished_by (arrivals_of all) (participants all)) all) (length all) 0) out
    go true q =
        let z = none_passed all (λ k h. (b k h).0) all none (own-fits all b) (same ∙ eqb-true out 0 q) in
        rw (same, q, unfinished-told all b z)
    go false q = rw (same, q)
