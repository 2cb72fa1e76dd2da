-- A machine's state as two maps: a row changes the published map and one view.
use Rattle.std.proofs.Common.{ℕ, zero, suc, ◌+◌, ◌*◌, ◌-◌, ◌≤◌, ◌<◌, add-one, zero-mul, arith, ◌≡◌, refl, sym, ap, ◌∙◌, inr, Bool, true, false, cond, not, ◌&&◌, List, length, take, drop, length-drop, ext_get_or, get_or-drop, le-leb, eq-eqb, ne_eqb, eqb-true}
use native.Mathlib.Decide.{dec_lt}
use mathlib.Core.Bool.{and-true, false≢true}
use lib.Dec.{leb, ltb, eqb}
use borrow.Author.Tests.{eqb-false}
use Rattle.rows.specs.Limits.{FILES}
use Rattle.rows.specs.Kinds.{WRITE}
use Rattle.models.specs.Table.{publishes, refreshes}
use Rattle.rows.specs.declared.row.Row.{Row}
use Rattle.extents_meaning.specs.Cells.{Bytes, cell_of, overwrite, published, as_published, refreshed}
use Rattle.extents_meaning.specs.Runs.{runs_of}
use Rattle.extents_meaning.specs.Maps.{map_for, lawful, lawful_published, map_at, with_map}
use Rattle.machine_meaning.specs.Layers.{Layers, with_view, publishing, refreshing, after_row}
use Rattle.machine_meaning.specs.States.{Header, maps_length, lawful_state, layers_in, layers_to, layers_fit, lawful_plain}
use Rattle.rows.specs.Counting.{all_below}
use Rattle.rows.specs.Questions.{is_process_limit}
use Rattle.machine_meaning.specs.Steps.{making_questions, plain_making_questions}
use Rattle.rows.proofs.Asking.{AllYes}
use Rattle.machine_meaning.proofs.Slices.{all_in, all-out}
use Rattle.machine_meaning.proofs.Lawful.{to_is, here-fit, state_told, state_parts, map_below, map_in, shared-again, view-again}
use Rattle.extents_meaning.proofs.Trips.{length-map}
use Rattle.rows.proofs.Bools.{and_out, not_passed}
use Rattle.extents_meaning.proofs.Sides.{with_length, with_other, at_same, at_other}
use Rattle.extents_meaning.specs.Pairs.{two_maps}
use Rattle.extents.specs.Entries.{both_maps}

-- ---- Numbers below a bound

-- All of no numbers pass.
pub all_none : (test : ℕ → Bool) → all_below 0 test ≡ true
unfolding all_below
all_none test = refl

-- If all numbers below n pass, and n passes, all below n + 1 pass.
pub all_more : (n : ℕ) (test : ℕ → Bool) → all_below n test ≡ true → test n ≡ true → all_below (n + 1) test ≡ true
unfolding all_below
all_more n test a t = ap (λ (k : ℕ). all_below k test) (add-one n) ∙ (λ i. a i && t i)

-- If one number does not pass, not all pass.
pub all-not : (n : ℕ) (test : ℕ → Bool) (p : ℕ) → p < n → test p ≡ false → all_below n test ≡ false
all-not n test p l t = not_passed (all_below n test) (λ e. false≢true (sym t ∙ all-out n test e p l))

-- If all other numbers pass, one number decides.
all_one : (n p : ℕ) (test : ℕ → Bool) → p < n → ((q : ℕ) → (q ≡ p → ⊥) → q < n → test q ≡ true) → all_below n test ≡ test p
unfolding all_below
all_one zero p test l h = absurd (omega arith)
all_one (suc n) p test l h = go (dec_lt p n) (all_one n p test)
  where
    go : Dec (p < n) → (p < n → ((q : ℕ) → (q ≡ p → ⊥) → q < n → test q ≡ true) → all_below n test ≡ test p) → all_below n test && test n ≡ test p
    go (yes k) ih =
        (λ i. ih k (λ q a b. h q a (omega arith)) i && h n (λ e. omega arith) (omega arith) i) ∙ and-true (test p)
    go (no k) ih =
        let e : n ≡ p = omega arith in
        λ i. all_in n test (λ q b. h q (λ z. omega arith) (omega arith)) i && test (e i)

-- ---- Maps of a slice

-- The first map is the front of the slice.
pub first-map : (space : ℕ) (xs : List ℕ) → map_at space 0 xs ≡ take (4 * space) xs
first-map space xs = λ i. take (4 * space) (drop (zero-mul (4 * space) i) xs)

-- Replacing map k keeps the numbers past it.
drop_with : (space k : ℕ) (m xs : List ℕ) → length m ≡ 4 * space → (k + 1) * (4 * space) ≤ length xs → (n : ℕ) → (k + 1) * (4 * space) ≤ n →
    drop n (with_map space k m xs) ≡ drop n xs
drop_with space k m xs size fit n h =
    let ys = with_map space k m xs in
    ext_get_or 0 (drop n ys) (drop n xs)
    (length-drop n ys ∙ ap (λ (l : ℕ). l - n) (with_length space k m xs size fit) ∙ sym (length-drop n xs))
    (λ i _. get_or-drop n ys i 0 ∙ with_other space k m xs size fit (n + i) (inr (omega (arith, h))) ∙ sym (get_or-drop n xs i 0))

-- ---- A lawful state

module _ (h : Header) (xs : List ℕ) where
  -- A lawful state passes the making questions.
  pub state_making : lawful_state h xs ≡ true → AllYes (making_questions h (length xs))
  unfolding making_questions
  state_making law = let k = state_told h xs law in (k.3, (λ i. k.0 i && k.1 i, (k.2, tt)))

  -- A lawful plain file passes the making questions, and its map is a lawful published map.
  pub plain-making : lawful_plain h xs ≡ true → AllYes (plain_making_questions h (length xs)) × (lawful_published (map_at h.space 0 xs) ≡ true)
  unfolding lawful_plain plain_making_questions
  plain-making law =
      let e1 = and_out (is_process_limit h.processes) _ law in
      let e2 = and_out (ltb h.file FILES) _ e1.1 in
      let e3 = and_out (leb (4 * h.space) (length xs)) _ e2.1 in
      ((e3.0, (e1.0, (e2.0, tt))), e3.1)

module _ (h : Header) (xs : List ℕ) (law : lawful_state h xs ≡ true) (p : ℕ) (below : p < h.processes) where
  -- The view of a process and the published map are two maps of the slice.
  pub state_two : two_maps h.space (suc p) 0 xs ≡ true
  state_two =
      λ i.
      not (ne_eqb (suc p) 0 (omega arith) i)
      && (le-leb ((suc p + 1) * (4 * h.space)) (length xs) (map_in h xs law (suc p) below) i
      && (le-leb ((0 + 1) * (4 * h.space)) (length xs) (map_in h xs law 0 (omega arith)) i
      && ((state_parts h xs law).2 p below i && (state_parts h xs law).1 i)))

  -- The view of the process is lawful by itself.
  pub state_view : lawful (map_at h.space (suc p) xs) ≡ true
  state_view = (state_parts h xs law).2 p below

  -- The view of the process lies within the slice.
  pub state_in : (suc p + 1) * (4 * h.space) ≤ length xs
  state_in = map_in h xs law (suc p) below

  -- The slice with another view of process p: its maps, and the numbers past them.
  module _ (v : Bytes) (fit : length (runs_of v) ≤ h.space) where
    -- The slice with the new view.
    abbrev viewed : List ℕ
    viewed = with_map h.space (suc p) (map_for h.space v) xs

    -- The length of the new map.
    v-size : length (map_for h.space v) ≡ 4 * h.space
    v-size = length-map h.space (runs_of v) fit

    -- The views in the new slice.
    viewed-view : (q : ℕ) → q < h.processes → map_at h.space (suc q) viewed ≡ map_for h.space (with_view p v (layers_in h xs).view q)
    viewed-view q l = go (eqb q p) refl
      where
        go : (b : Bool) → eqb q p ≡ b → map_at h.space (suc q) viewed ≡ map_for h.space (cond b v ((layers_in h xs).view q))
        go true e =
            ap (λ (k : ℕ). map_at h.space (suc k) viewed) (eqb-true q p e) ∙ at_same h.space (suc p) (map_for h.space v) xs v-size state_in
        go false e =
            let z = eqb-false q p e in
            at_other h.space (suc p) (map_for h.space v) xs v-size state_in (suc q) (λ s. z (omega arith)) ∙ sym (view-again h xs law q l)

    -- The published map in the new slice.
    viewed-shared : map_at h.space 0 viewed ≡ map_at h.space 0 xs
    viewed-shared = at_other h.space (suc p) (map_for h.space v) xs v-size state_in 0 (λ s. omega arith)

    -- The length of the new slice.
    viewed-length : length viewed ≡ length xs
    viewed-length = with_length h.space (suc p) (map_for h.space v) xs v-size state_in

    -- The new slice keeps the numbers past the maps.
    viewed-rest : drop (maps_length h) viewed ≡ drop (maps_length h) xs
    viewed-rest = drop_with h.space (suc p) (map_for h.space v) xs v-size state_in (maps_length h) (map_below h xs law (suc p) below)

  module _ (v w : Bytes) where
    -- The state with another published map and another view of p.
    abbrev pub anew : Layers
    anew = record { shared = w; view = with_view p v (layers_in h xs).view }

    -- Question 16 depends on these two maps alone: the other maps fit.
    pub fit-both : layers_fit h anew ≡ leb (length (runs_of w)) h.space && leb (length (runs_of v)) h.space
    unfolding layers_fit
    fit-both =
        let test : ℕ → Bool = λ q. leb (length (runs_of (with_view p v (layers_in h xs).view q))) h.space in
        let others : (q : ℕ) → (q ≡ p → ⊥) → q < h.processes → test q ≡ true =
        λ q a l.
        rw (ne_eqb q p a) (le-leb _ _ (here-fit h.space (suc q) xs ((state_parts h xs law).2 q l) (map_in h xs law (suc q) l))) in
        let own : test p ≡ leb (length (runs_of v)) h.space = rw (eq-eqb p p refl) in
        ap (λ (b : Bool). leb (length (runs_of w)) h.space && b) (all_one h.processes p test below others ∙ own)

    -- Encoding the new state replaces these two maps alone.
    pub to_both : length (runs_of v) ≤ h.space → length (runs_of w) ≤ h.space → layers_to h anew xs ≡ both_maps h.space (suc p) 0 xs v w
    unfolding both_maps
    to_both vf wf =
        let ys = viewed v vf in
        let m = map_for h.space w in
        let size = length-map h.space (runs_of w) wf in
        let room : (0 + 1) * (4 * h.space) ≤ length ys = omega (arith, map_in h xs law 0 (omega arith), viewed-length v vf) in
        to_is h anew xs (with_map h.space 0 m ys) (at_same h.space 0 m ys size room)
        (λ q l. at_other h.space 0 m ys size room (suc q) (λ s. omega arith) ∙ viewed-view v vf q l)
        (drop_with h.space 0 m ys size room (maps_length h) (map_below h xs law 0 (omega arith)) ∙ viewed-rest v vf)

  -- A state with another view alone keeps its published map.
  pub to_view_alone : (v : Bytes) → length (runs_of v) ≤ h.space →
      layers_to h (record { shared = (layers_in h xs).shared; view = with_view p v (layers_in h xs).view }) xs
      ≡ with_map h.space (suc p) (map_for h.space v) xs
  to_view_alone v fit =
      to_is h _ xs (viewed v fit) (viewed-shared v fit ∙ sym (shared-again h xs law)) (viewed-view v fit) (viewed-rest v fit)

-- ---- A row

-- The state t has the published bytes w and the view v of process p, and the other views of s.
abbrev Both : ℕ → Layers → Layers → Bytes → Bytes → Type 0
Both p s t w v = (t.shared ≡ w) × (t.view p ≡ v) × ((q : ℕ) → (q ≡ p → ⊥) → t.view q ≡ s.view q)

module _ (p : ℕ) (s : Layers) where
  -- The replaced view of p is the new view.
  own : (f : Bytes) (views : ℕ → Bytes) → with_view p f views p ≡ f
  own f views = rw (eq-eqb p p refl)

  -- Replacing the view of p keeps the other views.
  others : (f : Bytes) (views : ℕ → Bytes) (q : ℕ) → (q ≡ p → ⊥) → with_view p f views q ≡ views q
  others f views q a = rw (ne_eqb q p a)

  -- The two maps after a write.
  both-written : (b : Bool) (f : Bytes) →
      Both p s (cond b (record { shared = s.shared; view = with_view p f s.view }) s) s.shared (cond b f (s.view p))
  both-written true f = (refl, own f s.view, others f s.view)
  both-written false f = (refl, refl, λ q a. refl)

  -- The two maps after publishing.
  both-published : (b : Bool) (t : Layers) (w v : Bytes) → Both p s t w v →
      Both p s (cond b (publishing p t) t) (cond b (published v w) w) (cond b (as_published v) v)
  both-published true t w v k =
      ((λ i. published (k.1 i) (k.0 i)), own _ t.view ∙ ap as_published k.1, λ q a. others _ t.view q a ∙ k.2 q a)
  both-published false t w v k = k

  -- The two maps after refreshing.
  both-refreshed : (b : Bool) (t : Layers) (w v : Bytes) → Both p s t w v → Both p s (cond b (refreshing p t) t) w (cond b (refreshed v w) v)
  both-refreshed true t w v k = (k.0, own _ t.view ∙ (λ i. refreshed (k.1 i) (k.0 i)), λ q a. others _ t.view q a ∙ k.2 q a)
  both-refreshed false t w v k = k

-- What a row does, as one new view and one new published map.
module _ (model : ℕ) (r : Row) (number : ℕ) (s : Layers) where
  -- The view after the write of the row.
  abbrev wrote : Bytes
  wrote = cond (eqb r.kind WRITE) (overwrite r.offset r.length (cell_of number 1) (s.view r.process)) (s.view r.process)

  -- The view after publishing.
  abbrev pub put : Bytes
  put = cond (publishes model r.kind) (as_published wrote) wrote

  -- The published bytes after publishing.
  abbrev pub shared' : Bytes
  shared' = cond (publishes model r.kind) (published wrote s.shared) s.shared

  -- The view after refreshing.
  abbrev pub view' : Bytes
  view' = cond (refreshes model r.kind) (refreshed put shared') put

  -- A row changes the published bytes and the view of its process alone.
  pub row-both : ((after_row model r number s).shared ≡ shared')
      × ((after_row model r number s).view r.process ≡ view')
      × ((q : ℕ) → (q ≡ r.process → ⊥) → (after_row model r number s).view q ≡ s.view q)
  unfolding after_row
  row-both =
      let p = r.process in
      let a = both-written p s (eqb r.kind WRITE) (overwrite r.offset r.length (cell_of number 1) (s.view p)) in
      let b = both-published p s (publishes model r.kind) _ _ _ a in
      both-refreshed p s (refreshes model r.kind) _ shared' put b
