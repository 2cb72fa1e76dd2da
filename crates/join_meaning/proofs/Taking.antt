-- What an accepted join is: a merging of both files whose rows are taken one after the other, each where it does not wait and passes its questions.
use Rattle.std.proofs.Common.{ℕ, zero, suc, ◌+◌, ◌≤◌, ◌<◌, arith, ◌≡◌, refl, sym, ap, subst, ◌∙◌, Bool, true, false, cond, List, [], ◌∷◌, ◌++◌, append-nil, length, take, length-append, ltb-true, eqb-true}
use lib.Seq.{append_snoc}
use lib.Dec.{eqb}
use Rattle.rows.specs.declared.row.Row.{Row}
use Rattle.rows.specs.Rows.{row_at}
use Rattle.rows.specs.Questions.{Question, first_no}
use Rattle.rows.specs.Refusals.{ROW_LIMIT, BARRIER_ORDER}
use Rattle.rows.proofs.Asking.{none-appended}
use Rattle.messages.specs.Questions.{message_questions}
use Rattle.barriers.specs.Barriers.{barrier_place}
use Rattle.trace.specs.Questions.{in_row_limit}
use Rattle.trace.proofs.Laws.{WellFormed, Sound}
use Rattle.trace.proofs.Laws as sound
use Rattle.join_meaning.specs.Files.{Entry, rows_of}
use Rattle.join_meaning.specs.Joining.{waits, Turn, over, stuck, turn_of, Joining, refused, joined, taken_questions, on_turn, join_from, ask_joined, join_rows, join_entries}
use Rattle.join_meaning.specs.Joining as turn
use Rattle.join_meaning.specs.Merging.{Merged, none, first, second, AllowedMerging}
use Rattle.join_meaning.proofs.Merging.{rows_append, rows-length, merged_rows, merged_every}

-- ---- What comes next

-- The next row of a file waits, if there is one.
abbrev pub NextWaits : List Row → List Row → List Row → Type 0
NextWaits both taken [] = Unit {0}
NextWaits both taken (r ∷ a) = waits both taken r ≡ true

-- What the turns mean: nothing is left; every next row waits; or the turn takes a next entry whose row does not wait, of the second file only
-- where the first is at its end or its next row waits.
pub data Next (both taken : List Row) : List Entry → List Entry → Turn → Type 0 where
  at-end : Next both taken [] [] over
  all-wait : (a b : List Entry) → 0 < length (rows_of a) + length (rows_of b) → NextWaits both taken (rows_of a) → NextWaits both taken (rows_of b) →
      Next both taken a b stuck
  from_first : {e : Entry} {a b : List Entry} → waits both taken e.row ≡ false → Next both taken (e ∷ a) b (turn.take e a b)
  from_second : {e : Entry} {a b : List Entry} → NextWaits both taken (rows_of a) → waits both taken e.row ≡ false → Next both taken a (e ∷ b) (turn.take e a b)

-- What the next turn is.
pub next-turn : (both taken : List Row) (a b : List Entry) → Next both taken a b (turn_of both taken a b)
unfolding turn_of rows_of
next-turn both taken [] [] = at-end
next-turn both taken [] (f ∷ b) = go (waits both taken f.row) refl
  where
    go : (x : Bool) → waits both taken f.row ≡ x → Next both taken [] (f ∷ b) (cond x stuck (turn.take f [] b))
    go true w = all-wait [] (f ∷ b) (omega arith) tt w
    go false w = from_second {a = []} tt w
next-turn both taken (e ∷ a) [] = go (waits both taken e.row) refl
  where
    go : (x : Bool) → waits both taken e.row ≡ x → Next both taken (e ∷ a) [] (cond x stuck (turn.take e a []))
    go true w = all-wait (e ∷ a) [] (omega arith) w tt
    go false w = from_first w
next-turn both taken (e ∷ a) (f ∷ b) = go (waits both taken e.row) refl (waits both taken f.row) refl
  where
    go : (x : Bool) → waits both taken e.row ≡ x → (y : Bool) → waits both taken f.row ≡ y →
        Next both taken (e ∷ a) (f ∷ b) (cond x (cond y stuck (turn.take f (e ∷ a) b)) (turn.take e a (f ∷ b)))
    go true w true v = all-wait (e ∷ a) (f ∷ b) (omega arith) w v
    go true w false v = from_second {a = e ∷ a} w v
    go false w y v = from_first w

-- A turn that takes an entry takes one whose row does not wait.
pub taken-ready : (both taken : List Row) (a b : List Entry) {e : Entry} {c d : List Entry} → turn_of both taken a b ≡ turn.take e c d →
    waits both taken e.row ≡ false
taken-ready both taken a b {e} q = ready (next-turn both taken a b) q
  where
    row-of : turn.Turn → Row
    row-of over = e.row
    row-of stuck = e.row
    row-of (turn.take x c d) = x.row

    ready : {t : Turn} {a b c d : List Entry} → Next both taken a b t → t ≡ turn.take e c d → waits both taken e.row ≡ false
    ready at-end q = let z : ◌≡◌ {A = ℕ} 0 1 = cc in absurd (omega arith)
    ready (all-wait a b n v w) q = let z : ◌≡◌ {A = ℕ} 0 1 = cc in absurd (omega arith)
    ready (from_first {e = x} w) q = subst (λ (r : Row). waits both taken r ≡ false) (ap row-of q) w
    ready (from_second {e = x} v w) q = subst (λ (r : Row). waits both taken r ≡ false) (ap row-of q) w

-- ---- Rows that are taken one after the other

-- A row is taken behind the rows taken so far: it does not wait, there is room for it, and its message is in order.
record Taken (R : ℕ) (both before : List Row) (r : Row) : Type 0 where
  ready : waits both before r ≡ false
  room : length before < R
  asked : first_no (message_questions before r) ≡ 0

-- Rows are taken one after the other behind the rows before.
abbrev InTurn : ℕ → List Row → List Row → List Row → Type 0
InTurn R both before [] = Unit {0}
InTurn R both before (r ∷ m) = Taken R both before r × InTurn R both (before ++ (r ∷ [])) m

-- Behind the entries taken so far, a join takes the rest of both files in some order and ends with all entries.
record Rest (R : ℕ) (both : List Row) (taken a b es : List Entry) : Type 0 where
  rest : List Entry
  all : es ≡ taken ++ rest
  merges : Merged a b rest
  in_turn : InTurn R both (rows_of taken) (rows_of rest)

-- ---- From the definition

-- A refused join is not joined.
not_joined : {number place file : ℕ} {es : List Entry} → refused number place file ≡ joined es → ⊥
not_joined e = let z : ◌≡◌ {A = ℕ} 0 1 = cc in absurd (omega arith)

-- A row without a No to 6 and the questions from 12 on has room, and its message is in order.
no_no : (R : ℕ) (before : List Row) (r : Row) → first_no (taken_questions R before r) ≡ 0 → (length before < R) × (first_no (message_questions before r) ≡ 0)
unfolding taken_questions
no_no R before r e =
    let limit : Question = record { number = ROW_LIMIT; yes = in_row_limit R (length before) } in
    let s = none-appended (limit ∷ []) (message_questions before r) (omega arith) e in
    (ltb-true _ _ s.0.0, s.1)

-- A turn that takes an entry of an accepted join: the row passes its questions, and the join of what is left is accepted.
on-take : (R : ℕ) (taken : List Entry) (e : Entry) (a b es : List Entry) (on : List Entry → List Entry → List Entry → Joining) →
    on_turn R taken (turn.take e a b) on ≡ joined es →
    (first_no (taken_questions R (rows_of taken) e.row) ≡ 0) × (on (taken ++ (e ∷ [])) a b ≡ joined es)
unfolding on_turn
on-take R taken e a b es on q = go (eqb no 0) refl q
  where
    no : ℕ
    no = first_no (taken_questions R (rows_of taken) e.row)

    go : (x : Bool) → eqb no 0 ≡ x → cond x (on (taken ++ (e ∷ [])) a b) (refused no (length taken + 1) 0) ≡ joined es →
        (no ≡ 0) × (on (taken ++ (e ∷ [])) a b ≡ joined es)
    go true p j = (eqb-true no 0 p, j)
    go false p j = absurd (not_joined j)

-- Rows taken behind one more entry are taken behind its row.
behind-one : (R : ℕ) (both : List Row) (taken : List Entry) (e : Entry) (m : List Row) → waits both (rows_of taken) e.row ≡ false →
    first_no (taken_questions R (rows_of taken) e.row) ≡ 0 → InTurn R both (rows_of (taken ++ (e ∷ []))) m → InTurn R both (rows_of taken) (e.row ∷ m)
unfolding rows_of
behind-one R both taken e m ready q t =
    let n = no_no R (rows_of taken) e.row q in
    (record { ready = ready; room = n.0; asked = n.1 }, subst (λ (l : List Row). InTurn R both l m) (rows_append taken (e ∷ [])) t)

-- One turn of an accepted join, with what comes behind the entry that the turn takes.
rest-turn : (k R : ℕ) (both : List Row) (taken es : List Entry) (on : List Entry → List Entry → List Entry → Joining) {a b : List Entry} {t : Turn} →
    Next both (rows_of taken) a b t → length a + length b < suc k → on_turn R taken t on ≡ joined es →
    ((e : Entry) (c d : List Entry) → length c + length d < k → on (taken ++ (e ∷ [])) c d ≡ joined es → Rest R both (taken ++ (e ∷ [])) c d es) →
    Rest R both taken a b es
unfolding on_turn rows_of
rest-turn k R both taken es on at-end h q behind =
    let same : taken ≡ es = cc in
    record { rest = []; all = sym same ∙ sym (append-nil taken); merges = none; in_turn = tt }
rest-turn k R both taken es on (all-wait a b n v w) h q behind = absurd (not_joined q)
rest-turn k R both taken es on (from_first {e} {a} {b} ready) h q behind =
    let t = on-take R taken e a b es on q in
    let n = behind e a b (omega arith) t.1 in
    record {
      rest = e ∷ n.rest;
      all = n.all ∙ append_snoc taken e n.rest;
      merges = first n.merges;
      in_turn = behind-one R both taken e (rows_of n.rest) ready t.0 n.in_turn;
    }
rest-turn k R both taken es on (from_second {e} {a} {b} w ready) h q behind =
    let t = on-take R taken e a b es on q in
    let n = behind e a b (omega arith) t.1 in
    record {
      rest = e ∷ n.rest;
      all = n.all ∙ append_snoc taken e n.rest;
      merges = second n.merges;
      in_turn = behind-one R both taken e (rows_of n.rest) ready t.0 n.in_turn;
    }

-- An accepted join behind the entries taken so far took the rest of both files.
join-rest : (k R : ℕ) (both : List Row) (taken a b es : List Entry) → length a + length b < k → join_from k R both taken a b ≡ joined es → Rest R both taken a b es
unfolding join_from
join-rest zero R both taken a b es h q = absurd (omega arith)
join-rest (suc k) R both taken a b es h q =
    rest-turn k R both taken es (λ t c d. join_from k R both t c d) (next-turn both (rows_of taken) a b) h q
    (λ e c d l j. join-rest k R both (taken ++ (e ∷ [])) c d es l j)

-- A join that takes all entries is a merging of both files.
pub join-rows : (R : ℕ) (a b es : List Entry) → join_rows R a b ≡ joined es → Merged a b es
join-rows R a b es q =
    let r = join-rest (suc (length a + length b)) R (rows_of a ++ rows_of b) [] a b es (omega arith) q in subst (Merged a b) (sym r.all) r.merges

-- A join that is accepted took all entries and has a Yes to 22.
asked-out : (o : Joining) {es : List Entry} → ask_joined o ≡ joined es → (o ≡ joined es) × (barrier_place (rows_of es) ≡ 0)
unfolding ask_joined
asked-out (refused number place file) e = absurd (not_joined e)
asked-out (joined l) {es} e = go (eqb (barrier_place (rows_of l)) 0) refl e
  where
    go : (x : Bool) → eqb (barrier_place (rows_of l)) 0 ≡ x → cond x (joined l) (refused BARRIER_ORDER (barrier_place (rows_of l)) 0) ≡ joined es →
        (joined l ≡ joined es) × (barrier_place (rows_of es) ≡ 0)
    go true q f = let same : l ≡ es = cc in (f, ap (λ (t : List Entry). barrier_place (rows_of t)) (sym same) ∙ eqb-true _ _ q)
    go false q f = absurd (not_joined f)

-- An accepted join of two files took all their entries.
join-all : (R : ℕ) (a b es : List Entry) → join_entries R a b ≡ joined es → Merged a b es × InTurn R (rows_of a ++ rows_of b) [] (rows_of es)
unfolding rows_of
join-all R a b es q =
    let r = join-rest (suc (length a + length b)) R (rows_of a ++ rows_of b) [] a b es (omega arith) (asked-out (join_rows R a b) q).0 in
    (subst (Merged a b) (sym r.all) r.merges, subst (λ (l : List Entry). InTurn R (rows_of a ++ rows_of b) [] (rows_of l)) (sym r.all) r.in_turn)

-- ---- Rows in turn

-- A row in turn does not wait behind the rows before it.
turn-ready : (R : ℕ) (both before m : List Row) → InTurn R both before m → (k : ℕ) → k < length m → waits both (before ++ take k m) (row_at m k) ≡ false
turn-ready R both before [] t k h = absurd (omega arith)
turn-ready R both before (r ∷ m) t zero h = rw append-nil t.0.ready
turn-ready R both before (r ∷ m) t (suc k) h =
    subst (λ (l : List Row). waits both l (row_at m k) ≡ false) (append_snoc before r (take k m))
    (turn-ready R both (before ++ (r ∷ [])) m t.1 k (omega arith))

-- Well-formed rows in turn behind sound rows are sound.
turn-sound : (R P : ℕ) (both before m : List Row) → InTurn R both before m → ((k : ℕ) → k < length m → WellFormed P (row_at m k)) → Sound P before →
    Sound P (before ++ m)
turn-sound R P both before [] t w s = rw append-nil s
turn-sound R P both before (r ∷ m) t w s =
    subst (Sound P) (append_snoc before r m)
    (turn-sound R P both (before ++ (r ∷ [])) m t.1 (λ k h. w (suc k) (omega arith)) (sound.next s (w 0 (omega arith)) t.0.asked))

-- Rows in turn keep the row limit.
turn-few : (R : ℕ) (both before m : List Row) → InTurn R both before m → length before ≤ R → length before + length m ≤ R
turn-few R both before [] t h = omega arith
turn-few R both before (r ∷ m) t h =
    let l : length before < R = t.0.room in
    let q = length-append before (r ∷ []) in
    let n = turn-few R both (before ++ (r ∷ [])) m t.1 (omega arith) in
    omega arith

-- ---- The laws of an accepted join

module _ (R : ℕ) (a b es : List Entry) (q : join_entries R a b ≡ joined es) where
  -- An accepted join is a merging of both files.
  pub join-merged : Merged a b es
  join-merged = (join-all R a b es q).0

  -- The rows of an accepted join are an allowed merging of the files' rows.
  pub join-allowed : AllowedMerging (rows_of a) (rows_of b) (rows_of es)
  join-allowed = record { merges = merged_rows join-merged; in_order = turn-ready R (rows_of a ++ rows_of b) [] (rows_of es) (join-all R a b es q).1 }

  -- The rows of an accepted join have a Yes to question 22.
  pub join-barriers : barrier_place (rows_of es) ≡ 0
  join-barriers = (asked-out (join_rows R a b) q).1

  -- Where every row of both files is well formed, the rows of the join are sound, and there are at most as many as the row limit.
  pub join-sound : (P : ℕ) → ((k : ℕ) → k < length (rows_of a) → WellFormed P (row_at (rows_of a) k)) →
      ((k : ℕ) → k < length (rows_of b) → WellFormed P (row_at (rows_of b) k)) → Sound P (rows_of es) × (length es ≤ R)
  join-sound P f g =
      let t = (join-all R a b es q).1 in
      let n = turn-few R (rows_of a ++ rows_of b) [] (rows_of es) t (omega arith) in
      (turn-sound R P (rows_of a ++ rows_of b) [] (rows_of es) t (merged_every (WellFormed P) (merged_rows join-merged) f g) sound.none, omega (arith, rows-length es))
