-- The chooser's turn by the table is the turn of the two files' entries.
use Rattle.std.proofs.Common.{ℕ, suc, ◌+◌, ◌-◌, ◌≤◌, arith, ◌≡◌, refl, sym, ap, subst, ◌∙◌, ◌⊎◌, inl, inr, Bool, true, false, not, List, [], ◌∷◌, length, take, drop}
use lib.Dec.{eqb}
use Rattle.rows.specs.declared.row.Row.{Row}
use Rattle.rows.specs.Limits.{PROCESSES}
use Rattle.trace.proofs.Laws.{WellFormed}
use Rattle.join_meaning.specs.Files.{Entry, rows_of}
use Rattle.join_meaning.specs.Joining.{waits, turn_of}
use Rattle.join_meaning.specs.Joining as turn
use Rattle.join.specs.Choosing.{Next}
use Rattle.join.specs.Choosing.{Choice}
use Rattle.join.specs.Choosing.{Turn}
use Rattle.join.specs.Choosing.{Over, Stuck, Take}
use Rattle.join.specs.Choosing.{FIRST, SECOND, no_next, next_in, stepped, choice_in, turn_by, part_named}
use Rattle.join.proofs.Choices.{turn-first, turn-second, stuck-first, stuck-second, turn-over}
use Rattle.join.proofs.Taking.{choice_of}
use Rattle.join.proofs.Standing.{Stands, First, stands-first, stands-none, Told, ready-told, ready-none}

module _ (P : ℕ) (first second : List ℕ) (both : List Row) (done : List Entry) (a b : Next) (xs ys : List Entry) where
  -- A record is taken: its entry and what is left of both files; its part, read by itself, has its row; each file then stands behind it.
  pub record Taken (c : Choice) : Type 0 where
    pub entry : Entry
    pub in_first : List Entry
    pub in_second : List Entry
    pub is-turn : turn_of both (rows_of done) xs ys ≡ turn.take entry in_first in_second
    pub is-choice : c ≡ choice_of entry
    pub taken-from : ((xs ≡ entry ∷ in_first) × (ys ≡ in_second)) ⊎ ((xs ≡ in_first) × (ys ≡ entry ∷ in_second))
    pub well-formed : WellFormed P entry.row
    pub read-alone : (next_in P (part_named first second c) 0).row ≡ entry.row
    pub fewer : length xs + length ys ≡ suc (length in_first + length in_second)
    pub stands-first : Stands P FIRST first (stepped (eqb c.file FIRST) P first a) in_first
    pub stands-second : Stands P SECOND second (stepped (eqb c.file SECOND) P second b) in_second

  -- What a turn tells of the entries.
  abbrev pub TurnTells : Turn → Type 0
  TurnTells Over = turn_of both (rows_of done) xs ys ≡ turn.over
  TurnTells Stuck = turn_of both (rows_of done) xs ys ≡ turn.stuck
  TurnTells (Take c) = Taken c

-- Whether there is a next row.
some_is : {x y : Next} → x ≡ y → x.some ≡ y.some
some_is e = ap (λ (z : Next). z.some) e

module _ (P : ℕ) (first second : List ℕ) (both : List Row) (done : List Entry) (a b : Next) where
  -- What a turn tells, moved along the chooser's answer.
  turn_is : (xs ys : List Entry) {t u : Turn} → t ≡ u → TurnTells P first second both done a b xs ys t → TurnTells P first second both done a b xs ys u
  turn_is xs ys e h = subst (TurnTells P first second both done a b xs ys) e h

  -- The first file's entry is taken.
  take-first : {e : Entry} {xs ys : List Entry} → First P FIRST first a e xs → Stands P SECOND second b ys →
      turn_of both (rows_of done) (e ∷ xs) ys ≡ turn.take e xs ys → Taken P first second both done a b (e ∷ xs) ys (choice_in FIRST a)
  unfolding part_named
  take-first {e} {xs} {ys} f s q =
      let file : FIRST ≡ e.file = sym f.in_file in
      record {
        entry = e;
        in_first = xs;
        in_second = ys;
        is-turn = q;
        is-choice = λ i. record { file = file i; start = (f.is_next i).start; end = (f.is_next i).end };
        taken-from = inl (refl, refl);
        well-formed = f.well-formed;
        read-alone = ap (λ (x : Next). (next_in P (take (x.end - x.start) (drop x.start first)) 0).row) f.is_next ∙ f.read-alone;
        fewer = omega arith;
        stands-first = subst (λ (x : Next). Stands P FIRST first (next_in P first x.behind) xs) (sym f.is_next) f.rest;
        stands-second = s;
      }

  -- The second file's entry is taken.
  take_second : {e : Entry} {xs ys : List Entry} → Stands P FIRST first a xs → First P SECOND second b e ys →
      turn_of both (rows_of done) xs (e ∷ ys) ≡ turn.take e xs ys → Taken P first second both done a b xs (e ∷ ys) (choice_in SECOND b)
  unfolding part_named
  take_second {e} {xs} {ys} s f q =
      let file : SECOND ≡ e.file = sym f.in_file in
      record {
        entry = e;
        in_first = xs;
        in_second = ys;
        is-turn = q;
        is-choice = λ i. record { file = file i; start = (f.is_next i).start; end = (f.is_next i).end };
        taken-from = inr (refl, refl);
        well-formed = f.well-formed;
        read-alone = ap (λ (x : Next). (next_in P (take (x.end - x.start) (drop x.start second)) 0).row) f.is_next ∙ f.read-alone;
        fewer = omega arith;
        stands-first = s;
        stands-second = subst (λ (x : Next). Stands P SECOND second (next_in P second x.behind) ys) (sym f.is_next) f.rest;
      }

  module _ (few : P ≤ PROCESSES) {table stands arrivals : List ℕ} {processes : ℕ} (t : Told both (rows_of done) table stands arrivals processes) where
    -- The chooser's turn.
    abbrev chosen_turn : Turn
    chosen_turn = turn_by table stands arrivals processes a b

    -- Both files are at their end.
    turn-none : Stands P FIRST first a [] → Stands P SECOND second b [] → TurnTells P first second both done a b [] [] chosen_turn
    unfolding turn_of
    turn-none sa sb =
        let p = stands-none sa in
        let q = stands-none sb in
        turn_is [] [] (turn-over table stands arrivals processes a b (ready-none table stands arrivals processes p) (ready-none table stands arrivals processes q) (some_is p) (some_is q)) refl

    -- The first file is at its end.
    turn-last-second : {e : Entry} {ys : List Entry} → Stands P FIRST first a [] → Stands P SECOND second b (e ∷ ys) →
        TurnTells P first second both done a b [] (e ∷ ys) chosen_turn
    unfolding turn_of
    turn-last-second {e} {ys} sa sb = go (waits both (rows_of done) e.row) refl
      where
        f : First P SECOND second b e ys
        f = stands-first sb

        p : a ≡ no_next
        p = stands-none sa

        go : (w : Bool) → waits both (rows_of done) e.row ≡ w → TurnTells P first second both done a b [] (e ∷ ys) chosen_turn
        go true w =
            turn_is [] (e ∷ ys) (stuck-second table stands arrivals processes a b (ready-none table stands arrivals processes p) (ready-told t few f ∙ ap not w) (some_is p) (some_is f.is_next)) (rw w)
        go false w =
            turn_is [] (e ∷ ys) (turn-second table stands arrivals processes a b (ready-none table stands arrivals processes p) (ready-told t few f ∙ ap not w)) (take_second sa f (rw w))

    -- The second file is at its end.
    turn-last-first : {e : Entry} {xs : List Entry} → Stands P FIRST first a (e ∷ xs) → Stands P SECOND second b [] →
        TurnTells P first second both done a b (e ∷ xs) [] chosen_turn
    unfolding turn_of
    turn-last-first {e} {xs} sa sb = go (waits both (rows_of done) e.row) refl
      where
        f : First P FIRST first a e xs
        f = stands-first sa

        q : b ≡ no_next
        q = stands-none sb

        go : (w : Bool) → waits both (rows_of done) e.row ≡ w → TurnTells P first second both done a b (e ∷ xs) [] chosen_turn
        go true w = turn_is (e ∷ xs) [] (stuck-first table stands arrivals processes a b (ready-told t few f ∙ ap not w) (ready-none table stands arrivals processes q) (some_is f.is_next)) (rw w)
        go false w = turn_is (e ∷ xs) [] (turn-first table stands arrivals processes a b (ready-told t few f ∙ ap not w)) (take-first f sb (rw w))

    -- Both files have a next row.
    turn-both : {e g : Entry} {xs ys : List Entry} → Stands P FIRST first a (e ∷ xs) → Stands P SECOND second b (g ∷ ys) →
        TurnTells P first second both done a b (e ∷ xs) (g ∷ ys) chosen_turn
    unfolding turn_of
    turn-both {e} {g} {xs} {ys} sa sb = go (waits both (rows_of done) e.row) (waits both (rows_of done) g.row) refl refl
      where
        f : First P FIRST first a e xs
        f = stands-first sa

        h : First P SECOND second b g ys
        h = stands-first sb

        go : (v w : Bool) → waits both (rows_of done) e.row ≡ v → waits both (rows_of done) g.row ≡ w →
            TurnTells P first second both done a b (e ∷ xs) (g ∷ ys) chosen_turn
        go true true v w =
            turn_is (e ∷ xs) (g ∷ ys) (stuck-first table stands arrivals processes a b (ready-told t few f ∙ ap not v) (ready-told t few h ∙ ap not w) (some_is f.is_next)) (rw (v, w))
        go true false v w =
            turn_is (e ∷ xs) (g ∷ ys) (turn-second table stands arrivals processes a b (ready-told t few f ∙ ap not v) (ready-told t few h ∙ ap not w)) (take_second sa h (rw (v, w)))
        go false w v u = turn_is (e ∷ xs) (g ∷ ys) (turn-first table stands arrivals processes a b (ready-told t few f ∙ ap not v)) (take-first f sb (rw v))

    -- The chooser's turn tells that of the entries.
    pub turned : (xs ys : List Entry) → Stands P FIRST first a xs → Stands P SECOND second b ys →
        TurnTells P first second both done a b xs ys chosen_turn
    turned [] [] sa sb = turn-none sa sb
    turned [] (e ∷ ys) sa sb = turn-last-second sa sb
    turned (e ∷ xs) [] sa sb = turn-last-first sa sb
    turned (e ∷ xs) (g ∷ ys) sa sb = turn-both sa sb
