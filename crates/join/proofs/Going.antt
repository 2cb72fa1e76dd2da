-- The loop of the join: the outcome is that of the rest of both files behind the entries taken so far.
use Rattle.std.proofs.Common.{ℕ, suc, ◌+◌, ◌*◌, ◌<◌, ◌≤◌, arith, ◌≡◌, refl, sym, ap, subst, ◌∙◌, ◌⊎◌, inl, inr, Bool, true, false, cond, List, [], ◌∷◌, ◌++◌, length, take, drop, replicate, length-append, eq-eqb, ne_eqb, ltb-true, lt-ltb}
use lib.Dec.{eqb, ltb}
use Rattle.rows.specs.declared.row.Row.{Row}
use Rattle.rows.specs.Limits.{PROCESSES, MESSAGES}
use Rattle.rows.specs.Questions.{first_no}
use Rattle.rows.specs.declared.refusal.Refusal.{Refusal}
use Rattle.rows.specs.Refusals.{ROW_LIMIT, STUCK, number_of}
use Rattle.rows.proofs.Asking.{number-some}
use Rattle.rows.specs.Rows.{row_at, numbers, with_row}
use Rattle.rows.specs.Tests.{any}
use Rattle.rows.proofs.Bools.{or_right}
use Rattle.rows.proofs.Tests.{any_append}
use Rattle.rows.proofs.Slices.{with_room, numbers-next}
use Rattle.messages.specs.Questions.{message_questions}
use Rattle.messages.specs.Table.{table_questions, table_after}
use Rattle.messages.proofs.Tables.{Tells, tells_none, tells-asks, tells-next}
use Rattle.barriers.specs.Participants.{has_row, participants}
use Rattle.barriers.specs.Tables.{noted_stand, noted_arrival}
use Rattle.barriers.proofs.Noting.{Noted, noted-none, noted-next}
use Rattle.join_meaning.specs.Files.{Entry, rows_of, entries_of, rows_start}
use Rattle.join_meaning.specs.Joining.{waits, Joining, refused, joined, turn_of, taken_questions, on_turn, join_from, join_rows}
use Rattle.join_meaning.specs.Joining as turn
use Rattle.join_meaning.specs.Merging.{Merged}
use Rattle.join_meaning.specs.Merging as merging
use Rattle.join_meaning.proofs.Ahead.{file-ahead, file-rows, file-well_formed}
use Rattle.join_meaning.proofs.Merging.{rows_append, rows-length, merged_every}
use Rattle.join_meaning.proofs.Taking.{taken-ready}
use Rattle.join_meaning.proofs.Tests.{held_out}
use Rattle.join.specs.Answers.{Accepted, Refused}
use Rattle.join.specs.Choosing.{Next}
use Rattle.join.specs.Choosing.{Choice}
use Rattle.join.specs.Choosing.{Turn}
use Rattle.join.specs.Choosing.{Over, Stuck, Take}
use Rattle.join.specs.Choosing.{FIRST, SECOND, next_in, stepped, turn_by, part_named}
use Rattle.join.specs.Taking.{table_takes, table_taken, three, with_part, part_numbers}
use Rattle.join.specs.Leaving.{joined_of, Fits, ReadAs, Holds}
use Rattle.join.proofs.Taking.{part_room, parts_next}
use Rattle.join.proofs.Standing.{Stands, Told}
use Rattle.join.proofs.Turning.{Taken, TurnTells, turned}

-- The rows of entries with one more behind them.
rows_snoc : (es : List Entry) (e : Entry) → rows_of (es ++ (e ∷ [])) ≡ rows_of es ++ (e.row ∷ [])
unfolding rows_of
rows_snoc es e = rows_append es (e ∷ [])

-- Each entry's row is of a process that has a row.
abbrev Within : List Row → List Entry → Type 0
Within both [] = Unit {0}
Within both (e ∷ es) = (has_row e.row.process both ≡ true) × Within both es

-- The code has taken the entries `done`, and these are left of both files: the outcome o is that of the rest behind them. The slices, xs₀ and
-- ps₀ at first, hold the numbers of the rows taken and the places of their records, and the tables tell what the rows did with each message and at which barriers
-- the processes stand. Each row left is of a process of both files.
pub record Going (R P : ℕ) (first second : List ℕ) (both : List Row) (o : Joining) (xs₀ ps₀ : List ℕ) (a b : Next) (n : ℕ)
    (xs ps table stands arrivals : List ℕ) (processes : ℕ) : Type 0 where
  pub done : List Entry
  pub in_first : List Entry
  pub in_second : List Entry
  pub whole : o ≡ join_from (suc (length in_first + length in_second)) R both done in_first in_second
  pub first-stands : Stands P FIRST first a in_first
  pub second-stands : Stands P SECOND second b in_second
  pub many : n ≡ length done
  pub few : n ≤ R
  pub held : xs ≡ numbers (rows_of done) ++ drop (6 * n) xs₀
  pub placed : ps ≡ part_numbers done ++ drop (3 * n) ps₀
  pub told : Told both (rows_of done) table stands arrivals processes
  pub first-in : Within both in_first
  pub second-in : Within both in_second

-- The outcome that the code answers.
abbrev pub outcome : ℕ → ℕ → ℕ → List ℕ → List ℕ → Joining
outcome R h₁ h₂ first second = join_rows R (entries_of 1 h₁ first) (entries_of 2 h₂ second)

-- The rows of both files.
abbrev pub both_of : ℕ → ℕ → List ℕ → List ℕ → List Row
both_of h₁ h₂ first second = rows_of (entries_of 1 h₁ first) ++ rows_of (entries_of 2 h₂ second)

-- Two lists one behind the other are a merging of both.
in_line : {A : Type 0} (a b : List A) → Merged a b (a ++ b)
in_line [] [] = merging.none
in_line [] (y ∷ b) = merging.second (in_line [] b)
in_line (x ∷ a) b = merging.first (in_line a b)

-- The process of an accepted file's row is below the largest process limit.
file-few : (file header R P : ℕ) (text : List ℕ) → ReadAs header R P text → P ≤ PROCESSES → (k : ℕ) → k < length (rows_of (entries_of file header text)) →
    (row_at (rows_of (entries_of file header text)) k).process < PROCESSES
file-few file header R P text r few =
    rw (file-rows header R P text r.is_read file)
    (λ k h. let w = (file-well_formed header R P text r.is_read k h).process in omega arith)

-- Entries whose rows are among the rows of both files are of processes with rows there.
within : (both : List Row) (es : List Entry) → ((test : Row → Bool) → any test (rows_of es) ≡ true → any test both ≡ true) → Within both es
unfolding rows_of any
within both [] f = tt
within both (e ∷ es) f = (
  f (λ r. eqb r.process e.row.process) (rw (eq-eqb e.row.process e.row.process refl)),
  within both es (λ test q. f test (or_right (test e.row) _ q)),
)

-- Before the first entry.
pub begin : (R P h₁ h₂ : ℕ) (first second xs₀ ps₀ : List ℕ) → ReadAs h₁ R P first → ReadAs h₂ R P second → P ≤ PROCESSES → {processes : ℕ} →
    processes ≡ participants (both_of h₁ h₂ first second) → {a b : Next} →
    a ≡ next_in P first (rows_start h₁ first) → b ≡ next_in P second (rows_start h₂ second) →
    Going R P first second (both_of h₁ h₂ first second) (outcome R h₁ h₂ first second) xs₀ ps₀ a b 0 xs₀ ps₀ (replicate MESSAGES 0) (replicate PROCESSES 0)
    (replicate MESSAGES 0) processes
unfolding rows_of numbers part_numbers
begin R P h₁ h₂ first second xs₀ ps₀ r s most counted p q =
    record {
      done = [];
      in_first = entries_of 1 h₁ first;
      in_second = entries_of 2 h₂ second;
      whole = refl;
      first-stands = record { at = rows_start h₁ first; ahead = file-ahead h₁ R P first r.is_read 1; is_next = p };
      second-stands = record { at = rows_start h₂ second; ahead = file-ahead h₂ R P second s.is_read 2; is_next = q };
      many = refl;
      few = omega arith;
      held = refl;
      placed = refl;
      told =
          record {
            messages_told = tells_none;
            barriers_told =
                noted-none (both_of h₁ h₂ first second) counted
                (merged_every (λ (x : Row). x.process < PROCESSES) (in_line (rows_of (entries_of 1 h₁ first)) (rows_of (entries_of 2 h₂ second)))
                (file-few 1 h₁ R P first r most) (file-few 2 h₂ R P second s most));
          };
      first-in = within _ (entries_of 1 h₁ first) (λ test e. any_append test (rows_of (entries_of 1 h₁ first)) _ ∙ rw e);
      second-in = within _ (entries_of 2 h₂ second) (λ test e. any_append test (rows_of (entries_of 1 h₁ first)) _ ∙ or_right (any test (rows_of (entries_of 1 h₁ first))) _ e);
    }

-- Slices of the same lengths fit as well.
pub fits_kept : {R P x y x' y' : ℕ} → Fits R P x y → x' ≡ x → y' ≡ y → Fits R P x' y'
fits_kept {R} {P} f e h =
    record { few-rows = f.few-rows; few-processes = f.few-processes; rows_have_room = rw e f.rows_have_room; parts_fit = rw h f.parts_fit }

-- What join_records answers and holds where the outcome is a refusal.
pub refusal : {o : Joining} {k p f : ℕ} (xs xs' ps ps' : List ℕ) → o ≡ refused k p f → (Refused k p f ≡ joined_of o) × Holds o xs xs' ps ps'
refusal xs xs' ps ps' e = (sym (ap joined_of e), rw e tt)

module _ {R P : ℕ} {first second : List ℕ} {both : List Row} {o : Joining} {xs₀ ps₀ : List ℕ} {a b : Next} {n : ℕ} {xs ps table stands arrivals : List ℕ}
    {processes : ℕ} (g : Going R P first second both o xs₀ ps₀ a b n xs ps table stands arrivals processes) (most : P ≤ PROCESSES) where
  -- The outcome by the turn of the entries.
  on-turn : (t : turn.Turn) → turn_of both (rows_of g.done) g.in_first g.in_second ≡ t →
      o ≡ on_turn R g.done t (λ taken c d. join_from (length g.in_first + length g.in_second) R both taken c d)
  unfolding join_from
  on-turn t e =
      g.whole
      ∙ ap (λ (u : turn.Turn). on_turn R g.done u (λ taken c d. join_from (length g.in_first + length g.in_second) R both taken c d)) e

  -- What the chooser's answer tells.
  tells : {t : Turn} → turn_by table stands arrivals processes a b ≡ t → TurnTells P first second both g.done a b g.in_first g.in_second t
  tells e =
      subst (TurnTells P first second both g.done a b g.in_first g.in_second) e
      (turned P first second both g.done a b most g.told g.in_first g.in_second g.first-stands g.second-stands)

  -- Where the join is over, it is accepted, and the slices hold its rows and places.
  pub over : {t : Turn} → t ≡ turn_by table stands arrivals processes a b → t ≡ Over → (Accepted n ≡ joined_of o) × Holds o xs₀ xs ps₀ ps
  unfolding on_turn
  over e q =
      let f : o ≡ joined g.done = on-turn turn.over (tells (sym e ∙ q)) in
      let many = g.many in
      let six : 6 * n ≡ 6 * length g.done = omega arith in
      let three : 3 * n ≡ 3 * length g.done = omega arith in (
        ap Accepted many ∙ sym (ap joined_of f),
        rw f (
          g.held ∙ ap (λ (k : ℕ). numbers (rows_of g.done) ++ drop k xs₀) six,
          g.placed ∙ ap (λ (k : ℕ). part_numbers g.done ++ drop k ps₀) three,
        ),
      )

  -- Where the join is stuck, it gets 20.
  pub stuck : {t : Turn} → t ≡ turn_by table stands arrivals processes a b → t ≡ Stuck → o ≡ refused STUCK 0 0
  unfolding on_turn
  stuck e q = on-turn turn.stuck (tells (sym e ∙ q))

  -- A record is taken.
  module _ {t : Turn} {c : Choice} (e : t ≡ turn_by table stands arrivals processes a b) (q : t ≡ Take c) {part : List ℕ} (p : part ≡ part_named first second c) {row : Row}
      (r : row ≡ (next_in P part 0).row) {no : ℕ} {after : List ℕ}
      (k : (no ≡ first_no (table_takes R n table row)) × (after ≡ table_taken R n table row)) where
    -- Its entry and what is left.
    chosen : Taken P first second both g.done a b g.in_first g.in_second c
    chosen = tells (sym e ∙ q)

    -- The row read from the part is the entry's.
    row_is : row ≡ chosen.entry.row
    row_is = r ∙ ap (λ (l : List ℕ). (next_in P l 0).row) p ∙ chosen.read-alone

    -- The row's process and message are within the table's bounds.
    fits : (row.process < PROCESSES) × (row.message < MESSAGES)
    fits =
        let w = chosen.well-formed in
        subst (λ (s : Row). (s.process < PROCESSES) × (s.message < MESSAGES)) (sym row_is) (omega (arith, w.process), w.message)

    -- The table answers as the rows taken.
    asked : no ≡ first_no (taken_questions R (rows_of g.done) chosen.entry.row)
    unfolding table_takes taken_questions first_no
    asked =
        let many : n ≡ length (rows_of g.done) = g.many ∙ sym (rows-length g.done) in
        k.0 ∙ (λ i. cond (ltb (many i) R) (tells-asks g.told.messages_told row fits.0 fits.1 i) ROW_LIMIT)
        ∙ ap (λ (s : Row). first_no (taken_questions R (rows_of g.done) s)) row_is

    -- The outcome by the row's first No.
    on_row : (x : Bool) → eqb no 0 ≡ x →
        o ≡ cond x (join_from (length g.in_first + length g.in_second) R both (g.done ++ (chosen.entry ∷ [])) chosen.in_first chosen.in_second)
        (refused no (length g.done + 1) 0)
    unfolding on_turn
    on_row x y =
        on-turn (turn.take chosen.entry chosen.in_first chosen.in_second) chosen.is-turn
        ∙ ap (λ (m : ℕ). cond (eqb m 0)
        (join_from (length g.in_first + length g.in_second) R both (g.done ++ (chosen.entry ∷ [])) chosen.in_first chosen.in_second)
        (refused m (length g.done + 1) 0)) (sym asked)
        ∙ ap (λ (z : Bool). cond z
        (join_from (length g.in_first + length g.in_second) R both (g.done ++ (chosen.entry ∷ [])) chosen.in_first chosen.in_second)
        (refused no (length g.done + 1) 0)) y

    -- A row with a No is refused at its place in the join.
    pub row-refused : (no ≡ 0 → ⊥) → o ≡ refused no (n + 1) 0
    row-refused z = on_row false (ne_eqb no 0 z) ∙ ap (λ (m : ℕ). refused no (m + 1) 0) (sym g.many)

    -- A row with a No is refused by its number.
    pub row-no : (r : Refusal) → number_of r ≡ no → (Refused (number_of r) (n + 1) 0 ≡ joined_of o) × Holds o xs₀ xs ps₀ ps
    row-no r is =
        let low : 1 ≤ number_of r = number-some r in
        let refuses : o ≡ refused (number_of r) (n + 1) 0 = row-refused (λ z. omega (arith, is)) ∙ ap (λ (m : ℕ). refused m (n + 1) 0) (sym is) in
        refusal xs₀ xs ps₀ ps refuses

    -- A row without a No is within the row limit.
    pub room : no ≡ 0 → n < R
    unfolding table_takes first_no
    room z = go (ltb n R) refl (sym k.0 ∙ z)
      where
        go : (x : Bool) → ltb n R ≡ x → cond x (first_no (table_questions table row)) ROW_LIMIT ≡ 0 → n < R
        go true y h = ltb-true n R y
        go false y h = absurd (omega arith)

    -- The loop goes on behind the row.
    module _ (z : no ≡ 0) (f : Fits R P (length xs) (length ps)) {xs' ps' : List ℕ} (l : xs' ≡ with_row n row xs) (m : ps' ≡ with_part n c ps) where
      -- The row is in order behind the rows taken.
      in_order : first_no (message_questions (rows_of g.done) row) ≡ 0
      unfolding table_takes first_no
      in_order =
          sym (tells-asks g.told.messages_told row fits.0 fits.1)
          ∙ sym (ap (λ (x : Bool). cond x (first_no (table_questions table row)) ROW_LIMIT) (lt-ltb n R (room z))) ∙ sym k.0 ∙ z

      -- The table tells of the row too.
      told-next : Tells after (rows_of (g.done ++ (chosen.entry ∷ [])))
      told-next =
          let left : after ≡ table_after table row =
          k.1 ∙ ap (λ (x : Bool). cond x (table_after table row) table) (lt-ltb n R (room z)) in
          let rows : rows_of g.done ++ (row ∷ []) ≡ rows_of (g.done ++ (chosen.entry ∷ [])) =
          ap (λ (s : Row). rows_of g.done ++ (s ∷ [])) row_is ∙ sym (rows_snoc g.done chosen.entry) in
          subst (λ (l : List ℕ). Tells l (rows_of (g.done ++ (chosen.entry ∷ [])))) (sym left)
          (subst (Tells (table_after table row)) rows (tells-next g.told.messages_told row fits.0 fits.1 in_order))

      -- The row taken is of a process of both files, as are those left.
      in_both : (has_row chosen.entry.row.process both ≡ true) × (Within both chosen.in_first × Within both chosen.in_second)
      in_both = go chosen.taken-from
        where
          go : ((g.in_first ≡ chosen.entry ∷ chosen.in_first) × (g.in_second ≡ chosen.in_second))
              ⊎ ((g.in_first ≡ chosen.in_first) × (g.in_second ≡ chosen.entry ∷ chosen.in_second)) →
              (has_row chosen.entry.row.process both ≡ true) × (Within both chosen.in_first × Within both chosen.in_second)
          go (inl (u, v)) =
              let w = subst (Within both) u g.first-in in (w.0, (w.1, subst (Within both) v g.second-in))
          go (inr (u, v)) =
              let w = subst (Within both) v g.second-in in (w.0, (subst (Within both) u g.first-in, w.1))

      -- The tables of barriers tell of the row too.
      noted-row : {stands' arrivals' : List ℕ} → (stands' ≡ noted_stand stands row) × (arrivals' ≡ noted_arrival arrivals row) →
          Noted both (rows_of (g.done ++ (chosen.entry ∷ []))) stands' arrivals' processes
      noted-row {stands'} {arrivals'} k =
          let rows : rows_of g.done ++ (row ∷ []) ≡ rows_of (g.done ++ (chosen.entry ∷ [])) =
          ap (λ (s : Row). rows_of g.done ++ (s ∷ [])) row_is ∙ sym (rows_snoc g.done chosen.entry) in
          let may : waits both (rows_of g.done) row ≡ false = ap (waits both (rows_of g.done)) row_is ∙ taken-ready both (rows_of g.done) g.in_first g.in_second chosen.is-turn in
          subst (λ (l : List Row). Noted both l stands' arrivals' processes) rows
          (noted-next g.told.barriers_told row fits.0 fits.1 (ap (λ (s : Row). has_row s.process both) row_is ∙ in_both.0)
          (held_out both (rows_of g.done) row may) k.0 k.1)

      -- The slice holds the numbers of the row too.
      held_next : xs' ≡ numbers (rows_of (g.done ++ (chosen.entry ∷ []))) ++ drop (6 * (n + 1)) xs₀
      held_next =
          let fit = f.rows_have_room in
          let there : n * 6 + 6 ≤ length xs = omega (arith, room z) in
          let many = g.many ∙ sym (rows-length g.done) in
          numbers-next (rows_of g.done) row xs₀ many g.held (l ∙ with_room n row xs there)
          ∙ ap (λ (s : List Row). numbers s ++ drop (6 * (n + 1)) xs₀)
          (ap (λ (s : Row). rows_of g.done ++ (s ∷ [])) row_is ∙ sym (rows_snoc g.done chosen.entry))

      -- The slice holds the place of the row's record too.
      placed-next : ps' ≡ part_numbers (g.done ++ (chosen.entry ∷ [])) ++ drop (3 * (n + 1)) ps₀
      placed-next =
          let fit = f.parts_fit in
          let there : n * 3 + 3 ≤ length ps = omega (arith, room z) in
          parts_next g.done chosen.entry ps₀ g.many g.placed
          (m ∙ part_room n c ps there ∙ ap (λ (d : Choice). take (n * 3) ps ++ (three d ++ drop (n * 3 + 3) ps)) chosen.is-choice)

      -- The loop goes on behind the row.
      pub goes_on_lem : {stands' arrivals' : List ℕ} → (stands' ≡ noted_stand stands row) × (arrivals' ≡ noted_arrival arrivals row) → {a' b' : Next} → a' ≡ stepped (eqb c.file FIRST) P first a → b' ≡ stepped (eqb c.file SECOND) P second b →
          Going R P first second both o xs₀ ps₀ a' b' (n + 1) xs' ps' after stands' arrivals' processes
      goes_on_lem noted u v =
          record {
            done = g.done ++ (chosen.entry ∷ []);
            in_first = chosen.in_first;
            in_second = chosen.in_second;
            whole =
                on_row true (eq-eqb no 0 z)
                ∙ ap (λ (j : ℕ). join_from j R both (g.done ++ (chosen.entry ∷ [])) chosen.in_first chosen.in_second) chosen.fewer;
            first-stands = subst (λ (x : Next). Stands P FIRST first x chosen.in_first) (sym u) chosen.stands-first;
            second-stands = subst (λ (x : Next). Stands P SECOND second x chosen.in_second) (sym v) chosen.stands-second;
            many = omega (arith, g.many, length-append g.done (chosen.entry ∷ []));
            few = omega (arith, room z);
            held = held_next;
            placed = placed-next;
            told = record { messages_told = told-next; barriers_told = noted-row noted };
            first-in = in_both.1.0;
            second-in = in_both.1.1;
          }
