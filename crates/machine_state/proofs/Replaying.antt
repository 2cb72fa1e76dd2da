-- The loop of a replay over any step that preserves its law: the invariant, and the laws of its start, its turn and its ends.
use Rattle.std.proofs.Common.{ℕ, zero, suc, ◌+◌, ◌*◌, ◌-◌, ◌≤◌, ◌<◌, max, arith, ◌≡◌, refl, sym, ap, subst, ◌∙◌, Bool, true, false, cond, ◌&&◌, List, ◌++◌, append-nil, length, take, drop, length-set, length-append, length-drop, drop_of_length-le, take-append-drop, length-take-le, take_all, leb-true, eq-eqb, ne_eqb, Option, Some, None, Ok, Err}
use Rattle.std.specs.Option.{unwrap_or}
use lib.ListN.{set}
use lib.Dec.{leb, eqb}
use Rattle.rows.specs.declared.row.Row.{Row}
use Rattle.rows.specs.Questions.{first_no}
use Rattle.rows.specs.Rows.{row_in}
use Rattle.rows.proofs.Bools.{and_out}
use Rattle.machine_meaning.specs.Steps.{StepAnswer, refusing, done, listed, Step}
use Rattle.rows.specs.Refusals.{number_of}
use Rattle.rows.specs.declared.refusal.Refusal.{Refusal}
use Rattle.rows.specs.declared.refusal.Refusal.TheVariants.{ShortSlice, State}
use Rattle.extents.specs.Answers.{Answer}
use Rattle.machine_state.specs.Answers.{answer_of, refusal_of, count_of, told_step, Steps, put_to}
use Rattle.machine_state.specs.Files.{Keeps, Preserves}
use Rattle.rows.proofs.Asking.{number-some}
use Rattle.machine_state.proofs.Keeping.{put-preserves}
use Rattle.machine_state.specs.Replays.{Replay, refusal_in, count_in, tried, row_passed, stopped, onward, after, replay_questions, started, replay_by, Replays}

-- The refusal in the code's answer is that of the step.
refusal-told : (a : StepAnswer) → refusal_of (answer_of a) ≡ refusal_in a
refusal-told (refusing number) = refl
refusal-told done = refl
refusal-told (listed count) = refl

-- The count of pieces in the code's answer is that of the step.
count-told : (a : StepAnswer) → count_of (answer_of a) ≡ count_in a
count-told (refusing number) = refl
count-told done = refl
count-told (listed count) = refl

-- An answer that is no refusal has none.
none-refused : (o : Option ℕ) → refusal_of (told_step (Ok o)) ≡ 0
none-refused None = refl
none-refused (Some count) = refl

-- A read has its count of pieces, and any other row has none.
count-listed : (o : Option ℕ) → unwrap_or o 0 ≡ count_of (told_step (Ok o))
count-listed None = refl
count-listed (Some count) = refl

-- ---- One row

module _ (step : List ℕ → Row → ℕ → List ℕ → Step) (file : ℕ) (rows : List ℕ) where
  -- A row that is refused ends the replay.
  stop-next : (n : ℕ) (s : Replay) → s.refusal ≡ 0 → (refusal_in (tried step file rows s).answer ≡ 0 → ⊥) →
      after step file rows (suc n) s ≡ stopped step file rows (refusal_in (tried step file rows s).answer) s
  unfolding after onward
  stop-next n s e k =
      let t = tried step file rows s in
      let refused : onward step file rows s ≡ stopped step file rows (refusal_in t.answer) s =
      λ i. cond (ne_eqb (refusal_in t.answer) 0 k i) (row_passed step file rows t s) (stopped step file rows (refusal_in t.answer) s) in
      (λ i. cond (eq-eqb s.refusal 0 e i) (after step file rows n (onward step file rows s)) s)
      ∙ ap (after step file rows n) refused ∙ stay n
    where
      stay : (n : ℕ) → after step file rows n (stopped step file rows (refusal_in (tried step file rows s).answer) s)
          ≡ stopped step file rows (refusal_in (tried step file rows s).answer) s
      stay zero = refl
      stay (suc n) = rw (ne_eqb (refusal_in (tried step file rows s).answer) 0 k)

  -- A row that is not refused leads on.
  pass_next : (n : ℕ) (s : Replay) → s.refusal ≡ 0 → refusal_in (tried step file rows s).answer ≡ 0 →
      after step file rows (suc n) s ≡ after step file rows n (row_passed step file rows (tried step file rows s) s)
  unfolding after onward
  pass_next n s e k =
      let t = tried step file rows s in
      (λ i. cond (eq-eqb s.refusal 0 e i) (after step file rows n (onward step file rows s)) s)
      ∙ ap (after step file rows n)
      (λ i. cond (eq-eqb (refusal_in t.answer) 0 k i) (row_passed step file rows t s) (stopped step file rows (refusal_in t.answer) s))

-- ---- Before the rows

module _ (step : List ℕ → Row → ℕ → List ℕ → Step) (law₀ : Bool) (file : ℕ) (rows : List ℕ) (first n : ℕ) (maps₀ counts₀ out₀ : List ℕ) where
  -- If the slices are long enough and the state is lawful, the rows decide.
  replay_is : leb (6 * n) (length rows) && leb n (length counts₀) ≡ true → law₀ ≡ true →
      replay_by step law₀ file rows first n maps₀ counts₀ out₀ ≡ after step file rows (n - first) (started 0 first maps₀ counts₀ out₀)
  unfolding replay_by replay_questions first_no
  replay_is fit l =
      λ i.
      cond (eqb (cond (fit i) (cond (l i) 0 13) 1) 0) (after step file rows (n - first) (started 0 first maps₀ counts₀ out₀))
      (started (cond (fit i) (cond (l i) 0 13) 1) first maps₀ counts₀ out₀)

  -- A first No other than 0 is the answer, and nothing changes.
  none-gone : (refusal : Refusal) → first_no (replay_questions law₀ n (length rows) (length counts₀)) ≡ number_of refusal →
      (number_of refusal ≡ 0 → ⊥) →
      Replays (replay_by step law₀ file rows first n maps₀ counts₀ out₀) (record { rows = first; pieces = 0; refusal = Some refusal }) maps₀ counts₀ out₀
  unfolding replay_by
  none-gone refusal e some =
      rw (e, ne_eqb (number_of refusal) 0 some)
      (record { refused = refl; gone = refl; listed = refl; maps_after = refl; counts_after = refl; out_after = refl })

  -- The slices fit, as the code asks.
  abbrev Fit : Bool
  Fit = leb (6 * n) (length rows) && leb n (length counts₀)

  -- 1: the slices are too short.
  pub short : Fit ≡ false →
      Replays (replay_by step law₀ file rows first n maps₀ counts₀ out₀) (record { rows = first; pieces = 0; refusal = Some ShortSlice }) maps₀ counts₀ out₀
  unfolding replay_questions first_no
  short e = none-gone ShortSlice (λ i. cond (e i) (cond law₀ 0 13) 1) (λ z. omega arith)

  -- 13: the slices fit, and the state is not lawful.
  pub unlawful : Fit ≡ true → law₀ ≡ false →
      Replays (replay_by step law₀ file rows first n maps₀ counts₀ out₀) (record { rows = first; pieces = 0; refusal = Some State }) maps₀ counts₀ out₀
  unfolding replay_questions first_no
  unlawful e q = none-gone State (λ i. cond (e i) (cond (q i) 0 13) 1) (λ z. omega arith)

-- ---- Turns

-- A replay that is not refused so far.
abbrev so_far : List ℕ → List ℕ → List ℕ → ℕ → ℕ → Replay
so_far maps counts out k pieces = record { refusal = 0; rows = k; pieces = pieces; maps = maps; counts = counts; out = out }

-- The rest of the replay from row k on gives what the whole replay gives, the maps are lawful, and the slices keep their lengths.
pub record Replaying (law : List ℕ → Bool) (step : List ℕ → Row → ℕ → List ℕ → Step) (file : ℕ) (rows : List ℕ)
    (first n : ℕ) (maps₀ counts₀ out₀ maps counts out : List ℕ) (k pieces : ℕ) : Type 0 where
  pub whole : replay_by step (law maps₀) file rows first n maps₀ counts₀ out₀ ≡ after step file rows (n - k) (so_far maps counts out k pieces)
  pub lawful : law maps ≡ true
  pub listed : 3 * pieces ≤ length out
  pub rows_have_room : 6 * n ≤ length rows
  pub counts-fit : n ≤ length counts
  pub maps-size : length maps ≡ length maps₀
  pub counts-size : length counts ≡ length counts₀
  pub out-size : length out ≡ length out₀
  pub at-most : k ≤ max first n

module _ {law : List ℕ → Bool} {step : List ℕ → Row → ℕ → List ℕ → Step} {file : ℕ} {rows : List ℕ}
    {first n : ℕ} {maps₀ counts₀ out₀ : List ℕ} where
  -- The invariant holds before the first row, where the slices fit and the state is lawful.
  pub start : leb (6 * n) (length rows) && leb n (length counts₀) ≡ true → law maps₀ ≡ true →
      Replaying law step file rows first n maps₀ counts₀ out₀ maps₀ counts₀ out₀ first 0
  start e l =
      let b = and_out (leb (6 * n) (length rows)) (leb n (length counts₀)) e in
      record {
        whole = replay_is step (law maps₀) file rows first n maps₀ counts₀ out₀ e l;
        lawful = l;
        listed = omega arith;
        rows_have_room = leb-true _ _ b.0;
        counts-fit = leb-true _ _ b.1;
        maps-size = refl;
        counts-size = refl;
        out-size = refl;
        at-most = omega arith;
      }

  module _ (keeps : Preserves law step) {maps counts out : List ℕ} {k pieces : ℕ} (g : Replaying law step file rows first n maps₀ counts₀ out₀ maps counts out k pieces) (less : k < n)
      {row : Row} (here : row ≡ row_in rows k) {at : ℕ} {a : Answer} {ys zs : List ℕ}
      (put : Steps (put_to step file maps row (k + 1) (take (length out - at) (drop at out))) a ys zs) (e : at ≡ pieces * 3) where
    -- The replay before the row.
    abbrev s : Replay
    s = so_far maps counts out k pieces

    -- The answer slice behind the pieces.
    abbrev rest : List ℕ
    rest = drop (3 * pieces) out

    -- The rest begins behind three numbers for each piece.
    there : at ≡ 3 * pieces
    there = omega (arith, e)

    -- The lent part is the rest.
    lent : take (length out - at) (drop at out) ≡ rest
    lent =
        let size = length-drop at out in
        take_all (length out - at) (drop at out) (omega (arith, size)) ∙ ap (λ (m : ℕ). drop m out) there

    -- What the row does.
    abbrev t : Step
    t = tried step file rows s

    -- The code puts this row, under this number, with this rest.
    t-is : put_to step file maps row (k + 1) (take (length out - at) (drop at out)) ≡ t
    t-is = let k1 : k + 1 ≡ suc k = omega arith in λ i. put_to step file maps (here i) (k1 i) (lent i)

    -- The step keeps what every step keeps.
    kept : Keeps law maps rest t
    kept = (put-preserves keeps file).each maps (row_in rows k) (suc k) rest

    -- The code answers and leaves what the step does.
    told : Steps t a ys zs
    told = subst (λ (u : Step). Steps u a ys zs) t-is put

    -- The answer slice after the lent part is given back.
    home : take at out ++ (zs ++ drop (length out - at) (drop at out)) ≡ take (3 * pieces) out ++ zs
    home =
        let size = length-drop at out in
        let none : length (drop at out) ≤ length out - at = omega (arith, size) in
        (λ i. take (there i) out ++ (zs ++ drop_of_length-le (drop at out) none i))
        ∙ ap (λ (l : List ℕ). take (3 * pieces) out ++ l) (append-nil zs)

    -- One row less is left.
    next : n - k ≡ suc (n - (k + 1))
    next = omega arith

    -- The lent part keeps its length.
    rest-size : length zs ≡ length rest
    rest-size = ap (λ (l : List ℕ). length l) told.out_after ∙ kept.size

    -- The answer slice keeps its length.
    home-size : length (take (3 * pieces) out ++ zs) ≡ length out
    home-size =
        let p = length-append (take (3 * pieces) out) zs in
        let q = length-take-le (3 * pieces) out g.listed in
        let m = length-drop (3 * pieces) out in
        let l = g.listed in
        omega (arith, p, q, m, rest-size)

    -- The refusal in the code's answer is that of the row.
    refusal_is : refusal_of a ≡ refusal_in t.answer
    refusal_is = ap refusal_of told.answered ∙ refusal-told t.answer

    -- The count in the code's answer is that of the row.
    count-is : count_of a ≡ count_in t.answer
    count-is = ap count_of told.answered ∙ count-told t.answer

    -- A turn keeps the invariant.
    pub turn : (o : Option ℕ) → a ≡ told_step (Ok o) → {c : ℕ} → c ≡ unwrap_or o 0 → length ys ≡ length maps →
        Replaying law step file rows first n maps₀ counts₀ out₀ ys (set counts k c) (take at out ++ (zs ++ drop (length out - at) (drop at out)))
        (k + 1) (pieces + c)
    turn o ok {c} q same =
        let none = ap refusal_of ok ∙ none-refused o in
        let is = q ∙ count-listed o ∙ sym (ap count_of ok) ∙ count-is in
        let k1 : suc k ≡ k + 1 = omega arith in
        let room = kept.room in
        let m = length-drop (3 * pieces) out in
        let l = g.listed in
        let size = ap (λ (l : List ℕ). length l) home ∙ home-size in
        let ms = sym told.maps_after in
        let os = ap (λ (l : List ℕ). take (3 * pieces) out ++ l) (sym told.out_after) ∙ sym home in
        let cs = sym is in
        record {
          whole = g.whole ∙ ap (λ (m : ℕ). after step file rows m s) next ∙ pass_next step file rows (n - (k + 1)) s refl (sym refusal_is ∙ none)
              ∙ (λ i. after step file rows (n - (k + 1)) (so_far (ms i) (set counts k (cs i)) (os i) (k1 i) (pieces + cs i)));
          lawful = ap law told.maps_after ∙ kept.lawful g.lawful;
          listed = omega (arith, is, room, m, l, size);
          rows_have_room = g.rows_have_room;
          counts-fit = omega (arith, length-set counts k c, g.counts-fit);
          maps-size = same ∙ g.maps-size;
          counts-size = length-set counts k c ∙ g.counts-size;
          out-size = size ∙ g.out-size;
          at-most = omega arith;
        }

    -- The end at a refusal, which leaves all as it was.
    pub refused-turn : (q : Refusal) → a ≡ told_step (Err q) →
        Replays (replay_by step (law maps₀) file rows first n maps₀ counts₀ out₀) (record { rows = k; pieces = pieces; refusal = Some q }) ys counts
        (take at out ++ (zs ++ drop (length out - at) (drop at out)))
    refused-turn q is =
        let told-so : number_of q ≡ refusal_of a = sym (ap refusal_of is) in
        let low : 1 ≤ number_of q = number-some q in
        let no : refusal_in t.answer ≡ 0 → ⊥ = λ z. omega (arith, told-so ∙ refusal_is ∙ z) in
        let still = kept.stays no in
        let ends = g.whole ∙ ap (λ (m : ℕ). after step file rows m s) next ∙ stop-next step file rows (n - (k + 1)) s refl no in
        rw ends
        (record {
          refused = told-so ∙ refusal_is;
          gone = refl;
          listed = refl;
          maps_after = told.maps_after ∙ still.0;
          counts_after = refl;
          out_after = home ∙ ap (λ (l : List ℕ). take (3 * pieces) out ++ l) (told.out_after ∙ still.1) ∙ take-append-drop (3 * pieces) out;
        })

  -- The end behind the last row.
  pub finish : {maps counts out : List ℕ} {k pieces : ℕ} → Replaying law step file rows first n maps₀ counts₀ out₀ maps counts out k pieces → first ≤ k → n ≤ k →
      {r : ℕ} → r ≡ max first n →
      Replays (replay_by step (law maps₀) file rows first n maps₀ counts₀ out₀) (record { rows = r; pieces = pieces; refusal = None }) maps counts out
  unfolding after
  finish {maps} {counts} {out} {k} {pieces} g begun past {r} q =
      let none : n - k ≡ 0 = omega arith in
      let most = g.at-most in
      let here : r ≡ k = omega arith in
      let ends = g.whole ∙ ap (λ (m : ℕ). after step file rows m (so_far maps counts out k pieces)) none in
      rw ends
      (record { refused = refl; gone = here; listed = refl; maps_after = refl; counts_after = refl; out_after = refl })
