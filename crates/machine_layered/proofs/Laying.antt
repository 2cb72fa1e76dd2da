-- What a row answers and leaves, from what the entries of the map of pieces answer and leave.
use Rattle.std.proofs.Common.{ℕ, suc, ◌+◌, ◌*◌, ◌-◌, ◌/◌, ◌≤◌, ◌<◌, add-one, mul-le-mul_left, arith, ◌≡◌, refl, sym, ap, ◌∙◌, Bool, true, false, cond, ◌&&◌, List, [], ◌∷◌, length, take, drop, lt-ltb, le-ltb, le-leb, leb-true, ne_eqb, eqb-true}
use mathlib.Core.Bool.{and-false, and_comm}
use lib.Dec.{leb, ltb, eqb}
use borrow.Author.Tests.{lt-leb, eqb-false}
use borrow.Rule.Slice.PartMut.{put_mid}
use Rattle.rows.specs.Limits.{MODELS, PROCESSES, FILES, ROWS, OFFSET_MAX}
use Rattle.rows.specs.Kinds.{READ, WRITE}
use Rattle.models.specs.Table.{publishes, refreshes}
use Rattle.rows.specs.declared.row.Row.{Row}
use Rattle.rows.specs.Refusals.{number_of}
use Rattle.rows.specs.declared.refusal.Refusal.{Refusal}
use Rattle.rows.specs.Questions.{Question, first_no, is_process_limit}
use Rattle.extents_meaning.specs.Cells.{Bytes, cell_of, overwrite, published, as_published, refreshed}
use Rattle.extents_meaning.specs.Runs.{Run, runs_of, pieces_of}
use Rattle.extents_meaning.specs.Maps.{map_for, threes, bytes_of, lawful, lawful_published, map_at, with_map, listed_in}
use Rattle.rows.proofs.Bools.{and_out}
use Rattle.rows.proofs.Limits.{limit-told}
use Rattle.extents_meaning.proofs.Sides.{with_same}
use Rattle.machine_meaning.specs.Layers.{Layers, after_row, pieces_read}
use Rattle.machine_meaning.specs.States.{Header, maps_length, lawful_state, layers_in, layers_to, layers_fit, plain_fits}
use Rattle.rows.specs.Counting.{all_below}
use Rattle.machine_meaning.specs.Steps.{done, listed, row_asked, room_asked, answered, decided, step_of}
use Rattle.machine_meaning.proofs.Slices.{Alike, alike-fit, alike-to}
use Rattle.machine_meaning.proofs.Lawful.{here-fit, to_same}
use Rattle.rows.proofs.Asking.{AllYes, all_yes, first-no, yes-behind, number-some}
use Rattle.extents.specs.Answers.{Answer, Done, Refused}
use Rattle.extents_meaning.specs.Pairs.{two_maps, view_of, below_of}
use Rattle.extents.specs.Entries.{both_maps, or_refused, or_kept, listed_count, write_refusal, written_map, list_refusal, publish_refusal, published_maps, refresh_refusal, refreshed_maps, sync_refusal, synced_maps, write_through_refusal, written_through_maps, read_refusal}
use Rattle.extents.proofs.Lent.{home, two-told, lent_map, map_lent, map_space}
use Rattle.machine_state.specs.Answers.{answer_of, Steps, Ready}
use Rattle.machine_state.proofs.Maps.{first-map, state_two, state_view, state_in, anew, fit-both, to_both, to_view_alone, shared', view', row-both}
use Rattle.machine_state.proofs.Questions.{room-named, asked-yes, asked-process, asked-range}
use Rattle.machine_state.proofs.Answering.{same_kept, carried, refused}

-- ---- Is the state lawful?

-- The space of all maps is a number of 64 bits.
pub limit-fits : (space n : ℕ) → space < 4294967296 → is_process_limit n ≡ true → space * (n + 1) < 18446744073709551616
limit-fits space n h e =
    let m : n + 1 ≤ PROCESSES + 1 = omega (arith, (limit-told n e).1) in
    omega (arith, mul-le-mul_left space m)

-- The answer for the lent part of the slice is the answer for the map.
pub lent-lawful : (size p : ℕ) (xs : List ℕ) (b : Bool) → let at = (p + 1) * size in
    b ≡ lawful (take (at + size - at) (drop at xs)) → lawful (take size (drop (suc p * size) xs)) ≡ b
lent-lawful size p xs b h =
    let e : size ≡ (p + 1) * size + size - (p + 1) * size = omega arith in
    let q : suc p * size ≡ (p + 1) * size = omega arith in
    (λ i. lawful (take (e i) (drop (q i) xs))) ∙ sym h

module _ (h : Header) (xs : List ℕ) where
  -- The published map is lawful and without marks, and every view is lawful.
  abbrev maps_law : Bool
  maps_law = lawful_published (map_at h.space 0 xs) && all_below h.processes (λ p. lawful (map_at h.space (suc p) xs))

  -- A model past the models: the state is not lawful.
  pub no_model : MODELS ≤ h.model → false ≡ lawful_state h xs
  unfolding lawful_state
  no_model a = sym (rw (le-ltb h.model MODELS a))

  module _ (a : h.model < MODELS) where
    -- No process limit: the state is not lawful.
    pub no_limit : is_process_limit h.processes ≡ false → false ≡ lawful_state h xs
    unfolding lawful_state
    no_limit b = sym (λ i. lt-ltb h.model MODELS a i && (b i && (ltb h.file FILES && (leb (maps_length h) (length xs) && maps_law))))

    module _ (b : is_process_limit h.processes ≡ true) where
      -- A file past the files: the state is not lawful.
      pub no_file : FILES ≤ h.file → false ≡ lawful_state h xs
      unfolding lawful_state
      no_file d = sym (λ i. lt-ltb h.model MODELS a i && (b i && (le-ltb h.file FILES d i && (leb (maps_length h) (length xs) && maps_law))))

      module _ (d : h.file < FILES) where
        -- A slice that is too short: the state is not lawful.
        pub no-slice : length xs / 4 < h.space * (h.processes + 1) → false ≡ lawful_state h xs
        unfolding lawful_state
        no-slice l =
            let e : length xs < maps_length h = omega arith in
            sym (λ i. lt-ltb h.model MODELS a i && (b i && (lt-ltb h.file FILES d i && (lt-leb (maps_length h) (length xs) e i && maps_law))))

        module _ (l : h.space * (h.processes + 1) ≤ length xs / 4) where
          -- If the header and the slice pass, the maps decide.
          by-maps : lawful_state h xs ≡ maps_law
          unfolding lawful_state
          by-maps =
              let e : maps_length h ≤ length xs = omega arith in
              λ i. lt-ltb h.model MODELS a i && (b i && (lt-ltb h.file FILES d i && (le-leb (maps_length h) (length xs) e i && maps_law)))

          -- The published map is lent as the front of the slice.
          by_first : {b : Bool} → lawful_published (take (4 * h.space) xs) ≡ b →
              b && all_below h.processes (λ p. lawful (map_at h.space (suc p) xs)) ≡ lawful_state h xs
          by_first e =
              let m = ap lawful_published (first-map h.space xs) ∙ e in
              sym (by-maps ∙ ap (λ (x : Bool). x && all_below h.processes (λ p. lawful (map_at h.space (suc p) xs))) m)

          -- An unlawful published map: the state is not lawful.
          pub no_first : lawful_published (take (4 * h.space) xs) ≡ false → false ≡ lawful_state h xs
          no_first e = by_first e

          -- If the published map passes, the views decide.
          pub by_views : lawful_published (take (4 * h.space) xs) ≡ true →
              all_below h.processes (λ p. lawful (map_at h.space (suc p) xs)) ≡ lawful_state h xs
          by_views e = by_first e

-- ---- A row that is asked of a lawful state

module _ (h : Header) (xs : List ℕ) (r : Row) (number : ℕ) (out : List ℕ) where
  -- A step of a lawful state refuses by the first No of the row.
  pub asked-step : lawful_state h xs ≡ true → (refusal : Refusal) → number_of refusal ≡ first_no (row_asked h r number) →
      Steps (step_of h xs r number out) (Refused (number_of refusal)) xs out
  unfolding step_of first_no
  asked-step law refusal e =
      let k = number_of refusal in
      let low : 1 ≤ k = number-some refusal in
      let n : k ≡ 0 → ⊥ = λ z. omega arith in
      let s = after_row h.model r number (layers_in h xs) in
      let pieces = pieces_read r (s.view r.process) in
      let first = first-no (row_asked h r number) (room_asked (layers_fit h s) pieces (length out)) (λ z. n (e ∙ z)) ∙ sym e in
      refused _ k xs out (λ i. cond (law i) (first i) 13) n

module _ {h : Header} {xs : List ℕ} {r : Row} {number : ℕ} (k : Ready h xs r number) where
  -- Every question of a ready row is answered Yes.
  ready-yes : AllYes (row_asked h r number)
  ready-yes = asked-yes h r number k.asked

  -- The process of a ready row is below the limit.
  ready-process : r.process < h.processes
  ready-process = asked-process h r number ready-yes

  -- The map of the process lies in the slice.
  pub ready-room : (r.process + 1) * (4 * h.space) + 4 * h.space ≤ length xs
  ready-room = omega (arith, state_in h xs k.lawful r.process ready-process)

  -- A ready row has a row number.
  ready-number : leb 1 number && leb number ROWS ≡ true
  unfolding row_asked
  ready-number = ready-yes.1.0

-- ---- What a step answers and leaves

module _ {h : Header} {xs : List ℕ} {r : Row} {number : ℕ} (k : Ready h xs r number) where
  -- The state before the row.
  abbrev old : Layers
  old = layers_in h xs

  -- The view of the row's process before the row.
  abbrev own : Bytes
  own = old.view r.process

  -- The view of the process and the published map are two maps of the slice.
  two : two_maps h.space (suc r.process) 0 xs ≡ true
  two = state_two h xs k.lawful r.process (ready-process k)

  -- The lent view is the map of the process.
  lent-own : lent_map h.space (r.process + 1) xs ≡ map_at h.space (suc r.process) xs
  lent-own = map_lent h.space (r.process + 1) xs ∙ ap (λ (n : ℕ). map_at h.space n xs) (add-one r.process)

  -- A ready row meets what the entries for lawful maps ask: those of two maps, and those of one.
  pub ready-two : two_maps h.space (r.process + 1) 0 xs ≡ true
  ready-two = ap (λ (n : ℕ). two_maps h.space n 0 xs) (add-one r.process) ∙ two

  -- The lent view of a ready row is lawful.
  pub ready-own : lawful (lent_map h.space (r.process + 1) xs) ≡ true
  ready-own = ap lawful lent-own ∙ state_view h xs k.lawful r.process (ready-process k)

  -- The published map fits its space.
  shared-fits : plain_fits h old.shared ≡ true
  shared-fits =
      let t = two-told h.space (suc r.process) 0 xs two in
      le-leb _ _ (here-fit h.space 0 xs t.below-law t.below_within)

  -- The view fits its space.
  own-fits : plain_fits h own ≡ true
  own-fits =
      let t = two-told h.space (suc r.process) 0 xs two in
      le-leb _ _ (here-fit h.space (suc r.process) xs t.view-law t.view_within)

  -- A state that keeps both maps is as it was.
  still_to : layers_to h (anew h xs k.lawful r.process (ready-process k) own old.shared) xs ≡ xs
  still_to =
      alike-to h (record { shared = refl; view = λ q l. go q (eqb q r.process) refl }) xs
      ∙ to_same h xs k.lawful
    where
      go : (q : ℕ) (b : Bool) → eqb q r.process ≡ b → cond b own (old.view q) ≡ old.view q
      go q true e = ap old.view (sym (eqb-true q r.process e))
      go q false e = refl

  -- A view v and published bytes w that the row leaves.
  module _ (v w : Bytes) (view : view' h.model r number old ≡ v) (shared : shared' h.model r number old ≡ w) where
    -- The state with these two maps.
    abbrev state : Layers
    state = anew h xs k.lawful r.process (ready-process k) v w

    -- The pieces that a read lists of the view.
    abbrev pieces : List Run
    pieces = pieces_read r v

    -- Both maps fit their space.
    abbrev fits : Bool
    fits = plain_fits h w && plain_fits h v

    -- The state after the row is the state with these two maps.
    row-alike : Alike h.processes (after_row h.model r number old) state
    row-alike = let e = row-both h.model r number old in record { shared = e.0 ∙ shared; view = λ q l. go q (eqb q r.process) refl }
      where
        go : (q : ℕ) (b : Bool) → eqb q r.process ≡ b → (after_row h.model r number old).view q ≡ cond b v (old.view q)
        go q true e =
            ap (after_row h.model r number old).view (eqb-true q r.process e) ∙ (row-both h.model r number old).1 ∙ view
        go q false e = (row-both h.model r number old).2 q (eqb-false q r.process e)

    -- If the state and the row pass, questions 16 and 17 decide.
    ready-step : (out : List ℕ) →
        step_of h xs r number out ≡ decided (first_no (room_asked fits pieces (length out))) (answered r pieces (layers_to h state xs) out) xs out
    unfolding step_of
    ready-step out =
        let s = after_row h.model r number old in
        let fit = alike-fit h row-alike ∙ fit-both h xs k.lawful r.process (ready-process k) v w in
        let p : pieces_read r (s.view r.process) ≡ pieces = ap (pieces_read r) ((row-both h.model r number old).1 ∙ view) in
        let qs : List Question = record { number = 13; yes = lawful_state h xs } ∷ row_asked h r number in
        (λ i. decided
        (yes-behind qs (room_asked (fit i) (p i) (length out)) (k.lawful, ready-yes k) i)
        (answered r (p i) (alike-to h row-alike xs i) out) xs out)

    -- If neither 16 nor 17 refuses, both maps fit.
    fits_both : (out : List ℕ) → first_no (room_asked fits pieces (length out)) ≡ 0 → fits ≡ true
    fits_both out e = (all_yes (room_asked fits pieces (length out)) (room-named fits pieces (length out)) e).0

    -- Encoding the new state replaces both maps.
    both_to : fits ≡ true → layers_to h state xs ≡ both_maps h.space (suc r.process) 0 xs v w
    both_to f =
        let b = and_out (plain_fits h w) (plain_fits h v) f in
        to_both h xs k.lawful r.process (ready-process k) v w (leb-true _ _ b.1) (leb-true _ _ b.0)

    -- An entry that asks the same questions answers and leaves what the step does.
    module _ (out : List ℕ) {n : ℕ} (asks : n ≡ first_no (room_asked fits pieces (length out))) where
      by-entry : {answer : Answer} {maps' out' ys : List ℕ} →
          answer ≡ or_refused n (answer_of (answered r pieces (layers_to h state xs) out).answer) →
          maps' ≡ or_kept n ys xs → out' ≡ or_kept n (listed_in pieces out) out → (fits ≡ true → ys ≡ layers_to h state xs) →
          Steps (step_of h xs r number out) answer maps' out'
      by-entry a m o e =
          rw (ready-step out)
          (carried (answered r pieces (layers_to h state xs) out) n xs out (sym asks) a m o (λ z. e (fits_both out (sym asks ∙ z))))

    -- A row that is no read lists nothing.
    module _ (quiet : eqb r.kind READ ≡ false) where
      by-quiet : {n : ℕ} {answer : Answer} {maps' ys : List ℕ} → n ≡ cond fits 0 16 → answer ≡ or_refused n Done →
          maps' ≡ or_kept n ys xs → (fits ≡ true → ys ≡ layers_to h state xs) → (out : List ℕ) → Steps (step_of h xs r number out) answer maps' out
      unfolding first_no threes
      by-quiet {n} e a m t out =
          let none : pieces ≡ [] = rw quiet in
          let room : first_no (room_asked fits pieces (length out)) ≡ cond fits 0 16 = rw (none, le-leb 0 (length out) (omega arith)) in
          by-entry out (e ∙ sym room) (a ∙ ap (λ (b : Bool). or_refused n (answer_of (cond b (listed (length pieces)) done))) (sym quiet)) m
          (same_kept n (ap (λ (ps : List Run). listed_in ps out) none)) t

      -- A row that an entry for two maps serves.
      by_two : (refusal : ℕ → ℕ) (left : ℕ → List ℕ) → refusal (suc r.process) ≡ cond (plain_fits h v && plain_fits h w) 0 16 →
          left (suc r.process) ≡ both_maps h.space (suc r.process) 0 xs v w → {answer : Answer} {maps' : List ℕ} →
          answer ≡ or_refused (refusal (r.process + 1)) Done → maps' ≡ or_kept (refusal (r.process + 1)) (left (r.process + 1)) xs →
          (out : List ℕ) → Steps (step_of h xs r number out) answer maps' out
      by_two refusal left e l a m =
          let q = add-one r.process in
          by-quiet (e ∙ ap (λ (b : Bool). cond b 0 16) (and_comm (plain_fits h v) (plain_fits h w)))
          (a ∙ ap (λ (n : ℕ). or_refused (refusal n) Done) q) (m ∙ ap (λ (n : ℕ). or_kept (refusal n) (left n) xs) q)
          (λ f. l ∙ sym (both_to f))

    -- A read lists the pieces of its range.
    by_read : eqb r.kind READ ≡ true → (out : List ℕ) → {n : ℕ} {answer : Answer} {maps' out' ys : List ℕ} →
        let ps = pieces_of v r.offset r.length in n ≡ cond fits (cond (leb (3 * length ps) (length out)) 0 17) 16 →
        answer ≡ or_refused n (listed_count ps) → maps' ≡ or_kept n ys xs → out' ≡ or_kept n (listed_in ps out) out →
        (fits ≡ true → ys ≡ layers_to h state xs) → Steps (step_of h xs r number out) answer maps' out'
    unfolding first_no
    by_read is out {n} e a m o t =
        let ps = pieces_of v r.offset r.length in
        let q : pieces ≡ ps = rw is in
        by-entry out (e ∙ ap (λ (l : List Run). first_no (room_asked fits l (length out))) (sym q))
        (a ∙ (λ i. or_refused n (answer_of (cond (sym is i) (listed (length (sym q i))) done)))) m
        (o ∙ ap (λ (l : List Run). or_kept n (listed_in l out) out) (sym q)) t

-- ---- A row that is neither a read nor a write

module _ {h : Header} {xs : List ℕ} {r : Row} {number : ℕ} (k : Ready h xs r number) where
  module _ (other : 1 < r.kind) where
    -- The row is no read.
    no_read : eqb r.kind READ ≡ false
    no_read = ne_eqb r.kind READ (λ e. omega arith)

    -- The row is no write.
    no_write : eqb r.kind WRITE ≡ false
    no_write = ne_eqb r.kind WRITE (λ e. omega arith)

    module _ {answer : Answer} {maps' : List ℕ} where
      -- A row that publishes and refreshes does what `sync` does.
      pub share-both : publishes h.model r.kind ≡ true → refreshes h.model r.kind ≡ true →
          answer ≡ or_refused (sync_refusal h.space (r.process + 1) 0 xs) Done →
          maps' ≡ or_kept (sync_refusal h.space (r.process + 1) 0 xs) (synced_maps h.space (r.process + 1) 0 xs) xs →
          (out : List ℕ) → Steps (step_of h xs r number out) answer maps' out
      unfolding first_no sync_refusal synced_maps
      share-both p f =
          let w = published (own k) (old k).shared in
          by_two k (refreshed (as_published (own k)) w) w (rw (no_write, p, f)) (rw (no_write, p)) no_read
          (λ n. sync_refusal h.space n 0 xs) (λ n. synced_maps h.space n 0 xs) (rw (two k)) refl

      -- A row that publishes only does what `publish` does.
      pub share-publish : publishes h.model r.kind ≡ true → refreshes h.model r.kind ≡ false →
          answer ≡ or_refused (publish_refusal h.space (r.process + 1) 0 xs) Done →
          maps' ≡ or_kept (publish_refusal h.space (r.process + 1) 0 xs) (published_maps h.space (r.process + 1) 0 xs) xs →
          (out : List ℕ) → Steps (step_of h xs r number out) answer maps' out
      unfolding first_no publish_refusal published_maps
      share-publish p f =
          by_two k (as_published (own k)) (published (own k) (old k).shared) (rw (no_write, p, f)) (rw (no_write, p)) no_read
          (λ n. publish_refusal h.space n 0 xs) (λ n. published_maps h.space n 0 xs) (rw (two k)) refl

      -- A row that refreshes only does what `refresh` does.
      pub share-refresh : publishes h.model r.kind ≡ false → refreshes h.model r.kind ≡ true →
          answer ≡ or_refused (refresh_refusal h.space (r.process + 1) 0 xs) Done →
          maps' ≡ or_kept (refresh_refusal h.space (r.process + 1) 0 xs) (refreshed_maps h.space (r.process + 1) 0 xs) xs →
          (out : List ℕ) → Steps (step_of h xs r number out) answer maps' out
      unfolding first_no refresh_refusal refreshed_maps
      share-refresh p f =
          by_two k (refreshed (own k) (old k).shared) (old k).shared (rw (no_write, p, f)) (rw (no_write, p)) no_read
          (λ n. refresh_refusal h.space n 0 xs) (λ n. refreshed_maps h.space n 0 xs) (rw (two k)) refl

    -- A row that does neither changes nothing.
    pub share-none : publishes h.model r.kind ≡ false → refreshes h.model r.kind ≡ false →
        (out : List ℕ) → Steps (step_of h xs r number out) Done xs out
    share-none p f =
        let z : ◌≡◌ {A = ℕ} 0 (cond (plain_fits h (old k).shared && plain_fits h (own k)) 0 16) =
        sym (rw (shared-fits k, own-fits k)) in
        by-quiet k (own k) (old k).shared (rw (no_write, p, f)) (rw (no_write, p)) no_read z refl refl (λ _. sym (still_to k))

-- ---- A write

module _ {h : Header} {xs : List ℕ} {r : Row} {number : ℕ} (k : Ready h xs r number) (kind : r.kind ≡ WRITE) where
  -- The range of a write ends within files.
  write_range : (r.offset ≤ OFFSET_MAX) × (r.length ≤ OFFSET_MAX) × (r.offset + r.length ≤ OFFSET_MAX)
  write_range = asked-range h r number (ready-yes k) (omega (arith, kind))

  -- A write is no read.
  write_quiet : eqb r.kind READ ≡ false
  write_quiet = rw kind

  -- The kind of the row is that of a write.
  write_is : eqb r.kind WRITE ≡ true
  write_is = rw kind

  -- No write refreshes.
  write_stays : refreshes h.model r.kind ≡ false
  unfolding refreshes
  write_stays = rw kind (simp and-false)

  -- The view with the range written.
  abbrev new : Bytes
  new = overwrite r.offset r.length (cell_of number 1) (own k)

  module _ {answer : Answer} {maps' : List ℕ} where
    -- A write that publishes does what `write_through` does.
    pub write-write-through : publishes h.model 1 ≡ true →
        answer ≡ or_refused (write_through_refusal h.space (r.process + 1) 0 xs r.offset r.length number) Done →
        maps' ≡ or_kept (write_through_refusal h.space (r.process + 1) 0 xs r.offset r.length number)
        (written_through_maps h.space (r.process + 1) 0 xs r.offset r.length number) xs →
        (out : List ℕ) → Steps (step_of h xs r number out) answer maps' out
    unfolding first_no write_through_refusal written_through_maps
    write-write-through p =
        let q : publishes h.model r.kind ≡ true = ap (publishes h.model) kind ∙ p in
        by_two k (as_published new) (published new (old k).shared) (rw (write_is, q, write_stays)) (rw (write_is, q)) write_quiet
        (λ n. write_through_refusal h.space n 0 xs r.offset r.length number) (λ n. written_through_maps h.space n 0 xs r.offset r.length number)
        (rw (two k, ready-number k, le-leb _ _ write_range.0, le-leb _ _ write_range.1, le-leb _ _ write_range.2)) refl

  -- The map of the process.
  abbrev map : List ℕ
  map = map_at h.space (suc r.process) xs

  -- The map of the process lies in the slice.
  write_in : (suc r.process + 1) * (4 * h.space) ≤ length xs
  write_in = state_in h xs k.lawful r.process (ready-process k)

  -- A write refuses by the space of the map alone.
  write_asks : write_refusal map r.offset r.length number true ≡ cond (plain_fits h new) 0 16
  unfolding first_no write_refusal
  write_asks =
      let b = write_range in
      rw (state_view h xs k.lawful r.process (ready-process k), ready-number k, le-leb _ _ b.0, le-leb _ _ b.1, le-leb _ _ b.2)
      (ap (λ (n : ℕ). cond (leb (length (runs_of new)) n) 0 16) (map_space h.space (suc r.process) xs write_in))

  -- Replacing the lent map replaces the view in the slice.
  write_home : (b : Bool) → with_map h.space (suc r.process) (cond b (map_for h.space new) map) xs
      ≡ cond b (with_map h.space (suc r.process) (map_for h.space new) xs) xs
  write_home true = refl
  write_home false = with_same h.space (suc r.process) xs write_in

  -- A write that does not publish does what `write` does to the view.
  pub write_own : publishes h.model 1 ≡ false → {answer : Answer} {last : List ℕ} →
      let m = lent_map h.space (r.process + 1) xs in
      let at = (r.process + 1) * (4 * h.space) in
      answer ≡ or_refused (write_refusal m r.offset r.length number true) Done →
      last ≡ or_kept (write_refusal m r.offset r.length number true) (written_map m r.offset r.length number true) m →
      (out : List ℕ) → Steps (step_of h xs r number out) answer (put_mid at (at + 4 * h.space - at) xs last) out
  unfolding written_map
  write_own p {answer} {last} a l =
      let q : publishes h.model r.kind ≡ false = ap (publishes h.model) kind ∙ p in
      let e = lent-own k in
      let n = write_refusal map r.offset r.length number true in
      let left : last ≡ or_kept n (map_for h.space new) map =
      l ∙ (λ i. or_kept (write_refusal (e i) r.offset r.length number true) (written_map (e i) r.offset r.length number true) (e i))
      ∙ ap (λ (z : ℕ). or_kept n (map_for z new) map) (map_space h.space (suc r.process) xs write_in) in
      by-quiet k new (old k).shared (rw (write_is, q, write_stays)) (rw q) write_quiet
      (write_asks ∙ ap (λ (b : Bool). cond (b && plain_fits h new) 0 16) (sym (shared-fits k)))
      (a ∙ ap (λ (m : List ℕ). or_refused (write_refusal m r.offset r.length number true) Done) e)
      (home ((r.process + 1) * (4 * h.space)) (4 * h.space) xs last
      ∙ (λ i. with_map h.space (add-one r.process i) (left i) xs) ∙ write_home (eqb n 0))
      (λ f. sym (to_view_alone h xs k.lawful r.process (ready-process k) new
      (leb-true _ _ (and_out (plain_fits h (old k).shared) (plain_fits h new) f).1)))

-- ---- A read

module _ {h : Header} {xs : List ℕ} {r : Row} {number : ℕ} (k : Ready h xs r number) (kind : r.kind ≡ READ) where
  -- The range of a read ends within files.
  read-range : (r.offset ≤ OFFSET_MAX) × (r.length ≤ OFFSET_MAX) × (r.offset + r.length ≤ OFFSET_MAX)
  read-range = asked-range h r number (ready-yes k) (omega (arith, kind))

  -- The kind of the row is that of a read.
  read_is : eqb r.kind READ ≡ true
  read_is = rw kind

  -- A read is no write.
  read_plain : eqb r.kind WRITE ≡ false
  read_plain = rw kind

  -- No read publishes.
  read_stays : publishes h.model r.kind ≡ false
  unfolding publishes
  read_stays = rw kind (simp and-false)

  module _ (out : List ℕ) {answer : Answer} where
    -- A read that refreshes does what `read` of the map of pieces does.
    module _ {maps' out' : List ℕ} where
      -- The answer slice and the maps are those that `read` of the map of pieces leaves.
      pub read-fresh : refreshes h.model 0 ≡ true → let p = r.process + 1 in
          let n = read_refusal h.space p 0 xs r.offset r.length (length out) in
          let ps = pieces_of (refreshed (view_of h.space p 0 xs) (below_of h.space p 0 xs)) r.offset r.length in
          answer ≡ or_refused n (listed_count ps) → maps' ≡ or_kept n (refreshed_maps h.space p 0 xs) xs → out' ≡ or_kept n (listed_in ps out) out →
          Steps (step_of h xs r number out) answer maps' out'
      unfolding first_no read_refusal refreshed_maps
      read-fresh f a m o =
          let q : refreshes h.model r.kind ≡ true = ap (refreshes h.model) kind ∙ f in
          let e = add-one r.process in
          let v = refreshed (own k) (old k).shared in
          let n : ℕ → ℕ = λ p. read_refusal h.space p 0 xs r.offset r.length (length out) in
          let ps : ℕ → List Run = λ p. pieces_of (refreshed (view_of h.space p 0 xs) (below_of h.space p 0 xs)) r.offset r.length in
          let b = read-range in
          by_read k v (old k).shared (rw (read_plain, read_stays, q)) (rw read_stays) read_is out
          {n = n (suc r.process)}
          (rw (two k, le-leb _ _ b.0, le-leb _ _ b.1, le-leb _ _ b.2, and_comm (plain_fits h v) (plain_fits h (old k).shared)))
          (a ∙ (λ i. or_refused (n (e i)) (listed_count (ps (e i)))))
          (m ∙ (λ i. or_kept (n (e i)) (refreshed_maps h.space (e i) 0 xs) xs))
          (o ∙ (λ i. or_kept (n (e i)) (listed_in (ps (e i)) out) out))
          (λ t. sym (both_to k v (old k).shared (rw (read_plain, read_stays, q)) (rw read_stays) t))

    -- A read that does not refresh lists the pieces of the view.
    pub read-own : refreshes h.model 0 ≡ false → {out' : List ℕ} →
        let m = lent_map h.space (r.process + 1) xs in
        let n = list_refusal m r.offset r.length (length out) in
        let ps = pieces_of (bytes_of m) r.offset r.length in
        answer ≡ or_refused n (listed_count ps) → out' ≡ or_kept n (listed_in ps out) out → Steps (step_of h xs r number out) answer xs out'
    unfolding first_no list_refusal
    read-own f a o =
        let q : refreshes h.model r.kind ≡ false = ap (refreshes h.model) kind ∙ f in
        let e = lent-own k in
        let n : List ℕ → ℕ = λ m. list_refusal m r.offset r.length (length out) in
        let ps : List ℕ → List Run = λ m. pieces_of (bytes_of m) r.offset r.length in
        let law = state_view h xs k.lawful r.process (ready-process k) in
        let b = read-range in
        by_read k (own k) (old k).shared (rw (read_plain, read_stays, q)) (rw read_stays) read_is out
        {n = n (map_at h.space (suc r.process) xs)}
        (rw (law, le-leb _ _ b.0, le-leb _ _ b.1, le-leb _ _ b.2, shared-fits k, own-fits k))
        (a ∙ (λ i. or_refused (n (e i)) (listed_count (ps (e i)))))
        (same_kept (n (map_at h.space (suc r.process) xs)) refl)
        (o ∙ (λ i. or_kept (n (e i)) (listed_in (ps (e i)) out) out))
        (λ t. sym (still_to k))
