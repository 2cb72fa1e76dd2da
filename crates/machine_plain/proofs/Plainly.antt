-- A lawful plain file, and what a row does to it, by what the code tests and calls.
use Rattle.std.proofs.Common.{ℕ, ◌+◌, ◌*◌, ◌/◌, ◌≤◌, ◌<◌, arith, ◌≡◌, refl, sym, ap, ◌∙◌, true, false, cond, List, [], ◌∷◌, ◌++◌, length, take, drop, take-append-drop, length-take-le, le-leb, leb-true, lt-ltb, le-ltb, ne_eqb}
use lib.Dec.{leb, eqb}
use borrow.Author.Tests.{lt-leb}
use Rattle.rows.specs.Limits.{ROWS, FILES, OFFSET_MAX}
use Rattle.rows.specs.Kinds.{READ, WRITE}
use Rattle.rows.specs.declared.row.Row.{Row}
use Rattle.rows.specs.Questions.{first_no, is_process_limit}
use Rattle.extents_meaning.specs.Cells.{Bytes, cell_of, overwrite}
use Rattle.extents_meaning.specs.Runs.{Run, runs_of, pieces_of}
use Rattle.extents_meaning.specs.Maps.{map_for, threes, space_in, bytes_of, lawful, lawful_published, map_at, listed_in}
use Rattle.rows.proofs.Bools.{and_out}
use Rattle.machine_meaning.specs.Layers.{after_plain, pieces_read}
use Rattle.machine_meaning.specs.States.{Header, lawful_plain, plain_in, plain_to, plain_fits}
use Rattle.machine_meaning.specs.Steps.{StepAnswer, done, listed, plain_making_questions, row_asked, room_asked, plain_step_of}
use Rattle.machine_meaning.proofs.Lawful.{here-fit, here-again}
use Rattle.rows.proofs.Asking.{AllYes, first-no, yes-behind, number-some}
use Rattle.rows.specs.Refusals.{number_of}
use Rattle.rows.specs.declared.refusal.Refusal.{Refusal}
use Rattle.extents.specs.Answers.{Answer, Done, Refused}
use Rattle.extents.specs.Entries.{or_refused, or_kept, listed_count, write_refusal, written_map, list_refusal}
use Rattle.machine_state.specs.Answers.{answer_of, Steps}
use Rattle.machine_state.proofs.Maps.{first-map, plain-making}
use Rattle.machine_state.proofs.Questions.{asked-yes, asked-number, asked-range}
use Rattle.machine_state.proofs.Answering.{same_kept, kept_append, carried, refused}

-- ---- Lawful plain files

module _ (h : Header) (xs : List ℕ) where
  -- No process limit: the plain file is not lawful.
  pub no_limit : is_process_limit h.processes ≡ false → false ≡ lawful_plain h xs
  unfolding lawful_plain
  no_limit e = rw e

  module _ (limit : is_process_limit h.processes ≡ true) where
    -- A file past the files: the plain file is not lawful.
    pub no_file : FILES ≤ h.file → false ≡ lawful_plain h xs
    unfolding lawful_plain
    no_file l = rw (limit, le-ltb h.file FILES l)

    module _ (file : h.file < FILES) where
      -- A slice that is too short: the plain file is not lawful.
      pub no_room : length xs / 4 < h.space → false ≡ lawful_plain h xs
      unfolding lawful_plain
      no_room l = rw (limit, lt-ltb h.file FILES file, lt-leb (4 * h.space) (length xs) (omega arith))

      -- If the header and the slice pass, the map decides.
      pub one_map : h.space ≤ length xs / 4 → lawful_published (take (4 * h.space) xs) ≡ lawful_plain h xs
      unfolding lawful_plain
      one_map l =
          rw (limit, lt-ltb h.file FILES file, le-leb (4 * h.space) (length xs) (omega arith))
          (ap lawful_published (sym (first-map h.space xs)))

-- ---- Steps

module _ (h : Header) (xs : List ℕ) (law : lawful_plain h xs ≡ true) where
  -- The map of the plain file.
  abbrev map : List ℕ
  map = take (4 * h.space) xs

  -- The map lies in the slice.
  pub plain_in_lem : 4 * h.space ≤ length xs
  unfolding plain_making_questions
  plain_in_lem = leb-true _ _ (plain-making h xs law).0.0

  -- The first map of the slice is lawful.
  here-law : lawful (map_at h.space 0 xs) ≡ true
  here-law = (and_out (lawful (map_at h.space 0 xs)) _ (plain-making h xs law).1).0

  -- The lent map is lawful.
  pub map_law : lawful map ≡ true
  map_law = ap lawful (sym (first-map h.space xs)) ∙ here-law

  -- The length of the lent map.
  pub map_length : 4 * h.space ≡ length map
  map_length = sym (length-take-le (4 * h.space) xs plain_in_lem)

  -- The space of the lent map.
  map_space : space_in map ≡ h.space
  map_space = omega (arith, map_length)

  -- The bytes of the plain file are those of the lent map.
  map_bytes : plain_in h xs ≡ bytes_of map
  map_bytes = ap bytes_of (first-map h.space xs)

  -- Encoding the bytes of the plain file gives the slice.
  same_map : plain_to h (plain_in h xs) xs ≡ xs
  unfolding plain_to
  same_map =
      let again = here-again h.space 0 xs here-law (omega (arith, plain_in_lem)) in
      (λ i. (again ∙ first-map h.space xs) i ++ drop (4 * h.space) xs) ∙ take-append-drop (4 * h.space) xs

  -- The bytes of the plain file fit the map.
  same-fits : plain_fits h (plain_in h xs) ≡ true
  same-fits = le-leb _ _ (here-fit h.space 0 xs here-law (omega (arith, plain_in_lem)))

  module _ (r : Row) (number : ℕ) (out : List ℕ) where
    -- A step of a lawful plain file refuses by the first No of the row.
    pub plain-asked : (refusal : Refusal) → number_of refusal ≡ first_no (row_asked h r number) →
        Steps (plain_step_of h xs r number out) (Refused (number_of refusal)) xs out
    unfolding plain_step_of first_no
    plain-asked refusal e =
        let k = number_of refusal in
        let low : 1 ≤ k = number-some refusal in
        let n : k ≡ 0 → ⊥ = λ z. omega arith in
        let first = first-no (row_asked h r number) (room_asked (plain_fits h (after_plain r number (plain_in h xs)))
        (pieces_read r (after_plain r number (plain_in h xs))) (length out)) (λ z. n (e ∙ z)) ∙ sym e in
        refused _ k xs out (λ i. cond (law i) (first i) 13) n

    module _ (asked : first_no (row_asked h r number) ≡ 0) where
      -- Every question of the row is answered Yes.
      passes : AllYes (row_asked h r number)
      passes = asked-yes h r number asked

      -- The bytes after the row.
      abbrev after : Bytes
      after = after_plain r number (plain_in h xs)

      -- The pieces that the row reads.
      abbrev read : List Run
      read = pieces_read r after

      -- If the state and the row pass, questions 16 and 17 decide.
      room : first_no (record { number = 13; yes = lawful_plain h xs } ∷ (row_asked h r number ++ room_asked (plain_fits h after) read (length out))) ≡
          cond (plain_fits h after) (cond (leb (3 * length read) (length out)) 0 17) 16
      unfolding first_no
      room =
          λ i. cond (law i) (yes-behind (row_asked h r number) (room_asked (plain_fits h after) read (length out)) passes i) 13

      -- A read lists the pieces of the map.
      module _ (kind : r.kind ≡ READ) where
        -- A read changes no byte.
        read-after : after ≡ plain_in h xs
        unfolding after_plain
        read-after = λ i. cond (eqb (kind i) WRITE) (overwrite r.offset r.length (cell_of number 0) (plain_in h xs)) (plain_in h xs)

        -- The pieces of a read are those of the map.
        read-pieces : read ≡ pieces_of (bytes_of map) r.offset r.length
        read-pieces = λ i. cond (eqb (kind i) READ) (pieces_of ((read-after ∙ map_bytes) i) r.offset r.length) []

        -- A read refuses by the room for its pieces alone.
        read-refusal : cond (plain_fits h after) (cond (leb (3 * length read) (length out)) 0 17) 16
            ≡ list_refusal map r.offset r.length (length out)
        unfolding list_refusal first_no
        read-refusal =
            let b = asked-range h r number passes (omega (arith, kind)) in
            (λ i. cond ((ap (plain_fits h) read-after ∙ same-fits) i) (cond (leb (3 * length (read-pieces i)) (length out)) 0 17) 16)
            ∙ sym (rw (
              map_law,
              le-leb r.offset OFFSET_MAX b.0,
              le-leb r.length OFFSET_MAX b.1,
              le-leb (r.offset + r.length) OFFSET_MAX b.2,
            ))

        -- A read does what `list_range` does.
        pub plain-read : {a : Answer} {zs : List ℕ} → a ≡ or_refused (list_refusal map r.offset r.length (length out))
            (listed_count (pieces_of (bytes_of map) r.offset r.length)) → zs ≡ or_kept (list_refusal map r.offset r.length (length out))
            (listed_in (pieces_of (bytes_of map) r.offset r.length) out) out → Steps (plain_step_of h xs r number out) a xs zs
        unfolding plain_step_of
        plain-read answer left =
            let k = list_refusal map r.offset r.length (length out) in
            let back = sym read-pieces in
            let at = sym kind in
            carried _ k xs out (room ∙ read-refusal)
            (answer ∙ (λ i. or_refused k (answer_of (cond (eqb (at i) READ) (listed (length (back i))) done))))
            (same_kept k (ap (λ (f : Bytes). plain_to h f xs) read-after ∙ same_map))
            (left ∙ (λ i. or_kept k (listed_in (back i) out) out)) (λ _. refl)

      -- A row that is no read lists nothing.
      module _ (kind : eqb r.kind READ ≡ false) where
        -- The row has no pieces.
        no_pieces : read ≡ []
        no_pieces = λ i. cond (kind i) (pieces_of after r.offset r.length) []

        -- The step answers that the row is done.
        no_answer : done ≡ cond (eqb r.kind READ) (listed (length read)) done
        no_answer = sym (λ i. cond (kind i) (listed (length read)) done)

        -- The answer slice stays as it is.
        no-list : (k : ℕ) → out ≡ or_kept k (listed_in read out) out
        unfolding threes
        no-list k = same_kept k (λ i. listed_in (no_pieces i) out)

        -- Question 17 is answered Yes.
        no-seventeen : cond {A = ℕ} (plain_fits h after) (cond (leb (3 * length read) (length out)) 0 17) 16 ≡ cond {A = ℕ} (plain_fits h after) 0 16
        no-seventeen =
            let fits = ap (λ (ps : List Run). leb (3 * length ps) (length out)) no_pieces ∙ le-leb 0 (length out) (omega arith) in
            λ i. cond (plain_fits h after) (cond (fits i) 0 17) 16

      -- A write changes the map.
      module _ (kind : r.kind ≡ WRITE) where
        -- The bytes with the range written.
        abbrev anew : Bytes
        anew = overwrite r.offset r.length (cell_of number 0) (bytes_of map)

        -- A write is no read.
        no_read : eqb r.kind READ ≡ false
        no_read = λ i. eqb (kind i) READ

        -- A write leaves the bytes with the range written.
        write-after : after ≡ anew
        unfolding after_plain
        write-after = λ i. cond (eqb (kind i) WRITE) (overwrite r.offset r.length (cell_of number 0) (map_bytes i)) (map_bytes i)

        -- A write refuses by the space of the map alone.
        write-refusal : cond (plain_fits h after) 0 16 ≡ write_refusal map r.offset r.length number false
        unfolding write_refusal first_no
        write-refusal =
            let b = asked-range h r number passes (omega (arith, kind)) in
            let n = asked-number h r number passes in
            (λ i. cond (leb (length (runs_of (write-after i))) (sym map_space i)) 0 16)
            ∙ sym (rw (
              map_law,
              le-leb 1 number n.0,
              le-leb number ROWS n.1,
              le-leb r.offset OFFSET_MAX b.0,
              le-leb r.length OFFSET_MAX b.1,
              le-leb (r.offset + r.length) OFFSET_MAX b.2,
            ))

        -- A write does what `write` of the map of pieces does.
        pub plain-write : {a : Answer} {zs : List ℕ} → a ≡ or_refused (write_refusal map r.offset r.length number false) Done →
            zs ≡ or_kept (write_refusal map r.offset r.length number false) (written_map map r.offset r.length number false) map →
            Steps (plain_step_of h xs r number out) a (zs ++ drop (4 * h.space) xs) out
        unfolding plain_step_of plain_to written_map
        plain-write answer left =
            let k = write_refusal map r.offset r.length number false in
            let rest = drop (4 * h.space) xs in
            let back = sym write-after in
            carried _ k xs out (room ∙ (no-seventeen no_read ∙ write-refusal))
            (answer ∙ ap (λ (a : StepAnswer). or_refused k (answer_of a)) (no_answer no_read))
            (ap (λ (zs : List ℕ). zs ++ rest) left ∙ kept_append k (map_for (space_in map) anew) map rest
            ∙ (λ i. or_kept k (map_for (map_space i) (back i) ++ rest) (take-append-drop (4 * h.space) xs i)))
            (no-list no_read k) (λ _. refl)

      -- A row that is neither a read nor a write changes nothing.
      pub plain_other : (r.kind ≡ READ → ⊥) → (r.kind ≡ WRITE → ⊥) → Steps (plain_step_of h xs r number out) Done xs out
      unfolding plain_step_of after_plain
      plain_other nr nw =
          let no = ne_eqb r.kind READ nr in
          let same : after ≡ plain_in h xs =
          λ i. cond (ne_eqb r.kind WRITE nw i) (overwrite r.offset r.length (cell_of number 0) (plain_in h xs)) (plain_in h xs) in
          carried _ 0 xs out (room ∙ no-seventeen no ∙ (λ i. cond ((ap (plain_fits h) same ∙ same-fits) i) 0 16)) (ap answer_of (no_answer no))
          (same_kept 0 (ap (λ (f : Bytes). plain_to h f xs) same ∙ same_map)) (no-list no 0) (λ _. refl)
