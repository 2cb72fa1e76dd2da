-- Demands 2 and 3 about whole runs of the layered and the plain file.
use Rattle.std.proofs.Common.{ℕ, zero, suc, ◌+◌, ◌*◌, ◌≤◌, ◌<◌, arith, ◌≡◌, refl, sym, ap, subst, ◌∙◌, ◌↔◌, inl, inr, Bool, true, false, cond, List, [], ◌∷◌, ◌++◌, append_assoc, reverse, length, replicate, eq-eqb, ltb-true, lt-ltb}
use mathlib.Core.List.{reverse-cons, reverse-append, reverse-reverse}
use lib.ListN.{length-replicate}
use lib.Dec.{ltb, leb, eqb}
use Rattle.rows.specs.Limits.{MODELS, PROCESSES, ROWS, FILES, OFFSET_MAX}
use Rattle.rows.specs.Kinds.{WRITE, COMMIT, SEND}
use Rattle.models.specs.Models.{COMMIT_MODEL}
use Rattle.csv_records.specs.Reading.{records}
use Rattle.rows.specs.declared.row.Row.{Row}
use Rattle.trace.specs.Questions.{check_trace, accepted}
use Rattle.trace.proofs.Laws.{WellFormed, Sound, accepted-passed, accepted-sound}
use Rattle.rows.specs.Rows.{row_at}
use Rattle.rows.proofs.Bools.{and_out}
use Rattle.trace.proofs.Sounds.{sound_row}
use Rattle.extents_meaning.specs.Cells.{number_in, in_range}
use Rattle.races_meaning.specs.Races.{race, verdict_of, free}
use Rattle.races_meaning.proofs.Verdicts.{free-iff, race_out}
use Rattle.machine_meaning.specs.Layers.{Layers, fresh, nothing, of_file}
use Rattle.machine_meaning.specs.States.{Header, maps_length}
use Rattle.machine_meaning.specs.Steps.{uses_range}
use Rattle.consistency.specs.Orders.{Allowed}
use Rattle.rows.specs.Lists.{In}
use Rattle.consistency.specs.Files.{NumberedRow, rows_for, End, end_rows, processes_of, NumbersIn, ByAll, writes_in, SpaceFor, header_for, Lent, ReadsPlain, Equal}
use Rattle.consistency.proofs.Core.{run, plain, Ok, Shown, by_read, at-end, publish_all}
use Rattle.consistency.proofs.Freedom.{row-of, reads_plain, published-plain}
use Rattle.consistency.proofs.Witness.{race_shown}
use Rattle.consistency.proofs.Meaning.{layers_run, plain_run, ReadsSame, byte_trace}
use Rattle.consistency.proofs.Encoding.{Made, AllFit, Enough, agree-iff, level-iff}
use Rattle.consistency.proofs.Bytewise.{layers_at, plain_at, reads_in, reads-out, ends-plain, ends_read, commits-at, layers_append, plain-append, reads-append, reads_first}
use Rattle.consistency.proofs.Bridges.{allowed-ok, first-allowed, ok_allowed, free-at, race_at, commits, all-last}

-- ---- Points: the ends of the trace's writes

unfoldable pub points_of : List Row → List ℕ
points_of [] = []
points_of (r ∷ rows) = cond (eqb r.kind WRITE) (r.offset ∷ ((r.offset + r.length) ∷ points_of rows)) (points_of rows)

-- Each write has two points.
pub points_length : (rows : List Row) → length (points_of rows) ≤ 2 * writes_in rows
unfolding points_of writes_in
points_length [] = omega arith
points_length (r ∷ rows) = go (eqb r.kind WRITE) (points_length rows)
  where
    go : (x : Bool) → length (points_of rows) ≤ 2 * writes_in rows →
        length (cond x (r.offset ∷ ((r.offset + r.length) ∷ points_of rows)) (points_of rows)) ≤ 2 * (cond x 1 0 + writes_in rows)
    go true h = omega arith
    go false h = omega arith

-- Maps that have space for twice the writes have space for a run from each point.
pub points_enough : (h : Header) (rows : List Row) → SpaceFor rows h.space → Enough h rows (points_of rows)
points_enough h rows room = record { few = points_length rows; room = room }

-- Both ends of a write are points.
points_in : (rows : List Row) (k : ℕ) → k < length rows → (row_at rows k).kind ≡ WRITE →
    In (row_at rows k).offset (points_of rows) × In ((row_at rows k).offset + (row_at rows k).length) (points_of rows)
unfolding points_of
points_in [] k h e = absurd (omega arith)
points_in (r ∷ rows) zero h e = rw (eq-eqb r.kind WRITE e) (inl refl, inr (inl refl))
points_in (r ∷ rows) (suc k) h e = go (eqb r.kind WRITE) (points_in rows k (omega arith) e)
  where
    go : (x : Bool) → In (row_at rows k).offset (points_of rows) × In ((row_at rows k).offset + (row_at rows k).length) (points_of rows) →
        In (row_at rows k).offset (cond x (r.offset ∷ ((r.offset + r.length) ∷ points_of rows)) (points_of rows))
        × In ((row_at rows k).offset + (row_at rows k).length) (cond x (r.offset ∷ ((r.offset + r.length) ∷ points_of rows)) (points_of rows))
    go true i = (inr (inr i.0), inr (inr i.1))
    go false i = i

-- A byte of a range lies below its end.
range-end : (s n b : ℕ) → in_range s n b ≡ true → b < s + n
range-end s n b e = ltb-true b (s + n) (and_out (leb s b) (ltb b (s + n)) e).1

-- ---- The turned list of a list with a last element

last-first : (l : List ℕ) (y : ℕ) → reverse (l ++ (y ∷ [])) ≡ y ∷ reverse l
last-first l y = reverse-append l (y ∷ [])

-- Rows of two parts pass where both parts do.
pub fit_append : (h : Header) (points : List ℕ) (l m : List NumberedRow) → AllFit h points l → AllFit h points m → AllFit h points (l ++ m)
fit_append h points [] m a b = b
fit_append h points (x ∷ l) m a b = (a.0, fit_append h points l m a.1 b)

-- ---- A sound trace within its limits

module _ (rows : List Row) (P : ℕ) (sound : Sound P rows) (few : length rows ≤ ROWS) (some : 1 ≤ P) (most : P ≤ PROCESSES) where
  well : (k : ℕ) → k < length rows → WellFormed P (row_at rows k)
  well k h = sound_row sound k h

  module _ (model space file : ℕ) (m : model < MODELS) (f : file < FILES) where
    abbrev h : Header
    h = header_for model P space file

    made : Made h
    made = record { is_model = m; some-process = some; few-processes = most; is_file = f }

    -- Every row of an order passes the questions before 16.
    pub order-fits : (order : List ℕ) → ((k : ℕ) → In k order → k < length rows) → AllFit h (points_of rows) (rows_for rows file order)
    unfolding rows_for
    order-fits [] i = tt
    order-fits (k ∷ order) i = go (of_file file (row_at rows k)) refl (order-fits order (λ j e. i j (inr e)))
      where
        go : (x : Bool) → of_file file (row_at rows k) ≡ x → AllFit h (points_of rows) (rows_for rows file order) →
            AllFit h (points_of rows) (cond x (record { row = row_at rows k; number = suc k } ∷ rows_for rows file order) (rows_for rows file order))
        go true e rest =
            let l : k < length rows = i k (inl refl) in (
              record {
                of-file = e;
                numbered = omega arith;
                number-most = omega (arith, few);
                by_process = (well k l).process;
                range-end = λ u. (well k l).end;
                at-points = points_in rows k l;
              },
              rest,
            )
        go false e rest = rest

    -- A row that ends a process's run passes the questions before 16.
    pub ends-fit : (kind : ℕ) → kind < SEND →
        (uses_range (record { process = 0; kind = kind; file = file; offset = 0; length = 0; message = 0 }) ≡ false) → (kind ≡ WRITE → ⊥) →
        (ends : List End) → ((p : ℕ) → In p (processes_of ends) → p < P) → NumbersIn ends → AllFit h (points_of rows) (end_rows kind file ends)
    unfolding end_rows processes_of
    ends-fit kind s u w [] i n = tt
    ends-fit kind s u w (e ∷ ends) i n = (
      record {
        of-file = rw (lt-ltb kind SEND s) (eq-eqb file file refl);
        numbered = n.0;
        number-most = n.1;
        by_process = i e.process (inl refl);
        range-end = λ x. omega arith;
        at-points = λ q. absurd (w q);
      },
      ends-fit kind s u w ends (λ p q. i p (inr q)) n.2,
    )

  -- Where the trace is free every read of every allowed order finds the plain file's numbers.
  reads-free : (model : ℕ) → model < MODELS → verdict_of rows model ≡ free → (file : ℕ) (order : List ℕ) → Allowed rows order →
      ReadsSame model (rows_for rows file order) fresh nothing
  reads-free model m e file order allowed =
      reads_in rows model file order
      (λ first y rest q b r.
      let a = first-allowed rows (first ++ (y ∷ [])) rest (subst (Allowed rows) (q ∙ sym (append_assoc first (y ∷ []) rest)) allowed) in
      let ok = subst (Ok (byte_trace rows model file b)) (last-first first y) (allowed-ok rows model file b (first ++ (y ∷ [])) a) in
      reads_plain (byte_trace rows model file b) (free-at rows model m e file b) y (reverse first) ok r)

  -- Demand 2 for the rows of a trace that is free under a model.
  pub free-reads : (model : ℕ) → model < MODELS → verdict_of rows model ≡ free → (space : ℕ) → SpaceFor rows space → ReadsPlain model P space rows
  free-reads model m e space room file f order allowed xs ys out lent =
      (agree-iff (made model space file m f) (points_enough (h model space file m f) rows room) lent (rows_for rows file order)
      (order-fits model space file m f order allowed.of_trace)).1 (reads-free model m e file order allowed)

  -- ---- Commit

  module _ (file : ℕ) (f : file < FILES) (order : List ℕ) (allowed : Allowed rows order) (ends : List End) (all : ByAll P ends) where
    abbrev l : List NumberedRow
    l = rows_for rows file order

    abbrev final : List NumberedRow
    final = end_rows COMMIT file ends

    -- The rows of a whole run pass the questions before 16.
    whole-fits : (space : ℕ) → AllFit (header_for COMMIT_MODEL P space file) (points_of rows) (l ++ final)
    whole-fits space =
        fit_append (header_for COMMIT_MODEL P space file) (points_of rows) l final
        (order-fits COMMIT_MODEL space file (omega arith) f order allowed.of_trace)
        (ends-fit COMMIT_MODEL space file (omega arith) f COMMIT (omega arith) refl (λ q. absurd (omega (arith, q))) ends (λ p i. (all.every p).1 i)
        all.numbered)

    -- What the published file holds at the end of a run.
    published-end : (b : ℕ) → number_in ((layers_run COMMIT_MODEL (l ++ final) fresh).shared b)
        ≡ (publish_all (processes_of ends) (run (byte_trace rows COMMIT_MODEL file b) (reverse order))).published
    published-end b =
        ap (λ (s : Layers). number_in (s.shared b)) (layers_append COMMIT_MODEL l final fresh)
        ∙ (commits-at file ends (layers_run COMMIT_MODEL l fresh) b (run (byte_trace rows COMMIT_MODEL file b) (reverse order))
        (layers_at rows COMMIT_MODEL file b order)).shared

    plain_end : (b : ℕ) → number_in (plain_run (l ++ final) nothing b) ≡ plain (byte_trace rows COMMIT_MODEL file b) (reverse order)
    plain_end b =
        ap (λ (g : ℕ → ℕ). number_in (g b)) (plain-append l final nothing ∙ ends-plain COMMIT file ends (λ q. absurd (omega (arith, q))) (plain_run l nothing))
        ∙ plain_at rows COMMIT_MODEL file b order

  -- A free trace has equal files.
  free-equal : verdict_of rows COMMIT_MODEL ≡ free → (space : ℕ) → SpaceFor rows space → Equal P space rows
  free-equal e space room file f order allowed ends all xs ys out lent =
      let fit = whole-fits file f order allowed ends all space in
      let made' = made COMMIT_MODEL space file (omega arith) f in
      let enough = points_enough (header_for COMMIT_MODEL P space file) rows room in (
        (agree-iff made' enough lent (rows_for rows file order ++ end_rows COMMIT file ends) fit).1
            (reads-append COMMIT_MODEL (rows_for rows file order) (end_rows COMMIT file ends) fresh nothing
            (reads-free COMMIT_MODEL (omega arith) e file order allowed)
            (ends_read COMMIT COMMIT_MODEL file ends (λ q. absurd (omega (arith, q))) _ _)),
        (level-iff made' enough lent (rows_for rows file order ++ end_rows COMMIT file ends) fit).1
            (λ b lb. published-end file f order allowed ends all b ∙ same b ∙ sym (plain_end file f order allowed ends all b)),
      )
    where
      same : (b : ℕ) → (publish_all (processes_of ends) (run (byte_trace rows COMMIT_MODEL file b) (reverse order))).published
          ≡ plain (byte_trace rows COMMIT_MODEL file b) (reverse order)
      same b =
          let t = byte_trace rows COMMIT_MODEL file b in
          let ok = allowed-ok rows COMMIT_MODEL file b order allowed in
          published-plain t (free-at rows COMMIT_MODEL (omega arith) e file b) (reverse order) ok (processes_of ends)
          (λ k i. (all.every (row_at rows k).process).0 (well k (row-of t ok k i)).process)

  -- Slices of zeros have room.
  zeros : (g : Header) → Lent g rows (replicate (maps_length g) 0) (replicate (4 * g.space) 0) (replicate (3 * (2 * writes_in rows + 1)) 0)
  zeros g =
      record {
        for_machine = omega (arith, length-replicate {A = ℕ} (maps_length g) 0);
        for_plain = omega (arith, length-replicate {A = ℕ} (4 * g.space) 0);
        for_answers = omega (arith, length-replicate {A = ℕ} (3 * (2 * writes_in rows + 1)) 0);
      }

  module _ (space : ℕ) (room : SpaceFor rows space) (equal : Equal P space rows) (file : ℕ) (f : file < FILES) (order : List ℕ)
      (allowed : Allowed rows order) (ends : List End) (all : ByAll P ends) where
    abbrev g : Header
    g = header_for COMMIT_MODEL P space file

    abbrev whole : List NumberedRow
    whole = rows_for rows file order ++ end_rows COMMIT file ends

    -- Where the files are equal, every read of the order finds the plain file's numbers.
    equal-reads : ReadsSame COMMIT_MODEL (rows_for rows file order) fresh nothing
    equal-reads =
        reads_first COMMIT_MODEL (rows_for rows file order) (end_rows COMMIT file ends) fresh nothing
        ((agree-iff (made COMMIT_MODEL space file (omega arith) f) (points_enough g rows room) (zeros g) whole
        (whole-fits file f order allowed ends all space)).0
        (equal file f order allowed ends all _ _ _ (zeros g)).0)

    -- Where the files are equal, at the end each published byte is the plain one.
    equal-end : (b : ℕ) → b < OFFSET_MAX → (publish_all (processes_of ends) (run (byte_trace rows COMMIT_MODEL file b) (reverse order))).published
        ≡ plain (byte_trace rows COMMIT_MODEL file b) (reverse order)
    equal-end b lb =
        sym (published-end file f order allowed ends all b)
        ∙ (level-iff (made COMMIT_MODEL space file (omega arith) f) (points_enough g rows room) (zeros g) whole
        (whole-fits file f order allowed ends all space)).0
        (equal file f order allowed ends all _ _ _ (zeros g)).1 b lb
        ∙ plain_end file f order allowed ends all b

  -- Where an order shows a difference at a byte, the files are not equal.
  not_shown : (space : ℕ) → SpaceFor rows space → Equal P space rows → (file b : ℕ) → file < FILES → b < OFFSET_MAX → (h : List ℕ) →
      Ok (byte_trace rows COMMIT_MODEL file b) h → Shown (byte_trace rows COMMIT_MODEL file b) h → ⊥
  not_shown space room equal file b f lb h ok (by_read y l q r n) =
      let t = byte_trace rows COMMIT_MODEL file b in
      let p = (row_at rows y).process in
      let e = all-last P p (well y (row-of t ok y (rw q (inl refl)))).process in
      let allowed = ok_allowed rows COMMIT_MODEL file b h ok in
      let turned : reverse h ≡ reverse l ++ (y ∷ []) = ap reverse q ∙ reverse-cons y l in
      let reads = equal-reads space room equal file f (reverse h) allowed e.1 e.2 in
      let again = reads-out rows COMMIT_MODEL file (reverse l) y
      (subst (λ (o : List ℕ). ReadsSame COMMIT_MODEL (rows_for rows file o) fresh nothing) turned reads) b r in
      n (ap (λ (z : List ℕ). (run t z).view p) q
      ∙ subst (λ (z : List ℕ). (run t (y ∷ z)).view p ≡ plain t z) (reverse-reverse l) again)
  not_shown space room equal file b f lb h ok (at-end p k i e n) =
      let t = byte_trace rows COMMIT_MODEL file b in
      let below : p < P = subst (λ (z : ℕ). z < P) e (well k (row-of t ok k i)).process in
      let a = all-last P p below in
      let allowed = ok_allowed rows COMMIT_MODEL file b h ok in
      let end = equal-end space room equal file f (reverse h) allowed a.1 a.2 b lb in
      n a.0 a.4
      (subst (λ (z : List ℕ). (publish_all z (run t h)).published ≡ plain t h) a.3
      (subst (λ (z : List ℕ). (publish_all (processes_of a.1) (run t z)).published ≡ plain t z) (reverse-reverse h) end))

  -- Equal files are those of a free trace.
  equal-free : (space : ℕ) → SpaceFor rows space → Equal P space rows → verdict_of rows COMMIT_MODEL ≡ free
  equal-free space room equal = (free-iff rows COMMIT_MODEL).1 no_race
    where
      no_race : (x y : ℕ) → race rows COMMIT_MODEL x y ≡ true → ⊥
      no_race x y r =
          let o = race_out rows COMMIT_MODEL x y r in
          let found = race_at rows COMMIT_MODEL x y (omega arith) r in
          let b = found.0 in
          let at = found.1 in
          let file = (row_at rows x).file in
          let w = well x (omega (arith, o.0, o.1)) in
          let t = byte_trace rows COMMIT_MODEL file b in
          let s = race_shown t (commits rows file b) x y at.conflicts at.unsynchronized in
          let inside : b < (row_at rows x).offset + (row_at rows x).length = range-end (row_at rows x).offset (row_at rows x).length b at.in_earlier in
          not_shown space room equal file b w.file (omega (arith, inside, w.end)) s.0 s.1 s.2

  -- ---- Orders alone

  -- An order of a free trace shows nothing.
  free-unshown : verdict_of rows COMMIT_MODEL ≡ free → (file b : ℕ) (h : List ℕ) → Ok (byte_trace rows COMMIT_MODEL file b) h →
      Shown (byte_trace rows COMMIT_MODEL file b) h → ⊥
  free-unshown e file b h ok (by_read y l q r n) =
      let t = byte_trace rows COMMIT_MODEL file b in
      n (ap (λ (z : List ℕ). (run t z).view (row_at rows y).process) q
      ∙ reads_plain t (free-at rows COMMIT_MODEL (omega arith) e file b) y l (subst (Ok t) q ok) r)
  free-unshown e file b h ok (at-end p k i w n) =
      let t = byte_trace rows COMMIT_MODEL file b in
      let below : p < P = subst (λ (z : ℕ). z < P) w (well k (row-of t ok k i)).process in
      let a = all-last P p below in
      n a.0 a.4
      (subst (λ (z : List ℕ). (publish_all z (run t h)).published ≡ plain t h) a.3
      (published-plain t (free-at rows COMMIT_MODEL (omega arith) e file b) h ok (processes_of a.1)
      (λ j m. (a.2.every (row_at rows j).process).0 (well j (row-of t ok j m)).process)))

  -- The trace is free under commit exactly when no allowed order of any closed set shows a difference at any byte. Which of the orders was
  -- recorded does not matter.
  pub free-by_orders : (verdict_of rows COMMIT_MODEL ≡ free)
      ↔ ((file b : ℕ) (h : List ℕ) → Ok (byte_trace rows COMMIT_MODEL file b) h → Shown (byte_trace rows COMMIT_MODEL file b) h → ⊥)
  free-by_orders = (
    free-unshown,
    λ none. (free-iff rows COMMIT_MODEL).1
        (λ x y r.
        let found = race_at rows COMMIT_MODEL x y (omega arith) r in
        let s = race_shown (byte_trace rows COMMIT_MODEL (row_at rows x).file found.0) (commits rows (row_at rows x).file found.0) x y
        found.1.conflicts found.1.unsynchronized in
        none (row_at rows x).file found.0 s.0 s.1 s.2),
  )

-- ---- The demands, from the text on

module _ (text : List ℕ) (header model R P limit a b : ℕ) (rows : List Row) (taken : check_trace text header model R P limit a b ≡ accepted rows) where
  pub sound_trace : Sound P rows × (length rows ≤ ROWS) × (1 ≤ P) × (P ≤ PROCESSES)
  sound_trace =
      let p = accepted-passed text header model R P limit a b rows taken in
      let s = accepted-sound header R P (records text limit) rows p.1 in
      (s.1, omega (arith, s.0, p.0.few-rows), p.0.some-processes, p.0.few-processes)

  -- Demand 2: where an accepted trace is free under a model, every read in every allowed order returns what one plain file would, and no row is
  -- refused, in maps of every space from twice the trace's writes on.
  pub demand_2 : (m : ℕ) → m < MODELS → verdict_of rows m ≡ free → (space : ℕ) → SpaceFor rows space → ReadsPlain m P space rows
  demand_2 = let s = sound_trace in free-reads rows P s.0 s.1 s.2 s.3

  -- Demand 3: the layered and the plain file of an accepted trace are equal exactly when its verdict under commit is free, for every such space.
  pub demand_3 : (space : ℕ) → SpaceFor rows space → (verdict_of rows COMMIT_MODEL ≡ free) ↔ Equal P space rows
  demand_3 space room =
      let s = sound_trace in
      (λ e. free-equal rows P s.0 s.1 s.2 s.3 e space room, equal-free rows P s.0 s.1 s.2 s.3 space room)

  -- Demand 2 in maps with space for exactly twice the trace's writes.
  pub demand_2_exactly : (m : ℕ) → m < MODELS → verdict_of rows m ≡ free → ReadsPlain m P (2 * writes_in rows) rows
  demand_2_exactly m h e = demand_2 m h e (2 * writes_in rows) (omega arith)

  pub demand_3_exactly : (verdict_of rows COMMIT_MODEL ≡ free) ↔ Equal P (2 * writes_in rows) rows
  demand_3_exactly = demand_3 (2 * writes_in rows) (omega arith)
