-- Allowed orders and races of a trace, as one byte of one file sees them.
use Rattle.std.proofs.Common.{ℕ, zero, suc, ◌<◌, arith, ◌≡◌, refl, sym, ◌∙◌, ◌↔◌, ◌⊎◌, inl, inr, Bool, true, false, not, List, [], ◌∷◌, ◌++◌, reverse, length, lt-ltb, ne_eqb, eqb-true}
use native.Mathlib.Decide.{ℕ_discrete}
use mathlib.Core.Bool.{false≢true, or-false, and-false}
use mathlib.Core.List.{reverse-cons}
use lib.Dec.{ltb, eqb}
use borrow.Author.Tests.{eqb-false, not-true}
use Rattle.rows.specs.Limits.{MODELS}
use Rattle.rows.specs.Kinds.{READ, WRITE, COMMIT, SEND}
use Rattle.models.specs.Models.{COMMIT_MODEL}
use Rattle.models.specs.Table.{publishes, refreshes}
use Rattle.rows.specs.declared.row.Row.{Row}
use Rattle.happens_before.specs.Order.{edge, hb}
use Rattle.rows.specs.Rows.{row_at}
use Rattle.rows.proofs.Bools.{and_out}
use Rattle.happens_before.proofs.Clocks.{edge-forward, hb-iff}
use Rattle.extents_meaning.specs.Cells.{in_range}
use Rattle.machine_meaning.specs.Layers.{of_file}
use Rattle.races_meaning.specs.Races.{conflict, chain, synchronized, race, verdict_of, free}
use Rattle.races_meaning.proofs.Verdicts.{free-iff, race_out}
use Rattle.races_meaning.proofs.Conflicts.{Conflict as RowsConflict, conflict-iff}
use Rattle.rows.specs.Lists.{In, Once}
use Rattle.consistency.specs.Files.{End, processes_of, NumbersIn, ByAll}
use Rattle.consistency.proofs.Core.{Chain, Conflict, Synchronized, Free, Commits}
use Rattle.consistency.proofs.Selections.{keep, select, select_in, select-out}
use Rattle.consistency.proofs.Meaning.{covers, covers-kind, read_only, byte_trace}
use Rattle.consistency.proofs.Orderings.{in_reverse, turned-in, turned-once}
use Rattle.consistency.proofs.Chains.{range-iff, covers-iff, chain_iff}
-- The orders: an allowed order is one for every byte, so is each first part of it, and what is allowed for a byte is allowed.
pub use Rattle.consistency.proofs.Orderings.{allowed-ok, first-allowed, ok_allowed}

-- ---- Conflicts

-- A row reads or writes the byte.
abbrev Touches : ℕ → ℕ → Row → Type 0
Touches file b r = (covers READ file b r ≡ true) ⊎ (covers WRITE file b r ≡ true)

-- A row that touches the byte is a data row of the file that has the byte in its range.
touches_out : (file b : ℕ) (r : Row) → Touches file b r →
    ((r.kind ≡ READ) ⊎ (r.kind ≡ WRITE)) × (r.file ≡ file) × (in_range r.offset r.length b ≡ true)
touches_out file b r (inl e) = let c = (covers-iff READ file b r (omega arith)).0 e in (inl c.0, c.1, c.2)
touches_out file b r (inr e) = let c = (covers-iff WRITE file b r (omega arith)).0 e in (inr c.0, c.1, c.2)

-- Two rows touch the byte, and one of them writes it.
abbrev Clash : ℕ → ℕ → Row → Row → Type 0
Clash file b r s =
    ((covers WRITE file b r ≡ true) × ((covers WRITE file b s ≡ true) ⊎ (covers READ file b s ≡ true)))
    ⊎ ((covers READ file b r ≡ true) × (covers WRITE file b s ≡ true))

-- Of rows that clash both touch the byte, and one is a write.
clash_touches : (file b : ℕ) (r s : Row) → Clash file b r s → Touches file b r × Touches file b s × ((r.kind ≡ WRITE) ⊎ (s.kind ≡ WRITE))
clash_touches file b r s (inl (w, inl v)) = (inr w, inr v, inl (covers-kind WRITE file b r w).0)
clash_touches file b r s (inl (w, inr v)) = (inr w, inl v, inl (covers-kind WRITE file b r w).0)
clash_touches file b r s (inr (v, w)) = (inl v, inr w, inr (covers-kind WRITE file b s w).0)

-- Rows of two processes that clash at a byte are in conflict.
clash_conflict : (file b : ℕ) (r s : Row) → Clash file b r s → (r.process ≡ s.process → ⊥) → RowsConflict r s
clash_conflict file b r s c d =
    let t = clash_touches file b r s c in
    let p = touches_out file b r t.0 in
    let q = touches_out file b s t.1 in
    record {
      first-data = p.0;
      second-data = q.0;
      one-file = p.1 ∙ sym q.1;
      byte = b;
      in_first = (range-iff _ _ b).0 p.2;
      in_second = (range-iff _ _ b).0 q.2;
      two-processes = d;
      one_writes = t.2;
    }

-- Rows in conflict clash at the byte that they share.
conflict-clash : (r s : Row) (c : RowsConflict r s) → Clash r.file c.byte r s
conflict-clash r s c = go c.first-data c.second-data c.one_writes
  where
    first : (kind : ℕ) → kind < SEND → r.kind ≡ kind → covers kind r.file c.byte r ≡ true
    first kind l k = (covers-iff kind r.file c.byte r l).1 (k, refl, (range-iff _ _ c.byte).1 c.in_first)

    second : (kind : ℕ) → kind < SEND → s.kind ≡ kind → covers kind r.file c.byte s ≡ true
    second kind l k = (covers-iff kind r.file c.byte s l).1 (k, sym c.one-file, (range-iff _ _ c.byte).1 c.in_second)

    go : (r.kind ≡ READ) ⊎ (r.kind ≡ WRITE) → (s.kind ≡ READ) ⊎ (s.kind ≡ WRITE) → (r.kind ≡ WRITE) ⊎ (s.kind ≡ WRITE) →
        Clash r.file c.byte r s
    go (inl k) (inl m) (inl w) = absurd (omega arith)
    go (inl k) (inl m) (inr w) = absurd (omega arith)
    go (inl k) (inr m) w = inr (first READ (omega arith) k, second WRITE (omega arith) m)
    go (inr k) (inl m) w = inl (first WRITE (omega arith) k, inr (second READ (omega arith) m))
    go (inr k) (inr m) w = inl (first WRITE (omega arith) k, inl (second WRITE (omega arith) m))

-- ---- Races

module _ (rows : List Row) (model file b x y : ℕ) where
  -- A read is synchronized where its byte says so.
  read-synchronized : covers READ file b (row_at rows x) ≡ true →
      (synchronized rows model x y ≡ true) ↔ Synchronized (byte_trace rows model file b) x y
  unfolding synchronized
  read-synchronized e = (λ s. inr (e, (hb-iff (edge-forward rows) x y).0 (sym same ∙ s)), back)
    where
      same : synchronized rows model x y ≡ hb (edge rows) x y
      same = rw (covers-kind READ file b (row_at rows x) e).0

      back : Synchronized (byte_trace rows model file b) x y → synchronized rows model x y ≡ true
      back (inl (w, _)) = absurd (false≢true (sym (read_only file b (row_at rows x) e) ∙ w))
      back (inr (_, before)) = same ∙ (hb-iff (edge-forward rows) x y).1 before

  -- A write is too, if its chains are.
  write_synchronized : covers WRITE file b (row_at rows x) ≡ true → (chain rows model x y ≡ true) ↔ Chain (byte_trace rows model file b) x y →
      (synchronized rows model x y ≡ true) ↔ Synchronized (byte_trace rows model file b) x y
  unfolding synchronized
  write_synchronized e chained = (λ s. inl (e, chained.0 (sym same ∙ s)), back)
    where
      same : synchronized rows model x y ≡ chain rows model x y
      same = rw (covers-kind WRITE file b (row_at rows x) e).0

      back : Synchronized (byte_trace rows model file b) x y → synchronized rows model x y ≡ true
      back (inl (_, c)) = same ∙ chained.1 c
      back (inr (r, _)) = absurd (false≢true (sym (read_only file b (row_at rows x) r) ∙ e))

  -- Rows that clash at a byte are synchronized where it says so.
  synchronized_iff : model < MODELS → Conflict (byte_trace rows model file b) x y →
      (synchronized rows model x y ≡ true) ↔ Synchronized (byte_trace rows model file b) x y
  synchronized_iff h (l, k, _, c) = let t = clash_touches file b (row_at rows x) (row_at rows y) c in go t.0 t.1
    where
      in_file : (i : ℕ) → Touches file b (row_at rows i) → (row_at rows i).file ≡ file
      in_file i t = (touches_out file b (row_at rows i) t).1

      go : Touches file b (row_at rows x) → Touches file b (row_at rows y) →
          (synchronized rows model x y ≡ true) ↔ Synchronized (byte_trace rows model file b) x y
      go (inl e) t = read-synchronized e
      go (inr e) t = write_synchronized e (chain_iff rows model file b x y (in_file x (inr e)) (in_file y t) h (omega arith) k)

-- A race is a conflict, the earlier row first, that is not synchronized.
race_iff : (rows : List Row) (model x y : ℕ) →
    (race rows model x y ≡ true)
    ↔ ((x < y) × (y < length rows) × (conflict (row_at rows x) (row_at rows y) ≡ true) × (synchronized rows model x y ≡ false))
unfolding race
race_iff rows model x y = (there, λ (l, h, c, s). rw (lt-ltb x y l, lt-ltb y (length rows) h, c, s))
  where
    there : race rows model x y ≡ true →
        (x < y) × (y < length rows) × (conflict (row_at rows x) (row_at rows y) ≡ true) × (synchronized rows model x y ≡ false)
    there e =
        let o = race_out rows model x y e in
        let a = and_out (ltb y (length rows)) _ (and_out (ltb x y) _ e).1 in
        let c = and_out (conflict (row_at rows x) (row_at rows y)) _ a.1 in
        (o.0, o.1, c.0, not-true (synchronized rows model x y) c.1)

-- A trace that is free is free at every byte of every file.
pub free-at : (rows : List Row) (model : ℕ) → model < MODELS → verdict_of rows model ≡ free → (file b : ℕ) → Free (byte_trace rows model file b)
free-at rows model h e file b x y c = go (synchronized rows model x y) refl
  where
    go : (s : Bool) → synchronized rows model x y ≡ s → Synchronized (byte_trace rows model file b) x y
    go true s = (synchronized_iff rows model file b x y h c).0 s
    go false s =
        let d = (conflict-iff _ _).1 (clash_conflict file b (row_at rows x) (row_at rows y) c.3 c.2) in
        absurd ((free-iff rows model).0 e x y ((race_iff rows model x y).1 (c.0, c.1, d, s)))

-- A race is one at some byte of both ranges, in the rows' file.
pub record RaceAt (rows : List Row) (model x y b : ℕ) : Type 0 where
  pub in_earlier : in_range (row_at rows x).offset (row_at rows x).length b ≡ true
  pub in_later : in_range (row_at rows y).offset (row_at rows y).length b ≡ true
  pub conflicts : Conflict (byte_trace rows model (row_at rows x).file b) x y
  pub unsynchronized : Synchronized (byte_trace rows model (row_at rows x).file b) x y → ⊥

-- An unsynchronized conflict is a race at the byte that the rows share.
conflict-race : (rows : List Row) (model x y : ℕ) → model < MODELS → x < y → y < length rows → synchronized rows model x y ≡ false →
    (c : RowsConflict (row_at rows x) (row_at rows y)) → RaceAt rows model x y c.byte
conflict-race rows model x y h l k n c =
    record {
      in_earlier = (range-iff _ _ c.byte).1 c.in_first;
      in_later = (range-iff _ _ c.byte).1 c.in_second;
      conflicts = at;
      unsynchronized = λ s. false≢true (sym n ∙ (synchronized_iff rows model (row_at rows x).file c.byte x y h at).1 s);
    }
  where
    at : Conflict (byte_trace rows model (row_at rows x).file c.byte) x y
    at = (l, k, c.two-processes, conflict-clash (row_at rows x) (row_at rows y) c)

-- Every race is one at some byte.
pub race_at : (rows : List Row) (model x y : ℕ) → model < MODELS → race rows model x y ≡ true → (b : ℕ) × RaceAt rows model x y b
race_at rows model x y h e =
    let r = (race_iff rows model x y).0 e in
    let c = (conflict-iff (row_at rows x) (row_at rows y)).0 r.2 in
    (c.byte, conflict-race rows model x y h r.0 r.1 r.3 c)

-- ---- The commit model

-- What publishes is a commit.
publishes-commit : (kind : ℕ) → publishes COMMIT_MODEL kind ≡ true → kind ≡ COMMIT
unfolding publishes
publishes-commit kind e = eqb-true kind COMMIT (sym (or-false _) ∙ e)

-- What refreshes is a read.
refreshes-read : (kind : ℕ) → refreshes COMMIT_MODEL kind ≡ true → kind ≡ READ
unfolding refreshes
refreshes-read kind e = eqb-true kind READ (sym (or-false _) ∙ e)

-- What commit says of the rows.
pub commits : (rows : List Row) (file b : ℕ) → Commits (byte_trace rows COMMIT_MODEL file b)
unfolding publishes refreshes
commits rows file b =
    record {
      no_write = refl;
      every-read = refl;
      publish-alone = λ k e. let q = publishes-commit (row_at rows k).kind (and_out (of_file file (row_at rows k)) _ e).1 in (rw q, rw q);
      refresh-alone = λ k e. let q = refreshes-read (row_at rows k).kind (and_out (of_file file (row_at rows k)) _ e).1 in (rw q, rw (q, and-false));
    }

-- ---- Final commits

-- The numbers that pass are selected once.
select-once : (test : ℕ → Bool) (n : ℕ) → Once (select test n)
unfolding select
select-once test zero = tt
select-once test (suc n) = go (test n) (select-once test n)
  where
    go : (b : Bool) → Once (select test n) → Once (keep b n (select test n))
    go true o = (λ m. let r = select-out test n n m in omega arith, o)
    go false o = o

-- Ends by the processes of a list, all under row number 1.
ends_by : List ℕ → List End
ends_by [] = []
ends_by (p ∷ ps) = record { process = p; number = 1 } ∷ ends_by ps

-- The processes of such ends are those of the list.
ends-processes : (ps : List ℕ) → processes_of (ends_by ps) ≡ ps
unfolding ends_by processes_of
ends-processes [] = refl
ends-processes (p ∷ ps) = rw (ends-processes ps)

-- The row numbers of such ends are in their range.
ends-numbered : (ps : List ℕ) → NumbersIn (ends_by ps)
unfolding ends_by
ends-numbered [] = tt
ends-numbered (p ∷ ps) = (omega arith, omega arith, ends-numbered ps)

-- Such ends are one by each process, if the list has each process once.
ends_by-all : (processes : ℕ) (ps : List ℕ) → ((q : ℕ) → (q < processes) ↔ In q ps) → Once ps → ByAll processes (ends_by ps)
ends_by-all processes ps every once =
    record { every = λ q. rw (ends-processes ps) (every q); once = rw (ends-processes ps) once; numbered = ends-numbered ps }

-- All processes in a sequence with one of them last.
pub all-last : (processes p : ℕ) → p < processes →
    (qs : List ℕ) × (ends : List End) × ByAll processes ends × (processes_of ends ≡ qs ++ (p ∷ [])) × (In p qs → ⊥)
all-last processes p h = (
  reverse others,
  ends_by all,
  ends_by-all processes all (λ q. (there q, λ m. back q (in_reverse q (p ∷ others) m))) once,
  ends-processes all ∙ reverse-cons p others,
  λ m. alone (in_reverse p others m),
)
  where
    other : ℕ → Bool
    other k = not (eqb k p)

    others : List ℕ
    others = select other processes

    all : List ℕ
    all = reverse (p ∷ others)

    alone : In p others → ⊥
    alone m = eqb-false p p (not-true (eqb p p) (select-out other processes p m).1) refl

    once : Once all
    once = turned-once (p ∷ others) [] (alone, select-once other processes) tt (λ a m i. i)

    there : (q : ℕ) → q < processes → In q all
    there q l = turned-in q (p ∷ others) [] (inl (go (ℕ_discrete q p)))
      where
        go : Dec (q ≡ p) → In q (p ∷ others)
        go (yes e) = inl e
        go (no n) = inr (select_in other processes q l (rw (ne_eqb q p n)))

    back : (q : ℕ) → In q (p ∷ others) → q < processes
    back q (inl e) = rw e h
    back q (inr m) = (select-out other processes q m).0
