-- An accepted join and any other allowed merging of the two files have the same rows and the same direct edges, so both are free or neither is.
use Rattle.std.proofs.Common.{ℕ, ◌<◌, arith, ◌≡◌, refl, sym, ap, subst, ◌∙◌, ◌↔◌, true, false, List, ◌++◌, length, take, length-take, get_or-take, length-take-le, eqb-true, eq-eqb}
use lib.Dec.{eqb}
use Rattle.rows.specs.declared.row.Row.{Row}
use Rattle.rows.specs.Rows.{row_at, no_row}
use Rattle.rows.proofs.Bools.{and_out}
use Rattle.rows.proofs.Tests.{some_in}
use Rattle.barriers.proofs.Arrivals.{all-out, waited_for_lem, arrived-out}
use Rattle.barriers.proofs.Kept.{Meet, Kept, kept}
use Rattle.happens_before.specs.Order.{delivers}
use Rattle.happens_before.proofs.Barriers.{passes-out, SentFirst}
use Rattle.messages.proofs.InOrder.{Sends, Arrives}
use Rattle.trace.proofs.Laws.{WellFormed, Sound}
use Rattle.trace.proofs.Messages.{sends-once, arrival_sent}
use Rattle.reorder.specs.Renumbering.{SameRows, Renumbered}
use Rattle.reorder.proofs.Edges.{KeepsProcess, KeepsSends, KeepsBarriers, edges_kept, renumbered}
use Rattle.reorder.proofs.Moving.{free-moves}
use Rattle.races_meaning.specs.Races.{verdict_of, free}
use Rattle.join_meaning.specs.Files.{Entry, rows_of}
use Rattle.join_meaning.specs.Joining.{shares_process, joined, join_entries}
use Rattle.join_meaning.specs.Merging.{Merged, AllowedMerging}
use Rattle.join_meaning.proofs.Places.{Spot, in_first, in_second, row_on, On, SameFile, spot, place-spot, spot_on, row-place, order-kept}
use Rattle.join_meaning.proofs.Places.{moved, moved_in, moved_row, moved_back}
use Rattle.join_meaning.proofs.Tests.{apart, held_out, sent-before}
use Rattle.join_meaning.proofs.Exchange.{merged_alike}
use Rattle.join_meaning.proofs.Taking.{join-allowed, join-sound, join-barriers}

-- ---- Direct edges

-- A send and the row at which its message arrives.
delivers-out : (r s : Row) → delivers r s ≡ true → Sends r s.message × Arrives s s.message
delivers-out r s e =
    let a = and_out _ _ e in
    let b = and_out _ _ a.1 in
    ((eqb-true _ _ a.0, eqb-true _ _ b.1), (eqb-true _ _ b.0, refl))

-- A send of sound rows stands before the row at which its message arrives: the message was sent before, and only this row sends it.
sent-first : {P : ℕ} {rows : List Row} → Sound P rows → SentFirst rows
sent-first {P} {rows} s i j h l q =
    let c = delivers-out (row_at rows i) (row_at rows j) q in
    let t = arrival_sent s (row_at rows j).message j l c.1 in
    omega (arith, t.1, sends-once s (row_at rows j).message t.0 i (omega (arith, t.1)) h t.2 c.0)

-- ---- Two mergings of files that share no process

-- Two spots with rows of one process lie in one file.
same-file : (a b : List Row) → shares_process a b ≡ false → (s t : Spot) → On a b s → On a b t → (row_on a b s).process ≡ (row_on a b t).process → SameFile s t
same-file a b e (in_first i) (in_first j) h l q = tt
same-file a b e (in_first i) (in_second j) h l q = apart a b e i j h l q
same-file a b e (in_second i) (in_first j) h l q = apart a b e j i l h (sym q)
same-file a b e (in_second i) (in_second j) h l q = tt

module _ {a b m n : List Row} (e : shares_process a b ≡ false) (d : Merged a b m) (g : Merged a b n) where
  -- Two rows of one process stand in the same order in both mergings.
  process-kept : KeepsProcess m (moved d g)
  process-kept i j h l q =
      let k : i < length m = omega arith in
      order-kept d g (spot d i) (spot d j) (same-file a b e (spot d i) (spot d j) (spot_on d i k) (spot_on d j l) (of i k ∙ q ∙ sym (of j l)))
      (spot_on d i k) (spot_on d j l) (omega (arith, place-spot d i k, place-spot d j l))
    where
      of : (k : ℕ) → k < length m → (row_on a b (spot d k)).process ≡ (row_at m k).process
      of k h = ap (λ (r : Row). r.process) (sym (row-place d (spot d k) (spot_on d k h)) ∙ ap (row_at m) (place-spot d k h))

-- Two mergings of the same files have the same rows.
merged_same : {a b m n : List Row} (d : Merged a b m) (g : Merged a b n) → SameRows m n (moved d g) (moved g d)
merged_same d g =
    record {
      to_within = moved_in d g;
      from_within = moved_in g d;
      from_to = moved_back d g;
      to_from = moved_back g d;
      same_row = moved_row d g;
    }

-- ---- A sound merging and an allowed one

module _ {P : ℕ} {a b rows m : List Row} (s : Sound P rows) (w : Kept rows) (d : Merged a b rows) (g : AllowedMerging a b m) where
  -- A send stands before the arrival of its message in the allowed merging: that row does not wait there, and only this row sends the message.
  sent-there : KeepsSends rows (moved d g.merges)
  sent-there i j h l q =
      let message = (row_at rows j).message in
      let c = delivers-out (row_at rows i) (row_at rows j) q in
      let at = moved d g.merges j in
      let within = moved_in d g.merges j l in
      let arrives = subst (λ (r : Row). Arrives r message) (sym (moved_row d g.merges j l)) c.1 in
      let t = sent-before (a ++ b) m at (row_at m at) message (g.in_order at within) arrives in
      let k : t.0 < length m = omega arith in
      let sends = subst (λ (r : Row). Sends r message) (sym (moved_row g.merges d t.0 k)) t.2 in
      let one = sends-once s message (moved g.merges d t.0) i (moved_in g.merges d t.0 k) (omega arith) sends c.0 in
      let same : t.0 ≡ moved d g.merges i = sym (moved_back g.merges d t.0 k) ∙ ap (moved d g.merges) one in
      omega arith

  module _ (e : shares_process a b ≡ false) where
    -- A row of a barrier stands before the row just after it in the allowed merging: that row is not held back there, and only this row is of its
    -- process and barrier.
    passed-there : KeepsBarriers rows (moved d g.merges)
    passed-there i j f l q =
        let h : i < length rows = omega arith in
        let c = passes-out rows i j q in
        let k : c.0 < length rows = omega (arith, c.1) in
        let at = moved d g.merges j in
        let within = moved_in d g.merges j l in
        let before = process-kept e d g.merges c.0 j c.1 l c.2 in
        let there = moved d g.merges c.0 in
        let held : there < length (take at m) = omega (arith, length-take-le at m (omega (arith, within)), before) in
        let row : row_at (take at m) there ≡ row_at rows c.0 = get_or-take at m there no_row before ∙ moved_row d g.merges c.0 k in
        let own = ap (λ (r : Row). r.process) row ∙ c.2 ∙ sym (ap (λ (r : Row). r.process) (moved_row d g.merges j l)) in
        let all = waited_for_lem (a ++ b) (take at m) (row_at m at) (held_out (a ++ b) (take at m) (row_at m at) (g.in_order at within)) there held own (ap (λ (r : Row). r.kind) row ∙ c.3.first) in
        let has = merged_alike d (λ r. eqb r.process (row_at rows i).process)
        ∙ some_in (λ r. eqb r.process (row_at rows i).process) rows i h (eq-eqb (row_at rows i).process _ refl) in
        let t = arrived-out _ (row_at rows i).process (take at m) (all-out _ (a ++ b) (take at m) all (row_at rows i).process has) in
        let low : t.0 < at = omega (arith, t.1, length-take at m) in
        let wide : t.0 < length m = omega (arith, low, within) in
        let same : row_at (take at m) t.0 ≡ row_at rows (moved g.merges d t.0) =
        get_or-take at m t.0 no_row low ∙ sym (moved_row g.merges d t.0 wide) in
        let meet : Meet (row_at rows (moved g.merges d t.0)) (row_at rows i) =
        record {
          first = ap (λ (r : Row). r.kind) (sym same) ∙ t.2.0;
          second = c.3.second;
          number = ap (λ (r : Row). r.message) (sym same) ∙ t.2.1 ∙ ap (λ (r : Row). r.message) row ∙ c.3.number;
        } in
        let one = w.once (moved g.merges d t.0) i (moved_in g.merges d t.0 wide) h meet (ap (λ (r : Row). r.process) (sym same) ∙ t.3) in
        let is : t.0 ≡ moved d g.merges i = sym (moved_back g.merges d t.0 wide) ∙ ap (moved d g.merges) one in
        omega arith

    -- A sound merging and an allowed merging of files that share no process are the same rows under two numberings.
    pub merging-renumbered : Renumbered rows m (moved d g.merges) (moved g.merges d)
    merging-renumbered =
        renumbered (merged_same d g.merges) (sent-first s) w
        (edges_kept rows (moved d g.merges) (process-kept e d g.merges) sent-there passed-there)

-- ---- An accepted join and an allowed merging

module _ (R P : ℕ) (a b es : List Entry) (m : List Row) (e : shares_process (rows_of a) (rows_of b) ≡ false)
    (f : (k : ℕ) → k < length (rows_of a) → WellFormed P (row_at (rows_of a) k)) (g : (k : ℕ) → k < length (rows_of b) → WellFormed P (row_at (rows_of b) k))
    (q : join_entries R a b ≡ joined es) (o : AllowedMerging (rows_of a) (rows_of b) m) where
  -- The rows of an accepted join and of any other allowed merging are the same rows under two numberings.
  pub join-renumbered : Renumbered (rows_of es) m (moved (join-allowed R a b es q).merges o.merges) (moved o.merges (join-allowed R a b es q).merges)
  join-renumbered = merging-renumbered (join-sound R a b es q P f g).0 (kept (rows_of es) (join-barriers R a b es q)) (join-allowed R a b es q).merges o e

  -- The verdict on an accepted join is free exactly where the verdict on any other allowed merging is.
  pub join-verdict : (model : ℕ) → (verdict_of (rows_of es) model ≡ free) ↔ (verdict_of m model ≡ free)
  join-verdict model = free-moves join-renumbered model
