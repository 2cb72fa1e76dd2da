-- What a byte of a file sees of the rows: who covers, publishes and refreshes it, and the chains.
use Rattle.std.proofs.Common.{ℕ, ◌+◌, ◌≤◌, ◌<◌, arith, ◌≡◌, refl, sym, ◌∙◌, ◌↔◌, ◌⊎◌, inl, inr, Bool, true, false, cond, ◌&&◌, true≢false, List, length, lt-ltb, ltb-true, le-leb, leb-true, eq-eqb, ne_eqb, eqb-true}
use native.Mathlib.Decide.{dec_lt}
use mathlib.Core.Bool.{false≢true, and-false}
use lib.Dec.{ltb, leb, eqb}
use Rattle.rows.specs.Limits.{MODELS}
use Rattle.rows.specs.Kinds.{READ, WRITE, COMMIT, OPEN, CLOSE, SYNC, SEND}
use Rattle.models.specs.Table.{publishes, refreshes}
use Rattle.rows.specs.declared.row.Row.{Row}
use Rattle.happens_before.specs.Order.{same_process}
use Rattle.rows.specs.Rows.{row_at}
use Rattle.rows.proofs.Bools.{and_out}
use Rattle.extents_meaning.specs.Cells.{in_range}
use Rattle.machine_meaning.specs.Layers.{of_file}
use Rattle.races_meaning.specs.Races.{same_file, chain}
use Rattle.races_meaning.specs.TableChain.{published_by, refreshed_by, table_chain}
use Rattle.races_meaning.proofs.Chains.{HB-in, two-iff, table-chain}
use Rattle.consistency.proofs.Core.{Published, Refreshed, Chain}
use Rattle.consistency.proofs.Meaning.{covers, covers-kind, byte_trace}

-- ---- Rows

-- A byte lies in a range exactly where the numbers say so.
pub range-iff : (start length b : ℕ) → (in_range start length b ≡ true) ↔ ((start ≤ b) × (b < start + length))
range-iff start length b = (there, λ (l, h). rw (le-leb start b l) (lt-ltb b (start + length) h))
  where
    there : in_range start length b ≡ true → (start ≤ b) × (b < start + length)
    there e = let a = and_out (leb start b) _ e in (leb-true _ _ a.0, ltb-true _ _ a.1)

-- A row of the file: its kind names a file.
abbrev OfFile : ℕ → Row → Type 0
OfFile file r = (r.kind < SEND) × (r.file ≡ file)

-- The test `of_file` passes exactly for rows of the file.
of_file-iff : (file : ℕ) (r : Row) → (of_file file r ≡ true) ↔ OfFile file r
of_file-iff file r = (there, λ (l, q). rw (lt-ltb r.kind SEND l) (eq-eqb r.file file q))
  where
    there : of_file file r ≡ true → OfFile file r
    there e = let a = and_out (ltb r.kind SEND) _ e in (ltb-true _ _ a.0, eqb-true _ _ a.1)

-- A row of this kind and file that has the byte in its range.
abbrev Covers : ℕ → ℕ → ℕ → Row → Type 0
Covers kind file b r = (r.kind ≡ kind) × (r.file ≡ file) × (in_range r.offset r.length b ≡ true)

-- The test `covers` passes exactly for rows of the kind and file that cover the byte.
pub covers-iff : (kind file b : ℕ) (r : Row) → kind < SEND → (covers kind file b r ≡ true) ↔ Covers kind file b r
covers-iff kind file b r l = (there, back)
  where
    there : covers kind file b r ≡ true → Covers kind file b r
    there e =
        let c = covers-kind kind file b r e in
        (c.0, ((of_file-iff file r).0 c.1).1, (and_out (of_file file r) _ (and_out (eqb r.kind kind) _ e).1).1)

    back : Covers kind file b r → covers kind file b r ≡ true
    back (k, f, i) = rw (eq-eqb r.kind kind k, (of_file-iff file r).1 (omega arith, f)) i

-- ---- Kinds that publish and refresh

-- No kind from send on publishes.
send_unpublished : (model kind : ℕ) → SEND ≤ kind → publishes model kind ≡ false
unfolding publishes
send_unpublished model kind l =
    let other : (k : ℕ) → k < SEND → eqb kind k ≡ false = λ k m. ne_eqb kind k (omega arith) in
    simp (other WRITE (omega arith), other COMMIT (omega arith), other CLOSE (omega arith), other SYNC (omega arith), and-false)

-- No kind from send on refreshes.
send_unrefreshed : (model kind : ℕ) → SEND ≤ kind → refreshes model kind ≡ false
unfolding refreshes
send_unrefreshed model kind l =
    let other : (k : ℕ) → k < SEND → eqb kind k ≡ false = λ k m. ne_eqb kind k (omega arith) in
    simp (other READ (omega arith), other OPEN (omega arith), other SYNC (omega arith), and-false)

-- A kind that publishes or refreshes comes before send.
marked-kind : (mark : ℕ → Bool) → ((kind : ℕ) → SEND ≤ kind → mark kind ≡ false) → (kind : ℕ) → mark kind ≡ true → kind < SEND
marked-kind mark out kind e = go (dec_lt kind SEND)
  where
    go : Dec (kind < SEND) → kind < SEND
    go (yes l) = l
    go (no l) = absurd (false≢true (sym (out kind (omega arith)) ∙ e))

module _ (mark : ℕ → Bool) (file : ℕ) (r s : Row) where
  -- What a mark does for row r is done by row s: r itself (k and x are their places), or a row of its process and file that has the mark, where
  -- place i is before place j.
  abbrev Done : Bool → (k x i j : ℕ) → Type 0
  Done self k x i j =
      ((self ≡ true) × (k ≡ x)) ⊎ ((self ≡ false) × (i < j) × (of_file file s && mark s.kind ≡ true) × (s.process ≡ r.process))

  -- The test of a row that publishes or refreshes passes exactly where the row does.
  done-iff : ((kind : ℕ) → SEND ≤ kind → mark kind ≡ false) → r.file ≡ file → (self : Bool) (k x i j : ℕ) →
      (cond self (eqb k x) (ltb i j && (mark s.kind && (same_file r s && same_process r s))) ≡ true) ↔ Done self k x i j
  done-iff out q true k x i j = (λ e. inl (refl, eqb-true k x e), back)
    where
      back : Done true k x i j → eqb k x ≡ true
      back (inl (_, e)) = eq-eqb k x e
      back (inr d) = absurd (true≢false d.0)
  done-iff out q false k x i j = (there, back)
    where
      there : ltb i j && (mark s.kind && (same_file r s && same_process r s)) ≡ true → Done false k x i j
      there e =
          let a = and_out (ltb i j) _ e in
          let m = and_out (mark s.kind) _ a.1 in
          let o = and_out (same_file r s) (same_process r s) m.1 in
          let f = (of_file-iff file s).1 (marked-kind mark out s.kind m.0, sym (eqb-true r.file s.file o.0) ∙ q) in
          inr (refl, ltb-true i j a.0, rw f m.0, sym (eqb-true r.process s.process o.1))

      back : Done false k x i j → ltb i j && (mark s.kind && (same_file r s && same_process r s)) ≡ true
      back (inl d) = absurd (false≢true d.0)
      back (inr (_, l, m, p)) =
          let a = and_out (of_file file s) (mark s.kind) m in
          let f = q ∙ sym ((of_file-iff file s).0 a.0).1 in
          rw (lt-ltb i j l, a.1, eq-eqb r.file s.file f) (eq-eqb r.process s.process (sym p))

-- ---- Chains

module _ (rows : List Row) (model file b x y : ℕ) (in-x : (row_at rows x).file ≡ file) (in-y : (row_at rows y).file ≡ file) where
  -- A row publishes the write x.
  published-iff : (c : ℕ) → (published_by rows model x c ≡ true) ↔ Published (byte_trace rows model file b) x c
  unfolding published_by
  published-iff c =
      done-iff (publishes model) file (row_at rows x) (row_at rows c) (send_unpublished model) in-x (publishes model WRITE) c x x c

  -- A row refreshes for y.
  refreshed-iff : (o : ℕ) → (refreshed_by rows model y o ≡ true) ↔ Refreshed (byte_trace rows model file b) y o
  unfolding refreshed_by
  refreshed-iff o =
      done-iff (refreshes model) file (row_at rows y) (row_at rows o) (send_unrefreshed model) in-y (refreshes model READ) o y o y

  -- The model's chain is the one that a byte of the rows' file sees.
  pub chain_iff : model < MODELS → x < length rows → y < length rows → (chain rows model x y ≡ true) ↔ Chain (byte_trace rows model file b) x y
  unfolding table_chain
  chain_iff h k l = (there, back)
    where
      same : table_chain rows model x y ≡ chain rows model x y
      same = table-chain rows x y model h k l

      there : chain rows model x y ≡ true → Chain (byte_trace rows model file b) x y
      there e =
          let r = (two-iff rows (length rows) (published_by rows model x) (refreshed_by rows model y)).0 (same ∙ e) in
          (r.0, r.1, (published-iff r.0).0 r.2, (refreshed-iff r.1).0 r.4, r.5)

      back : Chain (byte_trace rows model file b) x y → chain rows model x y ≡ true
      back (c, o, p, r, before) =
          sym same
          ∙ (two-iff rows (length rows) (published_by rows model x) (refreshed_by rows model y)).1
          (c, o, (published-iff c).1 p, HB-in rows before, (refreshed-iff o).1 r, before)
