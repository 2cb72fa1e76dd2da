-- Runs by the bytes are, at each byte, the runs of that byte's rows.
use Rattle.std.proofs.Common.{ℕ, suc, arith, ◌≡◌, refl, sym, ap, ◌∙◌, ◌↔◌, Bool, true, false, cond, ◌&&◌, List, [], ◌∷◌, ◌++◌, reverse, ne_eqb, eqb-true}
use mathlib.Core.Bool.{and-false, false≢true}
use mathlib.Core.List.{reverse_aux}
use lib.Dec.{eqb}
use Rattle.rows.specs.Kinds.{READ, WRITE, COMMIT}
use Rattle.models.specs.Models.{COMMIT_MODEL}
use Rattle.models.specs.Table.{publishes, refreshes}
use Rattle.rows.specs.declared.row.Row.{Row}
use Rattle.rows.specs.Rows.{row_at}
use Rattle.rows.proofs.Bools.{and_out}
use Rattle.extents_meaning.specs.Cells.{Bytes, cell_of, number_in, unpublished, cleared, in_range, overwrite, as_published, refreshed}
use Rattle.machine_meaning.specs.Layers.{Layers, fresh, nothing, written, publishing, refreshing, after_row, after_plain, of_file}
use Rattle.consistency.specs.Files.{NumberedRow, rows_for, End, end_rows, processes_of}
use Rattle.consistency.proofs.Byte.{Byte, fresh_byte, write_byte, publish_byte, refresh_byte, step_byte}
use Rattle.consistency.proofs.Views.{cell-number, cell-mark, cleared-number, cleared-mark, cond_shows, view-put, view-same}
use Rattle.consistency.proofs.Core.{Trace, run, plain, publish_all}
use Rattle.consistency.proofs.Meaning.{layers_run, plain_run, ReadSame, ReadsSame, byte_trace, covers}

-- One byte of a layered file says what a layered byte says.
pub record At (s : Layers) (b : ℕ) (c : Byte) : Type 0 where
  pub shared : number_in (s.shared b) ≡ c.published
  pub view : (p : ℕ) → number_in (s.view p b) ≡ c.view p
  pub marks : (p : ℕ) → unpublished (s.view p b) ≡ c.unpublished p
  pub no_mark : unpublished (s.shared b) ≡ false

-- ---- What a row may do

module _ {s : Layers} {b : ℕ} {c : Byte} (a : At s b c) where
  -- A write writes the bytes of its range.
  write_at : (r : Row) (number : ℕ) → At (written r number s) b (cond (in_range r.offset r.length b) (write_byte r.process number c) c)
  unfolding write_byte
  write_at r number = go (in_range r.offset r.length b) refl
    where
      p : ℕ
      p = r.process

      own : Bytes
      own = overwrite r.offset r.length (cell_of number 1) (s.view p)

      go : (x : Bool) → in_range r.offset r.length b ≡ x → At (written r number s) b (cond x (write_byte p number c) c)
      go true e =
          record {
            shared = a.shared;
            view = view-put number_in b p own s.view a.view (rw e (cell-number number));
            marks = view-put unpublished b p own s.view a.marks (rw e (cell-mark number));
            no_mark = a.no_mark;
          }
      go false e =
          record {
            shared = a.shared;
            view = view-same number_in b p own s.view a.view (rw e (a.view p));
            marks = view-same unpublished b p own s.view a.marks (rw e (a.marks p));
            no_mark = a.no_mark;
          }

  -- Publishing publishes each byte.
  publish_at_lem : (p : ℕ) → At (publishing p s) b (publish_byte p c)
  unfolding publish_byte
  publish_at_lem p =
      record {
        shared = rw (a.marks p) (cond_shows number_in (c.unpublished p) (cleared v) (s.shared b) number a.shared);
        view = view-same number_in b p (as_published (s.view p)) s.view a.view number;
        marks = view-put unpublished b p (as_published (s.view p)) s.view a.marks (cleared-mark v);
        no_mark = no_mark (unpublished v);
      }
    where
      v : ℕ
      v = s.view p b

      number : number_in (cleared v) ≡ c.view p
      number = cleared-number v ∙ a.view p

      no_mark : (x : Bool) → unpublished (cond x (cleared v) (s.shared b)) ≡ false
      no_mark true = cleared-mark v
      no_mark false = a.no_mark

  -- Refreshing refreshes each byte.
  refresh_at_lem : (p : ℕ) → At (refreshing p s) b (refresh_byte p c)
  unfolding refresh_byte
  refresh_at_lem p =
      record {
        shared = a.shared;
        view = view-put number_in b p own s.view a.view (rw (a.marks p) (cond_shows number_in (c.unpublished p) v _ (a.view p) a.shared));
        marks = view-same unpublished b p own s.view a.marks (mark (unpublished v) refl);
        no_mark = a.no_mark;
      }
    where
      v : ℕ
      v = s.view p b

      own : Bytes
      own = refreshed (s.view p) s.shared

      mark : (x : Bool) → unpublished v ≡ x → unpublished (cond x v (s.shared b)) ≡ c.unpublished p
      mark true e = a.marks p
      mark false e = a.no_mark ∙ sym e ∙ a.marks p

  -- A write that a test decides writes the bytes of its range.
  may_write_at : (r : Row) (number : ℕ) (x : Bool) →
      At (cond x (written r number s) s) b (cond (x && in_range r.offset r.length b) (write_byte r.process number c) c)
  may_write_at r number true = write_at r number
  may_write_at r number false = a

  -- Publishing that a test decides publishes each byte.
  may_publish-at : (p : ℕ) (x : Bool) → At (cond x (publishing p s) s) b (cond x (publish_byte p c) c)
  may_publish-at p true = publish_at_lem p
  may_publish-at p false = a

  -- Refreshing that a test decides refreshes each byte.
  may_refresh-at : (p : ℕ) (x : Bool) → At (cond x (refreshing p s) s) b (cond x (refresh_byte p c) c)
  may_refresh-at p true = refresh_at_lem p
  may_refresh-at p false = a

-- ---- A row that the files get if a test passes

module _ (model : ℕ) (r : Row) (number : ℕ) where
  -- The layered file then.
  abbrev layers_next : Bool → Layers → Layers
  layers_next x s = cond x (after_row model r number s) s

  -- The plain file then.
  abbrev plain_next : Bool → Bytes → Bytes
  plain_next x f = cond x (after_plain r number f) f

  -- The list of rows with this row before the others.
  abbrev kept : Bool → List NumberedRow → List NumberedRow
  kept x l = cond x (record { row = r; number = number } ∷ l) l

  -- Each byte gets what the row does to it.
  step-at : (x : Bool) {s : Layers} {b : ℕ} {c : Byte} → At s b c →
      At (layers_next x s) b
      (step_byte (eqb r.kind WRITE && (x && in_range r.offset r.length b)) (x && publishes model r.kind) (x && refreshes model r.kind)
      r.process number c)
  unfolding after_row
  step-at true a =
      let w = may_write_at a r number (eqb r.kind WRITE) in
      let u = may_publish-at w r.process (publishes model r.kind) in
      may_refresh-at u r.process (refreshes model r.kind)
  step-at false a = rw and-false a

  -- Each plain byte gets the row's number if the row writes the byte.
  plain-step_at : (x : Bool) (b n : ℕ) (f : Bytes) → number_in (f b) ≡ n →
      number_in (plain_next x f b) ≡ cond (eqb r.kind WRITE && (x && in_range r.offset r.length b)) number n
  unfolding after_plain
  plain-step_at false b n f e = rw and-false e
  plain-step_at true b n f e = go (eqb r.kind WRITE)
    where
      go : (w : Bool) →
          number_in (cond w (overwrite r.offset r.length (cell_of number 0) f) f b)
          ≡ cond (w && in_range r.offset r.length b) number n
      go true = cond_shows number_in (in_range r.offset r.length b) (cell_of number 0) (f b) (omega arith) e
      go false = e

  -- A layered run with this row first is the run of the others after it.
  layers_kept : (x : Bool) (l : List NumberedRow) (s : Layers) → layers_run model (kept x l) s ≡ layers_run model l (layers_next x s)
  unfolding layers_run
  layers_kept true l s = refl
  layers_kept false l s = refl

  -- A plain run with this row first is the run of the others after it.
  plain-kept : (x : Bool) (l : List NumberedRow) (f : Bytes) → plain_run (kept x l) f ≡ plain_run l (plain_next x f)
  unfolding plain_run
  plain-kept true l f = refl
  plain-kept false l f = refl

  -- Reads of a run with this row first find the same just where this row does, if it reads, and the others do after it.
  reads_kept : (x : Bool) (l : List NumberedRow) (s : Layers) (f : Bytes) →
      ReadsSame model (kept x l) s f
      ↔ ((x ≡ true → ReadSame r (layers_next x s) (plain_next x f)) × ReadsSame model l (layers_next x s) (plain_next x f))
  reads_kept true l s f = (λ w. (λ e. w.0, w.1), λ w. (w.0 refl, w.1))
  reads_kept false l s f = (λ w. (λ e. absurd (false≢true e), w), λ w. w.1)

-- ---- Rows in an order

module _ (rows : List Row) (model file : ℕ) where
  -- The rows as one byte sees them.
  abbrev rows_at : ℕ → Trace
  rows_at b = byte_trace rows model file b

  -- The layered file after one more row.
  abbrev layers_then : ℕ → Layers → Layers
  layers_then k s = layers_next model (row_at rows k) (suc k) (of_file file (row_at rows k)) s

  -- The plain file after one more row.
  abbrev plain_then : ℕ → Bytes → Bytes
  plain_then k f = plain_next model (row_at rows k) (suc k) (of_file file (row_at rows k)) f

  -- Both files are at each byte as its run of these rows leaves it, the latest row first.
  abbrev Reached : List ℕ → Layers → Bytes → Type 0
  Reached h s f = (b : ℕ) → At s b (run (rows_at b) h) × (number_in (f b) ≡ plain (rows_at b) h)

  -- Fresh files are reached by no row.
  reached-fresh : Reached [] fresh nothing
  unfolding run plain fresh_byte
  reached-fresh b = (record { shared = refl; view = λ p. refl; marks = λ p. refl; no_mark = refl }, refl)

  -- Files that are reached are reached after one more row.
  reached-next : (h : List ℕ) (s : Layers) (f : Bytes) → Reached h s f → (k : ℕ) → Reached (k ∷ h) (layers_then k s) (plain_then k f)
  unfolding run plain
  reached-next h s f at k b =
      let r = row_at rows k in
      (step-at model r (suc k) (of_file file r) (at b).0, plain-step_at model r (suc k) (of_file file r) b (plain (rows_at b) h) f (at b).1)

  -- Files that are reached are reached after all rows of an order.
  reached-all : (order h : List ℕ) (s : Layers) (f : Bytes) → Reached h s f →
      Reached (reverse_aux order h) (layers_run model (rows_for rows file order) s) (plain_run (rows_for rows file order) f)
  unfolding layers_run plain_run rows_for
  reached-all [] h s f at b = at b
  reached-all (k ∷ order) h s f at b =
      let r = row_at rows k in
      let w = reached-all order (k ∷ h) (layers_then k s) (plain_then k f) (reached-next h s f at k) b in (
        rw (layers_kept model r (suc k) (of_file file r) (rows_for rows file order) s) w.0,
        rw (plain-kept model r (suc k) (of_file file r) (rows_for rows file order) f) w.1,
      )

  -- After an order's rows each byte is as its own run leaves it.
  pub layers_at : (b : ℕ) (order : List ℕ) → At (layers_run model (rows_for rows file order) fresh) b (run (byte_trace rows model file b) (reverse order))
  layers_at b order = (reached-all order [] fresh nothing reached-fresh b).0

  pub plain_at : (b : ℕ) (order : List ℕ) → number_in (plain_run (rows_for rows file order) nothing b) ≡ plain (byte_trace rows model file b) (reverse order)
  plain_at b order = (reached-all order [] fresh nothing reached-fresh b).1

  -- A read after these rows finds the plain byte at each byte that it covers.
  abbrev Found : List ℕ → ℕ → Type 0
  Found h y = (b : ℕ) → (rows_at b).reads y ≡ true → (run (rows_at b) (y ∷ h)).view (row_at rows y).process ≡ plain (rows_at b) h

  module _ (h : List ℕ) (s : Layers) (f : Bytes) (at : Reached h s f) (k : ℕ) where
    -- What the next row sees in its view.
    next-view : (b : ℕ) → number_in ((layers_then k s).view (row_at rows k).process b) ≡ (run (rows_at b) (k ∷ h)).view (row_at rows k).process
    next-view b = (reached-next h s f at k b).0.view (row_at rows k).process

    -- A read leaves the plain byte.
    next-plain : (b : ℕ) → (rows_at b).reads k ≡ true → number_in (plain_then k f b) ≡ plain (rows_at b) h
    unfolding plain
    next-plain b c = (reached-next h s f at k b).1 ∙ rw ((rows_at b).one-kind k c)

    -- Reads find the same just where the next row finds the plain byte at each byte and the others find the same after it.
    reads-next : (order : List ℕ) →
        ReadsSame model (rows_for rows file (k ∷ order)) s f ↔ (Found h k × ReadsSame model (rows_for rows file order) (layers_then k s) (plain_then k f))
    unfolding rows_for
    reads-next order = (λ w. let e = all.0 w in (out e.0, e.1), λ w. all.1 (back w.0, w.1))
      where
        r : Row
        r = row_at rows k

        all : ReadsSame model (rows_for rows file (k ∷ order)) s f
            ↔ ((of_file file r ≡ true → ReadSame r (layers_then k s) (plain_then k f))
            × ReadsSame model (rows_for rows file order) (layers_then k s) (plain_then k f))
        all = reads_kept model r (suc k) (of_file file r) (rows_for rows file order) s f

        out : (of_file file r ≡ true → ReadSame r (layers_then k s) (plain_then k f)) → Found h k
        out same b c =
            let x = and_out (eqb r.kind READ) _ c in
            let y = and_out (of_file file r) _ x.1 in
            sym (next-view b) ∙ same y.0 x.0 b y.1 ∙ next-plain b c

        back : Found h k → of_file file r ≡ true → ReadSame r (layers_then k s) (plain_then k f)
        back found o q b i = let c : covers READ file b r ≡ true = rw (q, o) i in next-view b ∙ found b c ∙ sym (next-plain b c)

  -- From any files that are reached, reads find the same where each byte's reads find the plain byte.
  reads-from : (order h : List ℕ) (s : Layers) (f : Bytes) → Reached h s f →
      ((first : List ℕ) (y : ℕ) (rest : List ℕ) → order ≡ first ++ (y ∷ rest) → Found (reverse_aux first h) y) →
      ReadsSame model (rows_for rows file order) s f
  unfolding rows_for
  reads-from [] h s f at found = tt
  reads-from (k ∷ order) h s f at found =
      (reads-next h s f at k order).1 (
        found [] k order refl,
        reads-from order (k ∷ h) _ _ (reached-next h s f at k) (λ first y rest e. found (k ∷ first) y rest (ap (k ∷◌) e)),
      )

  -- Where reads find the same, a last read finds the plain byte.
  reads-last : (first h : List ℕ) (s : Layers) (f : Bytes) → Reached h s f → (y : ℕ) →
      ReadsSame model (rows_for rows file (first ++ (y ∷ []))) s f → Found (reverse_aux first h) y
  reads-last [] h s f at y same = ((reads-next h s f at y []).0 same).0
  reads-last (k ∷ first) h s f at y same =
      reads-last first (k ∷ h) _ _ (reached-next h s f at k) y ((reads-next h s f at k (first ++ (y ∷ []))).0 same).1

  -- Reads find the plain file's numbers where each byte's reads do, over every order that is the first part of this one.
  pub reads_in : (order : List ℕ) →
      ((first : List ℕ) (y : ℕ) (rest : List ℕ) → order ≡ first ++ (y ∷ rest) → (b : ℕ) → (byte_trace rows model file b).reads y ≡ true →
      (run (byte_trace rows model file b) (y ∷ reverse first)).view (row_at rows y).process ≡ plain (byte_trace rows model file b) (reverse first)) →
      ReadsSame model (rows_for rows file order) fresh nothing
  reads_in order found = reads-from order [] fresh nothing reached-fresh found

  -- Where reads find the plain file's numbers, so does a last read at each byte.
  pub reads-out : (first : List ℕ) (y : ℕ) → ReadsSame model (rows_for rows file (first ++ (y ∷ []))) fresh nothing →
      (b : ℕ) → (byte_trace rows model file b).reads y ≡ true →
      (run (byte_trace rows model file b) (y ∷ reverse first)).view (row_at rows y).process ≡ plain (byte_trace rows model file b) (reverse first)
  reads-out first y same = reads-last first [] fresh nothing reached-fresh y same

-- ---- The rows at the end of a run

-- Rows that do not write put no number into the plain file.
pub ends-plain : (kind file : ℕ) (ends : List End) → (kind ≡ WRITE → ⊥) → (f : ℕ → ℕ) → plain_run (end_rows kind file ends) f ≡ f
unfolding plain_run end_rows after_plain
ends-plain kind file [] n f = refl
ends-plain kind file (e ∷ ends) n f = ends-plain kind file ends n _ ∙ rw (ne_eqb kind WRITE n)

pub ends_read : (kind model file : ℕ) (ends : List End) → (kind ≡ READ → ⊥) → (s : Layers) (f : ℕ → ℕ) → ReadsSame model (end_rows kind file ends) s f
unfolding end_rows
ends_read kind model file [] n s f = tt
ends_read kind model file (e ∷ ends) n s f = (λ q. absurd (n (eqb-true kind READ q)), ends_read kind model file ends n _ _)

-- A row that publishes and does nothing else publishes each byte.
row-at : (model : ℕ) (r : Row) (number : ℕ) → (r.kind ≡ WRITE → ⊥) → publishes model r.kind ≡ true → refreshes model r.kind ≡ false →
    {s : Layers} {b : ℕ} {c : Byte} → At s b c → At (after_row model r number s) b (publish_byte r.process c)
unfolding after_row
row-at model r number n u f a = rw (ne_eqb r.kind WRITE n, u, f) (publish_at_lem a r.process)

-- Rows of such a kind publish, one process after the other.
pub ends_at : (kind model file : ℕ) → (kind ≡ WRITE → ⊥) → publishes model kind ≡ true → refreshes model kind ≡ false →
    (ends : List End) (s : Layers) (b : ℕ) (c : Byte) → At s b c → At (layers_run model (end_rows kind file ends) s) b (publish_all (processes_of ends) c)
unfolding layers_run end_rows publish_all processes_of
ends_at kind model file n u f [] s b c a = a
ends_at kind model file n u f (e ∷ ends) s b c a =
    ends_at kind model file n u f ends _ b (publish_byte e.process c) (row-at model _ e.number n u f a)

-- Under commit, commits publish, one process after the other.
pub commits-at : (file : ℕ) (ends : List End) (s : Layers) (b : ℕ) (c : Byte) → At s b c →
    At (layers_run COMMIT_MODEL (end_rows COMMIT file ends) s) b (publish_all (processes_of ends) c)
unfolding publishes refreshes
commits-at file = ends_at COMMIT COMMIT_MODEL file (λ q. absurd (omega (arith, q))) refl refl

-- ---- Runs in two parts

-- A layered run of two parts is the second part's run after the first part's.
pub layers_append : (model : ℕ) (l m : List NumberedRow) (s : Layers) → layers_run model (l ++ m) s ≡ layers_run model m (layers_run model l s)
unfolding layers_run
layers_append model [] m s = refl
layers_append model (x ∷ l) m s = layers_append model l m (after_row model x.row x.number s)

-- A plain run of two parts is the second part's run after the first part's.
pub plain-append : (l m : List NumberedRow) (f : ℕ → ℕ) → plain_run (l ++ m) f ≡ plain_run m (plain_run l f)
unfolding plain_run
plain-append [] m f = refl
plain-append (x ∷ l) m f = plain-append l m (after_plain x.row x.number f)

-- Reads that find the same in both parts find the same in the whole.
pub reads-append : (model : ℕ) (l m : List NumberedRow) (s : Layers) (f : ℕ → ℕ) →
    ReadsSame model l s f → ReadsSame model m (layers_run model l s) (plain_run l f) → ReadsSame model (l ++ m) s f
unfolding layers_run plain_run
reads-append model [] m s f one two = two
reads-append model (x ∷ l) m s f one two = (one.0, reads-append model l m _ _ one.1 two)

-- Reads that find the same in the whole find the same in the first part.
pub reads_first : (model : ℕ) (l m : List NumberedRow) (s : Layers) (f : ℕ → ℕ) → ReadsSame model (l ++ m) s f → ReadsSame model l s f
reads_first model [] m s f all = tt
reads_first model (x ∷ l) m s f all = (all.0, reads_first model l m _ _ all.1)
