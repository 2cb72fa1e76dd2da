-- Runs by the bytes alone, and the rows as one byte of one file sees them.
use Rattle.std.proofs.Common.{ℕ, ◌≡◌, ap, ◌∙◌, Bool, true, false, ◌&&◌, List, [], ◌∷◌, length, eqb-true}
use lib.Dec.{eqb}
use Rattle.rows.specs.Kinds.{READ, WRITE}
use Rattle.models.specs.Table.{publishes, refreshes}
use Rattle.rows.specs.declared.row.Row.{Row}
use Rattle.happens_before.specs.Order.{edge}
use Rattle.rows.specs.Rows.{row_at}
use Rattle.rows.proofs.Bools.{and_out}
use Rattle.happens_before.proofs.Clocks.{edge-forward, edge_in, program-order}
use Rattle.extents_meaning.specs.Cells.{Bytes, number_in, in_range}
use Rattle.machine_meaning.specs.Layers.{Layers, after_row, after_plain, of_file}
use Rattle.consistency.specs.Files.{NumberedRow}
use Rattle.consistency.proofs.Core.{Trace}

-- ---- Runs by the bytes alone

-- The layered file after rows, the first one first.
unfoldable pub layers_run : ℕ → List NumberedRow → Layers → Layers
layers_run model [] s = s
layers_run model (x ∷ l) s = layers_run model l (after_row model x.row x.number s)

-- The plain file after rows, the first one first.
unfoldable pub plain_run : List NumberedRow → Bytes → Bytes
plain_run [] f = f
plain_run (x ∷ l) f = plain_run l (after_plain x.row x.number f)

-- A read finds the same row number in both files at every byte of its range.
abbrev pub ReadSame : Row → Layers → Bytes → Type 0
ReadSame r s f =
    eqb r.kind READ ≡ true → (b : ℕ) → in_range r.offset r.length b ≡ true → number_in (s.view r.process b) ≡ number_in (f b)

-- Every read of a run finds the same row numbers in both files.
abbrev pub ReadsSame : ℕ → List NumberedRow → Layers → Bytes → Type 0
ReadsSame model [] s f = Unit {0}
ReadsSame model (x ∷ l) s f =
    ReadSame x.row (after_row model x.row x.number s) (after_plain x.row x.number f)
    × ReadsSame model l (after_row model x.row x.number s) (after_plain x.row x.number f)

-- ---- One byte of one file

-- A row of this kind covers the byte of the file.
abbrev pub covers : ℕ → ℕ → ℕ → Row → Bool
covers kind file b r = eqb r.kind kind && (of_file file r && in_range r.offset r.length b)

-- A row that covers is of the kind and of the file.
pub covers-kind : (kind file b : ℕ) (r : Row) → covers kind file b r ≡ true → (r.kind ≡ kind) × (of_file file r ≡ true)
covers-kind kind file b r e =
    let a = and_out (eqb r.kind kind) _ e in
    (eqb-true _ _ a.0, (and_out (of_file file r) _ a.1).0)

-- A read is no write.
pub read_only : (file b : ℕ) (r : Row) → covers READ file b r ≡ true → covers WRITE file b r ≡ false
read_only file b r e = rw (covers-kind READ file b r e).0

-- A row of the file passes a test of its kind.
pub marked : (mark : ℕ → Bool) (file : ℕ) (r : Row) {kind : ℕ} → r.kind ≡ kind → of_file file r ≡ true → mark kind ≡ true →
    of_file file r && mark r.kind ≡ true
marked mark file r q o e = rw o (ap mark q ∙ e)

-- The rows of a trace as one byte of one file sees them under a model.
abbrev pub byte_trace : List Row → ℕ → ℕ → ℕ → Trace
byte_trace rows model file b =
    record {
      rows = length rows;
      edge = edge rows;
      process = λ k. (row_at rows k).process;
      writes = λ k. covers WRITE file b (row_at rows k);
      reads = λ k. covers READ file b (row_at rows k);
      publishes = λ k. of_file file (row_at rows k) && publishes model (row_at rows k).kind;
      refreshes = λ k. of_file file (row_at rows k) && refreshes model (row_at rows k).kind;
      at_write = publishes model WRITE;
      at_read = refreshes model READ;
      forward = edge-forward rows;
      inside = edge_in rows;
      program = program-order rows;
      one-kind = λ k e. read_only file b (row_at rows k) e;
      write_publishes = λ e k w. let c = covers-kind WRITE file b (row_at rows k) w in marked (publishes model) file (row_at rows k) c.0 c.1 e;
      read-refreshes = λ e k w. let c = covers-kind READ file b (row_at rows k) w in marked (refreshes model) file (row_at rows k) c.0 c.1 e;
    }
