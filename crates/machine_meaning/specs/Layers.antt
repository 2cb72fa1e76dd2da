-- The layered file and the plain file by their bytes, as document 01 states the rules.
use Rattle.std.specs.Prelude.{ℕ, Bool, cond, ◌&&◌, List, [], ltb, eqb}
use Rattle.rows.specs.Kinds.{READ, WRITE, SEND}
use Rattle.models.specs.Table.{publishes, refreshes}
use Rattle.rows.specs.declared.row.Row.{Row}
use Rattle.extents_meaning.specs.Cells.{Bytes, cell_of, overwrite, published, as_published, refreshed}
use Rattle.extents_meaning.specs.Runs.{Run, pieces_of}

-- For each byte a published row number and, for each process, a view: a row number and whether it is unpublished. (Published cells have no
-- marks.)
pub record Layers : Type 0 where
  pub shared : Bytes
  pub view : ℕ → Bytes

-- Bytes that nobody wrote hold 0.
abbrev pub nothing : Bytes
nothing b = 0

-- A fresh machine holds 0 everywhere.
abbrev pub fresh : Layers
fresh = record { shared = nothing; view = λ p. nothing }

-- The views with another view for process p.
abbrev pub with_view : ℕ → Bytes → (ℕ → Bytes) → ℕ → Bytes
with_view p f views q = cond (eqb q p) f (views q)

-- A write puts its row number in the writer's view, unpublished.
abbrev pub written : Row → ℕ → Layers → Layers
written r number s =
    record {
      shared = s.shared;
      view = with_view r.process (overwrite r.offset r.length (cell_of number 1) (s.view r.process)) s.view;
    }

-- To publish is to copy the process's unpublished bytes to the published file and mark them published.
abbrev pub publishing : ℕ → Layers → Layers
publishing p s =
    record {
      shared = published (s.view p) s.shared;
      view = with_view p (as_published (s.view p)) s.view;
    }

-- To refresh is to take the published number for each byte of the view that is not unpublished.
abbrev pub refreshing : ℕ → Layers → Layers
refreshing p s =
    record {
      shared = s.shared;
      view = with_view p (refreshed (s.view p) s.shared) s.view;
    }

-- What a row does: a write writes; then a row publishes and refreshes where the table says so, in this sequence. Other rows change nothing.
unfoldable pub after_row : ℕ → Row → ℕ → Layers → Layers
after_row model r number s =
    let w = cond (eqb r.kind WRITE) (written r number s) s in
    let u = cond (publishes model r.kind) (publishing r.process w) w in
    cond (refreshes model r.kind) (refreshing r.process u) u

-- The plain file: a write puts its row number in each byte of its range; other rows change nothing.
unfoldable pub after_plain : Row → ℕ → Bytes → Bytes
after_plain r number f = cond (eqb r.kind WRITE) (overwrite r.offset r.length (cell_of number 0) f) f

-- The pieces of a read. Other rows have none.
abbrev pub pieces_read : Row → Bytes → List Run
pieces_read r f = cond (eqb r.kind READ) (pieces_of f r.offset r.length) []

-- The row is a read, write, commit, open, close or sync of this file.
abbrev pub of_file : ℕ → Row → Bool
of_file file r = ltb r.kind SEND && eqb r.file file
