-- Rows in which each close is renamed commit.
use Rattle.std.specs.Prelude.{cond, List, map, eqb}
use Rattle.rows.specs.declared.row.Row.{Row}
use Rattle.rows.specs.Kinds.{COMMIT, CLOSE}

-- A close, of whatever file, becomes a commit of that file; any other row stays.
unfoldable pub renamed : Row → Row
renamed r =
    record {
      process = r.process;
      kind = cond (eqb r.kind CLOSE) COMMIT r.kind;
      file = r.file;
      offset = r.offset;
      length = r.length;
      message = r.message;
    }

-- The rows with each close renamed commit.
unfoldable pub closes_renamed : List Row → List Row
closes_renamed rows = map renamed rows
