-- Whether rows are of a process that is flagged.
use Rattle.std.specs.Prelude.{Bool, false, List, get_or}
use Rattle.rows.specs.declared.row.Row.{Row}
use Rattle.rows.specs.Tests.{any}

-- Some row is of a process that is flagged.
abbrev pub any_flagged : List Bool → List Row → Bool
any_flagged flags rows = any (λ r. get_or flags r.process false) rows
