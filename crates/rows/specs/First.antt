-- The rows that an iterator over the first rows of a slice has left.
use Rattle.std.specs.Prelude.{List}
use Rattle.rows.specs.Rows.{rows_in}
use Rattle.rows.specs.declared.row.Row.{Row}
use Rattle.rows.specs.declared.first.FirstRows.{FirstRows}

abbrev pub rest : FirstRows → List Row
rest s = rows_in s.count s.numbers.now
