-- `races::Later::note_rows` meets its contract.
use Rattle.rows.specs.Rows.{rows_in}
use Rattle.races.specs.Given.{told_row}
use Rattle.races.proofs.Passes.{Noting}
use Rattle.races.proofs.Later.note_rows.Given as goal

-- Of the rows below c, `last` holds each process's last noted row.
abbrev pub invariant-loop-c : goal.invariant-loop-c
invariant-loop-c l = Noting (rows_in l.self.search.n l.self.search.rows.now) l.self.search.model l.self.y (told_row l.self.refresh) l.last l.c
