-- `csv_field::quoted_field` meets its contract.
use Rattle.csv_field.proofs.ScannedFields.{quoted-open, quoted-closed}
use Rattle.std.proofs.Common.{sym}
use Rattle.csv_field.proofs.quoted_field.Goals as goal

pub returns-then-cut : goal.returns-then-cut
returns-then-cut c = quoted-open c.args.s.now c.args.cut c.args.at (sym c.in-Unclosed.ensures) c.if-cut.true

pub returns-else-cut : goal.returns-else-cut
returns-else-cut c = quoted-open c.args.s.now c.args.cut c.args.at (sym c.in-Unclosed.ensures) c.if-cut.false

pub returns-in-Closed : goal.returns-in-Closed
returns-in-Closed c = quoted-closed c.args.s.now c.args.cut c.args.at (sym c.in-Closed.ensures) c.stop_at-stop.ensures
