-- `csv_field::is_text` meets its contract.
use Rattle.csv_field.proofs.Bytes.{high-text}
use Rattle.csv_field.proofs.is_text.Goals as goal

pub returns : goal.returns
returns c = high-text c.args.b c.if-b-lt45.false
