-- `join_reading::ask_file` meets its contract.
use Rattle.join_reading.proofs.Asking.{as_trace}
use Rattle.join_reading.proofs.ask_file.Goals as goal

pub returns : goal.returns
returns c = rw (c.requires, as_trace c.args.call.header c.args.call.row_limit c.args.call.process_limit c.args.rows_len) at c.ask_call.ensures
