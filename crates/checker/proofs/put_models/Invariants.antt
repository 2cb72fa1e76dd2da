-- `checker::put_models` meets its contract.
use Rattle.std.proofs.Common.{take}
use Rattle.rows.specs.Rows.{rows_in}
use Rattle.checker.proofs.Reports.{Sofar}
use Rattle.checker.proofs.put_models.Given as goal

-- The slice holds the heading and the lines of the models below the index.
abbrev pub invariant-loop-model : goal.invariant-loop-model
invariant-loop-model l = Sofar l.fn.out (rows_in l.n l.rows) (take l.model-index l.model-items) l.at l.out
