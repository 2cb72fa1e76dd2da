-- `models::table_entry` meets its contract.
use Rattle.std.proofs.Common.{sym}
use Rattle.models.proofs.Entries.{table-right, no_model, no_kind}
use Rattle.models.proofs.table_entry.Goals.{else-model-lt-MODELS-via-then-model-lt-MODELS+else-kind-lt-KINDS, else-model-lt-MODELS-via-else-model-lt-MODELS}
use Rattle.models.proofs.table_entry.Goals as goal

pub returns-then-kind-lt-KINDS : goal.returns-then-kind-lt-KINDS
returns-then-kind-lt-KINDS c = table-right c.args.model c.args.kind c.if-model-lt-MODELS.true c.if-kind-lt-KINDS.true

pub returns-else-model-lt-MODELS : goal.returns-else-model-lt-MODELS
returns-else-model-lt-MODELS c =
    sym (elim c.else-model-lt-MODELS.branch [
      | else-model-lt-MODELS-via-then-model-lt-MODELS+else-kind-lt-KINDS w ↦ no_kind c.args.model c.args.kind w.if-kind-lt-KINDS.false
      | else-model-lt-MODELS-via-else-model-lt-MODELS w ↦ no_model c.args.model c.args.kind w.if-model-lt-MODELS.false
    ])
