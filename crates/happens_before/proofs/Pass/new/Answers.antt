-- `happens_before::Pass::new` meets its contract.
use Rattle.happens_before.proofs.Tables.{tables_none}
use Rattle.happens_before.proofs.Pass.new.Goals as goal

pub invariant_of-result : goal.invariant_of-result
invariant_of-result c = record { few = c.requires; tables = tables_none c.args.rows.now }
