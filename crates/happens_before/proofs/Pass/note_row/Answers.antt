-- `happens_before::Pass::note_row` meets its contract.
use Rattle.std.proofs.Common.{sym, ◌∙◌}
use Rattle.happens_before.proofs.Joins.{process-in}
use Rattle.happens_before.proofs.Tables.{other-noted, chained-noted}
use Rattle.happens_before.proofs.Pass.note_row.Goals as goal

pub bounds-self-rows : goal.bounds-self-rows
bounds-self-rows c = let own = rw process-in at c.requires.process_below in own

pub invariant_of-self : goal.invariant_of-self
invariant_of-self c =
    let s = c.args.self.now in record {
      few = s.few;
      tables =
          rw c.chain_of-chain.ensures
          (chained-noted s.rows.now s.row s.tables (rw process-in at c.requires.process_below) c.requires.few (sym c.is_chained.ensures ∙ c.if-is_chained.true));
    }

pub invariant_of-self-else-is_chained : goal.invariant_of-self-else-is_chained
invariant_of-self-else-is_chained c =
    let s = c.args.self.now in record {
      few = s.few;
      tables = other-noted s.rows.now s.row s.tables (rw process-in at c.requires.process_below) c.requires.few (sym c.is_chained.ensures ∙ c.if-is_chained.false);
    }
