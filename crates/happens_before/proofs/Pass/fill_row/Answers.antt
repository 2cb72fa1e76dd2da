-- `happens_before::Pass::fill_row` meets its contract.
use Rattle.happens_before.proofs.Joins.{process-in, joined-most, row-filled}
use Rattle.happens_before.proofs.Tables.{last_found, last-few}
use Rattle.std.proofs.Common.{arith}
use Rattle.happens_before.proofs.Pass.fill_row.Goals as goal

pub bounds-self-process : goal.bounds-self-process
bounds-self-process c =
    let own = rw process-in at c.requires.process_below in
    omega (arith, c.args.self.now.few)

pub join_last-requires-clause-before : goal.join_last-requires-clause-before
join_last-requires-clause-before c =
    let s = c.args.self.now in
    last-few s.rows.now s.row s.tables (omega (arith, s.few, rw process-in at c.requires.process_below))

pub join_barrier-requires-clause-before : goal.join_barrier-requires-clause-before
join_barrier-requires-clause-before c =
    let s = c.args.self.now in
    last-few s.rows.now s.row s.tables (omega (arith, s.few, rw process-in at c.requires.process_below))

pub add_own-requires-clause-process_below : goal.add_own-requires-clause-process_below
add_own-requires-clause-process_below c = rw process-in at c.requires.process_below

pub add_own-requires-clause-small : goal.add_own-requires-clause-small
add_own-requires-clause-small c =
    let s = c.args.self.now in
    let found = last_found s.rows.now s.row s.tables (omega (arith, s.few, rw process-in at c.requires.process_below)) in
    joined-most s.processes s.rows.now c.args.counts.now s.row c.requires.counts_inside c.requires.zero_row found c.join_last.ensures c.join_sends.ensures c.join_barrier.ensures c.requires.small_counts _ (rw process-in at c.requires.process_below)

pub returns : goal.returns
returns c =
    let s = c.args.self.now in
    let found = last_found s.rows.now s.row s.tables (omega (arith, s.few, rw process-in at c.requires.process_below)) in
    row-filled s.processes s.rows.now c.args.counts.now s.row c.requires.counts_inside c.requires.zero_row found c.join_last.ensures c.join_sends.ensures c.join_barrier.ensures c.add_own.ensures
