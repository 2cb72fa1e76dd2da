-- `barriers::place_of` meets its contract.
use Rattle.std.proofs.Common.{sym, not, ap, refl}
use Rattle.rows.specs.Rows.{rows_in}
use Rattle.rows.proofs.Bools.{refused}
use Rattle.barriers.proofs.Asking.{asked-out, asked-unfinished, asked-yes}
use Rattle.barriers.proofs.Kept.{none-yes}
use Rattle.barriers.proofs.place_of.Goals as goal

pub returns-then-not-has_barrier : goal.returns-then-not-has_barrier
returns-then-not-has_barrier c = none-yes (rows_in c.args.n c.args.rows.now) (refused c.has_barrier.ensures (ap not c.if-not-has_barrier.true))

pub returns-in-Some : goal.returns-in-Some
returns-in-Some c =
    let e = c.in-Some.ensures.answer in (
      asked-out c.args.n c.args.rows.now c.requires c.flag_processes-flags.ensures c.count_flags.ensures c.new-table.ensures.stands c.new-table.ensures.arrivals
          e.0 e.1,
      e.1,
    )

pub returns-in-None : goal.returns-in-None
returns-in-None c =
    asked-unfinished c.args.n c.args.rows.now c.requires c.flag_processes-flags.ensures c.count_flags.ensures c.new-table.ensures.stands
    c.new-table.ensures.arrivals (sym c.in-None.ensures.answer) refl (c.in-None.ensures.left refl) c.in-None.ensures.processes c.is_unfinished.ensures
    c.if-is_unfinished.true

pub returns-in-None-2 : goal.returns-in-None-2
returns-in-None-2 c =
    asked-yes c.args.n c.args.rows.now c.requires c.flag_processes-flags.ensures c.count_flags.ensures c.new-table.ensures.stands
    c.new-table.ensures.arrivals (sym c.in-None.ensures.answer) refl (c.in-None.ensures.left refl) c.in-None.ensures.processes c.is_unfinished.ensures
    c.if-is_unfinished.false
