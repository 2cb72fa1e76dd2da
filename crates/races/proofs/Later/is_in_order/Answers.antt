-- `races::Later::is_in_order` meets its contract.
use Rattle.std.proofs.Common.{sym, ◌∙◌}
use Rattle.races.proofs.Passes.{process-low, compared, some_row, none_row, order-read, order-none, order-own, order-noted}
use Rattle.races.proofs.Later.is_in_order.Goals as goal
use Rattle.races.proofs.Later.is_in_order.Goals.{then-is_some, else-is_some, else-rows-at-eq-WRITE-via-then-rows-at-eq-WRITE+else-not-self, else-rows-at-eq-WRITE-via-else-rows-at-eq-WRITE}

pub returns-then-not-self : goal.returns-then-not-self
returns-then-not-self c =
    let s = c.args.self in
    let given = s.search.given in
    let hx = c.requires.earlier in
    let write = c.if-rows-at-eq-WRITE.true in
    elim c.if-is_some.branch [
      | then-is_some w ↦
          let some = some_row s.refresh (sym c.is_some.ensures ∙ w.if-is_some.true) in
          w.result-is
          ∙ order-noted given s.y hx write s.refresh_is some s.own_is c.if-not-self.true (c.requires.noted_last some (sym s.own_is ∙ c.if-not-self.true))
      | else-is_some w ↦
          w.result-is ∙ w.if-is_some.false ∙ order-none given s.y hx write s.refresh_is (none_row s.refresh (sym c.is_some.ensures ∙ w.if-is_some.false))
    ]

pub returns : goal.returns
returns c =
    let s = c.args.self in
    let given = s.search.given in
    let hx = c.requires.earlier in
    let t = compared given hx hx s.is_row c.counts_before.ensures in
    elim c.else-rows-at-eq-WRITE.branch [
      | else-rows-at-eq-WRITE-via-then-rows-at-eq-WRITE+else-not-self w ↦ order-own given s.y hx w.if-rows-at-eq-WRITE.true s.own_is w.if-not-self.false t
      | else-rows-at-eq-WRITE-via-else-rows-at-eq-WRITE w ↦ order-read given s.y hx w.if-rows-at-eq-WRITE.false t
    ]

pub counts_before-requires-clause-process : goal.counts_before-requires-clause-process
counts_before-requires-clause-process c = process-low c.args.self.search.given c.requires.earlier
