-- `races::Later::is_race` meets its contract.
use Rattle.races.proofs.Passes.{no-race-kind, by_byte}
use Rattle.races.proofs.Later.is_race.Goals as goal

pub returns-then-not-may_conflict : goal.returns-then-not-may_conflict
returns-then-not-may_conflict c =
    let s = c.args.self in
    no-race-kind s.search.given c.requires.earlier s.is_row c.may_conflict.ensures c.if-not-may_conflict.true

pub returns : goal.returns
returns c =
    let s = c.args.self in
    by_byte s.search.given c.requires.earlier s.is_row c.may_conflict.ensures c.is_in_order.ensures c.if-not-may_conflict.false c.if-is_in_order.false c.share_byte.ensures
