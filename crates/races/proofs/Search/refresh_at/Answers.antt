-- `races::Search::refresh_at` meets its contract.
use Rattle.std.proofs.Common.{sym, ◌∙◌}
use Rattle.races.proofs.Cells.{refreshing, last_none, last-here, last-before, refresh_own, refresh_earlier}
use Rattle.races.proofs.Search.refresh_at.Goals as goal

pub returns-then-is_refresh : goal.returns-then-is_refresh
returns-then-is_refresh c =
    let s = c.args.self in
    refresh_own s.rows.now s.n s.model c.args.y (sym c.is_refresh.ensures ∙ c.if-is_refresh.true)

pub returns-then-refreshes : goal.returns-then-refreshes
returns-then-refreshes c =
    let s = c.args.self in
    let test = refreshing s.rows.now s.n s.model c.args.y in
    sym (refresh_earlier s.rows.now s.n s.model c.args.y (sym c.is_refresh.ensures ∙ c.if-is_refresh.false)
    ∙ last-here test _ _ c.loop-i.invariant c.loop-i-test.true (sym c.refreshes.ensures ∙ c.if-refreshes.true))

pub loop-i-preserved : goal.loop-i-preserved
loop-i-preserved c =
    let s = c.args.self in
    let test = refreshing s.rows.now s.n s.model c.args.y in
    last-before test _ _ c.loop-i.invariant c.loop-i-test.true (sym c.refreshes.ensures ∙ c.if-refreshes.false)

pub returns : goal.returns
returns c =
    let s = c.args.self in
    let test = refreshing s.rows.now s.n s.model c.args.y in
    sym (refresh_earlier s.rows.now s.n s.model c.args.y (sym c.is_refresh.ensures ∙ c.if-is_refresh.false)
    ∙ last_none test _ _ c.loop-i.invariant c.loop-i-test.false)
