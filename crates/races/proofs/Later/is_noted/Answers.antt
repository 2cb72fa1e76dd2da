-- `races::Later::is_noted` meets its contract.
use Rattle.std.proofs.Common.{◌-◌}
use Rattle.races.specs.Given.{told_row}
use Rattle.races.proofs.Passes.{process-low, compared, row_told, refresh_low, no-data-noted, no-publish, other-file, by-counts}
use Rattle.races.proofs.Later.is_noted.Goals as goal

pub returns-then-rows-at-le-WRITE : goal.returns-then-rows-at-le-WRITE
returns-then-rows-at-le-WRITE c =
    let s = c.args.self in
    λ h q. no-data-noted s.search.given (told_row s.refresh - 1) s.is_row c.requires c.if-rows-at-le-WRITE.true q

pub returns-then-not-is_publish : goal.returns-then-not-is_publish
returns-then-not-is_publish c =
    let s = c.args.self in
    λ h q. no-publish s.search.given (told_row s.refresh - 1) s.is_row c.requires c.is_publish.ensures c.if-not-is_publish.true

pub returns-then-rows-to : goal.returns-then-rows-to
returns-then-rows-to c =
    let s = c.args.self in
    λ h q. other-file s.search.given (told_row s.refresh - 1) s.is_row c.requires c.if-rows-to.true

pub counts_before-requires-clause-second : goal.counts_before-requires-clause-second
counts_before-requires-clause-second c = let s = c.args.self in refresh_low _ _ s.refresh_is s.is_row c.in-Some.is

pub counts_before-requires-clause-process : goal.counts_before-requires-clause-process
counts_before-requires-clause-process c = process-low c.args.self.search.given c.requires

pub returns : goal.returns
returns c =
    let s = c.args.self in
    let told = row_told c.in-Some.is in
    λ h q. by-counts s.search.given (told_row s.refresh - 1) s.is_row c.requires c.is_publish.ensures c.if-not-is_publish.false c.if-rows-to.false
    (rw told (compared s.search.given c.requires c.requires (refresh_low _ _ s.refresh_is s.is_row c.in-Some.is) c.counts_before.ensures))
