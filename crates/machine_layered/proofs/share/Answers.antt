-- `machine_layered::share` meets its contract.
use Rattle.machine_layered.proofs.Laying.{ready-two, share-both, share-publish, share-refresh, share-none}
use Rattle.std.proofs.Common.{sym, ◌∙◌}
use Rattle.machine_layered.proofs.share.Goals as goal

pub sync-requires : goal.sync-requires
sync-requires c = ready-two c.requires.0

pub returns-then-is_refresh : goal.returns-then-is_refresh
returns-then-is_refresh c =
    let p = c.requires in
    let e = c.sync.ensures in
    share-both p.0 p.1 (sym c.is_publish.ensures ∙ c.if-is_publish.true) (sym c.is_refresh.ensures ∙ c.if-is_refresh.true) e.answer e.left

pub publish-requires : goal.publish-requires
publish-requires c = ready-two c.requires.0

pub returns-then-is_publish : goal.returns-then-is_publish
returns-then-is_publish c =
    let p = c.requires in
    let e = c.publish.ensures in
    share-publish p.0 p.1 (sym c.is_publish.ensures ∙ c.if-is_publish.true) (sym c.is_refresh.ensures ∙ c.if-is_refresh.false) e.answer e.left

pub refresh-requires : goal.refresh-requires
refresh-requires c = ready-two c.requires.0

pub returns-then-is_refresh-2 : goal.returns-then-is_refresh-2
returns-then-is_refresh-2 c =
    let p = c.requires in
    let e = c.refresh.ensures in
    share-refresh p.0 p.1 (sym c.is_publish.ensures ∙ c.if-is_publish.false) (sym c.is_refresh-2.ensures ∙ c.if-is_refresh-2.true) e.answer e.left

pub returns : goal.returns
returns c =
    let p = c.requires in
    share-none p.0 p.1 (sym c.is_publish.ensures ∙ c.if-is_publish.false) (sym c.is_refresh-2.ensures ∙ c.if-is_refresh-2.false)
