-- `extents::write` meets its contract.
use Rattle.extents.proofs.Entering.{refused, write-unlawful}
use Rattle.extents.specs.Entries.{written_map}
use Rattle.extents.specs.Answers.{Done}
use Rattle.std.proofs.Common.{sym, ◌∙◌, arith}
use Rattle.extents.proofs.write.Goals as goal

pub returns-then-not-is_lawful : goal.returns-then-not-is_lawful
returns-then-not-is_lawful c =
    let a = c.args in
    refused 13 Done (written_map a.map.now a.start a.length a.number a.unpublished) a.map.now (write-unlawful a.map.now
    a.start a.length a.number a.unpublished (omega arith) (omega arith) (sym c.is_lawful.ensures ∙ c.if-not-is_lawful.true)) (omega arith)
