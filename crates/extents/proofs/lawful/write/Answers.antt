-- `extents::lawful::write` meets its contract.
use Rattle.extents.proofs.Entering.{refused, write_low, write-high, write-past, write-none, write_done, write-not}
use Rattle.extents.specs.Entries.{written_map}
use Rattle.extents.specs.Answers.{Done}
use Rattle.std.proofs.Common.{arith}
use Rattle.extents.proofs.lawful.write.Goals as goal

pub returns-then-number-lt1 : goal.returns-then-number-lt1
returns-then-number-lt1 c =
    let a = c.args in
    refused 14 Done (written_map a.map.now a.start a.length a.number a.unpublished) a.map.now (write_low a.map.now
    a.start a.length a.number a.unpublished (omega arith) (omega arith) c.requires c.if-number-lt1.true) (omega arith)

pub returns-then-number-gt-ROWS : goal.returns-then-number-gt-ROWS
returns-then-number-gt-ROWS c =
    let a = c.args in
    refused 14 Done (written_map a.map.now a.start a.length a.number a.unpublished) a.map.now (write-high a.map.now
    a.start a.length a.number a.unpublished (omega arith) (omega arith) c.requires c.if-number-gt-ROWS.true) (omega arith)

pub returns-then-start-length : goal.returns-then-start-length
returns-then-start-length c =
    let a = c.args in
    refused 11 Done (written_map a.map.now a.start a.length a.number a.unpublished) a.map.now (write-past a.map.now
    a.start a.length a.number a.unpublished (omega arith) (omega arith) c.requires (omega (arith, c.if-number-lt1.false)) (omega (
      arith,
      c.if-number-gt-ROWS.false,
    )) (omega (arith, c.if-start-length.true))) (omega arith)

pub returns-then-length-eq0 : goal.returns-then-length-eq0
returns-then-length-eq0 c =
    let a = c.args in
    write-none a.map.now a.start a.length a.number a.unpublished (omega arith) (omega arith) c.requires (omega (
      arith,
      c.if-number-lt1.false,
    )) (omega (arith, c.if-number-gt-ROWS.false)) (omega (arith, c.if-start-length.false))
    c.if-length-eq0.true

pub returns-then-lay : goal.returns-then-lay
returns-then-lay c =
    let a = c.args in
    write_done a.map.now a.start a.length a.number a.unpublished (omega arith) (omega arith) c.requires (omega (
      arith,
      c.if-number-lt1.false,
    )) (omega (arith, c.if-number-gt-ROWS.false)) (omega (arith, c.if-start-length.false))
    c.cell_of.ensures c.lay.ensures.answer c.lay.ensures.map_after c.if-lay.true

pub returns-else-lay : goal.returns-else-lay
returns-else-lay c =
    let a = c.args in
    write-not a.map.now a.start a.length a.number a.unpublished (omega arith) (omega arith) c.requires (omega (
      arith,
      c.if-number-lt1.false,
    )) (omega (arith, c.if-number-gt-ROWS.false)) (omega (arith, c.if-start-length.false))
    c.cell_of.ensures c.lay.ensures.answer c.lay.ensures.map_after c.if-lay.false
