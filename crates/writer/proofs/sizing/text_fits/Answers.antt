-- `writer::sizing::text_fits` meets its contract.
use Rattle.std.proofs.Common.{arith}
use Rattle.rows.specs.Rows.{rows_in}
use Rattle.writer.proofs.Lines.{header-most}
use Rattle.writer.proofs.Sizes.{fits-roomy, fits-measured}
use Rattle.writer.proofs.sizing.text_fits.Goals as goal

pub returns-then-n-space : goal.returns-then-n-space
returns-then-n-space c =
    let a = c.args in
    let pre = c.requires in
    fits-roomy a.out_len a.place a.header (rows_in a.n a.rows.now) c.if-out_len-place.false a.n pre.1 (omega (arith, c.if-n-space.true))

pub overflow_add-result : goal.overflow_add-result
overflow_add-result c =
    let a = c.args in
    let pre = c.requires in
    omega (arith, c.header_length.ensures, header-most a.header, c.lines_length.ensures, pre.0, pre.1)

pub returns : goal.returns
returns c =
    let a = c.args in
    fits-measured a.out_len a.place a.header (rows_in a.n a.rows.now) c.if-out_len-place.false c.header_length.ensures c.lines_length.ensures
