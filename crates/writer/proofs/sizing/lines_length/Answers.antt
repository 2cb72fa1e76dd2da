-- `writer::sizing::lines_length` meets its contract.
use Rattle.std.proofs.Common.{rules, arith, ap, ◌≡◌, ◌∷◌, [], length}
use Rattle.rows.specs.First.{rest}
use Rattle.rows.specs.Rows.{rows_in}
use Rattle.rows.proofs.Slices.{length-rows}
use Rattle.writer.specs.Writing.{lines_of}
use Rattle.writer.proofs.Lines.{line-first, lines-over, lines_most}
use Rattle.writer.proofs.sizing.lines_length.Goals as goal

pub loop-row-init : goal.loop-row-init
loop-row-init c =
    let a = c.args in
    let left : rest c.into_iter-row-iterator.result ≡ rows_in a.n a.rows.now = search rules in
    (tt, tt, omega (arith, ap (λ rows. length (lines_of rows)) left))

pub overflow_add-lines : goal.overflow_add-lines
overflow_add-lines c =
    let a = c.args in
    let l = c.loop-row in
    let next : rest l.row-iterator ≡ c.in-Some.row ∷ rest c.next.new.self = search rules in
    omega (arith, l.invariant.2, line-first next, c.record_length-lines.ensures, lines_most (rows_in a.n a.rows.now), length-rows a.n a.rows.now)

pub loop-row-preserved : goal.loop-row-preserved
loop-row-preserved c =
    let l = c.loop-row in
    let next : rest l.row-iterator ≡ c.in-Some.row ∷ rest c.next.new.self = search rules in
    (tt, tt, omega (arith, l.invariant.2, line-first next, c.record_length-lines.ensures))

pub returns : goal.returns
returns c =
    let l = c.loop-row in
    let over : rest l.row-iterator ≡ [] = search rules in
    omega (arith, l.invariant.2, lines-over over)
