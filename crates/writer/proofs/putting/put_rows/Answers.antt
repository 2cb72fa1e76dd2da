-- `writer::putting::put_rows` meets its contract.
use Rattle.std.proofs.Common.{rules, arith, ◌≡◌, ◌∷◌, []}
use Rattle.print.proofs.Parts.{laid-length, laid-within}
use Rattle.rows.specs.First.{rest}
use Rattle.rows.specs.Rows.{rows_in}
use Rattle.writer.proofs.Lines.{lines_none, lines_go, lines_laid, record_next}
use Rattle.writer.proofs.putting.put_rows.Goals as goal

pub loop-row-init : goal.loop-row-init
loop-row-init c =
    let a = c.args in
    let left : rest c.into_iter-row-iterator.result ≡ rows_in a.n a.rows.now = search rules in
    let none = lines_none a.out.now a.start left c.requires in
    (tt, tt, none.0, none.1)

pub overflow_add-at : goal.overflow_add-at
overflow_add-at c =
    let l = c.loop-row in
    let next : rest l.row-iterator ≡ c.in-Some.row ∷ rest c.next.new.self = search rules in
    let laid = record_next (rows_in c.args.n c.args.rows.now) l.yielded next l.invariant.3 l.invariant.2 c.requires (c.put_record-at.ensures.answer, c.put_record-at.ensures.left) in
    omega (arith, laid-within laid, laid-length laid)

pub loop-row-preserved : goal.loop-row-preserved
loop-row-preserved c =
    let l = c.loop-row in
    let next : rest l.row-iterator ≡ c.in-Some.row ∷ rest c.next.new.self = search rules in
    let laid = record_next (rows_in c.args.n c.args.rows.now) l.yielded next l.invariant.3 l.invariant.2 c.requires (c.put_record-at.ensures.answer, c.put_record-at.ensures.left) in
    (tt, tt, laid, lines_go (rows_in c.args.n c.args.rows.now) l.yielded next l.invariant.3 l.invariant.2 c.requires)

pub returns : goal.returns
returns c =
    let l = c.loop-row in
    let over : rest l.row-iterator ≡ [] = search rules in
    let all = lines_laid (rows_in c.args.n c.args.rows.now) l.yielded l.invariant.3 over l.invariant.2 in
    record { answer = all.0; left = all.1 }
