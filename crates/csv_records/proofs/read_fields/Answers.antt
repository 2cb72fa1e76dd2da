-- `csv_records::read_fields` meets its contract.
use Rattle.csv_records.specs.Reading.{first_six}
use Rattle.std.proofs.Common.{arith, [], ◌∷◌, ◌++◌, inl, inr, ◌≡◌}
use Rattle.csv_records.proofs.Going.{start, stored, comma-in, line-in, next, last_line, last-text, bad, over}
use Rattle.csv_records.proofs.read_fields.Goals as goal
use Rattle.csv_records.proofs.read_fields.Goals.{Joined-count-lt-KEPT, else-count-lt-KEPT, then-count-lt-KEPT}

pub loop-count-init : goal.loop-count-init
loop-count-init c =
    let a = c.args in
    start a.s.now a.cut a.at

-- the spans after the branch: those of the fields read, the new one with them
kept : (c : Joined-count-lt-KEPT) →
    c.if-count-lt-KEPT.spans ≡ first_six (c.loop-count.invariant.done ++ (c.field_at-field.result.span ∷ []))
kept c =
    let l = c.loop-count in
    let x = c.field_at-field.result.span in
    stored l.invariant x
    (elim c.if-count-lt-KEPT.branch [ then-count-lt-KEPT w ↦ inl (omega (arith, w.if-count-lt-KEPT.true), w.spans-is) | else-count-lt-KEPT w ↦ inr (w.if-count-lt-KEPT.false, w.spans-is) ])

pub overflow_add-i : goal.overflow_add-i
overflow_add-i c =
    let l = c.loop-count in
    omega (arith, comma-in l.invariant c.field_at-field.ensures c.in-Comma.is)

pub loop-count-smaller : goal.loop-count-smaller
loop-count-smaller c =
    let l = c.loop-count in
    omega (arith, comma-in l.invariant c.field_at-field.ensures c.in-Comma.is)

pub loop-count-preserved : goal.loop-count-preserved
loop-count-preserved c =
    let l = c.loop-count in
    next l.invariant c.field_at-field.ensures (kept (goal.at.loop-count-preserved c).Joined-count-lt-KEPT) c.in-Comma.is

pub overflow_add-next : goal.overflow_add-next
overflow_add-next c =
    let l = c.loop-count in
    omega (arith, line-in l.invariant c.field_at-field.ensures c.in-LineEnd.is)

pub returns-in-LineEnd : goal.returns-in-LineEnd
returns-in-LineEnd c =
    let l = c.loop-count in
    last_line l.invariant c.field_at-field.ensures (kept (goal.at.returns-in-LineEnd c).Joined-count-lt-KEPT)
    c.in-LineEnd.is

pub returns-in-TextEnd : goal.returns-in-TextEnd
returns-in-TextEnd c =
    let l = c.loop-count in
    last-text l.invariant c.field_at-field.ensures (kept (goal.at.returns-in-TextEnd c).Joined-count-lt-KEPT)
    c.in-TextEnd.is

pub returns-in-Bad : goal.returns-in-Bad
returns-in-Bad c =
    let l = c.loop-count in
    bad l.invariant c.field_at-field.ensures c.in-Bad.is

pub returns-in-Cut : goal.returns-in-Cut
returns-in-Cut c =
    let l = c.loop-count in
    over l.invariant c.field_at-field.ensures c.in-Cut.is
