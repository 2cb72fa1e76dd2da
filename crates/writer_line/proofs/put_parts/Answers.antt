-- `writer_line::put_parts` meets its contract.
use Rattle.std.proofs.Common.{arith}
use Rattle.print.proofs.Parts.{put-laid}
use Rattle.writer_line.proofs.Putting.{room, kind-room, process-laid, kind-laid, two-laid, record_laid}
use Rattle.writer_line.proofs.put_parts.Goals as goal

pub put_word-at-requires : goal.put_word-at-requires
put_word-at-requires c =
    let a = c.args in
    kind-room a.out.now a.row c.used_by-used.ensures c.requires (c.put_number-at.ensures.answer, c.put_number-at.ensures.left)

pub put_field-at-requires : goal.put_field-at-requires
put_field-at-requires c =
    let a = c.args in
    let pre = c.requires in
    let r = a.row in
    let e = c.used_by-used.ensures in
    let all = room a.out.now r e pre in
    let two = two-laid a.out.now r e pre (c.put_number-at.ensures.answer, c.put_number-at.ensures.left) (c.put_word-at.ensures.answer, c.put_word-at.ensures.left) in
    omega (arith, all, two)

pub put_field-at-requires-2 : goal.put_field-at-requires-2
put_field-at-requires-2 c =
    let a = c.args in
    let pre = c.requires in
    let r = a.row in
    let e = c.used_by-used.ensures in
    let all = room a.out.now r e pre in
    let two = two-laid a.out.now r e pre (c.put_number-at.ensures.answer, c.put_number-at.ensures.left) (c.put_word-at.ensures.answer, c.put_word-at.ensures.left) in
    omega (arith, all, two, c.put_field-at.ensures.answer, c.put_field-at.auto.out)

pub put_field-at-requires-3 : goal.put_field-at-requires-3
put_field-at-requires-3 c =
    let a = c.args in
    let pre = c.requires in
    let r = a.row in
    let e = c.used_by-used.ensures in
    let all = room a.out.now r e pre in
    let two = two-laid a.out.now r e pre (c.put_number-at.ensures.answer, c.put_number-at.ensures.left) (c.put_word-at.ensures.answer, c.put_word-at.ensures.left) in
    omega (arith, all, two, c.put_field-at.ensures.answer, c.put_field-at.auto.out, c.put_field-at-2.ensures.answer, c.put_field-at-2.auto.out)

pub put_field-at-requires-4 : goal.put_field-at-requires-4
put_field-at-requires-4 c =
    let a = c.args in
    let pre = c.requires in
    let r = a.row in
    let e = c.used_by-used.ensures in
    let all = room a.out.now r e pre in
    let two = two-laid a.out.now r e pre (c.put_number-at.ensures.answer, c.put_number-at.ensures.left) (c.put_word-at.ensures.answer, c.put_word-at.ensures.left) in
    omega (arith, all, two, c.put_field-at.ensures.answer, c.put_field-at.auto.out, c.put_field-at-2.ensures.answer, c.put_field-at-2.auto.out, c.put_field-at-3.ensures.answer, c.put_field-at-3.auto.out)

pub returns : goal.returns
returns c =
    let both = let a = c.args in
    let pre = c.requires in
    let r = a.row in
    let e = c.used_by-used.ensures in
    let all = room a.out.now r e pre in
    let two = two-laid a.out.now r e pre (c.put_number-at.ensures.answer, c.put_number-at.ensures.left) (c.put_word-at.ensures.answer, c.put_word-at.ensures.left) in
    record_laid a.out.now r e (process-laid a.out.now r e pre (c.put_number-at.ensures.answer, c.put_number-at.ensures.left))
    (kind-laid a.out.now r e pre (c.put_number-at.ensures.answer, c.put_number-at.ensures.left) (c.put_word-at.ensures.answer, c.put_word-at.ensures.left))
    (record { fit = omega (arith, all, two); behind = c.put_field-at.ensures.answer; whole = c.put_field-at.ensures.left })
    (record { fit = omega (arith, all, two, c.put_field-at.ensures.answer, c.put_field-at.auto.out); behind = c.put_field-at-2.ensures.answer; whole = c.put_field-at-2.ensures.left })
    (record { fit = omega (arith, all, two, c.put_field-at.ensures.answer, c.put_field-at.auto.out, c.put_field-at-2.ensures.answer, c.put_field-at-2.auto.out); behind = c.put_field-at-3.ensures.answer; whole = c.put_field-at-3.ensures.left })
    (record { fit = omega (arith, all, two, c.put_field-at.ensures.answer, c.put_field-at.auto.out, c.put_field-at-2.ensures.answer, c.put_field-at-2.auto.out, c.put_field-at-3.ensures.answer, c.put_field-at-3.auto.out); behind = c.put_field-at-4.ensures.answer; whole = c.put_field-at-4.ensures.left })
    (put-laid _ _ _ (c.put.ensures.answer, c.put.ensures.left) (omega (arith, all, two, c.put_field-at.ensures.answer, c.put_field-at.auto.out, c.put_field-at-2.ensures.answer, c.put_field-at-2.auto.out, c.put_field-at-3.ensures.answer, c.put_field-at-3.auto.out, c.put_field-at-4.ensures.answer, c.put_field-at-4.auto.out))) in record { answer = both.0; left = both.1 }
