use Rattle.std.proofs.Common.{rules, arith, ◌≤◌, ◌-◌, ℕ, length, length-take, take, drop, subst, w64, FitsSigned}
use Rattle.std.proofs.KnownBytes.{Appends-trans, Appends-kept}
use Rattle.std.specs.Io.KnownBytes.{Appends, WriteAppends}
use Rattle.streams.proofs.Moving.{fits_part, took, interrupted, take_part}
use Rattle.streams.proofs.write_all.Goals as goal

pub overflow_add-done : goal.overflow_add-done
overflow_add-done g c =
    let f : FitsSigned w64 c.numbers-got.result.0 = search rules in
    let within : length (take (length c.args.bytes.now - c.loop-done.done) (drop c.loop-done.done c.args.bytes.now)) ≤ length c.args.bytes.now - c.loop-done.done = omega (arith, length-take {A = ℕ}) in
    let t = took _ _ f _ _ c.write-answer.result c.in-Took.n c.numbers-got.ensures (fits_part _ _ _ c.write-answer.ensures.bound within) c.in-Took.ensures in
    omega (arith, t.2)

pub loop-done-smaller-in-Took : goal.loop-done-smaller-in-Took
loop-done-smaller-in-Took g c =
    let f : FitsSigned w64 c.numbers-got.result.0 = search rules in
    let within : length (take (length c.args.bytes.now - c.loop-done.done) (drop c.loop-done.done c.args.bytes.now)) ≤ length c.args.bytes.now - c.loop-done.done = omega (arith, length-take {A = ℕ}) in
    let t = took _ _ f _ _ c.write-answer.result c.in-Took.n c.numbers-got.ensures (fits_part _ _ _ c.write-answer.ensures.bound within) c.in-Took.ensures in
    omega (arith, t.1, t.2)

pub loop-done-preserved-in-Took : goal.loop-done-preserved-in-Took
loop-done-preserved-in-Took g c =
    let f : FitsSigned w64 c.numbers-got.result.0 = search rules in
    let within : length (take (length c.args.bytes.now - c.loop-done.done) (drop c.loop-done.done c.args.bytes.now)) ≤ length c.args.bytes.now - c.loop-done.done = omega (arith, length-take {A = ℕ}) in
    let t = took _ _ f _ _ c.write-answer.result c.in-Took.n c.numbers-got.ensures (fits_part _ _ _ c.write-answer.ensures.bound within) c.in-Took.ensures in
    let part = take (length c.args.bytes.now - c.loop-done.done) (drop c.loop-done.done c.args.bytes.now) in
    let moved = subst (λ r. WriteAppends (g.W.Write.contents c.loop-done.writer) (g.W.Write.contents c.write-answer.new.self) r part) t.0 c.write-answer.ensures.bytes in
    record {
      within = omega (arith, t.2);
      written = subst (Appends _ _) (take_part c.loop-done.done c.in-Took.n c.args.bytes.now t.2) (Appends-trans _ _ _ _ _ c.loop-done.invariant.written moved);
    }

pub loop-done-preserved : goal.loop-done-preserved
loop-done-preserved g c =
    let f : FitsSigned w64 c.numbers-got.result.0 = search rules in
    let kept = interrupted _ _ f _ _ c.write-answer.result _ _ c.numbers-got.ensures c.in-Again.ensures c.write-answer.ensures.bytes in
    record { within = search rules; written = Appends-kept _ _ _ _ c.loop-done.invariant.written kept }
