use Rattle.std.proofs.Common.{rules, arith, ◌-◌, length, refl, sym, subst, ◌∙◌, le_refl, append-nil, w64, FitsSigned}
use Rattle.std.proofs.lemmas.Slice.{take-put_mid_below}
use Rattle.std.proofs.KnownBytes.{Consumes-trans, Consumes-kept}
use Rattle.std.specs.Io.KnownBytes.{Consumes, ReadConsumes}
use Rattle.streams.proofs.Moving.{fits_room, took, ended, interrupted, take_more}
use Rattle.streams.proofs.read_all.Goals as goal

pub overflow_add-done : goal.overflow_add-done
overflow_add-done g c =
    let f : FitsSigned w64 c.numbers-got.result.0 = search rules in
    let t = took _ _ f _ _ c.read-answer.result c.in-Took.n c.numbers-got.ensures (fits_room _ _ _ c.read-answer.ensures.bound (omega arith)) c.in-Took.ensures in
    omega (arith, t.2)

pub loop-done-smaller-in-Took : goal.loop-done-smaller-in-Took
loop-done-smaller-in-Took g c =
    let f : FitsSigned w64 c.numbers-got.result.0 = search rules in
    let t = took _ _ f _ _ c.read-answer.result c.in-Took.n c.numbers-got.ensures (fits_room _ _ _ c.read-answer.ensures.bound (omega arith)) c.in-Took.ensures in
    omega (arith, t.1, t.2)

pub loop-done-preserved-in-Took : goal.loop-done-preserved-in-Took
loop-done-preserved-in-Took g c =
    let f : FitsSigned w64 c.numbers-got.result.0 = search rules in
    let t = took _ _ f _ _ c.read-answer.result c.in-Took.n c.numbers-got.ensures (fits_room _ _ _ c.read-answer.ensures.bound (omega arith)) c.in-Took.ensures in
    let more = take_more c.loop-done.done (length c.loop-done.buf - c.loop-done.done) c.loop-done.buf c.read-answer.new.buf c.loop-done.invariant.within c.in-Took.n (omega (arith, t.2)) in
    let moved = subst (λ r. ReadConsumes (g.R.Read.remaining c.loop-done.reader) (g.R.Read.remaining c.read-answer.new.self) r c.read-answer.new.buf) t.0 c.read-answer.ensures.bytes in
    record {
      same_length = search rules;
      within = omega (arith, t.2);
      read = subst (Consumes _ _) (sym more) (Consumes-trans _ _ _ _ _ c.loop-done.invariant.read moved.0);
    }

pub returns-in-End-clause-whole : goal.returns-in-End-clause-whole
returns-in-End-clause-whole g c =
    let f : FitsSigned w64 c.numbers-got.result.0 = search rules in
    let e = ended _ _ f _ _ c.read-answer.result c.numbers-got.ensures c.in-End.ensures in
    let moved = subst (λ r. ReadConsumes (g.R.Read.remaining c.loop-done.reader) (g.R.Read.remaining c.read-answer.new.self) r c.read-answer.new.buf) e c.read-answer.ensures.bytes in
    let same = take-put_mid_below _ _ _ _ _ (le_refl _) c.loop-done.invariant.within in
    (subst (Consumes _ _) (append-nil _ ∙ sym same) (Consumes-trans _ _ _ _ _ c.loop-done.invariant.read moved.0), λ h. moved.1 refl (omega arith))

pub loop-done-preserved : goal.loop-done-preserved
loop-done-preserved g c =
    let f : FitsSigned w64 c.numbers-got.result.0 = search rules in
    let kept = interrupted _ _ f _ _ c.read-answer.result _ _ c.numbers-got.ensures c.in-Again.ensures c.read-answer.ensures.bytes in
    record {
      same_length = search rules;
      within = search rules;
      read =
          subst (Consumes _ _) (sym (take-put_mid_below _ _ _ _ _ (le_refl _) c.loop-done.invariant.within))
          (Consumes-kept _ _ _ _ c.loop-done.invariant.read kept);
    }
