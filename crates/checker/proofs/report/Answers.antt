-- `checker::report` meets its contract.
use Rattle.std.proofs.Common.{Ok, Err, refl, replicate}
use Rattle.trace.specs.Questions.{Leaves}
use Rattle.checker.proofs.Verdicts.{outcome, passes-again}
use Rattle.checker.proofs.Reports.{report_short, refusal-room, report_refused, report_accepted}
use Rattle.checker.proofs.report.Goals as goal

pub returns-then-out-lt-ROOM : goal.returns-then-out-lt-ROOM
returns-then-out-lt-ROOM c =
    let both = report_short c.args.text.now c.args.out.now c.if-out-lt-ROOM.true in
    record { answer = both.0; left = both.1.0; front = both.1.1 }

pub put_pair-requires : goal.put_pair-requires
put_pair-requires c = refusal-room c.args.out.now c.if-out-lt-ROOM.false (c.put-at.ensures.answer, c.put-at.ensures.left)

pub put_models-requires : goal.put_models-requires
put_models-requires c =
    let l : Leaves (outcome c.args.text.now 1 0 128 8 8192 (replicate 768 0) (replicate 1024 0)) (Ok c.in-Ok.n) (replicate 768 0) c.check_trace.new.rows (replicate 1024 0) c.check_trace.new.counts = rw c.number.ensures at c.in-Ok.ensures in
    let j = passes-again c.args.text.now 1 0 128 8 8192 (replicate 768 0) (replicate 1024 0) l in
    record { report_room = c.if-out-lt-ROOM.false; asked = j }

pub returns-in-Err : goal.returns-in-Err
returns-in-Err c =
    let l : Leaves (outcome c.args.text.now 1 0 128 8 8192 (replicate 768 0) (replicate 1024 0)) (Err c.in-Err.refused) (replicate 768 0) c.check_trace.new.rows (replicate 1024 0) c.check_trace.new.counts = rw c.number.ensures at c.in-Err.ensures in
    let both = report_refused c.args.text.now c.args.out.now c.if-out-lt-ROOM.false (replicate 768 0) (replicate 1024 0) refl refl l
    (c.put-at.ensures.answer, c.put-at.ensures.left)
    (rw c.number-in-Err.ensures at c.put_pair.ensures.answer, rw c.number-in-Err.ensures at c.put_pair.ensures.out_after) in
    record { answer = both.0; left = both.1.0; front = both.1.1 }

pub returns-in-Ok : goal.returns-in-Ok
returns-in-Ok c =
    let l : Leaves (outcome c.args.text.now 1 0 128 8 8192 (replicate 768 0) (replicate 1024 0)) (Ok c.in-Ok.n) (replicate 768 0) c.check_trace.new.rows (replicate 1024 0) c.check_trace.new.counts = rw c.number.ensures at c.in-Ok.ensures in
    let both = report_accepted c.args.text.now c.args.out.now c.if-out-lt-ROOM.false (replicate 768 0) (replicate 1024 0) refl refl l
    (c.put_models.ensures.answer, c.put_models.ensures.out_after) in
    record { answer = both.0; left = both.1.0; front = both.1.1 }
