-- `happens_before::processes_in` meets its contract.
use Rattle.std.proofs.Common.{◌-◌, arith}
use Rattle.happens_before.proofs.Asking.{processes-next, processes-out}
use Rattle.happens_before.proofs.processes_in.Goals as goal

pub returns-then-process_limit-rows : goal.returns-then-process_limit-rows
returns-then-process_limit-rows c =
    processes-out c.args.process_limit c.args.rows.now c.loop-i.i c.args.n c.loop-i-test.true c.if-process_limit-rows.true

pub returns-then-process_limit-rows-2 : goal.returns-then-process_limit-rows-2
returns-then-process_limit-rows-2 c =
    processes-out c.args.process_limit c.args.rows.now (c.args.n - 1 - c.loop-i.i) c.args.n (omega (arith, c.loop-i-test.true)) c.if-process_limit-rows-2.true

pub loop-i-preserved : goal.loop-i-preserved
loop-i-preserved c = processes-next c.args.process_limit c.args.rows.now c.loop-i.i c.loop-i.invariant c.if-process_limit-rows.false
