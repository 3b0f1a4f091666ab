-- `dls::attempts::stepped` meets its contract: the loop's invariant: the first q parameters are moved. Assumes nothing.
use native.Mathlib.Omega.{arith}
use Rattle.dls.proofs.Stepping.{stepped-none, stepped-more}
use Rattle.std.proofs.Common.{rules}
use Rattle.dls.proofs.attempts.stepped.Goals as goal

pub loop-q-init : goal.loop-q-init
loop-q-init c = stepped-none c.args.params c.args.scratch.now (search rules)

pub loop-q-preserved : goal.loop-q-preserved
loop-q-preserved c = rw c.loop-q.invariant (stepped-more c.args.params c.args.scratch.now c.loop-q.q (omega arith))
