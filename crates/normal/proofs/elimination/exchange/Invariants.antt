-- `normal::elimination::exchange` meets its contract: the parts are exchanged as far as the loop has come. Assumes nothing.
use mathlib.Core.Path.{◌≡◌}
use Rattle.normal.specs.Loops.{parts_exchanged}
use Rattle.normal.proofs.elimination.exchange.Given as goal

abbrev pub invariant-loop-k : goal.invariant-loop-k
invariant-loop-k l = l.scratch ≡ parts_exchanged l.a l.b l.k l.initial.scratch
