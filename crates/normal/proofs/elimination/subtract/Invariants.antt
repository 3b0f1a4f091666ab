-- `normal::elimination::subtract` meets its contract: the part is written as far as the loop has come. Assumes nothing.
use mathlib.Core.Path.{◌≡◌}
use Rattle.normal.specs.Loops.{part_subtracted}
use Rattle.normal.proofs.elimination.subtract.Given as goal

abbrev pub invariant-loop-k : goal.invariant-loop-k
invariant-loop-k l = l.scratch ≡ part_subtracted l.a l.b l.k l.factor l.initial.scratch
