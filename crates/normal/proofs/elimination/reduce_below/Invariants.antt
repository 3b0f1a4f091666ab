-- `normal::elimination::reduce_below` meets its contract: a turn reduces one row. Assumes nothing.
use mathlib.Core.Path.{◌≡◌}
use Prim.Native.Nat.{suc, ◌-◌}
use Rattle.normal.specs.Loops.{rows_reduced}
use Rattle.normal.proofs.elimination.reduce_below.Given as goal

abbrev pub invariant-loop-r : goal.invariant-loop-r
invariant-loop-r l = l.scratch ≡ rows_reduced l.p.count l.c l.pivot (l.r - suc l.c) l.initial.scratch
