-- `normal::elimination::solve_upward` meets its contract: the unknowns behind i are known. Assumes nothing.
use mathlib.Core.Path.{◌≡◌}
use Prim.Native.Nat.{◌+◌, ◌-◌}
use lib.Seq.{sets}
use Rattle.normal.specs.Layout.{step_at}
use Rattle.normal.specs.Elimination.{unknowns}
use Rattle.normal.specs.Scratch.{system_in}
use Rattle.normal.proofs.elimination.solve_upward.Given as goal

abbrev pub invariant-loop-i : goal.invariant-loop-i
invariant-loop-i l = l.scratch ≡ sets l.initial.scratch (step_at + l.i) (unknowns l.p.count (system_in l.initial.scratch) (l.p.count - l.i))
