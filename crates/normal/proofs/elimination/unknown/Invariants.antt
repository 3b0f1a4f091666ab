-- `normal::elimination::unknown` meets its contract: the right side less the columns passed. Assumes nothing.
use mathlib.Core.Path.{◌≡◌}
use Prim.Native.Nat.{suc, ◌+◌, ◌-◌}
use Rattle.normal.specs.Layout.{step_at}
use Rattle.normal.specs.Elimination.{right_side}
use Rattle.normal.specs.Scratch.{system_in}
use Rattle.normal.specs.Loops.{part_of}
use Rattle.normal.proofs.elimination.unknown.Given as goal

abbrev pub invariant-loop-k : goal.invariant-loop-k
invariant-loop-k l = l.rest ≡ right_side l.fn.p.count (system_in l.scratch) l.i (part_of l.scratch (step_at + suc l.i) (l.fn.p.count - suc l.i)) (l.k - suc l.i)
