-- `normal::elimination::pivot_row` meets its contract: the row kept is the pivot's among those passed, with its magnitude. Assumes nothing.
use mathlib.Core.Path.{◌≡◌}
use Prim.Native.Nat.{suc, ◌-◌, ◌≤◌, ◌<◌}
use Rattle.floats.specs.Basic.{magnitude}
use Rattle.normal.specs.Elimination.{pivot_row}
use Rattle.normal.specs.Scratch.{system_in}
use Rattle.normal.proofs.elimination.pivot_row.Given as goal

abbrev pub invariant-loop-r : goal.invariant-loop-r
invariant-loop-r l = (l.c ≤ l.best) × (l.best < l.r) × (l.best ≡ pivot_row (system_in l.scratch) l.c (l.r - suc l.c))
    × (l.most ≡ magnitude (system_in l.scratch l.best l.c))
