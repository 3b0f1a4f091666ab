-- `held::flat::copy` meets its contract. The loop's invariant: the numbers passed are copied, and the rest stands. Assumes nothing.
use mathlib.Core.Path.{◌≡◌}
use Prim.Native.Nat.{ℕ}
use mathlib.Core.List.{◌++◌}
use lib.Ieee.{nan}
use lib.ListN.{length, get_or, drop}
use Rattle.lists.specs.Tab.{tab}
use Rattle.held.proofs.flat.copy.Given as goal

abbrev pub invariant-loop-i : goal.invariant-loop-i
invariant-loop-i l = (length l.to ≡ length l.initial.to) × (l.to ≡ tab (λ (k : ℕ). get_or l.flat k nan) l.i ++ drop l.i l.initial.to)
