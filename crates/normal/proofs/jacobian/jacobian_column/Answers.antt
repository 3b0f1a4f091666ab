-- `normal::jacobian::jacobian_column` meets its contract: the loop writes the column from its first entry on. Assumes nothing.
use mathlib.Core.Path.{◌≡◌, ap}
use Prim.Native.Nat.{ℕ, ◌+◌}
use native.Mathlib.Omega.{arith}
use Rattle.lists.specs.Tab.{tab}
use Rattle.normal.proofs.Parts.{part_step}
use Rattle.std.proofs.Common.{rules}
use Rattle.normal.proofs.jacobian.jacobian_column.Goals as goal

pub loop-i-init : goal.loop-i-init
unfolding tab
loop-i-init c = search rules

pub loop-i-preserved : goal.loop-i-preserved
loop-i-preserved c =
    part_step _ _ _ _ _ _ _ c.loop-i.invariant (ap (λ (x : ℕ). x + c.loop-i.i) c.jacobian_place-first.ensures) c.jacobian_entry.ensures

pub returns : goal.returns
returns c = let e : c.loop-i.i ≡ c.args.m = omega arith in rw e at c.loop-i.invariant
