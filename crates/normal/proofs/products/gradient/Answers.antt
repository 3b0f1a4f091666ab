-- `normal::products::gradient` meets its contract: the loop writes the gradient from its first entry on. Assumes nothing.
use mathlib.Core.Path.{◌≡◌, refl}
use native.Mathlib.Omega.{arith}
use Rattle.lists.specs.Tab.{tab}
use Rattle.normal.proofs.Parts.{part_step}
use Rattle.std.proofs.Common.{rules}
use Rattle.normal.proofs.products.gradient.Goals as goal

pub loop-i-init : goal.loop-i-init
unfolding tab
loop-i-init c = search rules

pub loop-i-preserved : goal.loop-i-preserved
loop-i-preserved c = part_step _ _ _ _ _ _ _ c.loop-i.invariant refl c.column_gradient.ensures

pub returns : goal.returns
returns c =
    let e : c.loop-i.i ≡ c.args.p.count = omega arith in
    rw e at c.loop-i.invariant
