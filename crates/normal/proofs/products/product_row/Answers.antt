-- `normal::products::product_row` meets its contract: a turn writes one product and its mirror image. Assumes nothing.
use mathlib.Core.Path.{◌≡◌, ◌∙◌}
use Prim.Native.Nat.{suc}
use native.Mathlib.Omega.{arith}
use native.Mathlib.Numerals.{add-one}
use Rattle.normal.specs.Loops.{with_product_row}
use Rattle.std.proofs.Common.{rules}
use Rattle.normal.proofs.products.product_row.Goals as goal

pub loop-j-init : goal.loop-j-init
unfolding with_product_row
loop-j-init c = search rules

pub loop-j-preserved : goal.loop-j-preserved
unfolding with_product_row
loop-j-preserved c =
    let l = c in
    c.write_product.ensures ∙ rw (add-one, l.loop-j.invariant)

pub returns : goal.returns
returns c =
    let e : c.loop-j.j ≡ suc c.args.i = omega arith in
    rw e at c.loop-j.invariant
