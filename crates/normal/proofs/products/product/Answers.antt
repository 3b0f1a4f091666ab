-- `normal::products::product` meets its contract: a turn writes one row. Assumes nothing.
use mathlib.Core.Path.{◌≡◌, ◌∙◌}
use native.Mathlib.Omega.{arith}
use native.Mathlib.Numerals.{add-one}
use Rattle.normal.specs.Loops.{with_products}
use Rattle.std.proofs.Common.{rules}
use Rattle.normal.proofs.products.product.Goals as goal

pub loop-i-init : goal.loop-i-init
unfolding with_products
loop-i-init c = search rules

pub loop-i-preserved : goal.loop-i-preserved
unfolding with_products
loop-i-preserved c =
    let l = c in
    c.product_row.ensures ∙ rw (add-one, l.loop-i.invariant)

pub returns : goal.returns
returns c =
    let e : c.loop-i.i ≡ c.args.p.count = omega arith in
    rw e at c.loop-i.invariant
