-- `normal::products::write_product` meets its contract. Assumes nothing.
use Prim.Native.Nat.{◌+◌}
use lib.ListN.{set}
use Rattle.normal.specs.Layout.{product_at}
use Rattle.normal.specs.Loops.{with_product}
use Rattle.normal.proofs.products.write_product.Goals as goal

pub returns : goal.returns
unfolding with_product
returns c =
    let x = c.args in
    λ i. set x.scratch.now (product_at + c.place-here.ensures.fact_1 i) (c.column_product-sum.ensures i)
