-- `normal::products::product` meets its contract: a turn writes one row. Assumes nothing.
use mathlib.Core.Path.{◌≡◌}
use Rattle.normal.specs.Jacobian.{jacobian_at}
use Rattle.normal.specs.Loops.{with_products}
use Rattle.normal.proofs.products.product.Given as goal

abbrev pub invariant-loop-i : goal.invariant-loop-i
invariant-loop-i l = l.scratch ≡ with_products l.jacobian.m (jacobian_at l.jacobian.flat.now) l.i l.initial.scratch
