-- `normal::products::product_row` meets its contract: a turn writes one product and its mirror image. Assumes nothing.
use mathlib.Core.Path.{◌≡◌}
use Rattle.normal.specs.Jacobian.{jacobian_at}
use Rattle.normal.specs.Loops.{with_product_row}
use Rattle.normal.proofs.products.product_row.Given as goal

abbrev pub invariant-loop-j : goal.invariant-loop-j
invariant-loop-j l = l.scratch ≡ with_product_row l.jacobian.m (jacobian_at l.jacobian.flat.now) l.i l.j l.initial.scratch
