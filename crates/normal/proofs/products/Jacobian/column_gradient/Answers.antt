-- `normal::products::Jacobian::column_gradient` meets its contract: the sum so far is that of the operands passed. Assumes nothing.
use mathlib.Core.Path.{◌≡◌}
use native.Mathlib.Omega.{arith}
use lib.Ieee.{binary64, mul}
use Rattle.normal.specs.Jacobian.{residual_at}
use Rattle.normal.specs.Products.{sum_of, gradient_of}
use Rattle.normal.proofs.Sums.{column-entry, sum_step}
use Rattle.std.proofs.Common.{rules}
use Rattle.normal.proofs.products.Jacobian.column_gradient.Goals as goal

pub loop-k-init : goal.loop-k-init
unfolding sum_of
loop-k-init c = search rules

pub loop-k-preserved : goal.loop-k-preserved
loop-k-preserved c =
    let x = c.args in
    sum_step _ _ _ _ c.loop-k.invariant
    (λ n. mul binary64 (column-entry x.self.flat.now _ c.loop-k.k x.i c.jacobian_place-a.ensures n) (residual_at x.residuals.now c.loop-k.k))

pub returns : goal.returns
unfolding gradient_of
returns c = let e : c.loop-k.k ≡ c.args.self.m = omega arith in rw e at c.loop-k.invariant
