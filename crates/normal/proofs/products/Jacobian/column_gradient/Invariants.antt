-- `normal::products::Jacobian::column_gradient` meets its contract: the sum so far is that of the operands passed. Assumes nothing.
use mathlib.Core.Path.{◌≡◌}
use Prim.Native.Nat.{ℕ}
use lib.Ieee.{binary64, mul}
use Rattle.normal.specs.Jacobian.{jacobian_at, residual_at}
use Rattle.normal.specs.Products.{sum_of}
use Rattle.normal.proofs.products.Jacobian.column_gradient.Given as goal

abbrev pub invariant-loop-k : goal.invariant-loop-k
invariant-loop-k l = l.sum ≡ sum_of (λ (n : ℕ). mul binary64 (jacobian_at l.self.flat.now n l.i) (residual_at l.residuals n)) l.k
