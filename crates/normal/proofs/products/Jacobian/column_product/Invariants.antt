-- `normal::products::Jacobian::column_product` meets its contract: the product so far is that of the operands passed. Assumes nothing.
use mathlib.Core.Path.{◌≡◌}
use Prim.Native.Nat.{ℕ}
use lib.Ieee.{binary64, mul}
use Rattle.normal.specs.Jacobian.{jacobian_at}
use Rattle.normal.specs.Products.{sum_of}
use Rattle.normal.proofs.products.Jacobian.column_product.Given as goal

abbrev pub invariant-loop-k : goal.invariant-loop-k
invariant-loop-k l = l.dot ≡ sum_of (λ (n : ℕ). mul binary64 (jacobian_at l.self.flat.now n l.i) (jacobian_at l.self.flat.now n l.j)) l.k
