-- `normal::products::gradient_norm` meets its contract: the sum so far is that of the squares passed, and `sqrt` gives its root. Assumes nothing.
use mathlib.Core.Path.{◌≡◌}
use Prim.Native.Nat.{ℕ}
use lib.Ieee.{binary64, mul}
use Rattle.normal.specs.Scratch.{gradient_in}
use Rattle.normal.specs.Products.{sum_of}
use Rattle.normal.proofs.products.gradient_norm.Given as goal

abbrev pub invariant-loop-k : goal.invariant-loop-k
invariant-loop-k l = l.sum ≡ sum_of (λ (n : ℕ). mul binary64 (gradient_in l.scratch n) (gradient_in l.scratch n)) l.k
