-- `normal::products::gradient` meets its contract: the loop writes the gradient from its first entry on. Assumes nothing.
use mathlib.Core.Path.{◌≡◌}
use Rattle.normal.specs.Jacobian.{jacobian_at, residual_at}
use Rattle.normal.specs.Loops.{with_gradient}
use Rattle.normal.proofs.products.gradient.Given as goal

abbrev pub invariant-loop-i : goal.invariant-loop-i
invariant-loop-i l = l.scratch ≡ with_gradient l.jacobian.m (jacobian_at l.jacobian.flat.now) (residual_at l.residuals) l.i l.initial.scratch
