-- `normal::products::equations_part` meets its contract: what the two loops leave, and the norm of what stands there. Assumes nothing.
use mathlib.Core.Path.{ap, ◌∙◌}
use Rattle.normal.specs.Jacobian.{jacobian_at, residual_at}
use Rattle.normal.specs.Loops.{with_gradient}
use Rattle.normal.proofs.Filled.{equations}
use Rattle.std.proofs.Common.{rules}
use Rattle.normal.proofs.products.equations_part.Goals as goal

pub returns : goal.returns
returns c =
    let g = c in
    let q = g in
    let x = q.args in
    equations x.jacobian.m x.p.count (jacobian_at x.jacobian.flat.now) (residual_at x.residuals.now) x.scratch.now g.gradient.new.scratch _ (search rules)
    (search rules)
    (g.gradient.ensures ∙ ap (with_gradient x.jacobian.m (jacobian_at x.jacobian.flat.now) (residual_at x.residuals.now) x.p.count) q.product.ensures)
    c.gradient_norm.ensures
