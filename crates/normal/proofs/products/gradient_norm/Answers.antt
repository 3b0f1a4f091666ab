-- `normal::products::gradient_norm` meets its contract: the sum so far is that of the squares passed, and `sqrt` gives its root. Assumes nothing.
use mathlib.Core.Path.{◌≡◌, refl, ap, ◌∙◌}
use native.Mathlib.Omega.{arith}
use Rattle.normal.specs.Products.{sum_of, norm_of}
use Rattle.floats.specs.Sqrt.{sqrt_of}
use Rattle.normal.proofs.Sums.{sum_step}
use Rattle.std.proofs.Common.{rules}
use Rattle.normal.proofs.products.gradient_norm.Goals as goal

pub loop-k-init : goal.loop-k-init
unfolding sum_of
loop-k-init c = search rules

pub loop-k-preserved : goal.loop-k-preserved
loop-k-preserved c = sum_step _ _ _ _ c.loop-k.invariant refl

pub returns : goal.returns
unfolding norm_of
returns c =
    let e : c.loop-k.k ≡ c.args.p.count = omega arith in
    c.sqrt.ensures ∙ ap sqrt_of (rw e at c.loop-k.invariant)
