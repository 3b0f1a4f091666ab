-- `intervalcalls::surfaces::passed` meets its contract. Assumes nothing.
use mathlib.Core.Bool.{◌&&◌}
use Rattle.intervalcalls.proofs.Passing.{passed_is}
use Rattle.intervalcalls.proofs.surfaces.passed.Goals as goal

pub returns : goal.returns
returns c =
    let x = c.args in
    passed_is x.thickness x.radius x.index x.ray _ _ _ _ _ _ _ _ _ _ _
    c.curvature_of.ensures
    c.exact-n.ensures
    c.exact-p.ensures
    c.product-carried.ensures
    c.product-bent.ensures
    c.difference-left.ensures
    c.quotient-slope.ensures
    c.product-transfer.ensures
    c.sum-height.ensures
    (λ i. (c.ends_finite.ensures i && c.ends_finite-2.ensures i) && (c.ends_finite-3.ensures i && c.ends_finite-4.ensures i))
    (λ i. c.ends_finite-5.ensures i && c.ends_finite-6.ensures i)
