-- `normal::products::normal_equations` meets its contract: it writes the front of scratch. Assumes nothing.
use Rattle.normal.specs.Jacobian.{jacobian_at, residual_at}
use Rattle.normal.proofs.Whole.{equations-whole}
use Rattle.normal.proofs.products.normal_equations.Goals as goal

pub returns-in-Some : goal.returns-in-Some
returns-in-Some c =
    let x = c.args in
    let e = c.equations_part.ensures in
    equations-whole x.scratch.now c.in-Some.part.now c.equations_part.new.scratch c.requires.fact_1 c.in-Some.ensures.cases.same e.long x.p
    c.requires.fact_3 x.m (jacobian_at x.jacobian.now) (residual_at x.residuals.now) c.equations_part.result e
