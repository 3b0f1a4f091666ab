-- `dls::damped::advance_minus` meets its contract: by whether there is another column. Assumes nothing.
use mathlib.Core.Path.{◌≡◌, ap, ◌∙◌}
use mathlib.Core.List.{List}
use native.Mathlib.Omega.{arith}
use lib.Ieee.{Float}
use Rattle.runs.specs.declared.types.DampedState.{DampedState}
use Rattle.runs.specs.DampedRun.{Optimizer, with_differences}
use Rattle.runs.specs.DampedRow.{current_of}
use Rattle.dls.specs.DampedSteps.{with_jacobian}
use Rattle.heldmerit.proofs.HeldOver.{residuals-held}
use Rattle.dls.proofs.Advances.{column-on, column-over}
use Rattle.dls.proofs.damped.advance_minus.Goals as goal

-- the column out of the evaluation's residuals
below : (o : Optimizer) (d : DampedState) {next : DampedState} {l l' : List Float} →
    next ≡ with_jacobian d (with_differences o (current_of d) d.column d.jacobian d.plus_residuals l) → l ≡ l' → next
    ≡ with_jacobian d (with_differences o (current_of d) d.column d.jacobian d.plus_residuals l')
below o d e f = e ∙ ap (λ (l : List Float). with_jacobian d (with_differences o (current_of d) d.column d.jacobian d.plus_residuals l)) f

pub returns-then-column-p-clause-fact_1 : goal.returns-then-column-p-clause-fact_1
returns-then-column-p-clause-fact_1 c = λ k lens w.
    let n = c.num_active-p.ensures in
    column-on _ _ _ (below _ _ c.with_differences.ensures (residuals-held _ _ _ c.residuals_of-below.ensures k lens w)) (omega arith) c.at_plus.ensures

pub returns-clause-fact_1 : goal.returns-clause-fact_1
returns-clause-fact_1 c = λ k lens w.
    let n = c.num_active-p.ensures in
    column-over _ _ _ (below _ _ c.with_differences.ensures (residuals-held _ _ _ c.residuals_of-below.ensures k lens w)) (omega arith)
    c.resume_stationary.ensures.fact_1
