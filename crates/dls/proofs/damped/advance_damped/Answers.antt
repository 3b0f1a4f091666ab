-- `dls::damped::advance_damped` meets its contract: phase by phase. Assumes nothing.
use mathlib.Core.Path.{ap, ◌∙◌}
use mathlib.Core.List.{List}
use native.Mathlib.Omega.{arith}
use lib.Ieee.{Float}
use Rattle.runs.specs.DampedRow.{phase_of, advance_at, current_of, at_minus}
use Rattle.held.specs.RowFrom.{damped_from}
use Rattle.heldmerit.proofs.HeldOver.{residuals-held}
use Rattle.dls.proofs.Advances.{advance-at, advance-over}
use Rattle.dls.proofs.damped.advance_damped.Goals as goal

pub returns-in-0-clause-fact_1 : goal.returns-in-0-clause-fact_1
unfolding phase_of
returns-in-0-clause-fact_1 c = λ k lens w. advance-at _ _ c.in-0.is _ (c.advance_first.ensures k lens w _)

pub returns-in-1-clause-fact_1 : goal.returns-in-1-clause-fact_1
unfolding phase_of advance_at
returns-in-1-clause-fact_1 c = λ k lens w.
    let d = damped_from c.args.h c.args.run.now in
    advance-at _ _ c.in-1.is _ (c.at_minus.ensures
    ∙ ap (λ (l : List Float). at_minus (current_of d) d.jacobian d.column l) (residuals-held _ _ _ c.residuals_of.ensures k lens w))

pub returns-in-2-clause-fact_1 : goal.returns-in-2-clause-fact_1
unfolding phase_of
returns-in-2-clause-fact_1 c = λ k lens w. advance-at _ _ c.in-2.is _ (c.advance_minus.ensures.fact_1 k lens w)

pub returns-in-3-clause-fact_1 : goal.returns-in-3-clause-fact_1
unfolding phase_of
returns-in-3-clause-fact_1 c = λ k lens w. advance-at _ _ c.in-3.is _ (c.advance_candidate.ensures.fact_1 k lens w)

pub returns-in_default-clause-fact_1 : goal.returns-in_default-clause-fact_1
returns-in_default-clause-fact_1 c = λ k lens w. advance-over _ _ _ (omega arith)
