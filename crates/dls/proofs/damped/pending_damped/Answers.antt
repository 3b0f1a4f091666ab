-- `dls::damped::pending_damped` meets its contract: phase by phase. Assumes nothing.
use mathlib.Core.Path.{refl, ◌∙◌}
use native.Mathlib.Omega.{arith}
use Rattle.runs.specs.DampedRun.{test_presc}
use Rattle.runs.specs.DampedRow.{phase_of, pending_at}
use Rattle.held.specs.RowFrom.{damped_from}
use Rattle.dls.specs.RunWith.{run_with}
use Rattle.dls.proofs.Differences.{plus-surfaces, minus-surfaces}
use Rattle.dls.proofs.Advances.{pending-at, pending-same}
use Rattle.dls.proofs.damped.pending_damped.Goals as goal

pub returns-in-1-clause-fact_1 : goal.returns-in-1-clause-fact_1
unfolding phase_of pending_at
returns-in-1-clause-fact_1 c = λ m run.
    let x = c.args in
    let p = c.lay_moved.ensures.fact_1 in
    let d = damped_from x.h (run_with x.surfaces.now x.params.now x.candidate.now run) in
    pending-at _ _ c.in-1.is (plus-surfaces x.config _ m d refl p.1.1 p.2)

pub returns-in-2-clause-fact_1 : goal.returns-in-2-clause-fact_1
unfolding phase_of pending_at
returns-in-2-clause-fact_1 c = λ m run.
    let x = c.args in
    let p = c.lay_moved-in-2.ensures.fact_1 in
    let d = damped_from x.h (run_with x.surfaces.now x.params.now x.candidate.now run) in
    pending-at _ _ c.in-2.is (minus-surfaces x.config _ m d refl p.1.1 p.2)

pub returns-in-3-clause-fact_1 : goal.returns-in-3-clause-fact_1
unfolding phase_of pending_at test_presc
returns-in-3-clause-fact_1 c = λ m run. pending-at _ _ c.in-3.is c.lay_applied.ensures.fact_1

pub returns-in_default-clause-fact_1 : goal.returns-in_default-clause-fact_1
returns-in_default-clause-fact_1 c = λ m run. c.copy.ensures.fact_1 ∙ pending-same _ _ (λ e. omega arith) (λ e. omega arith) (λ e. omega arith)
