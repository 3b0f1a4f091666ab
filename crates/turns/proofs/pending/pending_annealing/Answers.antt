-- `turns::pending::pending_annealing` meets its contract: by phase. Assumes nothing.
use Prim.Native.Nat.{ℕ}
use mathlib.Core.Path.{sym, ap, ◌∙◌}
use native.Mathlib.Omega.{arith}
use Rattle.runs.specs.AnnealingRow as Annealing
use Rattle.runs.specs.DampedRow as Damped
use Rattle.dls.specs.DampedSteps.{optimizer}
use Rattle.dls.specs.RunWith.{run_with}
use Rattle.kinds.proofs.Over.{polish-phase}
use Rattle.runs.specs.AnnealingRun.{trial_presc}
use Rattle.variables.specs.Values.{applied}
use Rattle.variables.specs.declared.types.VariableSet.{VariableSet}
use Rattle.held.specs.JobFrom.{standing}
use Rattle.held.specs.RowFrom.{damped_from, state_from}
use Rattle.turns.proofs.pending.pending_annealing.Goals as goal

pub returns-in-6-clause-fact_1 : goal.returns-in-6-clause-fact_1
unfolding Annealing.pending Annealing.pending_at Annealing.phase_of trial_presc
returns-in-6-clause-fact_1 c = λ a ev run best.
    let x = c.args in
    let r = run_with x.surfaces.now x.params.now x.candidate.now run in
    c.lay_applied.ensures.fact_1
    ∙ ap (λ (q : VariableSet). applied q x.candidate.now (standing x.surfaces.now)) (sym ev)
    ∙ ap (λ (k : ℕ). Annealing.pending_at a (Annealing.phase_of k) (state_from x.h r best)) (sym c.in-6.is)

pub returns-in_default-clause-fact_1 : goal.returns-in_default-clause-fact_1
unfolding Annealing.pending Annealing.pending_at
returns-in_default-clause-fact_1 c = λ a ev run best.
    let x = c.args in
    let r = run_with x.surfaces.now x.params.now x.candidate.now run in
    c.pending_damped.ensures.fact_1 a.operand_count run
    ∙ (λ i. Damped.pending (optimizer (c.polish_settings-config.ensures i) (sym ev i) a.operand_count) (damped_from x.h.damped r))
    ∙ ap (λ (f : Annealing.Phase). Annealing.pending_at a f (state_from x.h r best))
    (sym (polish-phase x.h.damped.phase (λ e. omega arith) (λ e. omega arith)))
