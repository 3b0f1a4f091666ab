-- `dls::damped::advance_first` meets its contract: the parameters are those that are read. Assumes nothing.
use mathlib.Core.Path.{◌≡◌, ap, ◌∙◌}
use lib.Dec.{ltb}
use Rattle.merit.specs.declared.types.MeritEvaluation.{MeritEvaluation}
use Rattle.dls.specs.DampedSteps.{iteration_entered}
use Rattle.runs.specs.JobMerit.{evaluate_of}
use Rattle.held.specs.JobFrom.{held_job, standing}
use Rattle.heldmerit.proofs.HeldOver.{merit-held, residuals-held}
use Rattle.dls.proofs.Advances.{first_on}
use Rattle.dls.proofs.damped.advance_first.Goals as goal

pub returns : goal.returns
returns c = λ k lens w m.
    let x = c.args in
    let r = c.residuals_of-run in
    let e : record { values = x.found.now; residuals = r.result; total_merit = c.merit_of-merit.result }
    ≡ (evaluate_of (held_job x.job.held.counts.now x.job.held.numbers.now k) lens) = λ i.
    record {
      values = w i;
      residuals = residuals-held _ _ _ r.ensures k lens w i;
      total_merit = merit-held _ _ _ c.merit_of-merit.ensures k lens w i;
    } in
    first_on _ _ _ c.requires c.extract_values-run.ensures
    (c.resume_iterations.ensures
    ∙ ap (λ (q : MeritEvaluation). iteration_entered (ltb 0 x.config.max_iterations)
    (record {
      surfaces = standing x.run.now.surfaces;
      params = c.extract_values-run.result;
      evaluation = q;
      initial_merit = q.total_merit;
      damping = x.config.initial_damping;
      iteration = 0;
    })) e)
