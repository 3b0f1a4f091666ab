-- `defaults::asked::refusal_of` meets its contract. Assumes nothing.
use mathlib.Core.Path.{ap, ◌∙◌}
use Rattle.lists.specs.Refusals.{first_refusal}
use Rattle.jobs.specs.declared.types.Job.{Job}
use Rattle.jobs.specs.Checks.{job_refusals}
use Rattle.defaults.proofs.asked.refusal_of.Goals as goal

pub returns : goal.returns
returns c = c.job_refusal.ensures ∙ ap (λ (j : Job). first_refusal (job_refusals j)) c.filled_job.ensures
