-- `defaults::asked::job_from` meets its contract. Assumes nothing.
use mathlib.Core.Path.{ap, ◌∙◌}
use Rattle.jobs.specs.Kept.{kept_job}
use Rattle.defaults.proofs.asked.job_from.Goals as goal

pub returns : goal.returns
returns c = c.kept_job.ensures ∙ ap kept_job c.filled_job.ensures
