-- What a row stands for: what its run still has to do. No evaluation and no trace stands in this file. Definitions only.
use Rattle.jobs.specs.declared.types.Job.{Job}
use Rattle.jobs.specs.declared.types.Method.{Method}
use Rattle.jobs.specs.declared.types.Method.TheVariants.{Damped, MultiStart, Annealing}
use Rattle.runs.specs.declared.types.Row.{Row}
use Rattle.runs.specs.Run.{Run}
use Rattle.runs.specs.JobRun.{Result, base_of, optimizer_of, annealer_of}
use Rattle.runs.specs.State.{State, state_of}
use Rattle.runs.specs.DampedResumption as Damped
use Rattle.runs.specs.MultiStartRow as MultiStart
use Rattle.runs.specs.AnnealingRow as Annealing
use Rattle.runs.specs.Rows.{job_of_row}

unfoldable pub resumption_by : Method → Job → State → Run Result
resumption_by (Damped config) job s = Damped.resumption (optimizer_of job config) s.damped
resumption_by (MultiStart config) job s = MultiStart.resumption (optimizer_of job config.local_dls_config) (base_of job) config.num_trials s
resumption_by (Annealing config) job s = Annealing.resumption (annealer_of job config) s

unfoldable pub resumption : Row → Run Result
resumption r = resumption_by (job_of_row r).method (job_of_row r) (state_of r)
