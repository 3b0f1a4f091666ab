-- The state after a turn of a job's run. Definitions only.
use Rattle.jobs.specs.declared.types.Job.{Job}
use Rattle.runs.specs.JobMerit.{evaluate_of}
use Rattle.runs.specs.Rows.{pending_by, advance_by}
use Rattle.runs.specs.State.{State}

-- one merit, that of the surfaces pending
abbrev pub turned_by : Job → State → State
turned_by job s = advance_by job.method job s (evaluate_of job (pending_by job.method job s))
