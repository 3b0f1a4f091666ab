-- A row: the job as admitted, its working turns and the run's state. No evaluation and no trace stands in this file. Definitions only.
use Rattle.std.specs.Prelude.{ℕ, suc, ◌+◌, ◌*◌, Bool}
use Rattle.variables.specs.Active.{num_active}
use Rattle.merit.specs.declared.types.MeritEvaluation.{MeritEvaluation}
use Rattle.jobs.specs.declared.types.Job.{Job}
use Rattle.jobs.specs.declared.types.Method.{Method}
use Rattle.jobs.specs.declared.types.Method.TheVariants.{Damped, MultiStart, Annealing}
use Rattle.jobs.specs.Records.{job_of, record_of, kind_of}
use Rattle.runs.specs.declared.types.Row.{Row}
use Rattle.runs.specs.Run.{Surfaces}
use Rattle.runs.specs.JobRun.{Result, base_of, optimizer_of, annealer_of}
use Rattle.runs.specs.State.{State, state_of, row_of, alone, with_damped}
use Rattle.runs.specs.DampedRow.{at_first}
use Rattle.runs.specs.DampedRow as Damped
use Rattle.runs.specs.MultiStartRow as MultiStart
use Rattle.runs.specs.AnnealingRow.{at_walk_first}
use Rattle.runs.specs.AnnealingRow as Annealing

-- the job that a row keeps
abbrev pub job_of_row : Row → Job
job_of_row r = job_of r.kind r.job

-- ---- "Admission does no evaluation": the state that a run begins in
unfoldable pub began : Method → Job → State
began (Damped config) job = alone (at_first (base_of job))
began (MultiStart config) job = MultiStart.began (base_of job) config.seed
began (Annealing config) job = at_walk_first (base_of job)

unfoldable pub admitted : Job → Row
admitted job = row_of (record_of job) (kind_of job) 0 (began job.method job)

-- ---- "one definition names the surfaces whose merit comes next"
unfoldable pub pending_by : Method → Job → State → Surfaces
pending_by (Damped config) job s = Damped.pending (optimizer_of job config) s.damped
pending_by (MultiStart config) job s = Damped.pending (optimizer_of job config.local_dls_config) s.damped
pending_by (Annealing config) job s = Annealing.pending (annealer_of job config) s

unfoldable pub pending_surfaces : Row → Surfaces
pending_surfaces r = pending_by (job_of_row r).method (job_of_row r) (state_of r)

-- ---- "another makes the new row out of the old one and that one merit with its values and residuals"
unfoldable pub advance_by : Method → Job → State → MeritEvaluation → State
advance_by (Damped config) job s e = with_damped s (Damped.advance (optimizer_of job config) s.damped e)
advance_by (MultiStart config) job s e = MultiStart.advance (optimizer_of job config.local_dls_config) (base_of job) config.num_trials s e
advance_by (Annealing config) job s e = Annealing.advance (annealer_of job config) s e

unfoldable pub advance : Row → MeritEvaluation → Row
advance r e = row_of r.job r.kind (suc r.turns) (advance_by (job_of_row r).method (job_of_row r) (state_of r) e)

-- ---- whether the run is at its end, and its result there
unfoldable pub finished_by : Method → State → Bool
finished_by (Damped config) s = Damped.is_finished s.damped
finished_by (MultiStart config) s = MultiStart.is_finished s
finished_by (Annealing config) s = Annealing.is_finished s

unfoldable pub is_finished : Row → Bool
is_finished r = finished_by (job_of_row r).method (state_of r)

unfoldable pub result_by : Method → Job → State → Result
result_by (Damped config) job s = Damped.result_of s.damped
result_by (MultiStart config) job s = s.best
result_by (Annealing config) job s = Annealing.result_of (annealer_of job config) s

unfoldable pub result_of : Row → Result
result_of r = result_by (job_of_row r).method (job_of_row r) (state_of r)

-- ---- "The job's bound, p counting enabled variables, is B = 1 + iterations limit × (2p + 10)"
abbrev pub damped_bound : (limit p : ℕ) → ℕ
damped_bound limit p = 1 + limit * (2 * p + 10)

-- "(1 + trials) × B for multi-start; for annealing 1 + cycles × steps + 1 + 25 × (2p + 10)"
unfoldable pub bound_by : Method → (p : ℕ) → ℕ
bound_by (Damped config) p = damped_bound config.max_iterations p
bound_by (MultiStart config) p = (1 + config.num_trials) * damped_bound config.local_dls_config.max_iterations p
bound_by (Annealing config) p = 1 + config.max_cooling_cycles * config.steps_per_temperature + 1 + 25 * (2 * p + 10)

unfoldable pub bound : Job → ℕ
bound job = bound_by job.method (num_active job.variables)
