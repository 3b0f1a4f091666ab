-- "A job's run is the reference's whole run with these stand-ins, defined by nested loops from the job alone, without a row." Definitions only.
use Rattle.std.specs.Prelude.{ℕ}
use Rattle.jobs.specs.declared.types.DlsConfig.{DlsConfig}
use Rattle.jobs.specs.declared.types.Job.{Job}
use Rattle.jobs.specs.declared.types.SimulatedAnnealingConfig.{SimulatedAnnealingConfig}
use Rattle.jobs.specs.declared.types.Method.{Method}
use Rattle.jobs.specs.declared.types.Method.TheVariants.{Damped, MultiStart, Annealing}
use Rattle.runs.specs.declared.types.OptimizationResult.{OptimizationResult}
use Rattle.runs.specs.Run.{Surfaces, Run}
use Rattle.runs.specs.DampedRun.{Optimizer, damped}
use Rattle.runs.specs.MultiStartRun.{multi_start}
use Rattle.runs.specs.AnnealingRun.{Annealer, annealing}

-- What a run comes to.
abbrev pub Result : Type 0
Result = OptimizationResult

-- the surfaces that a job starts from, and how many operands it has
abbrev pub base_of : Job → Surfaces
base_of job = job.prescription.surfaces

abbrev pub operand_count_of : Job → ℕ
operand_count_of job = job.merit_function.operand_count

-- an optimizer for the job's variables and operands
abbrev pub optimizer_of : Job → DlsConfig → Optimizer
optimizer_of job config = record { config = config; variables = job.variables; operand_count = operand_count_of job }

abbrev pub annealer_of : Job → SimulatedAnnealingConfig → Annealer
annealer_of job config = record { config = config; variables = job.variables; operand_count = operand_count_of job }

unfoldable pub run_by : Method → Job → Run Result
run_by (Damped config) job = damped (optimizer_of job config) (base_of job)
run_by (MultiStart config) job = multi_start (optimizer_of job config.local_dls_config) (base_of job) config.num_trials config.seed
run_by (Annealing config) job = annealing (annealer_of job config) (base_of job)

unfoldable pub run : Job → Run Result
run job = run_by job.method job
