-- A job as it is asked for, in numbers alone. "A job is of one kind and gives that kind's settings alone; a setting left out is kept as the default of the
-- Rust's config". Definitions only.
use Rattle.std.specs.Prelude.{ℕ, ◌%◌, ◌/◌, Bool, not, cond, ◌&&◌, eqb, ltb, Option}
use Rattle.std.specs.Bool.{then_some}
use Rattle.jobs.specs.declared.types.DlsRequest.{DlsRequest}
use Rattle.jobs.specs.declared.types.JobRequest.{JobRequest}
use Rattle.jobs.specs.declared.types.MethodRequest.{MethodRequest}
use Rattle.jobs.specs.declared.types.MethodRequest.TheVariants.{Damped, MultiStart, Annealing}
use Rattle.jobs.specs.declared.types.MultiStartRequest.{MultiStartRequest}
use Rattle.jobs.specs.declared.types.SettingsRecord.{SettingsRecord}
use Rattle.jobs.specs.declared.types.SimulatedAnnealingRequest.{SimulatedAnnealingRequest}
use Rattle.jobs.specs.Records.{job_of, known_kinds}
use Rattle.runs.specs.Damage.{is_kind}
use Rattle.records.specs.declared.types.RequestRecord.{RequestRecord}

-- setting i of the record is given when bit i is set, counted in the order of `SettingsRecord`; here by the bit's weight
abbrev pub is_given : (given weight : ℕ) → Bool
is_given given weight = eqb (given / weight % 2) 1

abbrev pub dls_request : SettingsRecord → (given : ℕ) → DlsRequest
dls_request s given = record {
  max_iterations = then_some (is_given given 1) s.max_iterations;
  initial_damping = then_some (is_given given 2) s.initial_damping;
  relative_merit_tolerance = then_some (is_given given 4) s.relative_merit_tolerance;
  gradient_tolerance = then_some (is_given given 8) s.gradient_tolerance;
  finite_difference_relative_step = then_some (is_given given 16) s.finite_difference_relative_step;
}

-- the seed, which both kinds with draws have
abbrev pub given_seed : SettingsRecord → (given : ℕ) → Option ℕ
given_seed s given = then_some (is_given given 1024) s.seed

abbrev pub multi_start_request : SettingsRecord → (given : ℕ) → MultiStartRequest
multi_start_request s given = record {
  local_dls_config = dls_request s given;
  num_trials = then_some (is_given given 32) s.num_trials;
  seed = given_seed s given;
}

abbrev pub annealing_request : SettingsRecord → (given : ℕ) → SimulatedAnnealingRequest
annealing_request s given = record {
  initial_temperature = then_some (is_given given 64) s.initial_temperature;
  cooling_rate = then_some (is_given given 128) s.cooling_rate;
  steps_per_temperature = then_some (is_given given 256) s.steps_per_temperature;
  max_cooling_cycles = then_some (is_given given 512) s.max_cooling_cycles;
  seed = given_seed s given;
}

unfoldable pub method_request : (kind : ℕ) → SettingsRecord → (given : ℕ) → MethodRequest
method_request kind s given =
    cond (eqb kind 1) (Damped (dls_request s given)) (cond (eqb kind 2) (MultiStart (multi_start_request s given)) (Annealing (annealing_request s given)))

unfoldable pub request_of : RequestRecord → JobRequest
request_of q =
    let job = job_of q.kind q.job in
    record {
      prescription = job.prescription;
      variables = job.variables;
      merit_function = job.merit_function;
      method = method_request q.kind q.job.settings q.given;
    }

-- a bit for each of the eleven settings, all set
abbrev pub all_given : ℕ
all_given = 2047

-- each number for a kind is one, of the job and of each variable and operand, and no bit is set that names no setting
unfoldable pub is_request : RequestRecord → Bool
is_request q =
    is_kind q.kind
    && not (ltb all_given q.given)
    && not (ltb 8 q.job.variable_count)
    && not (ltb 12 q.job.operand_count)
    && known_kinds q.job
