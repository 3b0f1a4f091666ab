-- A job as it is asked for, with the settings that it leaves out filled in. Definitions only.
use Rattle.std.specs.Prelude.{unwrap_or}
use Rattle.jobs.specs.declared.types.DlsConfig.{DlsConfig}
use Rattle.jobs.specs.declared.types.DlsRequest.{DlsRequest}
use Rattle.jobs.specs.declared.types.Job.{Job}
use Rattle.jobs.specs.declared.types.JobRequest.{JobRequest}
use Rattle.jobs.specs.declared.types.Method.{Method}
use Rattle.jobs.specs.declared.types.Method.TheVariants.{Damped, MultiStart, Annealing}
use Rattle.jobs.specs.declared.types.MethodRequest.{MethodRequest}
use Rattle.jobs.specs.declared.types.MethodRequest.TheVariants.{Damped as AskDamped, MultiStart as AskMultiStart, Annealing as AskAnnealing}
use Rattle.jobs.specs.declared.types.MultiStartConfig.{MultiStartConfig}
use Rattle.jobs.specs.declared.types.MultiStartRequest.{MultiStartRequest}
use Rattle.jobs.specs.declared.types.SimulatedAnnealingConfig.{SimulatedAnnealingConfig}
use Rattle.jobs.specs.declared.types.SimulatedAnnealingRequest.{SimulatedAnnealingRequest}
use Rattle.jobs.specs.Defaults.{damped_defaults, multi_start_defaults, annealing_defaults}

-- each setting, or the default where it is left out
abbrev pub dls_of : (defaults : DlsConfig) → DlsRequest → DlsConfig
dls_of d r = record {
  max_iterations = unwrap_or r.max_iterations d.max_iterations;
  initial_damping = unwrap_or r.initial_damping d.initial_damping;
  relative_merit_tolerance = unwrap_or r.relative_merit_tolerance d.relative_merit_tolerance;
  gradient_tolerance = unwrap_or r.gradient_tolerance d.gradient_tolerance;
  finite_difference_relative_step = unwrap_or r.finite_difference_relative_step d.finite_difference_relative_step;
}

abbrev pub multi_start_of : (defaults : MultiStartConfig) → MultiStartRequest → MultiStartConfig
multi_start_of d r = record {
  local_dls_config = dls_of d.local_dls_config r.local_dls_config;
  num_trials = unwrap_or r.num_trials d.num_trials;
  seed = unwrap_or r.seed d.seed;
}

abbrev pub annealing_of : (defaults : SimulatedAnnealingConfig) → SimulatedAnnealingRequest → SimulatedAnnealingConfig
annealing_of d r = record {
  initial_temperature = unwrap_or r.initial_temperature d.initial_temperature;
  cooling_rate = unwrap_or r.cooling_rate d.cooling_rate;
  steps_per_temperature = unwrap_or r.steps_per_temperature d.steps_per_temperature;
  max_cooling_cycles = unwrap_or r.max_cooling_cycles d.max_cooling_cycles;
  seed = unwrap_or r.seed d.seed;
}

-- "A job is of one kind and gives that kind's settings alone"
abbrev pub method_of : MethodRequest → Method
method_of (AskDamped r) = Damped (dls_of damped_defaults r)
method_of (AskMultiStart r) = MultiStart (multi_start_of multi_start_defaults r)
method_of (AskAnnealing r) = Annealing (annealing_of annealing_defaults r)

-- the job with its settings filled in, unused entries as they came
abbrev pub filled : JobRequest → Job
filled r = record { prescription = r.prescription; variables = r.variables; merit_function = r.merit_function; method = method_of r.method }
