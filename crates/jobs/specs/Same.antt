-- When two requests ask for the same job: "Jobs are the same when all their used entries are equal bit for bit", settings after defaults. The law that they
-- then, and only then, make one job. Assumes nothing.
use Rattle.std.specs.Prelude.{◌≡◌, ℕ, ◌<◌, unwrap_or}
use Rattle.optics.specs.Types.{surface_at, slot_index}
use Rattle.optics.specs.declared.types.OpticalPrescription.{OpticalPrescription}
use Rattle.variables.specs.Active.{variable_at}
use Rattle.variables.specs.declared.types.VariableSet.{VariableSet}
use Rattle.merit.specs.OperandTable.{operand_at}
use Rattle.merit.specs.declared.types.MeritFunction.{MeritFunction}
use Rattle.jobs.specs.declared.types.DlsConfig.{DlsConfig}
use Rattle.jobs.specs.declared.types.DlsRequest.{DlsRequest}
use Rattle.jobs.specs.declared.types.JobRequest.{JobRequest}
use Rattle.jobs.specs.declared.types.MethodRequest.{MethodRequest}
use Rattle.jobs.specs.declared.types.MethodRequest.TheVariants.{Damped, MultiStart, Annealing}
use Rattle.jobs.specs.declared.types.MultiStartConfig.{MultiStartConfig}
use Rattle.jobs.specs.declared.types.MultiStartRequest.{MultiStartRequest}
use Rattle.jobs.specs.declared.types.SimulatedAnnealingConfig.{SimulatedAnnealingConfig}
use Rattle.jobs.specs.declared.types.SimulatedAnnealingRequest.{SimulatedAnnealingRequest}
use Rattle.jobs.specs.Defaults.{damped_defaults, multi_start_defaults, annealing_defaults}

pub record SamePrescription (a b : OpticalPrescription) : Type 0 where
  pub surface_count : a.surface_count ≡ b.surface_count
  pub slot_count : a.slot_count ≡ b.slot_count
  pub pupil : a.entrance_pupil_diameter_mm ≡ b.entrance_pupil_diameter_mm
  pub surface : (i : ℕ) → i < a.surface_count → surface_at a.surfaces i ≡ surface_at b.surfaces i
  pub index : (i w : ℕ) → i < a.surface_count → w < a.slot_count → slot_index a.indices w i ≡ slot_index b.indices w i

pub record SameVariables (a b : VariableSet) : Type 0 where
  pub count : a.variable_count ≡ b.variable_count
  pub variable : (i : ℕ) → i < a.variable_count → variable_at a i ≡ variable_at b i

pub record SameOperands (a b : MeritFunction) : Type 0 where
  pub count : a.operand_count ≡ b.operand_count
  pub operand : (i : ℕ) → i < a.operand_count → operand_at a i ≡ operand_at b i

-- each setting after its default d
pub record SameDls (d : DlsConfig) (a b : DlsRequest) : Type 0 where
  pub iterations : unwrap_or a.max_iterations d.max_iterations ≡ unwrap_or b.max_iterations d.max_iterations
  pub damping : unwrap_or a.initial_damping d.initial_damping ≡ unwrap_or b.initial_damping d.initial_damping
  pub merit_tolerance : unwrap_or a.relative_merit_tolerance d.relative_merit_tolerance
      ≡ unwrap_or b.relative_merit_tolerance d.relative_merit_tolerance
  pub gradient_tolerance : unwrap_or a.gradient_tolerance d.gradient_tolerance ≡ unwrap_or b.gradient_tolerance d.gradient_tolerance
  pub relative_step :
      unwrap_or a.finite_difference_relative_step d.finite_difference_relative_step
      ≡ unwrap_or b.finite_difference_relative_step d.finite_difference_relative_step

pub record SameMultiStart (d : MultiStartConfig) (a b : MultiStartRequest) : Type 0 where
  pub runs : SameDls d.local_dls_config a.local_dls_config b.local_dls_config
  pub trials : unwrap_or a.num_trials d.num_trials ≡ unwrap_or b.num_trials d.num_trials
  pub seed : unwrap_or a.seed d.seed ≡ unwrap_or b.seed d.seed

pub record SameAnnealing (d : SimulatedAnnealingConfig) (a b : SimulatedAnnealingRequest) : Type 0 where
  pub temperature : unwrap_or a.initial_temperature d.initial_temperature ≡ unwrap_or b.initial_temperature d.initial_temperature
  pub cooling : unwrap_or a.cooling_rate d.cooling_rate ≡ unwrap_or b.cooling_rate d.cooling_rate
  pub steps : unwrap_or a.steps_per_temperature d.steps_per_temperature ≡ unwrap_or b.steps_per_temperature d.steps_per_temperature
  pub cycles : unwrap_or a.max_cooling_cycles d.max_cooling_cycles ≡ unwrap_or b.max_cooling_cycles d.max_cooling_cycles
  pub seed : unwrap_or a.seed d.seed ≡ unwrap_or b.seed d.seed

-- of one kind, with that kind's settings
abbrev pub SameMethod : MethodRequest → MethodRequest → Type 0
SameMethod (Damped a) (Damped b) = SameDls damped_defaults a b
SameMethod (MultiStart a) (MultiStart b) = SameMultiStart multi_start_defaults a b
SameMethod (Annealing a) (Annealing b) = SameAnnealing annealing_defaults a b
SameMethod (Damped a) (MultiStart b) = ⊥
SameMethod (Damped a) (Annealing b) = ⊥
SameMethod (MultiStart a) (Damped b) = ⊥
SameMethod (MultiStart a) (Annealing b) = ⊥
SameMethod (Annealing a) (Damped b) = ⊥
SameMethod (Annealing a) (MultiStart b) = ⊥

pub record SameJob (a b : JobRequest) : Type 0 where
  pub prescription : SamePrescription a.prescription b.prescription
  pub variables : SameVariables a.variables b.variables
  pub operands : SameOperands a.merit_function b.merit_function
  pub method : SameMethod a.method b.method
