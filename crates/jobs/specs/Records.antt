-- A job in numbers, as a row holds it, and read back. Definitions only.
use Rattle.std.specs.Prelude.{ℕ, Bool, cond, ◌&&◌, List, eqb, get_or}
use Rattle.floats.specs.Constants.{zero64}
use Rattle.lists.specs.Tab.{tab}
use Rattle.lists.specs.All.{all_below}
use Rattle.variables.specs.declared.types.VariableDef.{VariableDef}
use Rattle.variables.specs.declared.types.VariableSet.{VariableSet}
use Rattle.variables.specs.Active.{variable_at}
use Rattle.merit.specs.declared.types.MeritFunction.{MeritFunction}
use Rattle.merit.specs.declared.types.MeritOperand.{MeritOperand}
use Rattle.merit.specs.OperandTable.{operand_at}
use Rattle.jobs.specs.Entries.{variable_record, variable_of, operand_record, operand_of, no_variable_record, no_operand_record, variable_known, operand_known}
use Rattle.jobs.specs.declared.types.DlsConfig.{DlsConfig}
use Rattle.jobs.specs.declared.types.Job.{Job}
use Rattle.jobs.specs.declared.types.JobRecord.{JobRecord}
use Rattle.jobs.specs.declared.types.Method.{Method}
use Rattle.jobs.specs.declared.types.Method.TheVariants.{Damped, MultiStart, Annealing}
use Rattle.jobs.specs.declared.types.MultiStartConfig.{MultiStartConfig}
use Rattle.jobs.specs.declared.types.SimulatedAnnealingConfig.{SimulatedAnnealingConfig}
use Rattle.jobs.specs.declared.types.OperandRecord.{OperandRecord}
use Rattle.jobs.specs.declared.types.SettingsRecord.{SettingsRecord}
use Rattle.jobs.specs.declared.types.VariableRecord.{VariableRecord}

-- ---- settings: "A row's kind is 0 empty, 1 damped, 2 multi-start, 3 annealing"
abbrev pub method_kind : Method → ℕ
method_kind (Damped c) = 1
method_kind (MultiStart c) = 2
method_kind (Annealing c) = 3

-- a damped run's settings, with the trials and seed of a multi-start beside them
abbrev pub dls_settings : DlsConfig → (trials seed : ℕ) → SettingsRecord
dls_settings c trials seed = record {
  max_iterations = c.max_iterations;
  initial_damping = c.initial_damping;
  relative_merit_tolerance = c.relative_merit_tolerance;
  gradient_tolerance = c.gradient_tolerance;
  finite_difference_relative_step = c.finite_difference_relative_step;
  num_trials = trials;
  initial_temperature = zero64;
  cooling_rate = zero64;
  steps_per_temperature = 0;
  max_cooling_cycles = 0;
  seed = seed;
}

abbrev pub annealing_settings : SimulatedAnnealingConfig → SettingsRecord
annealing_settings c = record {
  max_iterations = 0;
  initial_damping = zero64;
  relative_merit_tolerance = zero64;
  gradient_tolerance = zero64;
  finite_difference_relative_step = zero64;
  num_trials = 0;
  initial_temperature = c.initial_temperature;
  cooling_rate = c.cooling_rate;
  steps_per_temperature = c.steps_per_temperature;
  max_cooling_cycles = c.max_cooling_cycles;
  seed = c.seed;
}

abbrev pub settings_record : Method → SettingsRecord
settings_record (Damped c) = dls_settings c 0 0
settings_record (MultiStart c) = dls_settings c.local_dls_config c.num_trials c.seed
settings_record (Annealing c) = annealing_settings c

abbrev pub dls_config : SettingsRecord → DlsConfig
dls_config s = record {
  max_iterations = s.max_iterations;
  initial_damping = s.initial_damping;
  relative_merit_tolerance = s.relative_merit_tolerance;
  gradient_tolerance = s.gradient_tolerance;
  finite_difference_relative_step = s.finite_difference_relative_step;
}

abbrev pub multi_start_config : SettingsRecord → MultiStartConfig
multi_start_config s = record { local_dls_config = dls_config s; num_trials = s.num_trials; seed = s.seed }

abbrev pub annealing_config : SettingsRecord → SimulatedAnnealingConfig
annealing_config s = record {
  initial_temperature = s.initial_temperature;
  cooling_rate = s.cooling_rate;
  steps_per_temperature = s.steps_per_temperature;
  max_cooling_cycles = s.max_cooling_cycles;
  seed = s.seed;
}

unfoldable pub method : (kind : ℕ) → SettingsRecord → Method
method kind s = cond (eqb kind 1) (Damped (dls_config s)) (cond (eqb kind 2) (MultiStart (multi_start_config s)) (Annealing (annealing_config s)))

-- ---- lists of variables and operands
abbrev pub variable_records : VariableSet → List VariableRecord
variable_records v = tab (λ (i : ℕ). variable_record (variable_at v i)) 8

abbrev pub operand_records : MeritFunction → List OperandRecord
operand_records f = tab (λ (i : ℕ). operand_record (operand_at f i)) 12

abbrev pub variables_of : List VariableRecord → List VariableDef
variables_of l = tab (λ (i : ℕ). variable_of (get_or l i no_variable_record)) 8

abbrev pub operands_of : List OperandRecord → List MeritOperand
operands_of l = tab (λ (i : ℕ). operand_of (get_or l i no_operand_record)) 12

-- ---- the whole job
abbrev pub kind_of : Job → ℕ
kind_of j = method_kind j.method

abbrev pub record_of : Job → JobRecord
record_of j = record {
  surfaces = j.prescription.surfaces;
  indices = j.prescription.indices;
  variables = variable_records j.variables;
  operands = operand_records j.merit_function;
  surface_count = j.prescription.surface_count;
  slot_count = j.prescription.slot_count;
  variable_count = j.variables.variable_count;
  operand_count = j.merit_function.operand_count;
  entrance_pupil_diameter_mm = j.prescription.entrance_pupil_diameter_mm;
  settings = settings_record j.method;
}

abbrev pub variable_record_at : JobRecord → ℕ → VariableRecord
variable_record_at r i = get_or r.variables i no_variable_record

abbrev pub operand_record_at : JobRecord → ℕ → OperandRecord
operand_record_at r i = get_or r.operands i no_operand_record

abbrev pub job_of : (kind : ℕ) → JobRecord → Job
job_of kind r = record {
  prescription = record {
    surfaces = r.surfaces;
    indices = r.indices;
    surface_count = r.surface_count;
    slot_count = r.slot_count;
    entrance_pupil_diameter_mm = r.entrance_pupil_diameter_mm;
  };
  variables = record { variables = variables_of r.variables; variable_count = r.variable_count };
  merit_function = record { operands = operands_of r.operands; operand_count = r.operand_count };
  method = method kind r.settings;
}

-- every kind in use is a known one
abbrev pub known_variables : JobRecord → Bool
known_variables r = all_below (λ (i : ℕ). variable_known (variable_record_at r i)) r.variable_count

abbrev pub known_operands : JobRecord → Bool
known_operands r = all_below (λ (i : ℕ). operand_known (operand_record_at r i)) r.operand_count

abbrev pub known_kinds : JobRecord → Bool
known_kinds r = known_variables r && known_operands r
