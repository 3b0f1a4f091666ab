-- The job of a held row, read off `counts` and `numbers`. Definitions only.
use Rattle.std.specs.Prelude.{ℕ, List, Float, get_or}
use Rattle.std.specs.Float.{nan}
use Rattle.lists.specs.Tab.{tab}
use Rattle.optics.specs.Types.{flat_surface}
use Rattle.optics.specs.declared.types.OpticalPrescription.{OpticalPrescription}
use Rattle.optics.specs.declared.types.OpticalSurface.{OpticalSurface}
use Rattle.variables.specs.declared.types.VariableSet.{VariableSet}
use Rattle.merit.specs.declared.types.MeritFunction.{MeritFunction}
use Rattle.jobs.specs.declared.types.Job.{Job}
use Rattle.jobs.specs.declared.types.JobRecord.{JobRecord}
use Rattle.jobs.specs.declared.types.OperandRecord.{OperandRecord}
use Rattle.jobs.specs.declared.types.SettingsRecord.{SettingsRecord}
use Rattle.jobs.specs.declared.types.VariableRecord.{VariableRecord}
use Rattle.jobs.specs.Records.{job_of}
use Rattle.held.specs.Places.{surface_count_at, slot_count_at, variable_count_at, operand_count_at, max_iterations_at, num_trials_at, steps_per_temperature_at}
use Rattle.held.specs.Places.{max_cooling_cycles_at, seed_at}
use Rattle.held.specs.Places.{variable_kind_at, variable_surface_at, enabled_at, follows_at, follower_at, min_value_at, max_value_at, step_size_at}
use Rattle.held.specs.Places.{operand_kind_at, slot_or_surface_at, limit_at, target_at, weight_at}
use Rattle.held.specs.Places.{index_at, pupil_at, initial_damping_at, relative_merit_tolerance_at, gradient_tolerance_at, relative_step_at}
use Rattle.held.specs.Places.{initial_temperature_at}
use Rattle.held.specs.Places.{cooling_rate_at}

-- the sixteen surfaces that stand in flat numbers
unfoldable pub standing : List Float → List OpticalSurface
standing flat = tab (flat_surface flat) 16

module _ (counts : List ℕ) where
  abbrev pub surface_count_from : ℕ
  surface_count_from = get_or counts surface_count_at 0

  abbrev pub slot_count_from : ℕ
  slot_count_from = get_or counts slot_count_at 0

  abbrev pub variable_count_from : ℕ
  variable_count_from = get_or counts variable_count_at 0

  abbrev pub operand_count_from : ℕ
  operand_count_from = get_or counts operand_count_at 0

  abbrev pub num_trials_from : ℕ
  num_trials_from = get_or counts num_trials_at 0

  abbrev pub seed_from : ℕ
  seed_from = get_or counts seed_at 0

  abbrev pub max_iterations_from : ℕ
  max_iterations_from = get_or counts max_iterations_at 0

  abbrev pub steps_per_temperature_from : ℕ
  steps_per_temperature_from = get_or counts steps_per_temperature_at 0

  abbrev pub max_cooling_cycles_from : ℕ
  max_cooling_cycles_from = get_or counts max_cooling_cycles_at 0

module _ (numbers : List Float) where
  abbrev pub pupil_from : Float
  pupil_from = get_or numbers pupil_at nan

  unfoldable pub indices_from : List Float
  indices_from = tab (λ (k : ℕ). get_or numbers (index_at k) nan) 64

module _ (counts : List ℕ) (numbers : List Float) where
  abbrev pub variable_record_from : ℕ → VariableRecord
  variable_record_from i = record {
    kind = get_or counts (variable_kind_at i) 0;
    surface_index = get_or counts (variable_surface_at i) 0;
    enabled = get_or counts (enabled_at i) 0;
    min_value = get_or numbers (min_value_at i) nan;
    max_value = get_or numbers (max_value_at i) nan;
    step_size = get_or numbers (step_size_at i) nan;
    follows = get_or counts (follows_at i) 0;
    follower = get_or counts (follower_at i) 0;
  }

  abbrev pub operand_record_from : ℕ → OperandRecord
  operand_record_from n = record {
    kind = get_or counts (operand_kind_at n) 0;
    at = get_or counts (slot_or_surface_at n) 0;
    limit_mm = get_or numbers (limit_at n) nan;
    target = get_or numbers (target_at n) nan;
    weight = get_or numbers (weight_at n) nan;
  }

  abbrev pub settings_from : SettingsRecord
  settings_from = record {
    max_iterations = max_iterations_from counts;
    initial_damping = get_or numbers initial_damping_at nan;
    relative_merit_tolerance = get_or numbers relative_merit_tolerance_at nan;
    gradient_tolerance = get_or numbers gradient_tolerance_at nan;
    finite_difference_relative_step = get_or numbers relative_step_at nan;
    num_trials = num_trials_from counts;
    initial_temperature = get_or numbers initial_temperature_at nan;
    cooling_rate = get_or numbers cooling_rate_at nan;
    steps_per_temperature = steps_per_temperature_from counts;
    max_cooling_cycles = max_cooling_cycles_from counts;
    seed = seed_from counts;
  }

  unfoldable pub variable_records_from : List VariableRecord
  variable_records_from = tab variable_record_from 8

  unfoldable pub operand_records_from : List OperandRecord
  operand_records_from = tab operand_record_from 12

  abbrev pub job_record_from : JobRecord
  job_record_from = record {
    surfaces = standing numbers;
    indices = indices_from numbers;
    variables = variable_records_from;
    operands = operand_records_from;
    surface_count = surface_count_from counts;
    slot_count = slot_count_from counts;
    variable_count = variable_count_from counts;
    operand_count = operand_count_from counts;
    entrance_pupil_diameter_mm = pupil_from numbers;
    settings = settings_from;
  }

  -- the job itself, its lens, its variables and its operands; the row's kind says which settings are used
  abbrev pub held_job : (kind : ℕ) → Job
  held_job kind = job_of kind job_record_from

  abbrev pub prescription_from : OpticalPrescription
  prescription_from = (held_job 0).prescription

  abbrev pub variables_from : VariableSet
  variables_from = (held_job 0).variables

  abbrev pub operands_from : MeritFunction
  operands_from = (held_job 0).merit_function
