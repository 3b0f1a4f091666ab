-- "unused entries .. are zero": a job's record of numbers. Definitions only.
use Rattle.std.specs.Prelude.{◌≡◌, ◌⊎◌, ◌≢◌, ℕ, ◌≤◌, ◌<◌}
use Rattle.floats.specs.Constants.{zero64}
use Rattle.optics.specs.Types.{surface_at, zero_surface, slot_index}
use Rattle.jobs.specs.declared.types.JobRecord.{JobRecord}
use Rattle.jobs.specs.declared.types.OperandRecord.{OperandRecord}
use Rattle.jobs.specs.declared.types.SettingsRecord.{SettingsRecord}
use Rattle.jobs.specs.declared.types.VariableRecord.{VariableRecord}
use Rattle.jobs.specs.Entries.{zero_variable_record, zero_operand_record}
use Rattle.jobs.specs.Records.{variable_record_at, operand_record_at}

-- "Each operand kind carries its own numbers": a paraxial kind, 0 to 4, has no limit, and the track, 2, no slot
pub record CleanOperand (o : OperandRecord) : Type 0 where
  pub no_limit : o.kind < 5 → o.limit_mm ≡ zero64
  pub no_slot : o.kind ≡ 2 → o.at ≡ 0

-- a variable without a follower names no surface for it
pub record CleanVariable (v : VariableRecord) : Type 0 where
  pub no_follower : v.follows ≡ 0 → v.follower ≡ 0

-- "A job is of one kind and gives that kind's settings alone": kind 1 damped, 2 multi-start, 3 annealing
pub record CleanSettings (kind : ℕ) (s : SettingsRecord) : Type 0 where
  pub no_trials : kind ≢ 2 → s.num_trials ≡ 0
  pub no_seed : kind ≡ 1 → s.seed ≡ 0
  -- those of annealing
  pub no_temperature : kind ≢ 3 → s.initial_temperature ≡ zero64
  pub no_cooling : kind ≢ 3 → s.cooling_rate ≡ zero64
  pub no_steps : kind ≢ 3 → s.steps_per_temperature ≡ 0
  pub no_cycles : kind ≢ 3 → s.max_cooling_cycles ≡ 0
  -- those of a damped run
  pub no_iterations : kind ≡ 3 → s.max_iterations ≡ 0
  pub no_damping : kind ≡ 3 → s.initial_damping ≡ zero64
  pub no_merit_tolerance : kind ≡ 3 → s.relative_merit_tolerance ≡ zero64
  pub no_gradient_tolerance : kind ≡ 3 → s.gradient_tolerance ≡ zero64
  pub no_relative_step : kind ≡ 3 → s.finite_difference_relative_step ≡ zero64

pub record CleanRecord (kind : ℕ) (r : JobRecord) : Type 0 where
  pub surfaces : (i : ℕ) → r.surface_count ≤ i → i < 16 → surface_at r.surfaces i ≡ zero_surface
  pub indices : (i w : ℕ) → i < 16 → w < 4 → (r.surface_count ≤ i) ⊎ (r.slot_count ≤ w) → slot_index r.indices w i ≡ zero64
  pub variables : (i : ℕ) → r.variable_count ≤ i → i < 8 → variable_record_at r i ≡ zero_variable_record
  pub operands : (i : ℕ) → r.operand_count ≤ i → i < 12 → operand_record_at r i ≡ zero_operand_record
  pub variable_parts : (i : ℕ) → i < 8 → CleanVariable (variable_record_at r i)
  pub operand_parts : (i : ℕ) → i < 12 → CleanOperand (operand_record_at r i)
  pub settings : CleanSettings kind r.settings
