-- A row written as a held row: the inverse of `row_from`, entry after entry in the order of `Places`. Definitions only.
use Rattle.std.specs.Prelude.{ℕ, zero, suc, List, [], ◌∷◌, ◌++◌, Float, get_or}
use Rattle.std.specs.Float.{nan}
use Rattle.lists.specs.Tab.{tab}
use Rattle.optics.specs.Flat.{laid_flat}
use Rattle.jobs.specs.declared.types.JobRecord.{JobRecord}
use Rattle.jobs.specs.declared.types.OperandRecord.{OperandRecord}
use Rattle.jobs.specs.declared.types.VariableRecord.{VariableRecord}
use Rattle.jobs.specs.Records.{variable_record_at, operand_record_at}
use Rattle.runs.specs.declared.types.DampedState.{DampedState}
use Rattle.runs.specs.declared.types.OptimizationResult.{OptimizationResult}
use Rattle.runs.specs.declared.types.Row.{Row}
use Rattle.runs.specs.State.{State, state_of}
use Rattle.held.specs.declared.types.BestHead.{BestHead}
use Rattle.held.specs.declared.types.Head.{Head}
use Rattle.held.specs.declared.types.HeldBest.{HeldBest}
use Rattle.held.specs.declared.types.HeldHead.{HeldHead}
use Rattle.held.specs.declared.types.HeldRow.{HeldRow}
use Rattle.held.specs.declared.types.HeldRun.{HeldRun}
use Rattle.held.specs.declared.types.RowHead.{RowHead}

-- n lists, one after the other
unfoldable pub in_turn : {A : Type 0} → (ℕ → List A) → ℕ → List A
in_turn f zero = []
in_turn f (suc n) = in_turn f n ++ f n

-- ---- the job
abbrev pub variable_counts : VariableRecord → List ℕ
variable_counts v = v.kind ∷ v.surface_index ∷ v.enabled ∷ v.follows ∷ v.follower ∷ []

abbrev pub operand_counts : OperandRecord → List ℕ
operand_counts o = o.kind ∷ o.at ∷ []

abbrev pub variable_numbers : VariableRecord → List Float
variable_numbers v = v.min_value ∷ v.max_value ∷ v.step_size ∷ []

abbrev pub operand_numbers : OperandRecord → List Float
operand_numbers o = o.limit_mm ∷ o.target ∷ o.weight ∷ []

module _ (r : JobRecord) where
  -- before those of the variables
  abbrev pub first_counts : List ℕ
  first_counts =
      r.surface_count
      ∷ r.slot_count
      ∷ r.variable_count
      ∷ r.operand_count
      ∷ r.settings.max_iterations
      ∷ r.settings.num_trials
      ∷ r.settings.steps_per_temperature
      ∷ r.settings.max_cooling_cycles
      ∷ r.settings.seed
      ∷ []

  -- between those of the indices and those of the variables
  abbrev pub pupil_and_settings : List Float
  pupil_and_settings =
      r.entrance_pupil_diameter_mm
      ∷ r.settings.initial_damping
      ∷ r.settings.relative_merit_tolerance
      ∷ r.settings.gradient_tolerance
      ∷ r.settings.finite_difference_relative_step
      ∷ r.settings.initial_temperature
      ∷ r.settings.cooling_rate
      ∷ []

  unfoldable pub held_counts : List ℕ
  held_counts = (first_counts ++ in_turn (λ (i : ℕ). variable_counts (variable_record_at r i)) 8)
      ++ in_turn (λ (n : ℕ). operand_counts (operand_record_at r n)) 12

  unfoldable pub held_numbers : List Float
  held_numbers =
      (((laid_flat r.surfaces 16
      ++ tab (λ (k : ℕ). get_or r.indices k nan) 64)
      ++ pupil_and_settings)
      ++ in_turn (λ (i : ℕ). variable_numbers (variable_record_at r i)) 8)
      ++ in_turn (λ (n : ℕ). operand_numbers (operand_record_at r n)) 12

-- ---- the numbers that go by value
abbrev pub damped_head_of : DampedState → Head
damped_head_of d = record {
  total_merit = d.evaluation.total_merit;
  initial_merit = d.initial_merit;
  damping = d.damping;
  phase = d.phase;
  iteration = d.iteration;
  column = d.column;
  attempt = d.attempt;
  converged = d.converged;
}

abbrev pub best_head_of : OptimizationResult → BestHead
best_head_of b = record { initial_merit = b.initial_merit; final_merit = b.final_merit; iterations = b.iterations; converged = b.converged }

abbrev pub head_of : State → RowHead
head_of s = record {
  damped = damped_head_of s.damped;
  best = best_head_of s.best;
  generator = s.generator;
  trial = s.trial;
  cycle = s.cycle;
  step = s.step;
  temperature = s.temperature;
  current_merit = s.current_merit;
}

abbrev pub held_words : (kind turns : ℕ) → RowHead → List ℕ
held_words kind turns h =
    kind
    ∷ turns
    ∷ h.damped.phase
    ∷ h.damped.iteration
    ∷ h.damped.column
    ∷ h.damped.attempt
    ∷ h.damped.converged
    ∷ h.generator
    ∷ h.trial
    ∷ h.cycle
    ∷ h.step
    ∷ h.best.iterations
    ∷ h.best.converged
    ∷ []

abbrev pub held_scalars : RowHead → List Float
held_scalars h =
    h.damped.initial_merit
    ∷ h.damped.damping
    ∷ h.temperature
    ∷ h.current_merit
    ∷ h.damped.total_merit
    ∷ h.best.initial_merit
    ∷ h.best.final_merit
    ∷ []

abbrev pub held_head : (kind turns : ℕ) → RowHead → HeldHead
held_head kind turns h = record { words = held_words kind turns h; scalars = held_scalars h }

-- ---- the arrays
abbrev pub held_run : DampedState → HeldRun
held_run d = record {
  surfaces = laid_flat d.surfaces 16;
  jacobian = d.jacobian;
  values = d.evaluation.values;
  residuals = d.evaluation.residuals;
  plus_residuals = d.plus_residuals;
  params = d.params;
  candidate = d.candidate;
}

abbrev pub held_best : OptimizationResult → HeldBest
held_best b = record { surfaces = laid_flat b.surfaces 16; values = b.values; residuals = b.residuals }

-- ---- the held row that stands for a row
abbrev pub held_from : Row → HeldRow
held_from r = record {
  head = held_head r.kind r.turns (head_of (state_of r));
  job = record { counts = held_counts r.job; numbers = held_numbers r.job };
  run = held_run r.damped;
  best = held_best r.best;
}
