-- The run's state in a row: all that the row holds beside the job and its turns. Definitions only.
use Rattle.std.specs.Prelude.{ℕ, Float}
use Rattle.floats.specs.Constants.{zero64}
use Rattle.jobs.specs.declared.types.JobRecord.{JobRecord}
use Rattle.runs.specs.declared.types.DampedState.{DampedState}
use Rattle.runs.specs.declared.types.OptimizationResult.{OptimizationResult}
use Rattle.runs.specs.declared.types.Row.{Row}
use Rattle.runs.specs.Zeros.{zero_result}

pub record State : Type 0 where
  pub damped : DampedState
  pub best : OptimizationResult
  pub generator : ℕ
  pub trial : ℕ
  pub cycle : ℕ
  pub step : ℕ
  pub temperature : Float
  pub current_merit : Float

abbrev pub state_of : Row → State
state_of r = record {
  damped = r.damped;
  best = r.best;
  generator = r.generator;
  trial = r.trial;
  cycle = r.cycle;
  step = r.step;
  temperature = r.temperature;
  current_merit = r.current_merit;
}

abbrev pub row_of : JobRecord → (kind turns : ℕ) → State → Row
row_of job kind turns s = record {
  job = job;
  damped = s.damped;
  best = s.best;
  kind = kind;
  turns = turns;
  generator = s.generator;
  trial = s.trial;
  cycle = s.cycle;
  step = s.step;
  temperature = s.temperature;
  current_merit = s.current_merit;
}

-- a state that has the damped part alone, and one that has a best result as well
abbrev pub with_best : DampedState → OptimizationResult → State
with_best d b = record { damped = d; best = b; generator = 0; trial = 0; cycle = 0; step = 0; temperature = zero64; current_merit = zero64 }

abbrev pub alone : DampedState → State
alone d = with_best d zero_result

-- another damped part, all else as it stands
abbrev pub with_damped : State → DampedState → State
with_damped s d = record {
  damped = d;
  best = s.best;
  generator = s.generator;
  trial = s.trial;
  cycle = s.cycle;
  step = s.step;
  temperature = s.temperature;
  current_merit = s.current_merit;
}
