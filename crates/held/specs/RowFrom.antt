-- A held row read as a row. For arrays of their lengths (`Long`) the two are one to one (`RowBack`). Definitions only.
use Rattle.std.specs.Prelude.{◌≡◌, List, ℕ, Float, length, get_or}
use Rattle.std.specs.Float.{nan}
use Rattle.runs.specs.declared.types.DampedState.{DampedState}
use Rattle.runs.specs.declared.types.OptimizationResult.{OptimizationResult}
use Rattle.runs.specs.declared.types.Row.{Row}
use Rattle.runs.specs.State.{State, row_of}
use Rattle.held.specs.declared.types.BestHead.{BestHead}
use Rattle.held.specs.declared.types.Head.{Head}
use Rattle.held.specs.declared.types.HeldBest.{HeldBest}
use Rattle.held.specs.declared.types.HeldRow.{HeldRow}
use Rattle.held.specs.declared.types.HeldRun.{HeldRun}
use Rattle.held.specs.declared.types.RowHead.{RowHead}
use Rattle.held.specs.JobFrom.{standing, job_record_from}
use Rattle.held.specs.Places.{kind_at, turns_at, phase_at, iteration_at, column_at, attempt_at, converged_at, generator_at, trial_at, cycle_at, step_at}
use Rattle.held.specs.Places.{best_iterations_at, best_converged_at}
use Rattle.held.specs.Places.{initial_merit_at, damping_at, temperature_at, current_merit_at, total_merit_at, best_initial_merit_at, best_final_merit_at}

-- ---- the numbers that go by value
module _ (words : List ℕ) where
  abbrev pub kind_from : ℕ
  kind_from = get_or words kind_at 0

  abbrev pub turns_from : ℕ
  turns_from = get_or words turns_at 0

  abbrev pub phase_from : ℕ
  phase_from = get_or words phase_at 0

  abbrev pub iteration_from : ℕ
  iteration_from = get_or words iteration_at 0

  abbrev pub column_from : ℕ
  column_from = get_or words column_at 0

  abbrev pub attempt_from : ℕ
  attempt_from = get_or words attempt_at 0

  abbrev pub trial_from : ℕ
  trial_from = get_or words trial_at 0

  abbrev pub cycle_from : ℕ
  cycle_from = get_or words cycle_at 0

  abbrev pub step_from : ℕ
  step_from = get_or words step_at 0

module _ (words : List ℕ) (scalars : List Float) where
  abbrev pub damped_head_from : Head
  damped_head_from = record {
    total_merit = get_or scalars total_merit_at nan;
    initial_merit = get_or scalars initial_merit_at nan;
    damping = get_or scalars damping_at nan;
    phase = phase_from words;
    iteration = iteration_from words;
    column = column_from words;
    attempt = attempt_from words;
    converged = get_or words converged_at 0;
  }

  abbrev pub best_head_from : BestHead
  best_head_from = record {
    initial_merit = get_or scalars best_initial_merit_at nan;
    final_merit = get_or scalars best_final_merit_at nan;
    iterations = get_or words best_iterations_at 0;
    converged = get_or words best_converged_at 0;
  }

  abbrev pub head_from : RowHead
  head_from = record {
    damped = damped_head_from;
    best = best_head_from;
    generator = get_or words generator_at 0;
    trial = trial_from words;
    cycle = cycle_from words;
    step = step_from words;
    temperature = get_or scalars temperature_at nan;
    current_merit = get_or scalars current_merit_at nan;
  }

-- ---- these and the arrays
abbrev pub damped_from : Head → HeldRun → DampedState
damped_from h run = record {
  surfaces = standing run.surfaces;
  jacobian = run.jacobian;
  evaluation = record { values = run.values; residuals = run.residuals; total_merit = h.total_merit };
  plus_residuals = run.plus_residuals;
  params = run.params;
  candidate = run.candidate;
  initial_merit = h.initial_merit;
  damping = h.damping;
  phase = h.phase;
  iteration = h.iteration;
  column = h.column;
  attempt = h.attempt;
  converged = h.converged;
}

abbrev pub result_from : BestHead → HeldBest → OptimizationResult
result_from b best = record {
  surfaces = standing best.surfaces;
  values = best.values;
  residuals = best.residuals;
  initial_merit = b.initial_merit;
  final_merit = b.final_merit;
  iterations = b.iterations;
  converged = b.converged;
}

abbrev pub state_from : RowHead → HeldRun → HeldBest → State
state_from h run best = record {
  damped = damped_from h.damped run;
  best = result_from h.best best;
  generator = h.generator;
  trial = h.trial;
  cycle = h.cycle;
  step = h.step;
  temperature = h.temperature;
  current_merit = h.current_merit;
}

-- ---- the row that a held row stands for
abbrev pub held_state : HeldRow → State
held_state h = state_from (head_from h.head.words h.head.scalars) h.run h.best

abbrev pub row_from : HeldRow → Row
row_from h = row_of (job_record_from h.job.counts h.job.numbers) (kind_from h.head.words) (turns_from h.head.words) (held_state h)

-- every array has its length
pub record Long (h : HeldRow) : Type 0 where
  pub words : length h.head.words ≡ 13
  pub scalars : length h.head.scalars ≡ 7
  pub counts : length h.job.counts ≡ 73
  pub numbers : length h.job.numbers ≡ 195
  pub surfaces : length h.run.surfaces ≡ 64
  pub jacobian : length h.run.jacobian ≡ 96
  pub values : length h.run.values ≡ 12
  pub residuals : length h.run.residuals ≡ 12
  pub plus_residuals : length h.run.plus_residuals ≡ 12
  pub params : length h.run.params ≡ 8
  pub candidate : length h.run.candidate ≡ 8
  pub best_surfaces : length h.best.surfaces ≡ 64
  pub best_values : length h.best.values ≡ 12
  pub best_residuals : length h.best.residuals ≡ 12
