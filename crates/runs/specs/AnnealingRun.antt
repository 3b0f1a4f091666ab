-- The annealing run, `SimulatedAnnealingOptimizer::optimize` of global.rs. No evaluation, no trace and no row stands in this file. Definitions only.
use Rattle.std.specs.Prelude.{ℕ, zero, suc, ◌+◌, ◌*◌, Bool, true, false, List, get_or, Float}
use Rattle.std.specs.Float.{nan, binary64}
use Rattle.std.specs.Float.Ieee.{add, sub, mul, div, neg, lt, le, of_bits}
use Rattle.floats.specs.Basic.{clamp_of, max_of}
use Rattle.floats.specs.Constants.{zero64, half64}
use Rattle.floats.specs.Exp.{exp_of}
use Rattle.xorshift.specs.Xorshift.{seeded, step_of, step_times}
use Rattle.xorshift.specs.Draws.{unit_of}
use Rattle.variables.specs.declared.types.VariableDef.{VariableDef}
use Rattle.variables.specs.declared.types.VariableSet.{VariableSet}
use Rattle.variables.specs.Active.{num_active, active_at}
use Rattle.variables.specs.Values.{eight, extracted, applied}
use Rattle.merit.specs.declared.types.MeritEvaluation.{MeritEvaluation}
use Rattle.jobs.specs.Defaults.{polish_settings}
use Rattle.jobs.specs.declared.types.SimulatedAnnealingConfig.{SimulatedAnnealingConfig}
use Rattle.runs.specs.declared.types.OptimizationResult.{OptimizationResult}
use Rattle.runs.specs.Run.{Surfaces, Run, done, evaluate, ◌>>=◌}
use Rattle.runs.specs.DampedRun.{Optimizer, damped}

-- 0.1 and 1e-12
abbrev pub tenth : Float
tenth = of_bits binary64 0x3fb9_9999_9999_999a

abbrev pub least_temperature : Float
least_temperature = of_bits binary64 0x3d71_9799_812d_ea11

-- A `SimulatedAnnealingOptimizer` and what `optimize` is called on beside the prescription: the variables, and how many operands the merit function has.
pub record Annealer : Type 0 where
  pub config : SimulatedAnnealingConfig
  pub variables : VariableSet
  pub operand_count : ℕ

-- What `optimize` holds from one step to the next.
pub record Walk : Type 0 where
  pub surfaces : Surfaces
  pub params : List Float
  pub current_merit : Float
  pub best_surfaces : Surfaces
  pub best_merit : Float
  pub rng : ℕ
  pub temp : Float

-- another state of the generator; `temp *= cooling_rate`
abbrev pub with_rng : Walk → ℕ → Walk
with_rng w g = record {
  surfaces = w.surfaces;
  params = w.params;
  current_merit = w.current_merit;
  best_surfaces = w.best_surfaces;
  best_merit = w.best_merit;
  rng = g;
  temp = w.temp;
}

abbrev pub cooled : (cooling_rate : Float) → Walk → Walk
cooled cooling_rate w = record {
  surfaces = w.surfaces;
  params = w.params;
  current_merit = w.current_merit;
  best_surfaces = w.best_surfaces;
  best_merit = w.best_merit;
  rng = w.rng;
  temp = mul binary64 w.temp cooling_rate;
}

-- `if current_merit < best_merit`
unfoldable pub if_best : Bool → Walk → Walk
if_best true w = record {
  surfaces = w.surfaces;
  params = w.params;
  current_merit = w.current_merit;
  best_surfaces = w.surfaces;
  best_merit = w.current_merit;
  rng = w.rng;
  temp = w.temp;
}
if_best false w = w

-- the temperature has its floor in the quotient only
unfoldable pub prob : (delta_merit temp : Float) → Float
prob delta_merit temp = exp_of (div binary64 (neg delta_merit) (max_of temp least_temperature))

module _ (a : Annealer) where
  -- ---- One step
  -- `(rng.next_f64() - 0.5) * 0.1 * range`, for enabled variable q
  abbrev var : ℕ → VariableDef
  var q = active_at a.variables q

  abbrev range : ℕ → Float
  range q = sub binary64 (var q).max_value (var q).min_value

  abbrev perturb : (rng q : ℕ) → Float
  perturb rng q = mul binary64 (mul binary64 (sub binary64 (unit_of (step_times (suc q) rng)) half64) tenth) (range q)

  abbrev perturbed : List Float → (rng q : ℕ) → Float
  perturbed params rng q = clamp_of (add binary64 (get_or params q nan) (perturb rng q)) (var q).min_value (var q).max_value

  -- one draw for each enabled variable, in order
  unfoldable pub trial_params : Walk → List Float
  trial_params w = eight a.variables (perturbed w.params w.rng) (λ (q : ℕ). get_or w.params q nan)

  unfoldable pub after_draws : Walk → Walk
  after_draws w = with_rng w (step_times (num_active a.variables) w.rng)

  unfoldable pub trial_presc : (trial : List Float) → Walk → Surfaces
  trial_presc trial w = applied a.variables trial w.surfaces

  -- the params that an accepted step keeps are the clamped trial values
  abbrev pub moved : (trial : List Float) (trial_merit : Float) → Walk → Walk
  moved trial trial_merit w = record {
    surfaces = trial_presc trial w;
    params = trial;
    current_merit = trial_merit;
    best_surfaces = w.best_surfaces;
    best_merit = w.best_merit;
    rng = w.rng;
    temp = w.temp;
  }

  unfoldable pub accepted : (trial : List Float) (trial_merit : Float) → Walk → Walk
  accepted trial trial_merit w = if_best (lt trial_merit w.best_merit) (moved trial trial_merit w)

  unfoldable pub if_drawn : Bool → (trial : List Float) (trial_merit : Float) → Walk → Walk
  if_drawn true trial trial_merit w = accepted trial trial_merit w
  if_drawn false trial trial_merit w = w

  -- Metropolis acceptance. "Annealing draws for acceptance only when the merit rose."
  unfoldable pub if_not_risen : Bool → (trial : List Float) (trial_merit delta_merit : Float) → Walk → Walk
  if_not_risen true trial trial_merit delta_merit w = accepted trial trial_merit w
  if_not_risen false trial trial_merit delta_merit w =
      if_drawn (lt (unit_of (step_of w.rng)) (prob delta_merit w.temp)) trial trial_merit (with_rng w (step_of w.rng))

  unfoldable pub judged : (trial : List Float) → MeritEvaluation → Walk → Walk
  judged trial trial_eval w =
      let delta_merit = sub binary64 trial_eval.total_merit w.current_merit in
      if_not_risen (le delta_merit zero64) trial trial_eval.total_merit delta_merit w

  -- the trial that w came to by its draws
  unfoldable pub tried : (trial : List Float) → Walk → Run Walk
  tried trial w = do
    trial_eval ← evaluate (trial_presc trial w)
    done (judged trial trial_eval w)

  -- ---- Steps and cycles
  -- `for _step in 0..steps_per_temperature`: as many are left
  unfoldable pub steps : (left : ℕ) → Walk → Run Walk
  steps zero w = done w
  steps (suc left) w = do
    w' ← tried (trial_params w) (after_draws w)
    steps left w'

  -- `for cycle in 0..max_cooling_cycles`: as many are left; cooling comes after each
  unfoldable pub cycles : (left : ℕ) → Walk → Run Walk
  cycles zero w = done w
  cycles (suc left) w = do
    w' ← steps a.config.steps_per_temperature w
    cycles left (cooled a.config.cooling_rate w')

  -- before the first step
  abbrev pub started : Surfaces → MeritEvaluation → Walk
  started base e = record {
    surfaces = base;
    params = extracted a.variables base;
    current_merit = e.total_merit;
    best_surfaces = base;
    best_merit = e.total_merit;
    rng = seeded a.config.seed;
    temp = a.config.initial_temperature;
  }

  -- ---- The polish: "a damped run of 25 iterations with defaults"
  abbrev pub polisher : Optimizer
  polisher = record { config = polish_settings; variables = a.variables; operand_count = a.operand_count }

  -- "iterations are added": every step counts as one
  abbrev pub total_iterations : ℕ
  total_iterations = a.config.max_cooling_cycles * a.config.steps_per_temperature

  abbrev pub with_prior : (initial_merit : Float) → OptimizationResult → OptimizationResult
  with_prior initial_merit polished = record {
    surfaces = polished.surfaces;
    values = polished.values;
    residuals = polished.residuals;
    initial_merit = initial_merit;
    final_merit = polished.final_merit;
    iterations = total_iterations + polished.iterations;
    converged = polished.converged;
  }

  unfoldable pub polish : (initial_merit : Float) → Surfaces → Run OptimizationResult
  polish initial_merit presc = do
    polished ← damped polisher presc
    done (with_prior initial_merit polished)

  -- ---- `SimulatedAnnealingOptimizer::optimize`
  unfoldable pub annealing : (base : Surfaces) → Run OptimizationResult
  annealing base = do
    current_eval ← evaluate base
    end ← cycles a.config.max_cooling_cycles (started base current_eval)
    polish current_eval.total_merit end.best_surfaces
