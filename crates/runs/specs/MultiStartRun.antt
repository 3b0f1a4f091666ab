-- The multi-start run, `MultiStartOptimizer::optimize` of global.rs, with an infinite time budget. No evaluation, no trace and no row stands in this
-- file. Definitions only.
use Rattle.std.specs.Prelude.{ℕ, zero, suc, Bool, cond, List, Float}
use Rattle.std.specs.Float.Ieee.{lt}
use Rattle.floats.specs.Constants.{zero64}
use Rattle.xorshift.specs.Xorshift.{seeded, step_times}
use Rattle.xorshift.specs.Draws.{unit_of, uniform_of}
use Rattle.variables.specs.declared.types.VariableSet.{VariableSet}
use Rattle.variables.specs.Active.{num_active, active_at}
use Rattle.variables.specs.Values.{eight, applied}
use Rattle.runs.specs.declared.types.OptimizationResult.{OptimizationResult}
use Rattle.runs.specs.Run.{Surfaces, Run, done, ◌>>=◌}
use Rattle.runs.specs.Zeros.{zero_result}
use Rattle.runs.specs.DampedRun.{Optimizer, damped}

-- The best result so far: none before there is any.
pub data Best : Type 0 where
  none : Best
  some : OptimizationResult → Best

-- the last line of `optimize`: by then there is one, the base's at least
abbrev pub the_best : Best → OptimizationResult
the_best none = zero_result
the_best (some best) = best

-- `if result.final_merit < best_result.final_merit`
unfoldable pub is_lower : OptimizationResult → OptimizationResult → Bool
is_lower result best = lt result.final_merit best.final_merit

-- "a later one replaces it only when strictly lower, and brings its own first merit and iterations"
unfoldable pub merged : Best → OptimizationResult → OptimizationResult
merged none result = result
merged (some best) result = cond (is_lower result best) result best

-- one draw `rng.uniform(var.min_value, var.max_value)` for each enabled variable, in order
unfoldable pub random_params : VariableSet → (rng : ℕ) → List Float
random_params v rng = eight v (λ (q : ℕ). uniform_of (unit_of (step_times (suc q) rng)) (active_at v q).min_value (active_at v q).max_value) (λ (q : ℕ). zero64)

-- the generator after those draws
unfoldable pub after_draws : VariableSet → (rng : ℕ) → ℕ
after_draws v rng = step_times (num_active v) rng

module _ (o : Optimizer) (base : Surfaces) where
  unfoldable pub trial_presc : (rng : ℕ) → Surfaces
  trial_presc rng = applied o.variables (random_params o.variables rng) base

  -- `for trial in 0..num_trials`: as many trials are left
  unfoldable pub trials : (left rng : ℕ) → Best → Run Best
  trials zero rng best = done best
  trials (suc left) rng best = do
    result ← damped o (trial_presc rng)
    trials left (after_draws o.variables rng) (some (merged best result))

  -- ---- `MultiStartOptimizer::optimize`. "The first multi-start run is from the base"
  unfoldable pub multi_start : (num_trials seed : ℕ) → Run OptimizationResult
  multi_start num_trials seed = do
    base_result ← damped o base
    best ← trials num_trials (seeded seed) (some (merged none base_result))
    done (the_best best)
