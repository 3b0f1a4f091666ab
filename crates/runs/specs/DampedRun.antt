-- The damped run, `DlsOptimizer::optimize` of dls.rs: "As in the Rust, with these stand-ins for nalgebra" (crate `normal`). From the settings, the
-- variables and the starting surfaces alone: no evaluation, no trace and no row stands in this file. Definitions only.
use Rattle.std.specs.Prelude.{ℕ, zero, suc, Bool, true, false, not, ◌&&◌, ◌||◌, List, get_or, set, Float}
use Rattle.std.specs.Float.{nan, binary64}
use Rattle.std.specs.Float.Ieee.{add, sub, div, lt, of_bits}
use Rattle.floats.specs.Basic.{max_of, finite_of}
use Rattle.variables.specs.declared.types.VariableDef.{VariableDef}
use Rattle.variables.specs.declared.types.VariableSet.{VariableSet}
use Rattle.variables.specs.Active.{num_active, active_at}
use Rattle.variables.specs.Values.{eight, extracted, clamped_values, applied}
use Rattle.merit.specs.declared.types.MeritEvaluation.{MeritEvaluation}
use Rattle.normal.specs.Jacobian.{delta_of, plus_value, minus_value, denominator_of, column_of, with_column, jacobian_at, residual_at}
use Rattle.normal.specs.Products.{Matrix, Vector, normal_product, gradient_of, norm_of}
use Rattle.normal.specs.Step.{step_of, step_found}
use Rattle.normal.specs.Damping.{raised_of, eased_of}
use Rattle.jobs.specs.declared.types.DlsConfig.{DlsConfig}
use Rattle.runs.specs.declared.types.OptimizationResult.{OptimizationResult}
use Rattle.runs.specs.Run.{Surfaces, Run, done, evaluate, ◌>>=◌}
use Rattle.runs.specs.Zeros.{zero_jacobian}

-- A `DlsOptimizer` and what `optimize` is called on beside the prescription: the variables, and how many operands the merit function has.
pub record Optimizer : Type 0 where
  pub config : DlsConfig
  pub variables : VariableSet
  pub operand_count : ℕ

-- What `optimize` holds from one iteration to the next: current_prescription, params, current_eval, and so on.
pub record Current : Type 0 where
  pub surfaces : Surfaces
  pub params : List Float
  pub evaluation : MeritEvaluation
  pub initial_merit : Float
  pub damping : Float
  pub iteration : ℕ

abbrev pub current_merit : Current → Float
current_merit s = s.evaluation.total_merit

-- The end of an iteration: the loop goes on, or it breaks, converged or without an accepted step.
pub data After : Type 0 where
  on : Current → After
  over : (converged : Bool) → Current → After

abbrev pub state_of : After → Current
state_of (on s) = s
state_of (over converged s) = s

-- 0 or 1
abbrev pub mark : Bool → ℕ
mark false = 0
mark true = 1

abbrev pub converged_mark : After → ℕ
converged_mark (on s) = 0
converged_mark (over converged s) = mark converged

-- `if converged || !step_accepted { break; }`
unfoldable pub going_on : (next : Current → Run After) → After → Run After
going_on next (on s) = next s
going_on next (over converged s) = done (over converged s)

-- the result is read off the end of the last iteration
abbrev pub result_of : After → OptimizationResult
result_of end = record {
  surfaces = (state_of end).surfaces;
  values = (state_of end).evaluation.values;
  residuals = (state_of end).evaluation.residuals;
  initial_merit = (state_of end).initial_merit;
  final_merit = current_merit (state_of end);
  iterations = (state_of end).iteration;
  converged = converged_mark end;
}

-- `iteration += 1`
abbrev pub counted : Current → Current
counted s = record {
  surfaces = s.surfaces;
  params = s.params;
  evaluation = s.evaluation;
  initial_merit = s.initial_merit;
  damping = s.damping;
  iteration = suc s.iteration;
}

-- "raised .. after each attempt not accepted", one without a merit too
abbrev pub raised : Current → Current
raised s = record {
  surfaces = s.surfaces;
  params = s.params;
  evaluation = s.evaluation;
  initial_merit = s.initial_merit;
  damping = raised_of s.damping;
  iteration = s.iteration;
}

-- `if rel_improvement < relative_merit_tolerance`
unfoldable pub settled : Bool → Current → After
settled true s = over true s
settled false s = on s

-- 1e-12, the least divisor of an improvement
abbrev pub least_merit : Float
least_merit = of_bits binary64 0x3d71_9799_812d_ea11

module _ (o : Optimizer) where
  abbrev p_dim : ℕ
  p_dim = num_active o.variables

  abbrev m_dim : ℕ
  m_dim = o.operand_count

  -- ---- 1. The Jacobian, by central differences: column q
  abbrev var : ℕ → VariableDef
  var q = active_at o.variables q

  abbrev x0 : Current → ℕ → Float
  x0 s q = get_or s.params q nan

  abbrev delta : Current → ℕ → Float
  delta s q = delta_of (x0 s q) o.config.finite_difference_relative_step (var q).step_size

  unfoldable pub p_plus : Current → ℕ → Float
  p_plus s q = plus_value (x0 s q) (delta s q) (var q).min_value (var q).max_value

  unfoldable pub p_minus : Current → ℕ → Float
  p_minus s q = minus_value (x0 s q) (delta s q) (var q).min_value (var q).max_value

  -- every perturbation applies all enabled variables
  unfoldable pub presc_plus : Current → ℕ → Surfaces
  presc_plus s q = applied o.variables (set s.params q (p_plus s q)) s.surfaces

  unfoldable pub presc_minus : Current → ℕ → Surfaces
  presc_minus s q = applied o.variables (set s.params q (p_minus s q)) s.surfaces

  unfoldable pub denom : Current → ℕ → Float
  denom s q = denominator_of (x0 s q) (p_plus s q) (p_minus s q)

  -- the Jacobian with column q out of the residuals on either side
  unfoldable pub with_differences : Current → ℕ → (j_mat plus minus : List Float) → List Float
  with_differences s q j_mat plus minus = with_column j_mat q (column_of plus minus m_dim (denom s q))

  -- `for var in &variables.variables`: as many enabled ones are left, the next is number q
  unfoldable pub columns : (left q : ℕ) → Current → (j_mat : List Float) → Run (List Float)
  columns zero q s j_mat = done j_mat
  columns (suc left) q s j_mat = do
    eval_plus ← evaluate (presc_plus s q)
    eval_minus ← evaluate (presc_minus s q)
    columns left (suc q) s (with_differences s q j_mat eval_plus.residuals eval_minus.residuals)

  -- ---- 2. The normal equations: H = J^T J, g = J^T r
  abbrev h_mat : (j_mat : List Float) → Matrix
  h_mat j_mat = normal_product m_dim (jacobian_at j_mat)

  abbrev g_vec : (j_mat : List Float) → Current → Vector
  g_vec j_mat s = gradient_of m_dim (jacobian_at j_mat) (residual_at s.evaluation.residuals)

  abbrev grad_norm : (j_mat : List Float) → Current → Float
  grad_norm j_mat s = norm_of p_dim (g_vec j_mat s)

  -- `!grad_norm.is_finite() || grad_norm < gradient_tolerance`
  unfoldable pub is_stationary : (j_mat : List Float) → Current → Bool
  is_stationary j_mat s = not (finite_of (grad_norm j_mat s)) || lt (grad_norm j_mat s) o.config.gradient_tolerance

  -- ---- 3. The damped system and its attempts
  -- `lu.solve` gives a solution, and `dx.iter().all(|&v| v.is_finite())`
  unfoldable pub is_solved : (j_mat : List Float) → Current → Bool
  is_solved j_mat s = step_found p_dim s.damping (h_mat j_mat) (g_vec j_mat s)

  abbrev dx : (j_mat : List Float) → Current → List Float
  dx j_mat s = step_of p_dim s.damping (h_mat j_mat) (g_vec j_mat s)

  -- `candidate_params[i] += dx[i]`, then `clamp_values`
  unfoldable pub candidate_params : (j_mat : List Float) → Current → List Float
  candidate_params j_mat s = clamped_values o.variables (eight o.variables (λ (q : ℕ). add binary64 (x0 s q) (get_or (dx j_mat s) q nan)) (x0 s))

  unfoldable pub test_presc : (candidate : List Float) → Current → Surfaces
  test_presc candidate s = applied o.variables candidate s.surfaces

  unfoldable pub is_reduction : (test_eval : MeritEvaluation) → Current → Bool
  is_reduction test_eval s = finite_of test_eval.total_merit && lt test_eval.total_merit (current_merit s)

  unfoldable pub rel_improvement : (test_eval : MeritEvaluation) → Current → Float
  rel_improvement test_eval s = div binary64 (sub binary64 (current_merit s) test_eval.total_merit) (max_of (current_merit s) least_merit)

  -- "Successful reduction!": the params are the clamped candidate itself, and the damping is eased
  abbrev pub moved : (candidate : List Float) (test_eval : MeritEvaluation) → Current → Current
  moved candidate test_eval s = record {
    surfaces = test_presc candidate s;
    params = candidate;
    evaluation = test_eval;
    initial_merit = s.initial_merit;
    damping = eased_of s.damping;
    iteration = s.iteration;
  }

  unfoldable pub accepted : (candidate : List Float) (test_eval : MeritEvaluation) → Current → After
  accepted candidate test_eval s = settled (lt (rel_improvement test_eval s) o.config.relative_merit_tolerance) (moved candidate test_eval s)

  -- `if test_eval.total_merit.is_finite() && test_eval.total_merit < current_merit`, else the next attempt
  unfoldable pub if_reduced : Bool → (candidate : List Float) (test_eval : MeritEvaluation) → Current → (next : Run After) → Run After
  if_reduced true candidate test_eval s next = done (accepted candidate test_eval s)
  if_reduced false candidate test_eval s next = next

  -- "Where the solve has no solution the attempt ends there, without a merit."
  unfoldable pub if_solved : Bool → (candidate : List Float) → Current → (next : Run After) → Run After
  if_solved false candidate s next = next
  if_solved true candidate s next = do
    test_eval ← evaluate (test_presc candidate s)
    if_reduced (is_reduction test_eval s) candidate test_eval s next

  -- `for _attempt in 0..10`: as many are left; a loop that runs out has accepted no step
  unfoldable pub attempts : (left : ℕ) (j_mat : List Float) → Current → Run After
  attempts zero j_mat s = done (over false s)
  attempts (suc left) j_mat s = if_solved (is_solved j_mat s) (candidate_params j_mat s) s (attempts left j_mat (raised s))

  -- the gradient's stop comes before any attempt; "Ten attempts an iteration."
  unfoldable pub if_stationary : Bool → (j_mat : List Float) → Current → Run After
  if_stationary true j_mat s = done (over true s)
  if_stationary false j_mat s = attempts 10 j_mat s

  -- ---- One iteration. It does not see the limit.
  unfoldable pub iteration : Current → Run After
  iteration s = do
    let t = counted s
    j_mat ← columns p_dim 0 t zero_jacobian
    if_stationary (is_stationary j_mat t) j_mat t

  -- `while iteration < max_iterations`: as many iterations are left
  unfoldable pub iterations : (left : ℕ) → Current → Run After
  iterations zero s = done (on s)
  iterations (suc left) s = iteration s >>= going_on (iterations left)

  -- before the first iteration; the first merit is of the surfaces as they are
  abbrev pub started : Surfaces → MeritEvaluation → Current
  started initial e = record {
    surfaces = initial;
    params = extracted o.variables initial;
    evaluation = e;
    initial_merit = e.total_merit;
    damping = o.config.initial_damping;
    iteration = 0;
  }

  -- ---- `DlsOptimizer::optimize`
  unfoldable pub damped : (initial : Surfaces) → Run OptimizationResult
  damped initial = do
    current_eval ← evaluate initial
    end ← iterations o.config.max_iterations (started initial current_eval)
    done (result_of end)
