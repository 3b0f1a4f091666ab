-- What a damped run that a row holds still has to do. No evaluation and no trace stands in this file. Definitions only.
use Rattle.std.specs.Prelude.{ℕ, suc, ◌-◌}
use Rattle.variables.specs.Active.{num_active}
use Rattle.runs.specs.declared.types.DampedState.{DampedState}
use Rattle.runs.specs.declared.types.OptimizationResult.{OptimizationResult}
use Rattle.runs.specs.Run.{Run, done, ask, evaluate, ◌>>=◌}
use Rattle.runs.specs.DampedRun.{Optimizer, After, on, raised, started, presc_plus, presc_minus, with_differences, columns, is_stationary, if_stationary}
use Rattle.runs.specs.DampedRun.{test_presc, is_reduction, if_reduced, attempts, going_on, iterations}
use Rattle.runs.specs.DampedRun as Reference
use Rattle.runs.specs.DampedRow.{Phase, first, plus, minus, candidate, finished, phase_of, current_of, result_of}

module _ (o : Optimizer) where
  -- after an iteration that ended so, with as many left
  abbrev pub rest : (left : ℕ) → After → Run OptimizationResult
  rest left end = do
    last ← going_on (iterations o left) end
    done (Reference.result_of last)

  -- the iterations left of this run
  abbrev left : DampedState → ℕ
  left d = o.config.max_iterations - d.iteration

  unfoldable pub resumption_at : Phase → DampedState → Run OptimizationResult
  resumption_at first d = ask d.surfaces λ current_eval. rest o.config.max_iterations (on (started o d.surfaces current_eval))
  resumption_at plus d = ask (presc_plus o (current_of d) d.column) λ eval_plus. do
    eval_minus ← evaluate (presc_minus o (current_of d) d.column)
    j_mat ← columns o (num_active o.variables - suc d.column) (suc d.column) (current_of d)
        (with_differences o (current_of d) d.column d.jacobian eval_plus.residuals eval_minus.residuals)
    end ← if_stationary o (is_stationary o j_mat (current_of d)) j_mat (current_of d)
    rest (left d) end
  resumption_at minus d = ask (presc_minus o (current_of d) d.column) λ eval_minus. do
    j_mat ← columns o (num_active o.variables - suc d.column) (suc d.column) (current_of d)
        (with_differences o (current_of d) d.column d.jacobian d.plus_residuals eval_minus.residuals)
    end ← if_stationary o (is_stationary o j_mat (current_of d)) j_mat (current_of d)
    rest (left d) end
  resumption_at candidate d = ask (test_presc o d.candidate (current_of d)) λ test_eval. do
    end ← if_reduced o (is_reduction o test_eval (current_of d)) d.candidate test_eval (current_of d)
        (attempts o (10 - d.attempt) d.jacobian (raised (current_of d)))
    rest (left d) end
  resumption_at finished d = done (result_of d)

  unfoldable pub resumption : DampedState → Run OptimizationResult
  resumption d = resumption_at (phase_of d.phase) d
