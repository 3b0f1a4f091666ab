-- A damped run between two merits, as a row holds it: where it stands, the surfaces whose merit comes next, and how it goes on with that merit.
-- Over an optimizer and the starting surfaces, without job and turns. No evaluation and no trace stands in this file. Definitions only.
use Rattle.std.specs.Prelude.{ℕ, zero, suc, ◌-◌, Bool, true, false, List, ltb, Float}
use Rattle.floats.specs.Constants.{zero64}
use Rattle.variables.specs.Active.{num_active}
use Rattle.merit.specs.OperandTable.{zero_evaluation}
use Rattle.merit.specs.declared.types.MeritEvaluation.{MeritEvaluation}
use Rattle.runs.specs.declared.types.DampedState.{DampedState}
use Rattle.runs.specs.declared.types.OptimizationResult.{OptimizationResult}
use Rattle.runs.specs.Run.{Surfaces}
use Rattle.runs.specs.Zeros.{zero_surfaces, zero_operands, zero_params, zero_jacobian}
use Rattle.runs.specs.DampedRun.{Optimizer, Current, After, on, over, mark, counted, raised, started, presc_plus, presc_minus, with_differences}
use Rattle.runs.specs.DampedRun.{is_stationary, is_solved, candidate_params, test_presc, is_reduction, accepted}

-- Just before the first merit, one on either side for the Jacobian, a candidate's; or at the end. Any other number is the end too.
pub data Phase : Type 0 where
  first plus minus candidate finished : Phase

unfoldable pub phase_of : ℕ → Phase
phase_of zero = first
phase_of (suc zero) = plus
phase_of (suc (suc zero)) = minus
phase_of (suc (suc (suc zero))) = candidate
phase_of (suc (suc (suc (suc n)))) = finished

-- what the loops hold, read off the row
abbrev pub current_of : DampedState → Current
current_of d = record {
  surfaces = d.surfaces;
  params = d.params;
  evaluation = d.evaluation;
  initial_merit = d.initial_merit;
  damping = d.damping;
  iteration = d.iteration;
}

-- ---- Each phase's state: what the phase does not use is zero
-- surfaces, parameters and a candidate alone
abbrev pub holding : (phase : ℕ) (surfaces : Surfaces) (params trial : List Float) → DampedState
holding n surfaces params trial = record {
  surfaces = surfaces;
  jacobian = zero_jacobian;
  evaluation = zero_evaluation;
  plus_residuals = zero_operands;
  params = params;
  candidate = trial;
  initial_merit = zero64;
  damping = zero64;
  phase = n;
  iteration = 0;
  column = 0;
  attempt = 0;
  converged = 0;
}

abbrev pub at_first : Surfaces → DampedState
at_first initial = holding 0 initial zero_params zero_params

-- in the loops, with the entries that differ from phase to phase
abbrev pub within : (phase : ℕ) → Current → (j_mat plus_residuals candidate : List Float) (column attempt : ℕ) → DampedState
within n s j_mat plus_residuals c q k = record {
  surfaces = s.surfaces;
  jacobian = j_mat;
  evaluation = s.evaluation;
  plus_residuals = plus_residuals;
  params = s.params;
  candidate = c;
  initial_merit = s.initial_merit;
  damping = s.damping;
  phase = n;
  iteration = s.iteration;
  column = q;
  attempt = k;
  converged = 0;
}

abbrev pub at_plus : Current → (j_mat : List Float) (column : ℕ) → DampedState
at_plus s j_mat q = within 1 s j_mat zero_operands zero_params q 0

abbrev pub at_minus : Current → (j_mat : List Float) (column : ℕ) (plus_residuals : List Float) → DampedState
at_minus s j_mat q plus_residuals = within 2 s j_mat plus_residuals zero_params q 0

-- attempt counts those begun, this one included
abbrev pub at_candidate : Current → (j_mat : List Float) (attempt : ℕ) (candidate : List Float) → DampedState
at_candidate s j_mat k c = within 3 s j_mat zero_operands c 0 k

abbrev pub ended : (converged : Bool) → Current → DampedState
ended c s = record {
  surfaces = s.surfaces;
  jacobian = zero_jacobian;
  evaluation = s.evaluation;
  plus_residuals = zero_operands;
  params = zero_params;
  candidate = zero_params;
  initial_merit = s.initial_merit;
  damping = zero64;
  phase = 4;
  iteration = s.iteration;
  column = 0;
  attempt = 0;
  converged = mark c;
}

-- at the end, with nothing left
abbrev pub zero_at_end : DampedState
zero_at_end = holding 4 zero_surfaces zero_params zero_params

module _ (o : Optimizer) where
  -- ---- From where a loop is entered to just before the next merit, or to the end
  unfoldable pub resume_solved : Bool → (candidate j_mat : List Float) → Current → (attempt : ℕ) (next : DampedState) → DampedState
  resume_solved true c j_mat s k next = at_candidate s j_mat (suc k) c
  resume_solved false c j_mat s k next = next

  -- as many attempts are left, k are over
  unfoldable pub resume_attempts : (left : ℕ) (j_mat : List Float) → Current → (k : ℕ) → DampedState
  resume_attempts zero j_mat s k = ended false s
  resume_attempts (suc left) j_mat s k =
      resume_solved (is_solved o j_mat s) (candidate_params o j_mat s) j_mat s k (resume_attempts left j_mat (raised s) (suc k))

  unfoldable pub resume_stationary : Bool → (j_mat : List Float) → Current → DampedState
  resume_stationary true j_mat s = ended true s
  resume_stationary false j_mat s = resume_attempts 10 j_mat s 0

  -- whether there is a column q
  unfoldable pub resume_columns : Bool → (j_mat : List Float) → Current → (q : ℕ) → DampedState
  resume_columns true j_mat s q = at_plus s j_mat q
  resume_columns false j_mat s q = resume_stationary (is_stationary o j_mat s) j_mat s

  -- whether there is another iteration
  unfoldable pub resume_iterations : Bool → Current → DampedState
  resume_iterations true s = resume_columns (ltb 0 (num_active o.variables)) zero_jacobian (counted s) 0
  resume_iterations false s = ended false s

  unfoldable pub resume_after : After → DampedState
  resume_after (on s) = resume_iterations (ltb s.iteration o.config.max_iterations) s
  resume_after (over converged s) = ended converged s

  unfoldable pub resume_reduced : Bool → DampedState → MeritEvaluation → DampedState
  resume_reduced true d e = resume_after (accepted o d.candidate e (current_of d))
  resume_reduced false d e = resume_attempts (10 - d.attempt) d.jacobian (raised (current_of d)) d.attempt

  -- ---- The surfaces whose merit comes next, and the state after that merit
  unfoldable pub pending_at : Phase → DampedState → Surfaces
  pending_at first d = d.surfaces
  pending_at plus d = presc_plus o (current_of d) d.column
  pending_at minus d = presc_minus o (current_of d) d.column
  pending_at candidate d = test_presc o d.candidate (current_of d)
  pending_at finished d = d.surfaces

  unfoldable pub advance_at : Phase → DampedState → MeritEvaluation → DampedState
  advance_at first d e = resume_after (on (started o d.surfaces e))
  advance_at plus d e = at_minus (current_of d) d.jacobian d.column e.residuals
  advance_at minus d e =
      resume_columns (ltb (suc d.column) (num_active o.variables))
      (with_differences o (current_of d) d.column d.jacobian d.plus_residuals e.residuals) (current_of d) (suc d.column)
  advance_at candidate d e = resume_reduced (is_reduction o e (current_of d)) d e
  advance_at finished d e = d

  unfoldable pub pending : DampedState → Surfaces
  pending d = pending_at (phase_of d.phase) d

  unfoldable pub advance : DampedState → MeritEvaluation → DampedState
  advance d e = advance_at (phase_of d.phase) d e

unfoldable pub finished_at : Phase → Bool
finished_at first = false
finished_at plus = false
finished_at minus = false
finished_at candidate = false
finished_at finished = true

unfoldable pub is_finished : DampedState → Bool
is_finished d = finished_at (phase_of d.phase)

abbrev pub result_of : DampedState → OptimizationResult
result_of d = record {
  surfaces = d.surfaces;
  values = d.evaluation.values;
  residuals = d.evaluation.residuals;
  initial_merit = d.initial_merit;
  final_merit = d.evaluation.total_merit;
  iterations = d.iteration;
  converged = d.converged;
}
