-- Whole damped runs that are known, of a lens that is 2 thick where 3 is wanted. They refuse what definition and code could have wrong alike: a run that stays
-- where it begins, and of 01's mistakes to expect "Testing the gradient after the attempts", "Calling a non-finite gradient a failure" and "Raising damping
-- only after merits worked out". Assumes nothing.
use Rattle.std.specs.Prelude.{◌≡◌, refl, true, ◌∷◌, ℕ, Float}
use Rattle.std.specs.Float.{binary64}
use Rattle.std.specs.Float.Ieee.{neg, lt, le, eq, add, sub, mul, div, is_nan, of_bits}
use Rattle.floats.specs.Basic.{magnitude, finite_of}
use Rattle.floats.specs.Constants.{zero64}
use Rattle.floats.specs.Sqrt.{sqrt_of}
use Rattle.lists.specs.Tab.{tab}
use Rattle.lists.specs.All.{all_below}
use Rattle.optics.specs.Types.{surface_at}
use Rattle.variables.specs.Active.{enabled_of}
use Rattle.variables.specs.Values.{extracted, clamped_values, applied_to, applied}
use Rattle.variables.specs.declared.types.Follower.TheVariants.{None}
use Rattle.variables.specs.declared.types.VariableType.TheVariants.{Thickness}
use Rattle.merit.specs.declared.types.OperandType.TheVariants.{MinCenterThickness}
use Rattle.merit.specs.Operands.{finite_or, shortfall, value_of}
use Rattle.merit.specs.Evaluation.{difference, residual, term, total, counted_total, values_after}
use Rattle.normal.specs.Products.{sum_of, normal_product, gradient_of, norm_of}
use Rattle.normal.specs.Damping.{damped, damped_system}
use Rattle.normal.specs.Elimination.{pivot_row, exchanged, reduced, pivoted, eliminated, pivot_of, solvable, right_side, unknowns, solution_of}
use Rattle.normal.specs.Step.{step_of, step_found}
use Rattle.jobs.specs.declared.types.DlsConfig.{DlsConfig}
use Rattle.jobs.specs.declared.types.Job.{Job}
use Rattle.jobs.specs.declared.types.Method.TheVariants.{Damped}
use Rattle.jobs.specs.Defaults.{damped_defaults}
use Rattle.jobs.specs.Sample.{Unused, operand, lens, n1, n2, n16, n64}
use Rattle.runs.specs.Run.{bind, value}
use Rattle.runs.proofs.Asked.{merit_count}
use Rattle.runs.specs.DampedRun as Run
use Rattle.runs.specs.JobRun.{Result, run_by, run}
use Rattle.runs.specs.JobMerit.{evaluate_of}

abbrev pub n3 : Float
n3 = of_bits binary64 0x4008_0000_0000_0000

-- 1/4 and 2.5
abbrev quarter : Float
quarter = of_bits binary64 0x3fd0_0000_0000_0000

abbrev two_and_half : Float
two_and_half = of_bits binary64 0x4004_0000_0000_0000

-- 2^-1060: times 1e-6 it is zero, and so are 5 and 25 times as much, but not 125 times
abbrev small_damping : Float
small_damping = of_bits binary64 0x4000

-- 2^1020: a weight whose root is 2^510
abbrev great_weight : Float
great_weight = of_bits binary64 0x7fb0_0000_0000_0000

-- the first thickness may go from one bound to the other, in steps of 1
abbrev too_thin : Unused → (least greatest weight : Float) → DlsConfig → Job
too_thin u least greatest weight config = record {
  prescription = lens u n64 n2;
  variables = record {
    variables = record { var_type = Thickness 0; min_value = least; max_value = greatest; step_size = n1; enabled = true; follower = None }
        ∷ u.variables;
    variable_count = 1;
  };
  merit_function = record { operands = operand (MinCenterThickness 0 n3) zero64 weight ∷ u.operands; operand_count = 1 };
  method = Damped config;
}

-- "One thickness variable, bounds both at its value"
abbrev still : Unused → DlsConfig → Job
still u config = too_thin u n2 n2 n1 config

-- one iteration, damping 1, tolerances and relative step 0
abbrev one_iteration : DlsConfig
one_iteration = record {
  max_iterations = 1;
  initial_damping = n1;
  relative_merit_tolerance = zero64;
  gradient_tolerance = zero64;
  finite_difference_relative_step = zero64;
}

-- the defaults with another damping and gradient tolerance 0
abbrev without_tolerance : (damping : Float) → DlsConfig
without_tolerance damping = record {
  max_iterations = damped_defaults.max_iterations;
  initial_damping = damping;
  relative_merit_tolerance = damped_defaults.relative_merit_tolerance;
  gradient_tolerance = zero64;
  finite_difference_relative_step = damped_defaults.finite_difference_relative_step;
}

-- what a job comes to
abbrev result_for : Job → Result
result_for job = value (evaluate_of job) (run job)

-- its run takes so many turns, and its result has so many iterations and this mark
pub record Ends (job : Job) (turns iterations converged : ℕ) : Type 0 where
  pub in_turns : merit_count (evaluate_of job) (run job) ≡ turns
  pub counts : (result_for job).iterations ≡ iterations
  pub marked : (result_for job).converged ≡ converged

-- its final merit, and the thickness that it leaves
pub record Leaves (job : Job) (merit thickness : Float) : Type 0 where
  pub at_merit : (result_for job).final_merit ≡ merit
  pub at_thickness : (surface_at (result_for job).surfaces 0).thickness_mm ≡ thickness

pub record KnownRuns (u : Unused) : Type 0 where
  -- with damping 1 half the way to 3
  pub half_way : Leaves (too_thin u n1 n16 n1 one_iteration) quarter two_and_half
  -- "One thickness variable, bounds both at its value, defaults: 3 turns, 1 iteration, converged."
  pub defaults : Ends (still u damped_defaults) 3 1 1
  -- "Gradient tolerance 0: 13 turns, not converged."
  pub no_tolerance : Ends (still u (without_tolerance damped_defaults.initial_damping)) 13 1 0
  -- "Initial damping 0 as well: 3 turns."
  pub no_damping : Ends (still u (without_tolerance zero64)) 3 1 0
  -- three attempts find no solution, and the damping is raised after each all the same: the seven behind them have a merit
  pub raised_unsolved : Ends (still u (without_tolerance small_damping)) 10 1 0
  -- free to move, and the gradient's norm overflows: converged before any attempt
  pub infinite_gradient : Ends (too_thin u n1 n16 great_weight (without_tolerance damped_defaults.initial_damping)) 3 1 1

pub known-runs : (u : Unused) → KnownRuns u
unfolding of_bits neg lt le eq add sub mul div is_nan magnitude finite_of sqrt_of tab all_below enabled_of extracted clamped_values applied_to applied finite_or
    shortfall value_of difference residual term total counted_total values_after sum_of normal_product gradient_of norm_of damped damped_system pivot_row
    exchanged
    reduced pivoted eliminated pivot_of solvable right_side unknowns solution_of step_of step_found bind value Run.damped Run.iterations Run.iteration
    Run.columns
    Run.if_stationary Run.is_stationary Run.attempts Run.if_solved Run.is_solved Run.candidate_params Run.test_presc Run.is_reduction Run.if_reduced
    Run.accepted
    Run.rel_improvement Run.settled Run.going_on Run.p_plus Run.p_minus Run.presc_plus Run.presc_minus Run.denom Run.with_differences run_by run evaluate_of
    merit_count
known-runs u = record {
  half_way = record { at_merit = refl; at_thickness = refl };
  defaults = record { in_turns = refl; counts = refl; marked = refl };
  no_tolerance = record { in_turns = refl; counts = refl; marked = refl };
  no_damping = record { in_turns = refl; counts = refl; marked = refl };
  raised_unsolved = record { in_turns = refl; counts = refl; marked = refl };
  infinite_gradient = record { in_turns = refl; counts = refl; marked = refl };
}
