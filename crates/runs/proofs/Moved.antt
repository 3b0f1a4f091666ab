-- A damped run that moves, half the way from thickness 2 to 3, since the damping is 1: a run that stays where it begins meets every other law. Assumes
-- nothing.
use Rattle.std.specs.Prelude.{◌≡◌, refl, true, ◌∷◌, Float}
use Rattle.std.specs.Float.{binary64}
use Rattle.std.specs.Float.Ieee.{neg, lt, le, eq, add, sub, mul, div, is_nan, of_bits}
use Rattle.floats.specs.Basic.{magnitude, finite_of}
use Rattle.floats.specs.Constants.{zero64}
use Rattle.floats.specs.Sqrt.{sqrt_of}
use Rattle.lists.specs.Tab.{tab}
use Rattle.lists.specs.All.{all_below}
use Rattle.optics.specs.Types.{surface_at}
use Rattle.variables.specs.Active.{enabled_of}
use Rattle.variables.specs.Values.{extracted, clamped_values, applied_to, applied}
use Rattle.variables.specs.declared.types.Follower.TheVariants.{None}
use Rattle.variables.specs.declared.types.VariableType.TheVariants.{Thickness}
use Rattle.merit.specs.declared.types.OperandType.TheVariants.{MinCenterThickness}
use Rattle.merit.specs.Operands.{finite_or, shortfall, value_of}
use Rattle.merit.specs.Evaluation.{difference, residual, term, total, counted_total, values_after}
use Rattle.normal.specs.Products.{sum_of, normal_product, gradient_of, norm_of}
use Rattle.normal.specs.Damping.{damped, damped_system}
use Rattle.normal.specs.Elimination.{pivot_row, exchanged, reduced, pivoted, eliminated, pivot_of, solvable, right_side, unknowns, solution_of}
use Rattle.normal.specs.Step.{step_of, step_found}
use Rattle.jobs.specs.declared.types.DlsConfig.{DlsConfig}
use Rattle.jobs.specs.declared.types.Job.{Job}
use Rattle.jobs.specs.declared.types.Method.TheVariants.{Damped}
use Rattle.jobs.specs.Sample.{Unused, operand, lens, n1, n2, n16, n64}
use Rattle.runs.specs.Run.{bind, value}
use Rattle.runs.specs.DampedRun as Run
use Rattle.runs.specs.JobRun.{Result, run_by, run}
use Rattle.runs.specs.JobMerit.{evaluate_of}

abbrev pub n3 : Float
n3 = of_bits binary64 0x4008_0000_0000_0000

-- 1/4 and 2.5
abbrev pub quarter : Float
quarter = of_bits binary64 0x3fd0_0000_0000_0000

abbrev pub two_and_half : Float
two_and_half = of_bits binary64 0x4004_0000_0000_0000

-- one damped iteration, damping 1, tolerances 0
abbrev one_iteration : DlsConfig
one_iteration = record {
  max_iterations = 1;
  initial_damping = n1;
  relative_merit_tolerance = zero64;
  gradient_tolerance = zero64;
  finite_difference_relative_step = zero64;
}

-- the lens is 2 thick, and 3 or more is wanted, weight 1; its thickness may go from 1 to 16, in steps of 1
abbrev too_thin : Unused → Job
too_thin u = record {
  prescription = lens u n64 n2;
  variables = record {
    variables = record { var_type = Thickness 0; min_value = n1; max_value = n16; step_size = n1; enabled = true; follower = None } ∷ u.variables;
    variable_count = 1;
  };
  merit_function = record { operands = operand (MinCenterThickness 0 n3) zero64 n1 ∷ u.operands; operand_count = 1 };
  method = Damped one_iteration;
}

-- the result of the run
abbrev pub thickened : Unused → Result
thickened u = value (evaluate_of (too_thin u)) (run (too_thin u))

pub half-way : (u : Unused) → ((thickened u).final_merit ≡ quarter) × ((surface_at (thickened u).surfaces 0).thickness_mm ≡ two_and_half)
unfolding of_bits neg lt le eq add sub mul div is_nan magnitude finite_of sqrt_of tab all_below enabled_of extracted clamped_values applied_to applied finite_or
    shortfall value_of difference residual term total counted_total values_after sum_of normal_product gradient_of norm_of damped damped_system pivot_row
    exchanged
    reduced pivoted eliminated pivot_of solvable right_side unknowns solution_of step_of step_found bind value Run.damped Run.iterations Run.iteration
    Run.columns
    Run.if_stationary Run.is_stationary Run.attempts Run.if_solved Run.is_solved Run.candidate_params Run.test_presc Run.is_reduction Run.if_reduced
    Run.accepted
    Run.rel_improvement Run.settled Run.going_on Run.p_plus Run.p_minus Run.presc_plus Run.presc_minus Run.denom Run.with_differences run_by run evaluate_of
half-way u = (refl, refl)
