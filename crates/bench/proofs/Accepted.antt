-- "Ruled out by the lists: refusing every drawing": a request of each kind of run is admitted, whatever stands past its counts, and one at all limits.
-- Assumes nothing.
use Rattle.std.specs.Prelude.{◌≡◌, refl}
use Rattle.std.specs.Float.Ieee.{neg, lt, le, is_nan, of_bits}
use Rattle.floats.specs.Basic.{finite_of}
use Rattle.lists.specs.All.{all_below}
use Rattle.lists.specs.Tab.{tab}
use Rattle.optics.specs.Check.{within, above_zero_up_to, surface_taken, lens_taken}
use Rattle.variables.specs.Active.{enabled_of}
use Rattle.variables.specs.Taken.{variable_taken, variables_taken, followers_taken}
use Rattle.merit.specs.Check.{kind_taken, weight_taken, operand_taken}
use Rattle.jobs.specs.Checks.{from_zero_to, dls_taken, multi_start_taken, annealing_taken}
use Rattle.jobs.specs.Sample.{Unused, request, damped, multi_start, annealing}
use Rattle.jobs.specs.declared.types.JobRequest.{JobRequest}
use Rattle.bench.specs.Benches.{zero_row, empty_bench}
use Rattle.bench.specs.Calls.{admit_number}
use Rattle.bench.specs.Limits as Limits
use Rattle.bench.specs.Limits.{at_limits}

-- `admit` takes the request at place 0 of the empty bench
abbrev pub Admitted : JobRequest → Type 0
Admitted r = admit_number empty_bench 0 r ≡ 0

-- the lens with a thickness variable
pub drawings-admitted : (u : Unused) → Admitted (request u damped) × Admitted (request u multi_start) × Admitted (request u annealing)
unfolding neg lt le is_nan of_bits finite_of all_below within above_zero_up_to surface_taken lens_taken enabled_of variable_taken variables_taken
    followers_taken kind_taken
    weight_taken operand_taken from_zero_to dls_taken multi_start_taken annealing_taken zero_row tab admit_number
drawings-admitted u = (refl, refl, refl)

-- "at most 16 surfaces, 1 to 4 wavelength slots, at most 8 variables and 12 operands": so many are admitted, all numbers and settings at their limits
pub limits-admitted : Admitted (at_limits 16 4 8 12 Limits.damped) × Admitted (at_limits 16 4 8 12 Limits.multi_start)
    × Admitted (at_limits 16 4 8 12 Limits.annealing)
unfolding neg lt le is_nan of_bits finite_of all_below within above_zero_up_to surface_taken lens_taken enabled_of variable_taken variables_taken
    followers_taken kind_taken
    weight_taken operand_taken from_zero_to dls_taken multi_start_taken annealing_taken zero_row tab admit_number
limits-admitted = (refl, refl, refl)

abbrev Counted : JobRequest → Type 0
Counted r = admit_number empty_bench 0 r ≡ 1

-- one more of any, or no slot, is refused with 1
pub past-limits : Counted (at_limits 17 4 8 12 Limits.damped) × Counted (at_limits 16 5 8 12 Limits.damped) × Counted (at_limits 16 0 8 12 Limits.damped)
    × Counted (at_limits 16 4 9 12 Limits.damped) × Counted (at_limits 16 4 8 13 Limits.damped)
unfolding zero_row tab admit_number
past-limits = (refl, refl, refl, refl, refl)
