-- "Turned down because of the input": what is checked of a job on admission. The place, 2, and whether it is taken, 10, are the bench's. Definitions only.
use Rattle.std.specs.Prelude.{ℕ, Bool, not, ◌&&◌, List, [], ◌∷◌, leb, eqb, Float}
use Rattle.std.specs.Float.{binary64}
use Rattle.std.specs.Float.Ieee.{le, of_bits}
use Rattle.floats.specs.Basic.{finite_of}
use Rattle.floats.specs.Constants.{zero64, one64}
use Rattle.lists.specs.Refusals.{Refusal, refusal, first_refusal}
use Rattle.optics.specs.Check.{lens_taken}
use Rattle.optics.specs.Kept.{lens_counts_taken}
use Rattle.variables.specs.Active.{num_active}
use Rattle.variables.specs.Taken.{variables_taken, followers_taken}
use Rattle.merit.specs.Check.{operands_taken}
use Rattle.jobs.specs.declared.types.DlsConfig.{DlsConfig}
use Rattle.jobs.specs.declared.types.Job.{Job}
use Rattle.jobs.specs.declared.types.JobRecord.{JobRecord}
use Rattle.jobs.specs.declared.types.JobRequest.{JobRequest}
use Rattle.jobs.specs.declared.types.Method.{Method}
use Rattle.jobs.specs.declared.types.Method.TheVariants.{Damped, MultiStart, Annealing}
use Rattle.jobs.specs.declared.types.MultiStartConfig.{MultiStartConfig}
use Rattle.jobs.specs.declared.types.SimulatedAnnealingConfig.{SimulatedAnnealingConfig}
use Rattle.jobs.specs.Filled.{filled}
use Rattle.jobs.specs.Records.{job_of, known_kinds}

-- "from 0 to" top
unfoldable pub from_zero_to : (top : Float) → Float → Bool
from_zero_to top x = le zero64 x && le x top

-- 1e8
abbrev pub greatest_damping : Float
greatest_damping = of_bits binary64 0x4197_d784_0000_0000

-- "a count of iterations, trials, cycles or steps above 1,000"
abbrev pub count_taken : ℕ → Bool
count_taken n = leb n 1000

unfoldable pub dls_taken : DlsConfig → Bool
dls_taken c =
    from_zero_to greatest_damping c.initial_damping
    && from_zero_to one64 c.finite_difference_relative_step
    && finite_of c.relative_merit_tolerance
    && finite_of c.gradient_tolerance
    && count_taken c.max_iterations

unfoldable pub multi_start_taken : MultiStartConfig → Bool
multi_start_taken c = dls_taken c.local_dls_config && count_taken c.num_trials

unfoldable pub annealing_taken : SimulatedAnnealingConfig → Bool
annealing_taken c =
    from_zero_to one64 c.cooling_rate
    && finite_of c.initial_temperature
    && count_taken c.max_cooling_cycles
    && count_taken c.steps_per_temperature

-- the settings of the job's own kind
abbrev pub settings_taken : Method → Bool
settings_taken (Damped c) = dls_taken c
settings_taken (MultiStart c) = multi_start_taken c
settings_taken (Annealing c) = annealing_taken c

-- "at most 16 surfaces, 1 to 4 wavelength slots, at most 8 variables and 12 operands"
abbrev pub counts_taken : Job → Bool
counts_taken j =
    lens_counts_taken j.prescription.surface_count j.prescription.slot_count && leb j.variables.variable_count 8
    && leb j.merit_function.operand_count 12

-- ---- the causes
abbrev pub counts_wrong : Job → Bool
counts_wrong j = not (counts_taken j)

abbrev pub lens_refused : Job → Bool
lens_refused j = not (lens_taken j.prescription)

abbrev pub variables_refused : Job → Bool
variables_refused j = not (variables_taken j.prescription.surface_count j.variables)

abbrev pub followers_refused : Job → Bool
followers_refused j = not (followers_taken j.prescription.surface_count j.variables)

abbrev pub operands_refused : Job → Bool
operands_refused j = not (operands_taken j.prescription.slot_count j.merit_function)

abbrev pub settings_refused : Job → Bool
settings_refused j = not (settings_taken j.method)

abbrev pub no_active_variable : Job → Bool
no_active_variable j = eqb (num_active j.variables) 0

abbrev pub no_operand : Job → Bool
no_operand j = eqb j.merit_function.operand_count 0

abbrev pub job_refusals : Job → List Refusal
job_refusals j =
    -- "Counts outside those above"
    refusal 1 (counts_wrong j)
    -- "Radius NaN; conic not finite; thickness .. pupil or semi-diameter .. index .."
    ∷ refusal 3 (lens_refused j)
    -- "Any variable, enabled or not, with an absent surface, bounds .. step .."
    ∷ refusal 4 (variables_refused j)
    -- "an absent follower surface, or a follower with minus of a semi-diameter or thickness, gives 17, after 4 and before 5"
    ∷ refusal 17 (followers_refused j)
    -- "Operand with an absent slot, target or limit .. weight .."
    ∷ refusal 5 (operands_refused j)
    -- "Settings: initial damping .. relative step or cooling rate .. tolerance or temperature .. a count .."
    ∷ refusal 6 (settings_refused j)
    -- "No enabled variable in a job"
    ∷ refusal 7 (no_active_variable j)
    -- "No operand in a job"
    ∷ refusal 8 (no_operand j)
    ∷ []

-- a request is checked with its settings filled in
abbrev pub admission_refusals : JobRequest → List Refusal
admission_refusals r = job_refusals (filled r)

-- the job would be admitted to an empty place
abbrev pub job_taken : Job → Bool
job_taken j = eqb (first_refusal (job_refusals j)) 0

-- a row's job: "would be refused on admission to an empty place", or holds a number that is no kind, mark or sign
abbrev pub record_taken : (kind : ℕ) → JobRecord → Bool
record_taken kind r = job_taken (job_of kind r) && known_kinds r
