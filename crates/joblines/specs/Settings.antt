-- The settings of the three kinds of run. Definitions only.
use Rattle.std.specs.Prelude.{ℕ, cond, List, [], ◌∷◌, eqb, Float, Option, None, Some, Ok}
use Rattle.jobs.specs.declared.types.MethodRequest.TheVariants.{Damped, MultiStart, Annealing}
use Rattle.text.specs.declared.reader.Why.TheVariants.{Kind}
use Rattle.text.specs.Fields.{field_of}
use Rattle.text.specs.Reader.{then, number_from, float_from, begins_with, past_word, wrong}
use Rattle.jobs.specs.declared.types.DlsRequest.{DlsRequest}
use Rattle.jobs.specs.declared.types.MethodRequest.{MethodRequest}
use Rattle.joblines.specs.Entries.{Form}

-- a setting that is left out is written `d`
abbrev pub left_out : List ℕ
left_out = 100 ∷ []

-- none where a setting is left out, and else the one that is given
abbrev pub setting_from : {A : Type 0} → (given : Form A) → Form (Option A)
setting_from given line at =
    cond (begins_with line at left_out) (Ok (field_of (past_word line at) None))
    (then (given line at) (λ x. Ok (field_of x.to (Some x.value))))

-- a count in decimal, or a seed in hexadecimal
unfoldable pub count_from : (base : ℕ) → Form (Option ℕ)
count_from base = setting_from (number_from base)

unfoldable pub float_setting_from : Form (Option Float)
float_setting_from = setting_from float_from

-- limit damping merit_tolerance gradient_tolerance relative_step
unfoldable pub damped_from : Form DlsRequest
damped_from line at =
    then (count_from 10 line at) (λ limit.
    then (float_setting_from line limit.to) (λ damping.
    then (float_setting_from line damping.to) (λ merit.
    then (float_setting_from line merit.to) (λ gradient.
    then (float_setting_from line gradient.to) (λ step.
    Ok (field_of step.to (record {
      max_iterations = limit.value;
      initial_damping = damping.value;
      relative_merit_tolerance = merit.value;
      gradient_tolerance = gradient.value;
      finite_difference_relative_step = step.value;
    })))))))

-- kind 1: these alone
abbrev pub damped_method_from : Form MethodRequest
damped_method_from line at = then (damped_from line at) (λ local. Ok (field_of local.to (Damped local.value)))

-- kind 2: the same, then trials seed
unfoldable pub multi_start_from : Form MethodRequest
multi_start_from line at =
    then (damped_from line at) (λ local.
    then (count_from 10 line local.to) (λ trials.
    then (count_from 16 line trials.to) (λ seed.
    Ok (field_of seed.to (MultiStart (record { local_dls_config = local.value; num_trials = trials.value; seed = seed.value }))))))

-- kind 3: temperature cooling steps-per-temperature cycles seed
unfoldable pub annealing_from : Form MethodRequest
annealing_from line at =
    then (float_setting_from line at) (λ temperature.
    then (float_setting_from line temperature.to) (λ cooling.
    then (count_from 10 line cooling.to) (λ steps.
    then (count_from 10 line steps.to) (λ cycles.
    then (count_from 16 line cycles.to) (λ seed.
    Ok (field_of seed.to (Annealing (record {
      initial_temperature = temperature.value;
      cooling_rate = cooling.value;
      steps_per_temperature = steps.value;
      max_cooling_cycles = cycles.value;
      seed = seed.value;
    }))))))))

-- the settings of a kind; a line of any other is out of form
unfoldable pub method_from : (kind : ℕ) → Form MethodRequest
method_from kind line at =
    cond (eqb kind 1) (damped_method_from line at)
    (cond (eqb kind 2) (multi_start_from line at)
    (cond (eqb kind 3) (annealing_from line at) (wrong Kind at)))
