-- What the bench's calls refuse because of their input: 2, 9, and what admit checks of a request. Definitions only.
use Rattle.std.specs.Prelude.{ℕ, Bool, not, List, [], ◌∷◌, ltb}
use Rattle.lists.specs.Refusals.{Refusal, refusal}
use Rattle.normal.specs.Layout.{scratch_length}
use Rattle.jobs.specs.declared.types.JobRequest.{JobRequest}
use Rattle.jobs.specs.Checks.{counts_wrong, lens_refused, variables_refused, followers_refused, operands_refused, settings_refused, no_active_variable}
use Rattle.jobs.specs.Checks.{no_operand}
use Rattle.jobs.specs.Filled.{filled}

-- "2. Place above 3."
abbrev pub no_place : (place : ℕ) → Bool
no_place place = not (ltb place 4)

-- "Scratch from 128 upward is taken, and 9 is now given below 128." (request 11)
abbrev pub scratch_short : (length : ℕ) → Bool
scratch_short length = ltb length scratch_length

-- "Admit checks 1 to 8 and 10", and 17: the request with its settings filled in (each cause is said in `jobs`, `Checks`), the place, and whether that is taken
abbrev pub admit_refusals : (place : ℕ) → JobRequest → (taken : Bool) → List Refusal
admit_refusals place request taken =
    -- "Counts outside those above"
    refusal 1 (counts_wrong (filled request))
    ∷ refusal 2 (no_place place)
    -- "Radius NaN; conic not finite; thickness .. pupil or semi-diameter .. index .."
    ∷ refusal 3 (lens_refused (filled request))
    -- "Any variable, enabled or not, with an absent surface, bounds .. step .."
    ∷ refusal 4 (variables_refused (filled request))
    -- "an absent follower surface, or a follower with minus .., gives 17, after 4 and before 5"
    ∷ refusal 17 (followers_refused (filled request))
    -- "Operand with an absent slot, target or limit .. weight .."
    ∷ refusal 5 (operands_refused (filled request))
    -- "Settings: initial damping .. relative step or cooling rate .. tolerance or temperature .. a count .."
    ∷ refusal 6 (settings_refused (filled request))
    -- "No enabled variable in a job." "No operand in a job."
    ∷ refusal 7 (no_active_variable (filled request))
    ∷ refusal 8 (no_operand (filled request))
    -- "Admit: place taken."
    ∷ refusal 10 taken
    ∷ []
