-- "12. Turn, fetch: the row's job or surfaces would be refused on admission to an empty place, its kind or phase is none of those here, or a counter
-- passes its limit". No evaluation and no trace stands in this file. Definitions only.
use Rattle.std.specs.Prelude.{ℕ, max, Bool, true, false, not, ◌&&◌, ◌||◌, ltb, eqb}
use Rattle.optics.specs.Check.{surfaces_taken}
use Rattle.variables.specs.Active.{num_active}
use Rattle.jobs.specs.declared.types.Job.{Job}
use Rattle.jobs.specs.declared.types.Method.{Method}
use Rattle.jobs.specs.declared.types.Method.TheVariants.{Damped, MultiStart, Annealing}
use Rattle.jobs.specs.Defaults.{polish_settings}
use Rattle.jobs.specs.Checks.{record_taken}
use Rattle.runs.specs.declared.types.Row.{Row}
use Rattle.runs.specs.Run.{Surfaces}
use Rattle.runs.specs.State.{State, state_of}
use Rattle.runs.specs.Rows.{job_of_row, is_finished, finished_by, bound}

-- ---- (a) "its kind .. is none of those here"
abbrev pub is_kind : ℕ → Bool
is_kind kind = eqb kind 1 || eqb kind 2 || eqb kind 3

-- ---- (b) "or phase": damped and multi-start have first, plus, minus, candidate and finished, 0 to 4; annealing has those for its polish, and walk-first
-- and walk before it, 5 and 6
abbrev pub last_phase : Method → ℕ
last_phase (Damped config) = 4
last_phase (MultiStart config) = 4
last_phase (Annealing config) = 6

abbrev pub is_phase : Method → (phase : ℕ) → Bool
is_phase m phase = not (ltb (last_phase m) phase)

-- ---- (d) "or surfaces": those in use
-- the current surfaces, in every phase but multi-start finished
abbrev pub uses_current : Method → State → Bool
uses_current (Damped config) s = true
uses_current (MultiStart config) s = not (finished_by (MultiStart config) s)
uses_current (Annealing config) s = true

-- the best surfaces, in multi-start from trial 1 on and when finished, and in annealing's walk
abbrev pub uses_best : Method → State → Bool
uses_best (Damped config) s = false
uses_best (MultiStart config) s = ltb 0 s.trial || finished_by (MultiStart config) s
uses_best (Annealing config) s = eqb s.damped.phase 6

abbrev pub taken_if : Bool → Surfaces → (count : ℕ) → Bool
taken_if used surfaces count = not used || surfaces_taken surfaces count

unfoldable pub surfaces_sound : Method → (surface_count : ℕ) → State → Bool
surfaces_sound m count s = taken_if (uses_current m s) s.damped.surfaces count && taken_if (uses_best m s) s.best.surfaces count

-- ---- (e) "a counter passes its limit (column, attempt, iteration, trial, cycle, step": in every phase, used there or not; a kind that lacks the counter has
-- limit 0 for it
abbrev pub iteration_limit : Method → ℕ
iteration_limit (Damped config) = config.max_iterations
iteration_limit (MultiStart config) = config.local_dls_config.max_iterations
iteration_limit (Annealing config) = polish_settings.max_iterations

abbrev pub trial_limit : Method → ℕ
trial_limit (Damped config) = 0
trial_limit (MultiStart config) = config.num_trials
trial_limit (Annealing config) = 0

abbrev pub cycle_limit : Method → ℕ
cycle_limit (Damped config) = 0
cycle_limit (MultiStart config) = 0
cycle_limit (Annealing config) = config.max_cooling_cycles

abbrev pub step_limit : Method → ℕ
step_limit (Damped config) = 0
step_limit (MultiStart config) = 0
step_limit (Annealing config) = config.steps_per_temperature

abbrev pub up_to : (limit n : ℕ) → Bool
up_to limit n = not (ltb limit n)

unfoldable pub counters_sound : Method → (p : ℕ) → State → Bool
counters_sound m p s =
    ltb s.damped.column p
    && up_to 10 s.damped.attempt
    && up_to (iteration_limit m) s.damped.iteration
    && up_to (trial_limit m) s.trial
    && ltb s.cycle (max (cycle_limit m) 1)
    && ltb s.step (max (step_limit m) 1)

-- ---- (f) "or unfinished turns at the job's bound)"
unfoldable pub turns_sound : Row → Bool
turns_sound r = is_finished r || ltb r.turns (bound (job_of_row r))

-- (b), (d) and (e): what the run's state has to be
unfoldable pub state_sound : Method → Job → State → Bool
state_sound m job s =
    is_phase m s.damped.phase
    && surfaces_sound m job.prescription.surface_count s
    && counters_sound m (num_active job.variables) s

-- (a) and (c): what the kept job has to be; it is the one that would be admitted to an empty place, and each of its numbers for a kind is one
unfoldable pub job_sound : Row → Bool
job_sound r = is_kind r.kind && record_taken r.kind r.job

unfoldable pub damaged : Row → Bool
damaged r = not (job_sound r && state_sound (job_of_row r).method (job_of_row r) (state_of r) && turns_sound r)
