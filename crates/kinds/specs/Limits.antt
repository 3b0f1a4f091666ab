-- Counts of a job that is taken, as the damage test and the result need them. Assumes nothing.
use Rattle.std.specs.Prelude.{◌≡◌, Bool, true, ◌&&◌, ◌≤◌}
use Rattle.std.proofs.Math.Bool.{and-eq-true_iff}
use Rattle.std.specs.Float.Ieee.Bits.{is_true}
use Rattle.std.proofs.Common.{leb-true}
use Rattle.floats.specs.Basic.{finite_of}
use Rattle.floats.specs.Constants.{one64}
use Rattle.jobs.specs.declared.types.DlsConfig.{DlsConfig}
use Rattle.jobs.specs.declared.types.Job.{Job}
use Rattle.jobs.specs.declared.types.Method.{Method}
use Rattle.jobs.specs.declared.types.Method.TheVariants.{Damped, MultiStart, Annealing}
use Rattle.jobs.specs.Checks.{from_zero_to, greatest_damping, count_taken, dls_taken, multi_start_taken, annealing_taken, settings_taken, job_taken}
use Rattle.jobs.specs.Passed.{passed}

-- "a count of iterations, trials, cycles or steps above 1,000" is refused
abbrev pub CountsWithin : Method → Type 0
CountsWithin (Damped config) = config.max_iterations ≤ 1000
CountsWithin (MultiStart config) = (config.local_dls_config.max_iterations ≤ 1000) × (config.num_trials ≤ 1000)
CountsWithin (Annealing config) = (config.max_cooling_cycles ≤ 1000) × (config.steps_per_temperature ≤ 1000)

pub record Within (job : Job) : Type 0 where
  pub surfaces : job.prescription.surface_count ≤ 16
  pub variables : job.variables.variable_count ≤ 8
  pub counts : CountsWithin job.method

-- both of two tests
both : (x y : Bool) → x && y ≡ true → (x ≡ true) × (y ≡ true)
both x y e = (and-eq-true_iff x y).0 e

iterations-within : (c : DlsConfig) → dls_taken c ≡ true → c.max_iterations ≤ 1000
unfolding dls_taken
iterations-within c e =
    let others =
    from_zero_to greatest_damping c.initial_damping && from_zero_to one64 c.finite_difference_relative_step && finite_of c.relative_merit_tolerance
    && finite_of c.gradient_tolerance in
    leb-true _ _ (both others (count_taken c.max_iterations) e).1

counts-within : (m : Method) → settings_taken m ≡ true → CountsWithin m
unfolding multi_start_taken annealing_taken
counts-within (Damped c) e = iterations-within c e
counts-within (MultiStart c) e =
    let h = both (dls_taken c.local_dls_config) (count_taken c.num_trials) e in
    (iterations-within c.local_dls_config h.0, leb-true _ _ h.1)
counts-within (Annealing c) e =
    let others = from_zero_to one64 c.cooling_rate && finite_of c.initial_temperature in
    let h = both (others && count_taken c.max_cooling_cycles) (count_taken c.steps_per_temperature) e in
    (leb-true _ _ (both others (count_taken c.max_cooling_cycles) h.0).1, leb-true _ _ h.1)

pub taken-within : (job : Job) → job_taken job ≡ true → Within job
taken-within job e =
    let n = passed job e in
    record {
      surfaces = n.counted.surfaces;
      variables = n.counted.variables;
      counts = counts-within job.method (is_true (settings_taken job.method) n.settings);
    }
