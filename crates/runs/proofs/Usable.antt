-- What a job that would be admitted has for its runs: applying its variables keeps check 3, its surfaces pass it, and a variable is enabled. Assumes nothing.
use Rattle.std.specs.Prelude.{◌≡◌, true, List, ℕ, ◌<◌, T, Float}
use Rattle.lists.specs.All.{all-at, all_from}
use Rattle.optics.specs.Types.{surface_at}
use Rattle.optics.specs.Check.{surface_taken, surfaces_taken}
use Rattle.optics.specs.CheckLaws.{lens-parts}
use Rattle.variables.specs.Active.{num_active}
use Rattle.variables.proofs.Keeps.{applied-taken}
use Rattle.variables.specs.Values.{applied}
use Rattle.jobs.specs.declared.types.Job.{Job}
use Rattle.jobs.specs.Checks.{job_taken}
use Rattle.jobs.specs.Passed.{passed}
use Rattle.runs.specs.Run.{Surfaces}
use Rattle.runs.specs.JobRun.{base_of}

pub record Usable (job : Job) : Type 0 where
  pub applies : (values : List Float) (x : Surfaces) → T (surfaces_taken x job.prescription.surface_count)
      → T (surfaces_taken (applied job.variables values x) job.prescription.surface_count)
  pub based : T (surfaces_taken (base_of job) job.prescription.surface_count)
  pub enabled : 0 < num_active job.variables

pub usable : (job : Job) → job_taken job ≡ true → Usable job
usable job taken =
    let n = job.prescription.surface_count in
    let v = job.variables in
    let has = passed job taken in
    record {
      applies =
          λ values x h. all_from (λ (i : ℕ). surface_taken (surface_at (applied v values x) i)) n
          (λ i l. applied-taken n v has.variables has.followers values x i (all-at (λ (i : ℕ). surface_taken (surface_at x i)) n i h l));
      based = all_from (λ (i : ℕ). surface_taken (surface_at (base_of job) i)) n (lens-parts job.prescription has.lens).surfaces;
      enabled = has.enabled;
    }
