-- Request 14, "Shorter runs as beginnings of longer ones": a damped job under one limit and another, where its iterations end, and what the request
-- says of that. The proof is in ShorterLaws.antt. Definitions only.
use Rattle.std.specs.Prelude.{◌≡◌, List, [], ◌∷◌, ℕ, zero, suc, ◌≤◌, ◌<◌, T, Float, length, get_or}
use Rattle.std.specs.Float.Ieee.{le}
use Rattle.merit.specs.declared.types.MeritEvaluation.{MeritEvaluation}
use Rattle.jobs.specs.declared.types.DlsConfig.{DlsConfig}
use Rattle.jobs.specs.declared.types.Job.{Job}
use Rattle.jobs.specs.declared.types.Method.TheVariants.{Damped}
use Rattle.runs.specs.Run.{Surfaces, value}
use Rattle.runs.specs.DampedRun.{Optimizer, Current, After, on, over, state_of, current_merit, result_of, iteration, iterations, started}
use Rattle.runs.specs.JobRun.{Result, base_of, optimizer_of, run}
use Rattle.runs.specs.JobMerit.{evaluate_of}

-- ---- Where iterations end
-- an end is noted; the run goes on from it, or is over
unfoldable pub noted : (more : Current → List After) → After → List After
noted more (on s) = on s ∷ more s
noted more (over converged s) = over converged s ∷ []

-- the ends of the iterations, one after the other, where as many are left as in `iterations`
unfoldable pub ends : (Surfaces → MeritEvaluation) → Optimizer → (left : ℕ) → Current → List After
ends f o zero s = []
ends f o (suc left) s = noted (ends f o left) (value f (iteration o s))

-- ---- "The designer raises the iteration limit": a damped job's settings, and the job, alike but for the limit
abbrev pub limited : DlsConfig → (limit : ℕ) → DlsConfig
limited config limit = record {
  max_iterations = limit;
  initial_damping = config.initial_damping;
  relative_merit_tolerance = config.relative_merit_tolerance;
  gradient_tolerance = config.gradient_tolerance;
  finite_difference_relative_step = config.finite_difference_relative_step;
}

abbrev pub under : Job → DlsConfig → (limit : ℕ) → Job
under job config limit = record {
  prescription = job.prescription;
  variables = job.variables;
  merit_function = job.merit_function;
  method = Damped (limited config limit);
}

module _ (job : Job) (config : DlsConfig) where
  -- the merits of the job under a limit, its optimizer, and the state before its first iteration
  abbrev pub evaluation : (limit : ℕ) → Surfaces → MeritEvaluation
  evaluation limit = evaluate_of (under job config limit)

  abbrev pub optimizer : (limit : ℕ) → Optimizer
  optimizer limit = optimizer_of (under job config limit) (limited config limit)

  abbrev pub start : (limit : ℕ) → Current
  start limit = started (optimizer limit) (base_of job) (evaluation limit (base_of job))

  -- "those that limit k ends in": surfaces, merit, damping and converged mark, with the params and the iterations done
  abbrev pub ends_in : (limit : ℕ) → After
  ends_in limit = value (evaluation limit) (iterations (optimizer limit) limit (start limit))

  -- what the job comes to, which a fetch gives
  abbrev pub result : (limit : ℕ) → Result
  result limit = value (evaluation limit) (run (under job config limit))

  -- the start, and the ends of iterations 1, 2 and so on under a limit, as far as its run comes
  abbrev pub history : (limit : ℕ) → List After
  history limit = on (start limit) ∷ ends (evaluation limit) (optimizer limit) limit (start limit)

  -- "at the end of iteration k under" a limit; at 0, before the first
  abbrev pub end_of : (limit k : ℕ) → After
  end_of limit k = get_or (history limit) k (on (start limit))

  -- "wherever the longer run reaches iteration k"
  abbrev pub Reaches : (limit k : ℕ) → Type 0
  Reaches limit k = k ≤ (result limit).iterations

-- the merit at the end of an iteration
abbrev pub merit_at : After → Float
merit_at end = current_merit (state_of end)

pub record Request14 (job : Job) (config : DlsConfig) : Type 0 where
  -- "the surfaces, merit, damping and converged mark at the end of iteration k under any limit from k upward should be those that limit k ends in,
  -- wherever the longer run reaches iteration k"
  pub same_end : (k limit : ℕ) → k ≤ limit → Reaches job config limit k → end_of job config limit k ≡ ends_in job config k
  -- "so the merits after successive iterations never rise": from the first merit on
  pub never_rise : (limit k : ℕ) → Reaches job config limit (suc k) → T (le (merit_at (end_of job config limit (suc k))) (merit_at (end_of job config limit k)))
  -- what a limit ends in is what the job comes to under it
  pub results : (limit : ℕ) → result job config limit ≡ result_of (ends_in job config limit)
  -- the history has the run's iterations, no more and no less, and its last end is the run's
  pub counted : (limit : ℕ) → length (history job config limit) ≡ suc (result job config limit).iterations
  pub last : (limit : ℕ) → end_of job config limit (result job config limit).iterations ≡ ends_in job config limit
  -- a run that ends before its limit ends so under every higher one
  pub ended : (k limit : ℕ) → k ≤ limit → (result job config k).iterations < k → ends_in job config limit ≡ ends_in job config k
  -- the limits compared are of this job: a damped job is itself under its own limit
  pub itself : job.method ≡ Damped config → under job config config.max_iterations ≡ job
