-- What every run comes to: "every job comes to its end in a number of turns known beforehand", "the surfaces handed back have the merit printed beside
-- them", and a damped run ends no higher than it began. Assumes nothing but what is named.
use Rattle.std.specs.Prelude.{◌≡◌, true, List, Float}
use Rattle.std.proofs.Common.{sym, ap, subst, arith}
use Rattle.std.proofs.Math.Dec.{T}
use Rattle.std.specs.Float.Ieee.{lt, le}
use Rattle.std.specs.Float.Ieee.Fits.{and_r}
use Rattle.floats.specs.Basic.{finite_of}
use Rattle.floatlaws.specs.Order.{le_trans, lt→le, le-self}
use Rattle.floatlaws.specs.CallerLaws.{finite-test, finite_number}
use Rattle.optics.specs.Check.{surfaces_taken}
use Rattle.variables.specs.Active.{num_active}
use Rattle.variables.specs.Values.{applied}
use Rattle.merit.specs.declared.types.MeritEvaluation.{MeritEvaluation}
use Rattle.jobs.specs.Defaults.{polish_settings}
use Rattle.jobs.specs.declared.types.DlsConfig.{DlsConfig}
use Rattle.jobs.specs.declared.types.Job.{Job}
use Rattle.jobs.specs.declared.types.Method.{Method}
use Rattle.jobs.specs.declared.types.Method.TheVariants.{Damped, MultiStart, Annealing}
use Rattle.runs.specs.Run.{Surfaces}
use Rattle.runs.proofs.Ends.{Ends, AnyAnswer, Any, Ends-more}
use Rattle.runs.specs.DampedRun.{Optimizer, Current, After, state_of, current_merit, test_presc, is_reduction, moved, damped}
use Rattle.runs.proofs.DampedEnds.{ends-damped}
use Rattle.runs.specs.MultiStartRun.{trial_presc}
use Rattle.runs.proofs.MultiStartEnds.{ends-multi_start}
use Rattle.runs.specs.AnnealingRun.{Annealer}
use Rattle.runs.specs.AnnealingRun as Annealing
use Rattle.runs.proofs.AnnealingEnds.{ends-annealing}
use Rattle.runs.specs.JobRun.{Result, base_of, optimizer_of, annealer_of, run_by, run}
use Rattle.runs.specs.Outcomes.{Evaluated, FiniteAnswer, Descended}
use Rattle.runs.specs.Rows.{damped_bound, bound_by, bound}

-- ---- All three kinds, given the damped run
-- Sound: what the surfaces keep when variables are applied
module _ (job : Job) (Q : Surfaces → MeritEvaluation → Type 0) (Sound : Surfaces → Type 0) (P : Result → Type 0)
    (applies : (values : List Float) (x : Surfaces) → Sound x → Sound (applied job.variables values x))
    (damps : (config : DlsConfig) (x : Surfaces) → Sound x
    → Ends Q P (damped_bound config.max_iterations (num_active job.variables)) (damped (optimizer_of job config) x))
    (priors : (a : Annealer) (initial_merit : Float) (r : Result) → P r → P (Annealing.with_prior a initial_merit r)) where
  ends_by : (m : Method) → Sound (base_of job) → Ends Q P (bound_by m (num_active job.variables)) (run_by m job)
  unfolding run_by bound_by trial_presc Annealing.trial_presc
  ends_by (Damped config) h = damps config (base_of job) h
  ends_by (MultiStart config) h =
      let o = optimizer_of job config.local_dls_config in
      let B = damped_bound config.local_dls_config.max_iterations (num_active job.variables) in
      ends-multi_start o (base_of job) Q P B (λ rng. damps config.local_dls_config _ (applies _ (base_of job) h)) config.num_trials config.seed
      (damps config.local_dls_config (base_of job) h)
  ends_by (Annealing config) h =
      let a = annealer_of job config in
      let B = damped_bound 25 (num_active job.variables) in
      Ends-more _ (omega arith) (ends-annealing a Q Sound P B (λ trial w s. applies trial w.surfaces s) (λ x s. damps polish_settings x s) (priors a)
      (base_of job) h)

  ends-run : Sound (base_of job) → Ends Q P (bound job) (run job)
  unfolding run bound
  ends-run h = ends_by job.method h

-- ---- The bound, whatever is answered
damped-bounded : (o : Optimizer) (initial : Surfaces)
    → Ends AnyAnswer Any (damped_bound o.config.max_iterations (num_active o.variables)) (damped o initial)
damped-bounded o initial = ends-damped o AnyAnswer Any (λ s h. tt) (λ s h. tt) (λ c e s h q r. tt) Any initial (λ e q. tt) (λ end h. tt)

pub run-bounded : (job : Job) → Ends AnyAnswer Any (bound job) (run job)
run-bounded job = ends-run job AnyAnswer Any Any (λ v x s. tt) (λ config x s. damped-bounded (optimizer_of job config) x) (λ a i r h. tt) tt

-- ---- The merit printed beside the surfaces
module _ (f : Surfaces → MeritEvaluation) where
  -- each answer is the evaluation's
  abbrev pub By : Surfaces → MeritEvaluation → Type 0
  By s e = e ≡ f s

  module _ (o : Optimizer) (Sound : Surfaces → Type 0)
      (applies : (values : List Float) (x : Surfaces) → Sound x → Sound (applied o.variables values x)) where
    abbrev Holds : Current → Type 0
    Holds s = (s.evaluation ≡ f s.surfaces) × Sound s.surfaces

    holds-moved : (c : List Float) (e : MeritEvaluation) (s : Current) → Holds s → By (test_presc o c s) e → is_reduction o e s ≡ true → Holds (moved o c e s)
    unfolding test_presc
    holds-moved c e s h q t = (q, applies c s.surfaces h.1)

    evaluated : (end : After) → Holds (state_of end) → Evaluated f (Rattle.runs.specs.DampedRun.result_of end) × Sound (state_of end).surfaces
    evaluated end h = (
      record {
        final_merit = ap (λ (e : MeritEvaluation). e.total_merit) h.0;
        values = ap (λ (e : MeritEvaluation). e.values) h.0;
        residuals = ap (λ (e : MeritEvaluation). e.residuals) h.0;
      },
      h.1,
    )

    damped-evaluated : (initial : Surfaces) → Sound initial
        → Ends By (λ (r : Result). Evaluated f r × Sound r.surfaces) (damped_bound o.config.max_iterations (num_active o.variables))
        (damped o initial)
    damped-evaluated initial h =
        ends-damped o By Holds (λ s k. k) (λ s k. k) holds-moved (λ (r : Result). Evaluated f r × Sound r.surfaces) initial (λ e q. (q, h)) evaluated

  -- for all three kinds; what applying keeps, the result's surfaces have
  pub run-evaluated : (job : Job) (Sound : Surfaces → Type 0) → ((values : List Float) (x : Surfaces) → Sound x → Sound (applied job.variables values x))
      → Sound (base_of job) →
      Ends By (λ (r : Result). Evaluated f r × Sound r.surfaces) (bound job) (run job)
  run-evaluated job Sound applies h =
      ends-run job By Sound (λ (r : Result). Evaluated f r × Sound r.surfaces) applies
      (λ config x s. damped-evaluated (optimizer_of job config) Sound applies x s) prior h
    where
      prior : (a : Annealer) (initial_merit : Float) (r : Result) → Evaluated f r × Sound r.surfaces
          → Evaluated f (Annealing.with_prior a initial_merit r) × Sound r.surfaces
      prior a i r h = (record { final_merit = h.0.final_merit; values = h.0.values; residuals = h.0.residuals }, h.1)

  -- its surfaces pass check 3 where the job's do, as applying keeps them
  pub run-checked : (job : Job)
      → ((values : List Float) (x : Surfaces) → T (surfaces_taken x job.prescription.surface_count)
      → T (surfaces_taken (applied job.variables values x) job.prescription.surface_count)) →
      T (surfaces_taken (base_of job) job.prescription.surface_count) →
      Ends By (λ (r : Result). Evaluated f r × T (surfaces_taken r.surfaces job.prescription.surface_count)) (bound job) (run job)
  run-checked job applies h = run-evaluated job (λ (x : Surfaces). T (surfaces_taken x job.prescription.surface_count)) applies h

-- ---- A damped run's final merit is finite and not above the first, given that every merit answered is finite
module _ (o : Optimizer) where
  abbrev Lower : Current → Type 0
  Lower s = T (finite_of (current_merit s)) × T (le (current_merit s) s.initial_merit)

  lower-moved : (c : List Float) (e : MeritEvaluation) (s : Current) → Lower s → FiniteAnswer (test_presc o c s) e → is_reduction o e s ≡ true
      → Lower (moved o c e s)
  unfolding is_reduction
  lower-moved c e s h q t =
      let x = e.total_merit in
      let less : T (lt x (current_merit s)) = and_r (finite_of x) (lt x (current_merit s)) (subst T (sym t) tt) in
      (q, le_trans x (current_merit s) s.initial_merit (lt→le x (current_merit s) less) h.1)

  pub damped-descends : (initial : Surfaces)
      → Ends FiniteAnswer Descended (damped_bound o.config.max_iterations (num_active o.variables)) (damped o initial)
  damped-descends initial =
      ends-damped o FiniteAnswer Lower (λ s k. k) (λ s k. k) lower-moved Descended initial
      (λ e q. (q, le-self e.total_merit (finite_number e.total_merit (finite-test e.total_merit q)))) (λ end h. h)
