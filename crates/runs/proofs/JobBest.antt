-- A job's result and the merits that its run works out, under the evaluation of its own lens: every one is finite. Assumes nothing.
use Rattle.std.specs.Prelude.{◌≡◌, false, ℕ, ◌*◌, ◌≤◌, ◌<◌, Float}
use Rattle.std.proofs.Common.{sym}
use Rattle.std.proofs.Math.Path.{subst}
use Rattle.std.proofs.Math.Dec.{T}
use Rattle.std.specs.Float.Ieee.{le}
use Rattle.merit.specs.declared.types.MeritEvaluation.{MeritEvaluation}
use Rattle.jobs.specs.declared.types.Job.{Job}
use Rattle.jobs.specs.declared.types.Method.{Method}
use Rattle.jobs.specs.declared.types.Method.TheVariants.{MultiStart, Annealing}
use Rattle.jobs.specs.declared.types.MultiStartConfig.{MultiStartConfig}
use Rattle.jobs.specs.declared.types.SimulatedAnnealingConfig.{SimulatedAnnealingConfig}
use Rattle.runs.specs.Run.{Surfaces, Run, ask, after_merits, is_done, value}
use Rattle.runs.specs.JobRun.{Result, base_of, optimizer_of, annealer_of, run_by, run}
use Rattle.runs.specs.JobMerit.{evaluate_of}
use Rattle.runs.proofs.TurnLaws.{merit-finite}
use Rattle.runs.proofs.MultiStartBest.{trial_result, not-above-trial}
use Rattle.runs.proofs.AnnealingBest.{walk-whole, not-above-walk}

module _ (job : Job) where
  abbrev final_by : Method → Float
  final_by m = (value (evaluate_of job) (run_by m job)).final_merit

  -- a multi-start job's final merit is not above that of any trial
  pub multi-start-lowest : (config : MultiStartConfig) → job.method ≡ MultiStart config → (t : ℕ) → t < config.num_trials
      → T (le (value (evaluate_of job) (run job)).final_merit
      (trial_result (evaluate_of job) (optimizer_of job config.local_dls_config) (base_of job) config.seed t).final_merit)
  unfolding run run_by
  multi-start-lowest config e t l =
      let f = evaluate_of job in
      let o = optimizer_of job config.local_dls_config in
      subst (λ (m : Method). T (le (final_by m) (trial_result f o (base_of job) config.seed t).final_merit)) (sym e)
      (not-above-trial f o (base_of job) (merit-finite job) config.num_trials config.seed t l)

  -- an annealing job's final merit is not above any of its first 1 + cycles × steps merits
  pub annealing-lowest : (config : SimulatedAnnealingConfig) → job.method ≡ Annealing config → (s : Surfaces) (k : ℕ) (next : MeritEvaluation → Run Result)
      → k ≤ config.max_cooling_cycles * config.steps_per_temperature → after_merits (evaluate_of job) k (run job) ≡ ask s next
      → T (le (value (evaluate_of job) (run job)).final_merit (evaluate_of job s).total_merit)
  unfolding run run_by
  annealing-lowest config e s k next l h =
      let f = evaluate_of job in
      subst (λ (m : Method). after_merits f k (run_by m job) ≡ ask s next → T (le (final_by m) (f s).total_merit)) (sym e)
      (λ q. not-above-walk f (annealer_of job config) (merit-finite job) (base_of job) s k next l q) h

  -- and it works out all of these: it is not over before
  pub annealing-whole : (config : SimulatedAnnealingConfig) → job.method ≡ Annealing config → (k : ℕ)
      → k ≤ config.max_cooling_cycles * config.steps_per_temperature → is_done (after_merits (evaluate_of job) k (run job)) ≡ false
  unfolding run run_by
  annealing-whole config e k l =
      subst (λ (m : Method). is_done (after_merits (evaluate_of job) k (run_by m job)) ≡ false) (sym e)
      (walk-whole (evaluate_of job) (annealer_of job config) (base_of job) k l)
