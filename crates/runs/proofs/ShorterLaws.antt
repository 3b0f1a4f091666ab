-- Request 14 holds of every damped job. Assumes nothing.
use Rattle.std.specs.Prelude.{◌≡◌, Bool, T, Float, length}
use Rattle.std.proofs.Math.Path.{refl, ap, fun_ext}
use Rattle.std.proofs.Common.{sym, ◌∙◌, subst, arith}
use Rattle.std.proofs.Math.Bool.{true, false}
use mathlib.Core.List.{List}
use Prim.Native.Nat.{ℕ, zero, suc, ◌+◌, ◌-◌, ◌≤◌, ◌<◌}
use Rattle.std.specs.Float.Ieee.{le}
use Rattle.variables.specs.Active.{num_active}
use Rattle.merit.specs.declared.types.MeritEvaluation.{MeritEvaluation}
use Rattle.jobs.specs.declared.types.DlsConfig.{DlsConfig}
use Rattle.jobs.specs.declared.types.Job.{Job}
use Rattle.jobs.specs.declared.types.Method.{Method}
use Rattle.jobs.specs.declared.types.Method.TheVariants.{Damped}
use Rattle.runs.specs.Run.{Run, done, ask, bind, value, value-bind}
use Rattle.runs.specs.Zeros.{zero_jacobian}
use Rattle.runs.specs.DampedRun.{Optimizer, Current, After, on, result_of, counted, raised, p_plus, p_minus, presc_plus, presc_minus, denom, with_differences}
use Rattle.runs.specs.DampedRun.{columns, is_stationary, if_stationary, is_solved, candidate_params, test_presc, is_reduction, rel_improvement, accepted}
use Rattle.runs.specs.DampedRun.{if_reduced, if_solved, attempts, iteration, going_on, iterations, damped}
use Rattle.runs.specs.JobRun.{Result, base_of, run, run_by}
use Rattle.runs.specs.JobMerit.{evaluate_of}
use Rattle.runs.proofs.TurnLaws.{merit-finite}
use Rattle.runs.specs.Shorter.{ends, under, evaluation, optimizer, start, ends_in, result, history, end_of, Reaches, merit_at, Request14}
use Rattle.runs.proofs.ShorterLoops.{loop, end-same, loop-counts, loop-last, loop-add, stays, never-rises}

-- ---- Two limits: "One iteration. It does not see the limit."
module _ (job : Job) (config : DlsConfig) (k l : ℕ) where
  abbrev a : Optimizer
  a = optimizer job config k

  abbrev b : Optimizer
  b = optimizer job config l

  columns-same : (left q : ℕ) (s : Current) (j_mat : List Float) → columns a left q s j_mat ≡ columns b left q s j_mat
  unfolding columns presc_plus presc_minus p_plus p_minus denom with_differences bind
  columns-same zero q s j_mat = refl
  columns-same (suc left) q s j_mat =
      ap (ask (presc_plus a s q)) (fun_ext λ e.
      ap (ask (presc_minus a s q)) (fun_ext λ e'. columns-same left (suc q) s (with_differences a s q j_mat e.residuals e'.residuals)))

  reduced-same : (t : Bool) (c : List Float) (e : MeritEvaluation) (s : Current) (next next' : Run After) → next ≡ next' →
      if_reduced a t c e s next ≡ if_reduced b t c e s next'
  unfolding if_reduced accepted rel_improvement test_presc
  reduced-same true c e s next next' h = refl
  reduced-same false c e s next next' h = h

  solved-same : (t : Bool) (c : List Float) (s : Current) (next next' : Run After) → next ≡ next' → if_solved a t c s next ≡ if_solved b t c s next'
  unfolding if_solved is_reduction test_presc bind
  solved-same true c s next next' h = ap (ask (test_presc a c s)) (fun_ext λ e. reduced-same (is_reduction a e s) c e s next next' h)
  solved-same false c s next next' h = h

  attempts-same : (left : ℕ) (j_mat : List Float) (s : Current) → attempts a left j_mat s ≡ attempts b left j_mat s
  unfolding attempts is_solved candidate_params
  attempts-same zero j_mat s = refl
  attempts-same (suc left) j_mat s =
      let t = raised s in
      solved-same (is_solved a j_mat s) (candidate_params a j_mat s) s (attempts a left j_mat t) (attempts b left j_mat t) (attempts-same left j_mat t)

  stationary-same : (t : Bool) (j_mat : List Float) (s : Current) → if_stationary a t j_mat s ≡ if_stationary b t j_mat s
  unfolding if_stationary
  stationary-same true j_mat s = refl
  stationary-same false j_mat s = attempts-same 10 j_mat s

  after-columns : (s : Current) (j_mat : List Float) → if_stationary a (is_stationary a j_mat s) j_mat s ≡ if_stationary b (is_stationary b j_mat s) j_mat s
  unfolding is_stationary
  after-columns s j_mat = stationary-same (is_stationary a j_mat s) j_mat s

  iteration-same : (s : Current) → iteration a s ≡ iteration b s
  unfolding iteration
  iteration-same s =
      let t = counted s in
      let p = num_active job.variables in
      ap (λ (c : Run (List Float)). bind c (λ (j_mat : List Float). if_stationary a (is_stationary a j_mat t) j_mat t)) (columns-same p 0 t zero_jacobian)
      ∙ ap (bind (columns b p 0 t zero_jacobian)) (fun_ext λ j_mat. after-columns t j_mat)

  iterations-same : (left : ℕ) (s : Current) → iterations a left s ≡ iterations b left s
  unfolding iterations
  iterations-same zero s = refl
  iterations-same (suc left) s =
      ap (λ (m : Run After). bind m (going_on (iterations a left))) (iteration-same s)
      ∙ ap (λ (g : Current → Run After). bind (iteration b s) (going_on g)) (fun_ext λ s'. iterations-same left s')

-- ---- A damped job
module _ (job : Job) (config : DlsConfig) where
  -- the job's loop under a limit, of as many iterations as are asked for
  abbrev under-limit : (limit k : ℕ) → After
  under-limit limit k = loop (evaluation job config limit) (optimizer job config limit) k (start job config limit)

  -- under another limit the job has the same merits and begins in the same state
  any-limit : (limit limit' k : ℕ) → under-limit limit k ≡ under-limit limit' k
  unfolding evaluate_of
  any-limit limit limit' k = ap (value (evaluation job config limit')) (iterations-same job config limit limit' k (start job config limit'))

  results-are : (limit : ℕ) → result job config limit ≡ result_of (ends_in job config limit)
  unfolding run run_by damped bind value
  results-are limit =
      value-bind (evaluation job config limit) (iterations (optimizer job config limit) limit (start job config limit)) λ (end : After). done (result_of end)

  history-counted : (limit : ℕ) → length (history job config limit) ≡ suc (result job config limit).iterations
  history-counted limit =
      let n = loop-counts (evaluation job config limit) (optimizer job config limit) limit (start job config limit) in
      rw results-are (omega arith)

  -- the end of iteration k is what a loop of k iterations comes to
  end_is : (limit k : ℕ) → Reaches job config limit k → end_of job config limit k ≡ under-limit limit k
  end_is limit k h =
      let s = start job config limit in
      end-same (evaluation job config limit) (optimizer job config limit) limit k s (on s) (omega (arith, history-counted limit))

  last_end : (limit : ℕ) → end_of job config limit (result job config limit).iterations ≡ ends_in job config limit
  last_end limit =
      let f = evaluation job config limit in
      let o = optimizer job config limit in
      let s = start job config limit in
      let n : (result job config limit).iterations ≡ length (ends f o limit s) = omega (arith, history-counted limit) in
      end_is limit (result job config limit).iterations (omega arith) ∙ ap (under-limit limit) n ∙ loop-last f o limit s

  ended-below : (k limit : ℕ) → k ≤ limit → (result job config k).iterations < k → ends_in job config limit ≡ ends_in job config k
  ended-below k limit h e =
      let f = evaluation job config k in
      let o = optimizer job config k in
      let s = start job config k in
      let m : limit ≡ k + (limit - k) = omega arith in
      let less : (result job config k).iterations < 0 + k = omega arith in
      any-limit limit k limit ∙ ap (under-limit k) m ∙ loop-add f o k (limit - k) s
      ∙ stays f o k (limit - k) s (subst (λ (r : Result). r.iterations < 0 + k) (results-are k) less)

  never-rise : (limit k : ℕ) → Reaches job config limit (suc k) → T (le (merit_at (end_of job config limit (suc k))) (merit_at (end_of job config limit k)))
  never-rise limit k r =
      let fine = merit-finite (under job config limit) in
      rw (end_is limit (suc k) r, end_is limit k (omega arith))
      (never-rises (evaluation job config limit) (optimizer job config limit) fine k (start job config limit) (fine (base_of job)))

  its_own : job.method ≡ Damped config → under job config config.max_iterations ≡ job
  its_own e =
      let with : Method → Job = λ m. record {
        prescription = job.prescription;
        variables = job.variables;
        merit_function = job.merit_function;
        method = m;
      } in
      ap with (sym e)

  pub request14 : Request14 job config
  request14 = record {
    same_end = λ k limit h r. end_is limit k r ∙ any-limit limit k k;
    never_rise = never-rise;
    results = results-are;
    counted = history-counted;
    last = last_end;
    ended = ended-below;
    itself = its_own;
  }
