-- Law 6: every row reached from admission has every entry that its kind and phase do not use equal to zero. Assumes nothing but what is named.
use Rattle.std.specs.Prelude.{◌≡◌, refl, Bool, ◌||◌, List, ℕ, suc, ltb, eqb, Float}
use Rattle.std.proofs.Common.{sym, ap, ◌∙◌, true≢false, zero-lt-suc, lt-ltb}
use Rattle.std.proofs.Math.Path.{subst}
use Rattle.std.proofs.Math.Bool.{true, false, not}
use Rattle.std.specs.Float.{nan}
use Rattle.std.proofs.lemmas.List.{get_or-replicate}
use Rattle.floats.specs.Constants.{zero64}
use Rattle.optics.specs.Types.{no_surface, zero_surface}
use Rattle.variables.specs.Active.{num_active}
use Rattle.jobs.specs.declared.types.Job.{Job}
use Rattle.jobs.specs.declared.types.Method.{Method}
use Rattle.jobs.specs.declared.types.Method.TheVariants.{Damped, MultiStart, Annealing}
use Rattle.jobs.specs.declared.types.MultiStartConfig.{MultiStartConfig}
use Rattle.merit.specs.declared.types.MeritEvaluation.{MeritEvaluation}
use Rattle.runs.specs.declared.types.DampedState.{DampedState}
use Rattle.runs.specs.declared.types.OptimizationResult.{OptimizationResult}
use Rattle.runs.specs.Run.{Surfaces}
use Rattle.runs.specs.DampedRun.{Current}
use Rattle.runs.specs.JobRun.{operand_count_of}
use Rattle.runs.specs.MultiStartRow.{in_trial}
use Rattle.runs.specs.AnnealingRow.{walking, kept}
use Rattle.runs.specs.DampedRow.{holding, within, zero_at_end, is_finished, finished_at, phase_of}
use Rattle.runs.specs.Rows.{finished_by}
use Rattle.runs.proofs.RowLaws.{ReadBack}
use Rattle.runs.specs.State.{State, state_of, with_best}
use Rattle.runs.specs.RowAfter.{row_after}
use Rattle.runs.specs.Zeros.{zero_surfaces, zero_operands, zero_params, zero_result}
use Rattle.runs.specs.Damage.{uses_current, uses_best}
use Rattle.runs.specs.Unused.{ZeroFrom, ZeroSurfaces, ZeroJacobian, CleanCurrent, CleanResult, CleanDamped, is_first, is_plus, is_minus, is_candidate}
use Rattle.runs.specs.Unused.{is_ended, CleanState, in_damped, in_base, in_trials, at_end, is_walk_first, is_walk, in_polish}
use Rattle.runs.proofs.UnusedDamped.{zero-jacobian}
use Rattle.runs.proofs.UnusedLaws.{Kept, CleanAnswer, unused-zero}
use Rattle.runs.specs.ZeroEntries.{in_use, ZeroUnless, NoneUnless, in_loops, has_merit, filled_columns, ZeroDamped, ZeroBest, keeps_result, keeps_first}
use Rattle.runs.specs.ZeroEntries.{ZeroState, ZeroEntries}

-- ---- arrays that are all zero
no-surfaces : (k : ℕ) → ZeroSurfaces k zero_surfaces
no-surfaces k i l b = get_or-replicate 16 i zero_surface no_surface b

no-operands : (k : ℕ) → ZeroFrom k 12 zero_operands
no-operands k i l b = get_or-replicate 12 i zero64 nan b

no-params : (k : ℕ) → ZeroFrom k 8 zero_params
no-params k i l b = get_or-replicate 8 i zero64 nan b

-- an entry that is used may hold anything
used : {A : Type 0} {b : Bool} → b ≡ true → b ≡ false → A
used e h = absurd (true≢false (sym e ∙ h))

module _ (n p m : ℕ) where
  -- ---- the damped part: surfaces, parameters and a candidate alone, or in the loops
  holding-zero : (b : Bool) (f : ℕ) {x : Surfaces} {params trial : List Float} → ZeroSurfaces (in_use b n) x
      → ZeroFrom (in_use (in_loops f || eqb f 6) p) 8 params
      → ZeroFrom (in_use (eqb f 3 || eqb f 6) p) 8 trial →
      ZeroDamped n p m b (holding f x params trial)
  holding-zero b f s v c = record {
    surfaces = s;
    values = no-operands _;
    residuals = no-operands _;
    total_merit = λ e. refl;
    initial_merit = λ e. refl;
    iteration = λ e. refl;
    damping = λ e. refl;
    params = v;
    jacobian = zero-jacobian m _;
    plus_residuals = no-operands _;
    candidate = c;
    column = λ e. refl;
    attempt = λ e. refl;
    converged = λ e. refl;
  }

  within-zero : (f : ℕ) → in_loops f ≡ true → has_merit f ≡ true → (s : Current) {j_mat r c : List Float} {q k : ℕ} → CleanCurrent n p m s
      → ZeroJacobian m (filled_columns p (within f s j_mat r c q k)) j_mat → ZeroFrom (in_use (eqb f 2) m) 12 r →
      ZeroFrom (in_use (eqb f 3 || eqb f 6) p) 8 c → NoneUnless (eqb f 1 || eqb f 2) q → NoneUnless (eqb f 3) k
      → ZeroDamped n p m true (within f s j_mat r c q k)
  within-zero f l e s h j r c q k = record {
    surfaces = h.0;
    values = subst (λ (b : Bool). ZeroFrom (in_use b m) 12 s.evaluation.values) (sym e) h.2.0;
    residuals = subst (λ (b : Bool). ZeroFrom (in_use b m) 12 s.evaluation.residuals) (sym e) h.2.1;
    total_merit = used e;
    initial_merit = used e;
    iteration = used e;
    damping = used l;
    params = subst (λ (b : Bool). ZeroFrom (in_use (b || eqb f 6) p) 8 s.params) (sym l) h.1;
    jacobian = j;
    plus_residuals = r;
    candidate = c;
    column = q;
    attempt = k;
    converged = λ x. refl;
  }

  damped-zero : {d : DampedState} → CleanDamped n p m d → ZeroDamped n p m true d
  damped-zero (is_first h) = holding-zero true 0 h (no-params 0) (no-params 0)
  damped-zero (is_plus {s = s} h l j) = within-zero 1 refl refl s h j (no-operands 0) (no-params 0) (used refl) (λ e. refl)
  damped-zero (is_minus {s = s} h l j r) = within-zero 2 refl refl s h j r (no-params 0) (used refl) (λ e. refl)
  damped-zero (is_candidate {s = s} h j c) = within-zero 3 refl refl s h j (no-operands 0) c (λ e. refl) (used refl)
  damped-zero (is_ended converged s h) = record {
    surfaces = h.0;
    values = h.2.0;
    residuals = h.2.1;
    total_merit = used refl;
    initial_merit = used refl;
    iteration = used refl;
    damping = λ e. refl;
    params = no-params 0;
    jacobian = zero-jacobian m 0;
    plus_residuals = no-operands 0;
    candidate = no-params 0;
    column = λ e. refl;
    attempt = λ e. refl;
    converged = used refl;
  }

  -- ---- the best so far
  no-best : (a b c : Bool) → ZeroBest n p m a b c zero_result
  no-best a b c = record {
    surfaces = no-surfaces _;
    final_merit = λ e. refl;
    values = no-operands _;
    residuals = no-operands _;
    iterations = λ e. refl;
    converged = λ e. refl;
    initial_merit = λ e. refl;
  }

  result-best : (r : OptimizationResult) → CleanResult n p m r → ZeroBest n p m true true true r
  result-best r h = record {
    surfaces = h.0;
    final_merit = used refl;
    values = h.1;
    residuals = h.2;
    iterations = used refl;
    converged = used refl;
    initial_merit = used refl;
  }

  -- in the walk, and in the polish, which needs the first merit alone
  kept-best : (b : Bool) (x : Surfaces) (first best : Float) → ZeroSurfaces (in_use b n) x → ZeroUnless b best → ZeroBest n p m b false true (kept x first best)
  kept-best b x first best h e = record {
    surfaces = h;
    final_merit = e;
    values = no-operands 0;
    residuals = no-operands 0;
    iterations = λ e. refl;
    converged = λ e. refl;
    initial_merit = used refl;
  }

  -- ---- the whole state
  -- where it has nothing beside the damped part and the best so far
  apart-zero : (t : Method) (d : DampedState) (r : OptimizationResult) → ZeroDamped n p m (uses_current t (with_best d r)) d
      → ZeroBest n p m (uses_best t (with_best d r)) (keeps_result t (with_best d r)) (keeps_first t (with_best d r)) r →
      ZeroState n p m t (with_best d r)
  apart-zero t d r h b = record {
    damped = h;
    best = b;
    generator = λ e. refl;
    trial = λ e. refl;
    cycle = λ e. refl;
    step = λ e. refl;
    temperature = λ e. refl;
    current_merit = λ e. refl;
  }

  -- a run of a multi-start that is not over
  run-zero : (config : MultiStartConfig) (d : DampedState) (r : OptimizationResult) (g t : ℕ) → is_finished d ≡ false → CleanDamped n p m d
      → ((b : Bool) → is_finished d ≡ b → ZeroBest n p m (ltb 0 t || b) (ltb 0 t || b) (ltb 0 t || b) r) →
      ZeroState n p m (MultiStart config) (in_trial d r g t)
  unfolding finished_by
  run-zero config d r g t v h b = record {
    damped = subst (λ (b : Bool). ZeroDamped n p m (not b) d) (sym v) (damped-zero h);
    best = b (is_finished d) refl;
    generator = used (ap (λ (b : Bool). not b || false) v);
    trial = used (ap not v);
    cycle = λ e. refl;
    step = λ e. refl;
    temperature = λ e. refl;
    current_merit = λ e. refl;
  }

  -- the phases of a polish are none of the walk's
  not-walking : {d : DampedState} → CleanDamped n p m d → (eqb d.phase 5 ≡ false) × (eqb d.phase 6 ≡ false)
  not-walking (is_first h) = (refl, refl)
  not-walking (is_plus h l j) = (refl, refl)
  not-walking (is_minus h l j r) = (refl, refl)
  not-walking (is_candidate h j c) = (refl, refl)
  not-walking (is_ended converged s h) = (refl, refl)

  polish-best : (i : Float) (five six : Bool) → five ≡ false → six ≡ false → ZeroBest n p m six false (not five) (kept zero_surfaces i zero64)
  polish-best i true six e h = absurd (true≢false e)
  polish-best i false six e h = kept-best six zero_surfaces i zero64 (no-surfaces _) (λ e. refl)

  state-zero : (t : Method) {s : State} → CleanState n p m t s → ZeroState n p m t s
  unfolding finished_by is_finished finished_at phase_of
  state-zero (Damped config) (in_damped {d = d} h) = apart-zero (Damped config) d zero_result (damped-zero h) (no-best false false false)
  state-zero (MultiStart config) (in_base {d = d} {g = g} v h) = run-zero config d zero_result g 0 v h (λ b e. no-best b b b)
  state-zero (MultiStart config) (in_trials {d = d} {best = best} {g = g} {t = t} v h r) =
      run-zero config d best g (suc t) v h (λ b e. subst (λ (u : Bool). ZeroBest n p m (u || b) (u || b) (u
      || b) best) (sym (lt-ltb 0 (suc t) (zero-lt-suc t))) (result-best best r))
  state-zero (MultiStart config) (at_end {best = best} r) =
      apart-zero (MultiStart config) zero_at_end best (holding-zero false 4 (no-surfaces 0) (no-params 0) (no-params 0)) (result-best best r)
  state-zero (Annealing config) (is_walk_first {base = base} h) =
      apart-zero (Annealing config) (walking 5 base zero_params zero_params) zero_result (holding-zero true 5 h (no-params 0) (no-params 0))
      (no-best false false false)
  state-zero (Annealing config) (is_walk {i = i} {w = w} {trial = trial} {c = c} {k = k} h t) = record {
    damped = holding-zero true 6 h.0 h.1 t;
    best = kept-best true w.best_surfaces i w.best_merit h.2 (used refl);
    generator = used refl;
    trial = λ e. refl;
    cycle = used refl;
    step = used refl;
    temperature = used refl;
    current_merit = used refl;
  }
  state-zero (Annealing config) (in_polish {i = i} {d = d} h) =
      let w = not-walking h in
      apart-zero (Annealing config) d (kept zero_surfaces i zero64) (damped-zero h) (polish-best i (eqb d.phase 5) (eqb d.phase 6) w.0 w.1)

-- under an evaluation that is zero past the operands, as the merit's is
pub zero-entries : (f : Surfaces → MeritEvaluation) (job : Job) → ReadBack job → Kept job → ((s : Surfaces) → CleanAnswer job (f s)) → (k : ℕ)
    → ZeroEntries job (state_of (row_after f k job))
zero-entries f job back kept zeros k =
    state-zero job.prescription.surface_count (num_active job.variables) (operand_count_of job) job.method (unused-zero f job back kept zeros k)
