-- Every row reached from admission is one that its phase's builder makes, zero past the job's counts. Assumes nothing but what is named.
use Rattle.std.specs.Prelude.{◌≡◌, Bool, cond, List, ℕ, suc, ◌≤◌, ltb, Float}
use Rattle.std.proofs.Math.Path.{refl, sym, subst}
use Rattle.std.proofs.Common.{ap, ◌∙◌, true≢false}
use Rattle.std.proofs.Math.Bool.{true, false}
use Rattle.std.specs.Float.Ieee.{lt, le, binary64, sub}
use Rattle.floats.specs.Constants.{zero64}
use Rattle.xorshift.specs.Xorshift.{step_of}
use Rattle.xorshift.specs.Draws.{unit_of}
use Rattle.variables.specs.Active.{num_active}
use Rattle.variables.specs.Values.{applied}
use Rattle.merit.specs.declared.types.MeritEvaluation.{MeritEvaluation}
use Rattle.jobs.specs.declared.types.Job.{Job}
use Rattle.jobs.specs.declared.types.DlsConfig.{DlsConfig}
use Rattle.jobs.specs.declared.types.MultiStartConfig.{MultiStartConfig}
use Rattle.jobs.specs.declared.types.SimulatedAnnealingConfig.{SimulatedAnnealingConfig}
use Rattle.jobs.specs.declared.types.Method.{Method}
use Rattle.jobs.specs.declared.types.Method.TheVariants.{Damped, MultiStart, Annealing}
use Rattle.runs.specs.declared.types.DampedState.{DampedState}
use Rattle.runs.specs.declared.types.OptimizationResult.{OptimizationResult}
use Rattle.runs.specs.declared.types.Row.{Row}
use Rattle.runs.specs.Run.{Surfaces}
use Rattle.runs.specs.MultiStartRun.{some, is_lower, merged, trial_presc}
use Rattle.runs.specs.Zeros.{zero_result}
use Rattle.runs.specs.AnnealingRun.{Annealer, Walk, with_rng, cooled, if_best, prob, moved, accepted, if_drawn, if_not_risen, judged, trial_params, started}
use Rattle.runs.specs.AnnealingRun.{polisher}
use Rattle.runs.specs.AnnealingRun as AnnealingRun
use Rattle.runs.specs.JobRun.{base_of, operand_count_of, optimizer_of, annealer_of}
use Rattle.runs.specs.State.{State, state_of}
use Rattle.runs.specs.DampedRow as DampedRow
use Rattle.runs.specs.MultiStartRow.{in_trial, best_before, resume_trials, resume_damped}
use Rattle.runs.specs.MultiStartRow as MultiRow
use Rattle.runs.specs.AnnealingRow.{is_cycle, resume_cycles, resume_steps}
use Rattle.runs.specs.AnnealingRow as AnnealingRow
use Rattle.runs.specs.Rows.{job_of_row, began, admitted, pending_surfaces, advance_by, advance, finished_by, is_finished, result_by, result_of}
use Rattle.runs.proofs.RowLaws.{ReadBack, job-admitted, job-advance}
use Rattle.runs.specs.RowAfter.{row_after}
use Rattle.runs.proofs.Turned.{reached}
use Rattle.runs.specs.Unused.{ZeroFrom, ZeroSurfaces, CleanEvaluation, CleanResult, CleanWalk, CleanDamped, is_first, is_plus, is_minus, is_candidate}
use Rattle.runs.specs.Unused.{is_ended, CleanState, in_damped, in_base, in_trials, at_end, is_walk_first, is_walk, in_polish, Clean}
use Rattle.runs.proofs.UnusedDamped.{eight-zero, zero-extracted, clean-advance}

-- what a job as kept has: nothing past its surfaces, to which applying its variables keeps to, and no more operands than there is room for
pub record Kept (job : Job) : Type 0 where
  pub applies : (values : List Float) (x : Surfaces) → ZeroSurfaces job.prescription.surface_count x
      → ZeroSurfaces job.prescription.surface_count (applied job.variables values x)
  pub based : ZeroSurfaces job.prescription.surface_count (base_of job)
  pub fits : operand_count_of job ≤ 12

module _ (job : Job) (k : Kept job) where
  abbrev n : ℕ
  n = job.prescription.surface_count

  abbrev p : ℕ
  p = num_active job.variables

  abbrev m : ℕ
  m = operand_count_of job

  -- ---- multi-start
  result-clean : {d : DampedState} → CleanDamped n p m d → DampedRow.is_finished d ≡ true → CleanResult n p m (DampedRow.result_of d)
  unfolding DampedRow.is_finished DampedRow.finished_at DampedRow.phase_of
  result-clean (is_first h) e = absurd (true≢false (sym e))
  result-clean (is_plus h l j) e = absurd (true≢false (sym e))
  result-clean (is_minus h l j r) e = absurd (true≢false (sym e))
  result-clean (is_candidate h j c) e = absurd (true≢false (sym e))
  result-clean (is_ended converged s h) e = (h.0, h.2.0, h.2.1)

  merged-clean : (best result : OptimizationResult) → CleanResult n p m best → CleanResult n p m result → CleanResult n p m (merged (some best) result)
  unfolding merged
  merged-clean best result a b = go (is_lower result best)
    where
      go : (t : Bool) → CleanResult n p m (cond t result best)
      go true = b
      go false = a

  trials-clean : (b : Bool) (config : MultiStartConfig) (best : OptimizationResult) (g t : ℕ) → CleanResult n p m best
      → CleanState n p m (MultiStart config) (resume_trials (optimizer_of job config.local_dls_config) (base_of job) config.num_trials b best g t)
  unfolding resume_trials trial_presc DampedRow.is_finished DampedRow.finished_at DampedRow.phase_of
  trials-clean true config best g t h = in_trials refl (is_first (k.applies _ (base_of job) k.based)) h
  trials-clean false config best g t h = at_end h

  module _ (config : MultiStartConfig) where
    abbrev local : DlsConfig
    local = config.local_dls_config

    resumed-base : (b : Bool) (d d' : DampedState) (g : ℕ) → DampedRow.is_finished d' ≡ b → CleanDamped n p m d'
        → CleanState n p m (MultiStart config) (resume_damped (optimizer_of job local) (base_of job) config.num_trials b (in_trial d zero_result g 0) d')
    unfolding resume_damped merged best_before
    resumed-base true d d' g e h = trials-clean (ltb 0 config.num_trials) config (DampedRow.result_of d') g 0 (result-clean h e)
    resumed-base false d d' g e h = in_base e h

    resumed-trials : (b : Bool) (d d' : DampedState) (best : OptimizationResult) (g t : ℕ) → DampedRow.is_finished d' ≡ b → CleanDamped n p m d'
        → CleanResult n p m best →
        CleanState n p m (MultiStart config) (resume_damped (optimizer_of job local) (base_of job) config.num_trials b (in_trial d best g (suc t)) d')
    unfolding resume_damped best_before
    resumed-trials true d d' best g t e h r =
        trials-clean (ltb (suc t) config.num_trials) config (merged (some best) (DampedRow.result_of d')) g (suc t)
        (merged-clean best (DampedRow.result_of d') r (result-clean h e))
    resumed-trials false d d' best g t e h r = in_trials e h r

    abbrev next : DampedState → MeritEvaluation → DampedState
    next d e = DampedRow.advance (optimizer_of job local) d e

    next-clean : (d : DampedState) (e : MeritEvaluation) → DampedRow.is_finished d ≡ false → CleanDamped n p m d → CleanEvaluation n p m e
        → CleanDamped n p m (next d e)
    next-clean d e u h a = clean-advance (optimizer_of job local) n k.applies k.fits d e u h a

    multi-clean : {s : State} (e : MeritEvaluation) → finished_by (MultiStart config) s ≡ false → CleanEvaluation n p m e
        → CleanState n p m (MultiStart config) s → CleanState n p m (MultiStart config) (advance_by (MultiStart config) job s e)
    unfolding finished_by advance_by MultiRow.advance
    multi-clean e u a (in_base {d = d} {g = g} v h) = resumed-base (DampedRow.is_finished (next d e)) d (next d e) g refl (next-clean d e u h a)
    multi-clean e u a (in_trials {d = d} {best = best} {g = g} {t = t} v h r) =
        resumed-trials (DampedRow.is_finished (next d e)) d (next d e) best g t refl (next-clean d e u h a) r
    multi-clean e u a (at_end r) = absurd (true≢false (unfold DampedRow.is_finished DampedRow.finished_at DampedRow.phase_of in u))

  -- ---- annealing
  module _ (config : SimulatedAnnealingConfig) where
    abbrev a : Annealer
    a = annealer_of job config

    abbrev CleanW : Walk → Type 0
    CleanW w = CleanWalk n p m w

    best-clean : (b : Bool) (w : Walk) → CleanW w → CleanW (if_best b w)
    unfolding if_best
    best-clean true w h = (h.0, h.1, h.0)
    best-clean false w h = h

    accepted-clean : (trial : List Float) (x : Float) (w : Walk) → CleanW w → ZeroFrom p 8 trial → CleanW (accepted a trial x w)
    unfolding accepted AnnealingRun.trial_presc
    accepted-clean trial x w h t = best-clean _ (moved a trial x w) (k.applies trial w.surfaces h.0, t, h.2)

    drawn-clean : (b : Bool) (trial : List Float) (x : Float) (w : Walk) → CleanW w → ZeroFrom p 8 trial → CleanW (if_drawn a b trial x w)
    unfolding if_drawn
    drawn-clean true trial x w h t = accepted-clean trial x w h t
    drawn-clean false trial x w h t = h

    risen-clean : (b : Bool) (trial : List Float) (x delta : Float) (w : Walk) → CleanW w → ZeroFrom p 8 trial → CleanW (if_not_risen a b trial x delta w)
    unfolding if_not_risen
    risen-clean true trial x delta w h t = accepted-clean trial x w h t
    risen-clean false trial x delta w h t = drawn-clean (lt (unit_of (step_of w.rng)) (prob delta w.temp)) trial x (with_rng w (step_of w.rng)) h t

    judged-clean : (trial : List Float) (e : MeritEvaluation) (w : Walk) → CleanW w → ZeroFrom p 8 trial → CleanW (judged a trial e w)
    unfolding judged
    judged-clean trial e w h t =
        let delta = sub binary64 e.total_merit w.current_merit in
        risen-clean (le delta zero64) trial e.total_merit delta w h t

    trial-clean : (w : Walk) → CleanW w → ZeroFrom p 8 (trial_params a w)
    unfolding trial_params
    trial-clean w h = eight-zero job.variables _ _ h.1

    step-clean : (i : Float) (w : Walk) (c j : ℕ) → CleanW w → CleanState n p m (Annealing config) (AnnealingRow.at_step a i w c j)
    unfolding AnnealingRun.after_draws
    step-clean i w c j h = is_walk h (trial-clean w h)

    cycles-clean : (b : Bool) (i : Float) (w : Walk) (c : ℕ) → CleanW w → CleanState n p m (Annealing config) (resume_cycles a b i w c)
    unfolding resume_cycles
    cycles-clean true i w c h = step-clean i w c 0 h
    cycles-clean false i w c h = in_polish (is_first h.2)

    steps-clean : (b : Bool) (i : Float) (w : Walk) (c j : ℕ) → CleanW w → CleanState n p m (Annealing config) (resume_steps a b i w c j)
    unfolding resume_steps
    steps-clean true i w c j h = step-clean i w c j h
    steps-clean false i w c j h = cycles-clean (is_cycle a (suc c)) i (cooled config.cooling_rate w) (suc c) h

    in-polish : {d : DampedState} → CleanDamped n p m d → AnnealingRow.phase_of d.phase ≡ AnnealingRow.polishing
    unfolding AnnealingRow.phase_of
    in-polish (is_first h) = refl
    in-polish (is_plus h l j) = refl
    in-polish (is_minus h l j r) = refl
    in-polish (is_candidate h j c) = refl
    in-polish (is_ended converged s h) = refl

    polish-clean : (i : Float) (d : DampedState) (e : MeritEvaluation) → AnnealingRow.is_finished (AnnealingRow.at_polish i d) ≡ false → CleanDamped n p m d
        → CleanEvaluation n p m e → CleanState n p m (Annealing config) (AnnealingRow.advance a (AnnealingRow.at_polish i d) e)
    unfolding AnnealingRow.advance AnnealingRow.advance_at AnnealingRow.is_finished AnnealingRow.finished_at
    polish-clean i d e u h g =
        let s = AnnealingRow.at_polish i d in
        let q = in-polish h in
        let going : DampedRow.is_finished d ≡ false = sym (ap (λ (f : AnnealingRow.Phase). AnnealingRow.finished_at f s) q) ∙ u in
        subst (λ (f : AnnealingRow.Phase). CleanState n p m (Annealing config) (AnnealingRow.advance_at a f s e)) (sym q)
        (in_polish (clean-advance (polisher a) n k.applies k.fits d e going h g))

    annealing-clean : {s : State} (e : MeritEvaluation) → finished_by (Annealing config) s ≡ false → CleanEvaluation n p m e
        → CleanState n p m (Annealing config) s → CleanState n p m (Annealing config) (advance_by (Annealing config) job s e)
    unfolding finished_by advance_by AnnealingRow.advance AnnealingRow.advance_at AnnealingRow.phase_of AnnealingRow.is_finished AnnealingRow.finished_at
    annealing-clean e u g (is_walk_first {base = base} h) =
        cycles-clean (is_cycle a 0) e.total_merit (started a base e) 0 (h, zero-extracted (polisher a) n k.applies k.fits base, h)
    annealing-clean e u g (is_walk {i = i} {w = w} {trial = trial} {c = c} {k = j} h t) =
        steps-clean (ltb (suc j) config.steps_per_temperature) i (judged a trial e w) c (suc j) (judged-clean trial e w h t)
    annealing-clean e u g (in_polish {i = i} {d = d} h) = polish-clean i d e u h g

  -- ---- all three kinds
  clean-by : (t : Method) {s : State} (e : MeritEvaluation) → finished_by t s ≡ false → CleanEvaluation n p m e → CleanState n p m t s
      → CleanState n p m t (advance_by t job s e)
  unfolding finished_by advance_by
  clean-by (Damped config) e u g (in_damped {d = d} h) = in_damped (clean-advance (optimizer_of job config) n k.applies k.fits d e u h g)
  clean-by (MultiStart config) e u g h = multi-clean config e u g h
  clean-by (Annealing config) e u g h = annealing-clean config e u g h

  began-clean : (t : Method) → CleanState n p m t (began t job)
  unfolding began DampedRow.is_finished DampedRow.finished_at DampedRow.phase_of
  began-clean (Damped config) = in_damped (is_first k.based)
  began-clean (MultiStart config) = in_base refl (is_first k.based)
  began-clean (Annealing config) = is_walk_first k.based

abbrev pub CleanAnswer : Job → MeritEvaluation → Type 0
CleanAnswer job e = CleanEvaluation job.prescription.surface_count (num_active job.variables) (operand_count_of job) e

-- a turn
advance-clean : (job : Job) → Kept job → (r : Row) (e : MeritEvaluation) → job_of_row r ≡ job → is_finished r ≡ false → CleanAnswer job e
    → Clean job (state_of r) → Clean job (state_of (advance r e))
unfolding is_finished advance
advance-clean job k r e q u g h =
    subst (λ (j : Job). finished_by j.method (state_of r) ≡ false → Clean job (advance_by j.method j (state_of r) e)) (sym q)
    (λ t. clean-by job k job.method e t g h) u

admitted-clean : (job : Job) → Kept job → Clean job (state_of (admitted job))
unfolding admitted
admitted-clean job k = began-clean job k job.method

-- under an evaluation that is zero past the operands, as the merit's is
pub unused-zero : (f : Surfaces → MeritEvaluation) (job : Job) → ReadBack job → Kept job → ((s : Surfaces) → CleanAnswer job (f s)) → (j : ℕ)
    → Clean job (state_of (row_after f j job))
unused-zero f job back k zeros j =
    (reached f (λ (r : Row). (job_of_row r ≡ job) × Clean job (state_of r)) job (job-admitted job back, admitted-clean job k)
    (λ r u h. (job-advance r (f (pending_surfaces r)) ∙ h.0, advance-clean job k r (f (pending_surfaces r)) h.0 u (zeros (pending_surfaces r)) h.1)) j).1

-- ---- "A result holds .. zero past the counts"
module _ (job : Job) (k : Kept job) where
  abbrev CleanOutcome : OptimizationResult → Type 0
  CleanOutcome r = CleanResult job.prescription.surface_count (num_active job.variables) (operand_count_of job) r

  polished-clean : (config : SimulatedAnnealingConfig) (i : Float) (d : DampedState)
      → CleanDamped job.prescription.surface_count (num_active job.variables) (operand_count_of job) d
      → AnnealingRow.is_finished (AnnealingRow.at_polish i d) ≡ true →
      CleanOutcome (AnnealingRow.result_of (annealer_of job config) (AnnealingRow.at_polish i d))
  unfolding AnnealingRow.is_finished AnnealingRow.finished_at
  polished-clean config i d h e =
      result-clean job k h (sym (ap (λ (f : AnnealingRow.Phase). AnnealingRow.finished_at f (AnnealingRow.at_polish i d)) (in-polish job k config h)) ∙ e)

  outcome-clean : (t : Method) {s : State} → CleanState job.prescription.surface_count (num_active job.variables) (operand_count_of job) t s
      → finished_by t s ≡ true → CleanOutcome (result_by t job s)
  unfolding finished_by result_by AnnealingRow.is_finished AnnealingRow.finished_at AnnealingRow.phase_of
  outcome-clean (Damped config) (in_damped h) e = result-clean job k h e
  outcome-clean (MultiStart config) (in_base v h) e = absurd (true≢false (sym e ∙ v))
  outcome-clean (MultiStart config) (in_trials v h r) e = absurd (true≢false (sym e ∙ v))
  outcome-clean (MultiStart config) (at_end r) e = r
  outcome-clean (Annealing config) (is_walk_first h) e = absurd (true≢false (sym e))
  outcome-clean (Annealing config) (is_walk h t) e = absurd (true≢false (sym e))
  outcome-clean (Annealing config) (in_polish {i = i} {d = d} h) e = polished-clean config i d h e

  pub result-unused : (r : Row) → job_of_row r ≡ job → Clean job (state_of r) → is_finished r ≡ true → CleanOutcome (result_of r)
  unfolding is_finished result_of
  result-unused r q h e =
      subst (λ (j : Job). finished_by j.method (state_of r) ≡ true → CleanOutcome (result_by j.method j (state_of r))) (sym q) (outcome-clean job.method h)
      e
