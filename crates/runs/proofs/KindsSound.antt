-- The state of an undamaged row stays undamaged in a turn, for each kind. Assumes nothing but what is named.
use Rattle.std.specs.Prelude.{◌≡◌, Bool, not, cond, ◌||◌, List, ltb, Float}
use Rattle.std.proofs.Math.Path.{refl}
use Rattle.std.proofs.Common.{sym, subst, zero-lt-suc, arith, lt→ltb}
use Rattle.std.proofs.Math.Bool.{true, false}
use Prim.Native.Nat.{ℕ, zero, suc, ◌<◌}
use Rattle.std.proofs.Math.Dec.{T}
use borrow.Author.Tests.{ltb-true}
use Rattle.variables.specs.Active.{num_active}
use Rattle.variables.specs.Values.{applied}
use Rattle.merit.specs.declared.types.MeritEvaluation.{MeritEvaluation}
use Rattle.jobs.specs.declared.types.DlsConfig.{DlsConfig}
use Rattle.jobs.specs.declared.types.Job.{Job}
use Rattle.jobs.specs.declared.types.MultiStartConfig.{MultiStartConfig}
use Rattle.jobs.specs.declared.types.Method.{Method}
use Rattle.jobs.specs.declared.types.Method.TheVariants.{Damped, MultiStart}
use Rattle.optics.specs.Check.{surfaces_taken}
use Rattle.runs.specs.declared.types.DampedState.{DampedState}
use Rattle.runs.specs.declared.types.OptimizationResult.{OptimizationResult}
use Rattle.runs.specs.Run.{Surfaces}
use Rattle.runs.specs.MultiStartRun.{is_lower, merged, trial_presc}
use Rattle.runs.specs.JobRun.{base_of, optimizer_of}
use Rattle.runs.specs.State.{State}
use Rattle.runs.specs.DampedRow as DampedRow
use Rattle.runs.specs.MultiStartRow as MultiRow
use Rattle.runs.specs.Rows.{advance_by, finished_by}
use Rattle.runs.proofs.DampedSound as DampedSound
use Rattle.runs.proofs.StateSound.{Sound}

module _ (job : Job)
    (applies : (values : List Float) (x : Surfaces) → T (surfaces_taken x job.prescription.surface_count)
    → T (surfaces_taken (applied job.variables values x) job.prescription.surface_count))
    (based : T (surfaces_taken (base_of job) job.prescription.surface_count)) where
  abbrev Taken : Surfaces → Type 0
  Taken x = T (surfaces_taken x job.prescription.surface_count)

  abbrev p : ℕ
  p = num_active job.variables

  above_zero : (q n : ℕ) → q < n → 0 < n
  above_zero q n h = omega arith

  -- ---- damped
  abbrev DampedPart : DlsConfig → DampedState → Type 0
  DampedPart config d = DampedSound.Sound (optimizer_of job config) Taken applies d

  pub damped-sound : (config : DlsConfig) (s : State) (e : MeritEvaluation) → finished_by (Damped config) s ≡ false → Sound (Damped config) job s
      → Sound (Damped config) job (advance_by (Damped config) job s e)
  unfolding finished_by advance_by
  damped-sound config s e u h =
      let before : DampedPart config s.damped =
      record {
        is_phase = h.phase_up_to;
        taken = h.current tt;
        column_below = h.column_below;
        attempt_up_to = h.attempt_up_to;
        iteration_up_to = h.iteration_up_to;
      } in
      let d = DampedSound.sound-advance (optimizer_of job config) Taken applies s.damped e u before in
      record {
        phase_up_to = d.is_phase;
        current = λ t. d.taken;
        best = λ t. absurd t;
        column_below = d.column_below;
        attempt_up_to = d.attempt_up_to;
        iteration_up_to = d.iteration_up_to;
        trial_up_to = h.trial_up_to;
        cycle_below = h.cycle_below;
        step_below = h.step_below;
      }

  -- ---- multi-start
  or_left : (a b : Bool) → T a → T (a || b)
  or_left true b t = tt
  or_left false b t = absurd t

  merged-taken : (t : ℕ) (best result : OptimizationResult) → (T (ltb 0 t) → Taken best.surfaces) → Taken result.surfaces
      → Taken (merged (MultiRow.best_before t best) result).surfaces
  unfolding merged MultiRow.best_before
  merged-taken zero best result h r = r
  merged-taken (suc t) best result h r = go (is_lower result best)
    where
      go : (b : Bool) → Taken (cond b result best).surfaces
      go true = r
      go false = h (lt→ltb 0 (suc t) (zero-lt-suc t))

  module _ (config : MultiStartConfig) where
    abbrev m : Method
    m = MultiStart config

    trials-sound : (b : Bool) (best : OptimizationResult) (g t : ℕ) → ltb t config.num_trials ≡ b → 0 < p → Taken best.surfaces →
        Sound m job (MultiRow.resume_trials (optimizer_of job config.local_dls_config) (base_of job) config.num_trials b best g t)
    unfolding MultiRow.resume_trials trial_presc finished_by DampedRow.is_finished DampedRow.finished_at DampedRow.phase_of
    trials-sound true best g t e pos h = record {
      phase_up_to = omega arith;
      current = λ u. applies _ (base_of job) based;
      best = λ u. h;
      column_below = pos;
      attempt_up_to = omega arith;
      iteration_up_to = omega arith;
      trial_up_to = ltb-true t config.num_trials e;
      cycle_below = omega arith;
      step_below = omega arith;
    }
    trials-sound false best g t e pos h = record {
      phase_up_to = omega arith;
      current = λ u. absurd u;
      best = λ u. h;
      column_below = pos;
      attempt_up_to = omega arith;
      iteration_up_to = omega arith;
      trial_up_to = omega arith;
      cycle_below = omega arith;
      step_below = omega arith;
    }

    resumed-sound : (b : Bool) (s : State) (d : DampedState) → DampedRow.is_finished d ≡ b → Sound m job s → DampedPart config.local_dls_config d →
        Sound m job (MultiRow.resume_damped (optimizer_of job config.local_dls_config) (base_of job) config.num_trials b s d)
    unfolding MultiRow.resume_damped finished_by
    resumed-sound true s d e h k =
        trials-sound (ltb s.trial config.num_trials) (merged (MultiRow.best_of s) (DampedRow.result_of d)) s.generator s.trial refl
        (above_zero d.column p k.column_below)
        (merged-taken s.trial s.best (DampedRow.result_of d) (λ t. h.best (or_left (ltb 0 s.trial) (MultiRow.is_finished s) t)) k.taken)
    resumed-sound false s d e h k = record {
      phase_up_to = k.is_phase;
      current = λ u. k.taken;
      best = λ u. h.best (or_left (ltb 0 s.trial) (MultiRow.is_finished s) (or-first (ltb 0 s.trial) (DampedRow.is_finished d) e u));
      column_below = k.column_below;
      attempt_up_to = k.attempt_up_to;
      iteration_up_to = k.iteration_up_to;
      trial_up_to = h.trial_up_to;
      cycle_below = h.cycle_below;
      step_below = h.step_below;
    }
      where
        or-first : (a b : Bool) → b ≡ false → T (a || b) → T a
        or-first true b e t = tt
        or-first false b e t = absurd (subst T e t)

    pub multi-sound : (s : State) (e : MeritEvaluation) → finished_by m s ≡ false → Sound m job s → Sound m job (advance_by m job s e)
    unfolding finished_by advance_by MultiRow.advance
    multi-sound s e u h =
        let o = optimizer_of job config.local_dls_config in
        let before : DampedPart config.local_dls_config s.damped =
        record {
          is_phase = h.phase_up_to;
          taken = h.current (subst (λ (b : Bool). T (not b)) (sym u) tt);
          column_below = h.column_below;
          attempt_up_to = h.attempt_up_to;
          iteration_up_to = h.iteration_up_to;
        } in
        let d = DampedRow.advance o s.damped e in
        resumed-sound (DampedRow.is_finished d) s d refl h (DampedSound.sound-advance o Taken applies s.damped e u before)
