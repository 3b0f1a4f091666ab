-- The state of an undamaged annealing row stays undamaged in a turn. Assumes nothing but what is named.
use Rattle.std.specs.Prelude.{◌≡◌, Bool, ◌&&◌, List, ℕ, zero, suc, max, ◌≤◌, ◌<◌, ltb, eqb, Float}
use Rattle.std.proofs.Math.Path.{refl}
use Rattle.std.proofs.Common.{ap, sym, subst, true≢false, lt_of_lt_of_le, eqb→eq, ltb-true}
use Rattle.std.proofs.Math.Bool.{true, false}
use Rattle.std.proofs.Math.Nat.{le-max_left, le-max_right}
use native.Mathlib.Omega.{arith}
use Rattle.std.proofs.Math.Dec.{T}
use Rattle.variables.specs.Active.{num_active}
use Rattle.variables.specs.Values.{applied}
use Rattle.merit.specs.declared.types.MeritEvaluation.{MeritEvaluation}
use Rattle.jobs.specs.declared.types.Job.{Job}
use Rattle.jobs.specs.declared.types.SimulatedAnnealingConfig.{SimulatedAnnealingConfig}
use Rattle.jobs.specs.declared.types.Method.{Method}
use Rattle.jobs.specs.declared.types.Method.TheVariants.{Annealing}
use Rattle.optics.specs.Check.{surfaces_taken}
use Rattle.runs.specs.Run.{Surfaces}
use Rattle.runs.specs.AnnealingRun.{Walk, cooled, after_draws, trial_presc, judged, started, polisher}
use Rattle.runs.proofs.AnnealingEnds.{sound-judged}
use Rattle.runs.specs.JobRun.{annealer_of}
use Rattle.runs.specs.State.{State}
use Rattle.runs.specs.DampedRow as DampedRow
use Rattle.runs.specs.AnnealingRow.{Phase, walk_first, walk, polishing, phase_of, walk_of, at_step, is_cycle, resume_cycles, resume_steps, advance_at, advance}
use Rattle.runs.specs.AnnealingRow.{finished_at, is_finished}
use Rattle.runs.specs.Rows.{advance_by, finished_by}
use Rattle.runs.proofs.DampedSound as DampedSound
use Rattle.runs.proofs.StateSound.{Sound}

-- ---- which numbers the phases are
abbrev is_walk : Phase → Bool
is_walk walk_first = false
is_walk walk = true
is_walk polishing = false

abbrev is_polish : Phase → Bool
is_polish walk_first = false
is_polish walk = false
is_polish polishing = true

walk-six : (n : ℕ) → is_walk (phase_of n) ≡ true → n ≡ 6
unfolding phase_of
walk-six zero h = absurd (true≢false (sym h))
walk-six (suc zero) h = absurd (true≢false (sym h))
walk-six (suc (suc zero)) h = absurd (true≢false (sym h))
walk-six (suc (suc (suc zero))) h = absurd (true≢false (sym h))
walk-six (suc (suc (suc (suc zero)))) h = absurd (true≢false (sym h))
walk-six (suc (suc (suc (suc (suc zero))))) h = absurd (true≢false (sym h))
walk-six (suc (suc (suc (suc (suc (suc zero)))))) h = refl
walk-six (suc (suc (suc (suc (suc (suc (suc n))))))) h = absurd (true≢false (sym h))

polish-four : (n : ℕ) → is_polish (phase_of n) ≡ true → n ≤ 6 → n ≤ 4
unfolding phase_of
polish-four zero h l = omega arith
polish-four (suc zero) h l = omega arith
polish-four (suc (suc zero)) h l = omega arith
polish-four (suc (suc (suc zero))) h l = omega arith
polish-four (suc (suc (suc (suc zero)))) h l = omega arith
polish-four (suc (suc (suc (suc (suc zero))))) h l = absurd (true≢false (sym h))
polish-four (suc (suc (suc (suc (suc (suc zero)))))) h l = absurd (true≢false (sym h))
polish-four (suc (suc (suc (suc (suc (suc (suc n))))))) h l = absurd (no n l)
  where
    no : (n : ℕ) → suc (suc (suc (suc (suc (suc (suc n)))))) ≤ 6 → ⊥
    no n l = omega arith

module _ (job : Job)
    (applies : (values : List Float) (x : Surfaces) → T (surfaces_taken x job.prescription.surface_count)
    → T (surfaces_taken (applied job.variables values x) job.prescription.surface_count))
    (config : SimulatedAnnealingConfig) where
  abbrev Taken : Surfaces → Type 0
  Taken x = T (surfaces_taken x job.prescription.surface_count)

  abbrev p : ℕ
  p = num_active job.variables

  abbrev m : Method
  m = Annealing config

  abbrev cycle_count : ℕ
  cycle_count = config.max_cooling_cycles

  abbrev step_count : ℕ
  step_count = config.steps_per_temperature

  tries : (trial : List Float) (w : Walk) → Taken w.surfaces → Taken (trial_presc (annealer_of job config) trial w)
  unfolding trial_presc
  tries trial w h = applies trial w.surfaces h

  abbrev TakenWalk : Walk → Type 0
  TakenWalk w = Taken w.surfaces × Taken w.best_surfaces

  one_below : (n : ℕ) → 0 < max n 1
  one_below n = le-max_right n 1

  below-max : (c n : ℕ) → c < n → c < max n 1
  below-max c n h = lt_of_lt_of_le h (le-max_left n 1)

  step-sound : (i : Float) (w : Walk) (c k : ℕ) → 0 < p → c < max cycle_count 1 → k < max step_count 1 → TakenWalk w
      → Sound m job (at_step (annealer_of job config) i w c k)
  unfolding after_draws
  step-sound i w c k pos below-c below-k h = record {
    phase_up_to = omega arith;
    current = λ u. h.0;
    best = λ u. h.1;
    column_below = pos;
    attempt_up_to = omega arith;
    iteration_up_to = omega arith;
    trial_up_to = omega arith;
    cycle_below = below-c;
    step_below = below-k;
  }

  cycles-sound : (b : Bool) (i : Float) (w : Walk) (c : ℕ) → is_cycle (annealer_of job config) c ≡ b → 0 < p → TakenWalk w
      → Sound m job (resume_cycles (annealer_of job config) b i w c)
  unfolding resume_cycles
  cycles-sound true i w c e pos h =
      step-sound i w c 0 pos (below-max c cycle_count (ltb-true c cycle_count (first (ltb c cycle_count) (ltb 0 step_count) e))) (one_below step_count) h
    where
      first : (x y : Bool) → x && y ≡ true → x ≡ true
      first true y h = refl
      first false y h = absurd (true≢false (sym h))
  cycles-sound false i w c e pos h = record {
    phase_up_to = omega arith;
    current = λ u. h.1;
    best = λ u. absurd u;
    column_below = pos;
    attempt_up_to = omega arith;
    iteration_up_to = omega arith;
    trial_up_to = omega arith;
    cycle_below = one_below cycle_count;
    step_below = one_below step_count;
  }

  steps-sound : (b : Bool) (i : Float) (w : Walk) (c k : ℕ) → ltb k step_count ≡ b → 0 < p → c < max cycle_count 1 → TakenWalk w
      → Sound m job (resume_steps (annealer_of job config) b i w c k)
  unfolding resume_steps
  steps-sound true i w c k e pos l h = step-sound i w c k pos l (below-max k step_count (ltb-true k step_count e)) h
  steps-sound false i w c k e pos l h = cycles-sound (is_cycle (annealer_of job config) (suc c)) i (cooled config.cooling_rate w) (suc c) refl pos h

  above_zero : (q n : ℕ) → q < n → 0 < n
  above_zero q n h = omega arith

  advanced-sound : (f : Phase) (s : State) (e : MeritEvaluation) → phase_of s.damped.phase ≡ f → finished_at f s ≡ false → Sound m job s
      → Sound m job (advance_at (annealer_of job config) f s e)
  unfolding advance_at finished_at
  advanced-sound walk_first s e g u h =
      cycles-sound (is_cycle (annealer_of job config) 0) e.total_merit (started (annealer_of job config) s.damped.surfaces e) 0 refl
      (above_zero s.damped.column p h.column_below) (h.current tt, h.current tt)
  advanced-sound walk s e g u h =
      let six : s.damped.phase ≡ 6 = walk-six s.damped.phase (ap is_walk g) in
      steps-sound (ltb (suc s.step) step_count) s.best.initial_merit (judged (annealer_of job config) s.damped.candidate e (walk_of s)) s.cycle
      (suc s.step) refl (above_zero s.damped.column p h.column_below) h.cycle_below
      (sound-judged (annealer_of job config) Taken tries s.damped.candidate e (walk_of s)
      (h.current tt, h.best (subst (λ (n : ℕ). T (eqb n 6)) (sym six) tt)))
  advanced-sound polishing s e g u h =
      let before : DampedSound.Sound (polisher (annealer_of job config)) Taken applies s.damped =
      record {
        is_phase = polish-four s.damped.phase (ap is_polish g) h.phase_up_to;
        taken = h.current tt;
        column_below = h.column_below;
        attempt_up_to = h.attempt_up_to;
        iteration_up_to = h.iteration_up_to;
      } in
      let d = DampedSound.sound-advance (polisher (annealer_of job config)) Taken applies s.damped e u before in
      record {
        phase_up_to = omega (arith, d.is_phase);
        current = λ t. d.taken;
        best = λ t. absurd (no (DampedRow.advance (polisher (annealer_of job config)) s.damped e).phase d.is_phase (eqb→eq _ 6 t));
        column_below = d.column_below;
        attempt_up_to = d.attempt_up_to;
        iteration_up_to = d.iteration_up_to;
        trial_up_to = h.trial_up_to;
        cycle_below = h.cycle_below;
        step_below = h.step_below;
      }
    where
      no : (n : ℕ) → n ≤ 4 → n ≡ 6 → ⊥
      no n l e = omega arith

  pub annealing-sound : (s : State) (e : MeritEvaluation) → finished_by m s ≡ false → Sound m job s → Sound m job (advance_by m job s e)
  unfolding finished_by advance_by advance is_finished
  annealing-sound s e u h = advanced-sound (phase_of s.damped.phase) s e refl u h
