-- An annealing run that a row holds stands where the reference stands. Assumes nothing.
use Rattle.std.specs.Prelude.{◌≡◌, Bool, ◌&&◌, Float}
use Rattle.std.proofs.Math.Path.{refl, ap, sym, fun_ext}
use Rattle.std.proofs.Common.{◌∙◌, true≢false, arith, ltb-true, ltb-false}
use Rattle.std.proofs.Math.Bool.{true, false}
use Prim.Native.Nat.{ℕ, zero, suc, ◌-◌}
use Rattle.std.proofs.Math.Nat.{sub-zero}
use Rattle.std.proofs.Math.Dec.{ltb}
use Rattle.merit.specs.declared.types.MeritEvaluation.{MeritEvaluation}
use Rattle.runs.specs.declared.types.DampedState.{DampedState}
use Rattle.runs.specs.declared.types.OptimizationResult.{OptimizationResult}
use Rattle.runs.specs.Run.{Surfaces, Run, done, ask, bind, bind_assoc}
use Rattle.runs.specs.AnnealingRun.{Annealer, Walk, cooled, trial_params, after_draws, trial_presc, judged, tried, steps, cycles, started, polisher}
use Rattle.runs.specs.AnnealingRun.{with_prior, polish, annealing}
use Rattle.runs.specs.DampedRow.{at_first}
use Rattle.runs.specs.DampedRow as Damped
use Rattle.runs.specs.DampedResumption as Damped'
use Rattle.runs.proofs.DampedLaws as DampedLaws
use Rattle.runs.proofs.DampedInvariant.{advanced-is}
use Rattle.runs.specs.State.{State, with_damped}
use Rattle.runs.specs.AnnealingRow.{Phase, walk_first, walk, polishing, phase_of, walk_of, at_walk_first, at_polish, at_step, is_cycle, resume_cycles}
use Rattle.runs.specs.AnnealingRow.{resume_steps}
use Rattle.runs.specs.AnnealingRow.{pending_at, advance_at, pending, advance, polished, result_of, resumption_at, resumption, finished_at, is_finished}

module _ (a : Annealer) where
  abbrev cycle_count : ℕ
  cycle_count = a.config.max_cooling_cycles

  abbrev step_count : ℕ
  step_count = a.config.steps_per_temperature

  abbrev cool : Walk → Walk
  cool w = cooled a.config.cooling_rate w

  -- law 1
  pub begins : (base : Surfaces) → resumption a (at_walk_first base) ≡ annealing a base
  unfolding resumption resumption_at phase_of annealing bind
  begins base = refl

  -- the polish begins
  resumes-polish : (i : Float) (w : Walk) → resumption a (at_polish i (at_first w.best_surfaces)) ≡ polished a i w
  unfolding resumption resumption_at phase_of polish
  resumes-polish i w = rw (DampedLaws.begins (polisher a) w.best_surfaces)

  -- cycles without a step leave the best as it is
  no_steps : (n : ℕ) (i : Float) (w : Walk) → step_count ≡ 0 → bind (cycles a n w) (polished a i) ≡ polished a i w
  unfolding cycles steps bind
  no_steps zero i w h = refl
  no_steps (suc n) i w h = ap (λ (k : ℕ). bind (bind (steps a k w) (λ (w' : Walk). cycles a n (cool w'))) (polished a i)) h ∙ no_steps n i (cool w) h

  -- a step that is begun, in a loop of steps and in one of cycles
  abbrev after : (i : Float) (k c : ℕ) → Walk → Run OptimizationResult
  after i k c w = bind (steps a k w) (λ (w' : Walk). bind (cycles a c (cool w')) (polished a i))

  steps_apart : (i : Float) (k c : ℕ) (w : Walk)
      → after i (suc k) c w ≡ ask (trial_presc a (trial_params a w) (after_draws a w)) λ e. after i k c (judged a (trial_params a w) e (after_draws a w))
  unfolding steps tried bind
  steps_apart i k c w = refl

  and-false : (x y : Bool) {P : Type 0} → (x ≡ false → P) → (y ≡ false → P) → x && y ≡ false → P
  and-false false y f g h = f refl
  and-false true y f g h = g h

  and-true : (x y : Bool) → x && y ≡ true → (x ≡ true) × (y ≡ true)
  and-true true y h = (refl, h)
  and-true false y h = absurd (true≢false (sym h))

  -- at the head of a cycle that has a step
  cycles-apart : (i : Float) (w : Walk) (c : ℕ) → ltb c cycle_count ≡ true
      → bind (cycles a (cycle_count - c) w) (polished a i) ≡ after i step_count (cycle_count - suc c) w
  unfolding cycles
  cycles-apart i w c h =
      let e : cycle_count - c ≡ suc (cycle_count - suc c) = omega (arith, ltb-true) in
      ap (λ (n : ℕ). bind (cycles a n w) (polished a i)) e ∙ bind_assoc (steps a step_count w) _ (polished a i)

  resumes-step : (i : Float) (w : Walk) (c k : ℕ) → ltb k step_count ≡ true
      → resumption a (at_step a i w c k) ≡ after i (step_count - k) (cycle_count - suc c) w
  unfolding resumption resumption_at phase_of
  resumes-step i w c k h =
      let e : step_count - k ≡ suc (step_count - suc k) = omega (arith, ltb-true) in
      sym (ap (λ (n : ℕ). after i n (cycle_count - suc c) w) e ∙ steps_apart i (step_count - suc k) (cycle_count - suc c) w)

  resumes-cycles : (b : Bool) (i : Float) (w : Walk) (c : ℕ) → is_cycle a c ≡ b
      → resumption a (resume_cycles a b i w c) ≡ bind (cycles a (cycle_count - c) w) (polished a i)
  unfolding resume_cycles
  resumes-cycles true i w c h =
      let t = and-true (ltb c cycle_count) (ltb 0 step_count) h in
      resumes-step i w c 0 t.1 ∙ ap (λ (n : ℕ). after i n (cycle_count - suc c) w) (sub-zero step_count) ∙ sym (cycles-apart i w c t.0)
  resumes-cycles false i w c h = resumes-polish i w ∙ sym (and-false (ltb c cycle_count) (ltb 0 step_count) over none h)
    where
      over : ltb c cycle_count ≡ false → bind (cycles a (cycle_count - c) w) (polished a i) ≡ polished a i w
      over f =
          let e : cycle_count - c ≡ 0 = omega (arith, ltb-false) in
          ap (λ (n : ℕ). bind (cycles a n w) (polished a i)) e ∙ unfold cycles bind in refl

      none : ltb 0 step_count ≡ false → bind (cycles a (cycle_count - c) w) (polished a i) ≡ polished a i w
      none f = no_steps (cycle_count - c) i w (omega (arith, ltb-false))

  resumes-steps : (b : Bool) (i : Float) (w : Walk) (c k : ℕ) → ltb k step_count ≡ b
      → resumption a (resume_steps a b i w c k) ≡ after i (step_count - k) (cycle_count - suc c) w
  unfolding resume_steps
  resumes-steps true i w c k h = resumes-step i w c k h
  resumes-steps false i w c k h =
      let e : step_count - k ≡ 0 = omega (arith, ltb-false) in
      resumes-cycles (is_cycle a (suc c)) i (cool w) (suc c) refl ∙ sym (ap (λ (n : ℕ). after i n (cycle_count - suc c) w) e ∙ unfold steps bind in refl)

  -- a damped run that goes on stays in the polish
  stays-polishing : (d : DampedState) (e : MeritEvaluation) → Damped.is_finished d ≡ false → phase_of (Damped.advance (polisher a) d e).phase ≡ polishing
  unfolding phase_of
  stays-polishing =
      advanced-is (polisher a) (λ (d : DampedState). phase_of d.phase ≡ polishing) (λ s j q. refl) (λ s j q r. refl) (λ s j k c. refl) (λ c s. refl)

  resumes-polishing : (s : State) (d : DampedState) → phase_of d.phase ≡ polishing →
      resumption a (with_damped s d) ≡ bind (Damped'.resumption (polisher a) d)
      (λ (result : OptimizationResult). done (with_prior a s.best.initial_merit result))
  unfolding resumption resumption_at
  resumes-polishing s d h = ap (λ (f : Phase). resumption_at a f (with_damped s d)) h

  -- law 2
  goes-on-at : (f : Phase) (s : State) → finished_at f s ≡ false → resumption_at a f s ≡ ask (pending_at a f s) λ e. resumption a (advance_at a f s e)
  unfolding resumption_at pending_at advance_at finished_at
  goes-on-at walk_first s h =
      ap (ask s.damped.surfaces) (fun_ext λ e. sym (resumes-cycles (is_cycle a 0) e.total_merit (started a s.damped.surfaces e) 0 refl
      ∙ ap (λ (n : ℕ). bind (cycles a n (started a s.damped.surfaces e)) (polished a e.total_merit)) (sub-zero cycle_count)))
  goes-on-at walk s h =
      ap (ask (trial_presc a s.damped.candidate (walk_of s)))
      (fun_ext λ e. sym (resumes-steps (ltb (suc s.step) step_count) s.best.initial_merit (judged a s.damped.candidate e (walk_of s)) s.cycle
      (suc s.step) refl))
  goes-on-at polishing s h =
      let d = s.damped in
      let o = polisher a in
      ap (λ (r : Run OptimizationResult). bind r (λ (result : OptimizationResult). done (with_prior a s.best.initial_merit result)))
      (DampedLaws.goes_on o d h)
      ∙ unfold bind in ap (ask (Damped.pending o d)) (fun_ext λ e. sym (resumes-polishing s (Damped.advance o d e) (stays-polishing d e h)))

  pub goes_on : (s : State) → is_finished s ≡ false → resumption a s ≡ ask (pending a s) λ e. resumption a (advance a s e)
  unfolding resumption pending advance is_finished
  goes_on s h = goes-on-at (phase_of s.damped.phase) s h

  -- law 3
  ends_at : (f : Phase) (s : State) → finished_at f s ≡ true → resumption_at a f s ≡ done (result_of a s)
  unfolding resumption_at finished_at bind
  ends_at walk_first s h = absurd (true≢false (sym h))
  ends_at walk s h = absurd (true≢false (sym h))
  ends_at polishing s h =
      ap (λ (r : Run OptimizationResult). bind r (λ (result : OptimizationResult). done (with_prior a s.best.initial_merit result)))
      (DampedLaws.ends (polisher a) s.damped h)

  pub ends : (s : State) → is_finished s ≡ true → resumption a s ≡ done (result_of a s)
  unfolding resumption is_finished
  ends s h = ends_at (phase_of s.damped.phase) s h
