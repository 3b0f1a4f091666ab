-- A multi-start run that a row holds stands where the reference stands. Assumes nothing.
use Rattle.std.specs.Prelude.{◌≡◌, refl, Bool, ltb}
use Rattle.std.proofs.Math.Path.{ap, sym, fun_ext}
use Rattle.std.proofs.Common.{◌∙◌, arith, ltb-true, ltb-false}
use Rattle.std.proofs.Math.Bool.{true, false}
use Prim.Native.Nat.{ℕ, suc, ◌-◌}
use Rattle.std.proofs.Math.Nat.{sub-zero}
use Rattle.xorshift.specs.Xorshift.{seeded}
use Rattle.runs.specs.declared.types.DampedState.{DampedState}
use Rattle.runs.specs.declared.types.OptimizationResult.{OptimizationResult}
use Rattle.runs.specs.Run.{Surfaces, Run, done, ask, bind, bind_assoc}
use Rattle.runs.specs.DampedRun.{Optimizer, damped}
use Rattle.runs.specs.MultiStartRun.{Best, none, some, the_best, merged, trial_presc, trials, multi_start}
use Rattle.runs.specs.DampedRow as Damped
use Rattle.runs.specs.DampedResumption as Damped'
use Rattle.runs.proofs.DampedLaws as DampedLaws
use Rattle.runs.specs.State.{State}
use Rattle.runs.specs.MultiStartRow.{best_before, best_of, is_finished, began, resume_trials, resume_damped, advance, rest, resumption_if, resumption}

module _ (o : Optimizer) (base : Surfaces) (n : ℕ) where
  abbrev last : Best → Run OptimizationResult
  last best = done (the_best best)

  -- law 1
  pub begins : (seed : ℕ) → resumption o base n (began base seed) ≡ multi_start o base n seed
  unfolding resumption resumption_if best_before multi_start Damped.is_finished Damped.finished_at Damped.phase_of
  begins seed =
      ap (λ (r : Run OptimizationResult). bind r (rest o base n (began base seed))) (DampedLaws.begins o base)
      ∙ ap (λ (k : ℕ). bind (damped o base) (λ (result : OptimizationResult). bind (trials o base k (seeded seed) (some (merged none result))) last))
      (sub-zero n)

  resumes-trials : (b : Bool) (best : OptimizationResult) (g t : ℕ) → ltb t n ≡ b
      → resumption o base n (resume_trials o base n b best g t) ≡ bind (trials o base (n - t) g (some best)) last
  unfolding resumption resumption_if best_before resume_trials trials bind Damped.is_finished Damped.finished_at Damped.phase_of
  resumes-trials true best g t h =
      let e : n - t ≡ suc (n - suc t) = omega (arith, ltb-true) in
      rw (e, DampedLaws.begins o (trial_presc o base g)) (sym (bind_assoc (damped o (trial_presc o base g)) _ last))
  resumes-trials false best g t h =
      let e : n - t ≡ 0 = omega (arith, ltb-false) in
      rw e

  resumes-damped : (b : Bool) (s : State) (d : DampedState) → Damped.is_finished d ≡ b
      → resumption o base n (resume_damped o base n b s d) ≡ bind (Damped'.resumption o d) (rest o base n s)
  unfolding resumption resumption_if resume_damped bind
  resumes-damped true s d h =
      rw (DampedLaws.ends o d h) (resumes-trials (ltb s.trial n) (merged (best_of s) (Damped.result_of d)) s.generator s.trial refl)
  resumes-damped false s d h = rw h

  -- law 2
  pub goes_on : (s : State) → is_finished s ≡ false → resumption o base n s ≡ ask (Damped.pending o s.damped) λ e. resumption o base n (advance o base n s e)
  unfolding resumption resumption_if advance bind
  goes_on s h =
      rw (h, DampedLaws.goes_on o s.damped h) (ap (ask (Damped.pending o s.damped))
      (fun_ext λ e. sym (resumes-damped (Damped.is_finished (Damped.advance o s.damped e)) s (Damped.advance o s.damped e) refl)))

  -- law 3
  pub ends : (s : State) → is_finished s ≡ true → resumption o base n s ≡ done s.best
  unfolding resumption resumption_if
  ends s h = rw h
