-- A damped run that a row holds stands where the reference stands: from its first merit (`begins`), through each merit (`goes_on`), to its end (`ends`).
-- Assumes nothing.
use Rattle.std.specs.Prelude.{◌≡◌, Bool, List, ltb, Float}
use Rattle.std.proofs.Math.Path.{refl, ap, sym, fun_ext}
use Rattle.std.proofs.Common.{◌∙◌, true≢false, ltb-true, ltb-false}
use Rattle.std.proofs.Math.Bool.{true, false}
use Prim.Native.Nat.{ℕ, zero, suc, ◌-◌}
use native.Mathlib.Omega.{arith}
use Rattle.std.proofs.Math.Nat.{sub-zero}
use Rattle.std.specs.Float.Ieee.{lt}
use Rattle.variables.specs.Active.{num_active}
use Rattle.merit.specs.declared.types.MeritEvaluation.{MeritEvaluation}
use Rattle.runs.specs.declared.types.DampedState.{DampedState}
use Rattle.runs.specs.declared.types.OptimizationResult.{OptimizationResult}
use Rattle.runs.specs.Run.{Surfaces, Run, done, ask, bind, bind_assoc}
use Rattle.runs.specs.Zeros.{zero_jacobian}
use Rattle.runs.specs.DampedRun.{Optimizer, Current, After, on, over, state_of, counted, raised, settled, started, presc_minus, with_differences, columns}
use Rattle.runs.specs.DampedRun.{is_stationary, if_stationary, is_solved, candidate_params, test_presc, is_reduction, if_reduced, if_solved, attempts}
use Rattle.runs.specs.DampedRun.{rel_improvement, moved, accepted, iteration, going_on, iterations, damped}
use Rattle.runs.specs.DampedRow.{Phase, first, plus, minus, candidate, finished, phase_of, current_of, at_first, resume_solved, resume_attempts}
use Rattle.runs.specs.DampedRow.{resume_stationary, resume_columns, resume_iterations, resume_after, resume_reduced, pending_at, advance_at, pending, advance}
use Rattle.runs.specs.DampedRow.{finished_at, is_finished, result_of}
use Rattle.runs.specs.DampedResumption.{rest, resumption_at, resumption}

module _ (o : Optimizer) where
  abbrev limit : ℕ
  limit = o.config.max_iterations

  abbrev p : ℕ
  p = num_active o.variables

  pub begins : (initial : Surfaces) → resumption o (at_first initial) ≡ damped o initial
  unfolding resumption resumption_at phase_of damped going_on bind
  begins initial = refl

  -- ---- a state just before the next merit stands for what is left of the loop that it stands in
  resumes-solved : (b : Bool) (c j_mat : List Float) (s : Current) (k a n : ℕ) (next : DampedState) → 10 - k ≡ suc a → limit - s.iteration ≡ n →
      resumption o next ≡ bind (attempts o a j_mat (raised s)) (rest o n) →
      resumption o (resume_solved o b c j_mat s k next) ≡ bind (if_solved o b c s (attempts o a j_mat (raised s))) (rest o n)
  unfolding resumption resumption_at phase_of resume_solved if_solved bind
  resumes-solved true c j_mat s k a n next h g ih =
      let e : 10 - suc k ≡ a = omega arith in
      rw (e, g)
  resumes-solved false c j_mat s k a n next h g ih = ih

  resumes-attempts : (a : ℕ) (j_mat : List Float) (s : Current) (k n : ℕ) → 10 - k ≡ a → limit - s.iteration ≡ n →
      resumption o (resume_attempts o a j_mat s k) ≡ bind (attempts o a j_mat s) (rest o n)
  unfolding resumption resumption_at phase_of resume_attempts attempts going_on bind
  resumes-attempts zero j_mat s k n h g = refl
  resumes-attempts (suc a) j_mat s k n h g =
      resumes-solved (is_solved o j_mat s) (candidate_params o j_mat s) j_mat s k a n (resume_attempts o a j_mat (raised s) (suc k)) h g
      (resumes-attempts a j_mat (raised s) (suc k) n (omega arith) g)

  resumes-stationary : (b : Bool) (j_mat : List Float) (s : Current) (n : ℕ) → limit - s.iteration ≡ n →
      resumption o (resume_stationary o b j_mat s) ≡ bind (if_stationary o b j_mat s) (rest o n)
  unfolding resumption resumption_at phase_of resume_stationary if_stationary going_on bind
  resumes-stationary true j_mat s n g = refl
  resumes-stationary false j_mat s n g = resumes-attempts 10 j_mat s 0 n refl g

  abbrev after_columns : Current → ℕ → List Float → Run OptimizationResult
  after_columns s n j_mat = bind (if_stationary o (is_stationary o j_mat s) j_mat s) (rest o n)

  resumes-columns : (b : Bool) (j_mat : List Float) (s : Current) (q n : ℕ) → ltb q p ≡ b → limit - s.iteration ≡ n →
      resumption o (resume_columns o b j_mat s q) ≡ bind (columns o (p - q) q s j_mat) (after_columns s n)
  unfolding resumption resumption_at phase_of resume_columns columns bind
  resumes-columns true j_mat s q n h g =
      let e : p - q ≡ suc (p - suc q) = omega (arith, ltb-true) in
      rw (e, g)
  resumes-columns false j_mat s q n h g =
      let e : p - q ≡ 0 = omega (arith, ltb-false) in
      rw e (resumes-stationary (is_stationary o j_mat s) j_mat s n g)

  -- the iterations that are left, taken apart
  iterations-apart : (n : ℕ) (s : Current) → rest o (suc n) (on s) ≡ bind (columns o p 0 (counted s) zero_jacobian) (after_columns (counted s) n)
  unfolding going_on iterations iteration
  iterations-apart n s = bind_assoc (iteration o s) (going_on (iterations o n)) _ ∙ bind_assoc (columns o p 0 (counted s) zero_jacobian) _ _

  resumes-iterations : (b : Bool) (s : Current) → ltb s.iteration limit ≡ b → resumption o (resume_iterations o b s) ≡ rest o (limit - s.iteration) (on s)
  unfolding resumption resumption_at phase_of resume_iterations
  resumes-iterations true s h =
      let e : limit - s.iteration ≡ suc (limit - suc s.iteration) = omega (arith, ltb-true) in
      rw e (rw sub-zero at (resumes-columns (ltb 0 p) zero_jacobian (counted s) 0 (limit - suc s.iteration) refl refl)
      ∙ sym (iterations-apart (limit - suc s.iteration) s))
  resumes-iterations false s h =
      let e : limit - s.iteration ≡ 0 = omega (arith, ltb-false) in
      rw e (unfold going_on iterations bind in refl)

  resumes-after : (end : After) → resumption o (resume_after o end) ≡ rest o (limit - (state_of end).iteration) end
  unfolding resumption resumption_at phase_of resume_after going_on bind
  resumes-after (on s) = resumes-iterations (ltb s.iteration limit) s refl
  resumes-after (over converged s) = refl

  -- an accepted step keeps the iteration's number
  accepted-iteration : (c : List Float) (e : MeritEvaluation) (s : Current) → (state_of (accepted o c e s)).iteration ≡ s.iteration
  unfolding accepted settled
  accepted-iteration c e s = go (lt (rel_improvement o e s) o.config.relative_merit_tolerance)
    where
      go : (b : Bool) → (state_of (settled b (moved o c e s))).iteration ≡ s.iteration
      go true = refl
      go false = refl

  resumes-reduced : (b : Bool) (d : DampedState) (e : MeritEvaluation) →
      resumption o (resume_reduced o b d e)
      ≡ bind (if_reduced o b d.candidate e (current_of d) (attempts o (10 - d.attempt) d.jacobian (raised (current_of d))))
      (rest o (limit - d.iteration))
  unfolding resume_reduced if_reduced bind
  resumes-reduced true d e =
      resumes-after (accepted o d.candidate e (current_of d))
      ∙ ap (λ (i : ℕ). rest o (limit - i) (accepted o d.candidate e (current_of d))) (accepted-iteration d.candidate e (current_of d))
  resumes-reduced false d e = resumes-attempts (10 - d.attempt) d.jacobian (raised (current_of d)) d.attempt (limit - d.iteration) refl refl

  -- ---- law 2: a state that is not at the end asks for its pending surfaces, and goes on as its advance
  goes-on-at : (f : Phase) (d : DampedState) → finished_at f ≡ false → resumption_at o f d ≡ ask (pending_at o f d) λ e. resumption o (advance_at o f d e)
  unfolding resumption_at pending_at advance_at finished_at bind
  goes-on-at first d h = ap (ask d.surfaces) (fun_ext λ e. sym (rw sub-zero at (resumes-after (on (started o d.surfaces e)))))
  goes-on-at plus d h = unfold resumption phase_of in refl
  goes-on-at minus d h =
      ap (ask (presc_minus o (current_of d) d.column)) (fun_ext λ e. sym (resumes-columns (ltb (suc d.column) p)
      (with_differences o (current_of d) d.column d.jacobian d.plus_residuals e.residuals) (current_of d) (suc d.column)
      (limit - d.iteration) refl refl))
  goes-on-at candidate d h = ap (ask (test_presc o d.candidate (current_of d))) (fun_ext λ e. sym (resumes-reduced (is_reduction o e (current_of d)) d e))
  goes-on-at finished d h = absurd (true≢false h)

  pub goes_on : (d : DampedState) → is_finished d ≡ false → resumption o d ≡ ask (pending o d) λ e. resumption o (advance o d e)
  unfolding resumption pending advance is_finished
  goes_on d h = goes-on-at (phase_of d.phase) d h

  -- ---- law 3: at the end it stands for its result
  ends_at : (f : Phase) (d : DampedState) → finished_at f ≡ true → resumption_at o f d ≡ done (result_of d)
  unfolding resumption_at finished_at
  ends_at first d h = absurd (true≢false (sym h))
  ends_at plus d h = absurd (true≢false (sym h))
  ends_at minus d h = absurd (true≢false (sym h))
  ends_at candidate d h = absurd (true≢false (sym h))
  ends_at finished d h = refl

  pub ends : (d : DampedState) → is_finished d ≡ true → resumption o d ≡ done (result_of d)
  unfolding resumption is_finished
  ends d h = ends_at (phase_of d.phase) d h
