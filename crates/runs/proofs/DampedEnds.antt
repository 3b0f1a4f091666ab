-- How long a damped run takes, and what holds at its end, by one walk through its loops: what every step keeps (Holds), given what is known of the
-- answers (Q). Assumes nothing.
use Rattle.std.specs.Prelude.{◌≡◌, Bool, List, Float}
use Rattle.std.proofs.Math.Path.{refl}
use Rattle.std.proofs.Math.Bool.{true, false}
use Prim.Native.Nat.{ℕ, zero, suc, ◌+◌, ◌*◌}
use Rattle.std.proofs.Common.{arith}
use Rattle.std.specs.Float.Ieee.{lt}
use Rattle.variables.specs.Active.{num_active}
use Rattle.merit.specs.declared.types.MeritEvaluation.{MeritEvaluation}
use Rattle.runs.specs.declared.types.OptimizationResult.{OptimizationResult}
use Rattle.runs.specs.Run.{Surfaces, Run, bind}
use Rattle.runs.proofs.Ends.{Ends, now, later, Any, Ends-more, Ends-bind}
use Rattle.runs.specs.Zeros.{zero_jacobian}
use Rattle.runs.specs.DampedRun.{Optimizer, Current, After, on, over, state_of, result_of, counted, raised, settled, started, presc_plus, presc_minus}
use Rattle.runs.specs.DampedRun.{with_differences, columns, is_stationary, if_stationary, is_solved, candidate_params, test_presc, is_reduction}
use Rattle.runs.specs.DampedRun.{rel_improvement}
use Rattle.runs.specs.DampedRun.{moved, accepted, if_reduced, if_solved, attempts, iteration, going_on, iterations, damped}

module _ (o : Optimizer) (Q : Surfaces → MeritEvaluation → Type 0) (Holds : Current → Type 0)
    (raises : (s : Current) → Holds s → Holds (raised s))
    (counts : (s : Current) → Holds s → Holds (counted s))
    (moves : (c : List Float) (e : MeritEvaluation) (s : Current) → Holds s → Q (test_presc o c s) e → is_reduction o e s ≡ true → Holds (moved o c e s)) where
  abbrev p : ℕ
  p = num_active o.variables

  abbrev HoldsAfter : After → Type 0
  HoldsAfter end = Holds (state_of end)

  -- two merits a column
  ends-columns : (left q : ℕ) (s : Current) (j_mat : List Float) → Ends Q Any (2 * left) (columns o left q s j_mat)
  unfolding columns bind
  ends-columns zero q s j_mat = now tt
  ends-columns (suc left) q s j_mat =
      later {n = suc (2 * left)} {m = 2 * suc left} (omega arith) λ e (h : Q (presc_plus o s q) e).
      later {n = 2 * left} {m = suc (2 * left)} (omega arith) λ e' (h' : Q (presc_minus o s q) e').
      ends-columns left (suc q) s (with_differences o s q j_mat e.residuals e'.residuals)

  holds-accepted : (c : List Float) (e : MeritEvaluation) (s : Current) → Holds (moved o c e s) → HoldsAfter (accepted o c e s)
  unfolding accepted settled
  holds-accepted c e s h = go (lt (rel_improvement o e s) o.config.relative_merit_tolerance)
    where
      go : (b : Bool) → HoldsAfter (settled b (moved o c e s))
      go true = h
      go false = h

  ends-reduced : (b : Bool) (c : List Float) (e : MeritEvaluation) (s : Current) (n : ℕ) (next : Run After) → is_reduction o e s ≡ b → Q (test_presc o c s) e
      → Holds s → Ends Q HoldsAfter n next → Ends Q HoldsAfter n (if_reduced o b c e s next)
  unfolding if_reduced
  ends-reduced true c e s n next t q h r = now (holds-accepted c e s (moves c e s h q t))
  ends-reduced false c e s n next t q h r = r

  -- one merit an attempt, or none
  ends-solved : (b : Bool) (c : List Float) (s : Current) (n : ℕ) (next : Run After) → Holds s → Ends Q HoldsAfter n next
      → Ends Q HoldsAfter (suc n) (if_solved o b c s next)
  unfolding if_solved bind
  ends-solved true c s n next h r = later {n = n} {m = suc n} (omega arith) λ e q. ends-reduced (is_reduction o e s) c e s n next refl q h r
  ends-solved false c s n next h r = Ends-more (suc n) (omega arith) r

  ends-attempts : (left : ℕ) (j_mat : List Float) (s : Current) → Holds s → Ends Q HoldsAfter left (attempts o left j_mat s)
  unfolding attempts
  ends-attempts zero j_mat s h = now h
  ends-attempts (suc left) j_mat s h =
      ends-solved (is_solved o j_mat s) (candidate_params o j_mat s) s left (attempts o left j_mat (raised s)) h
      (ends-attempts left j_mat (raised s) (raises s h))

  ends-stationary : (b : Bool) (j_mat : List Float) (s : Current) → Holds s → Ends Q HoldsAfter 10 (if_stationary o b j_mat s)
  unfolding if_stationary
  ends-stationary true j_mat s h = now h
  ends-stationary false j_mat s h = ends-attempts 10 j_mat s h

  ends-iteration : (s : Current) → Holds s → Ends Q HoldsAfter (2 * p + 10) (iteration o s)
  unfolding iteration
  ends-iteration s h =
      Ends-bind 10 _ (ends-columns p 0 (counted s) zero_jacobian) λ j_mat t. ends-stationary (is_stationary o j_mat (counted s)) j_mat (counted s) (counts s h)

  ends-going : (n : ℕ) (next : Current → Run After) → ((s : Current) → Holds s → Ends Q HoldsAfter n (next s)) → (end : After) → HoldsAfter end
      → Ends Q HoldsAfter n (going_on next end)
  unfolding going_on
  ends-going n next f (on s) h = f s h
  ends-going n next f (over converged s) h = now h

  pub ends-iterations : (left : ℕ) (s : Current) → Holds s → Ends Q HoldsAfter (left * (2 * p + 10)) (iterations o left s)
  unfolding iterations
  ends-iterations zero s h = now h
  ends-iterations (suc left) s h =
      Ends-more (suc left * (2 * p + 10)) (omega arith)
      (Ends-bind (left * (2 * p + 10)) _ (ends-iteration s h) (ends-going (left * (2 * p + 10)) (iterations o left) (λ s' h'. ends-iterations left s' h')))

  pub ends-damped : (P : OptimizationResult → Type 0) (initial : Surfaces) →
      ((e : MeritEvaluation) → Q initial e → Holds (started o initial e)) →
      ((end : After) → HoldsAfter end → P (result_of end)) →
      Ends Q P (1 + o.config.max_iterations * (2 * p + 10)) (damped o initial)
  unfolding damped bind
  ends-damped P initial starts finishes =
      let n = o.config.max_iterations * (2 * p + 10) in
      later {n = n + 0} {m = 1 + n} (omega arith) λ e q.
      Ends-bind 0 _ (ends-iterations o.config.max_iterations (started o initial e) (starts e q)) λ end h. now (finishes end h)
