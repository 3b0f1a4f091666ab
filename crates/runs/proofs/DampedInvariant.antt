-- What holds of every state that a damped run comes to, by one walk through its loops. Assumes nothing.
use Rattle.std.specs.Prelude.{◌≡◌, Bool, List, ltb, Float}
use Rattle.std.proofs.Math.Path.{refl}
use Rattle.std.proofs.Math.Bool.{true, false}
use Rattle.std.proofs.Common.{true≢false, arith}
use Prim.Native.Nat.{ℕ, zero, suc, ◌-◌, ◌≤◌}
use Rattle.std.specs.Float.Ieee.{lt}
use Rattle.variables.specs.Active.{num_active}
use Rattle.merit.specs.declared.types.MeritEvaluation.{MeritEvaluation}
use Rattle.runs.specs.declared.types.DampedState.{DampedState}
use Rattle.runs.specs.Run.{Surfaces}
use Rattle.runs.specs.Zeros.{zero_jacobian}
use Rattle.runs.specs.DampedRun.{Optimizer, Current, After, on, over, state_of, counted, raised, settled, started, with_differences, is_stationary, is_solved}
use Rattle.runs.specs.DampedRun.{candidate_params, is_reduction, rel_improvement, moved, accepted}
use Rattle.runs.specs.DampedRow.{Phase, first, plus, minus, candidate, finished, phase_of, current_of, at_plus, at_minus, at_candidate, ended, resume_solved}
use Rattle.runs.specs.DampedRow.{resume_attempts, resume_stationary, resume_columns, resume_iterations, resume_after, resume_reduced, advance_at, advance}
use Rattle.runs.specs.DampedRow.{finished_at, is_finished}

-- What is to hold of the parts that the loops hold, and of a state (State); each step of the loops keeps it.
pub record Invariant (o : Optimizer) : Type 1 where
  pub Start : Surfaces → Type 0
  pub Answer : MeritEvaluation → Type 0
  pub Holds : Current → Type 0
  pub AtColumn : (q : ℕ) (j_mat : List Float) → Type 0
  pub Full : (j_mat : List Float) → Type 0
  pub Residuals : List Float → Type 0
  pub Candidate : List Float → Type 0
  pub State : DampedState → Type 0
  -- the steps
  pub starts : (initial : Surfaces) (e : MeritEvaluation) → Start initial → Answer e → Holds (started o initial e)
  pub raises : (s : Current) → Holds s → Holds (raised s)
  pub counts : (s : Current) → Holds s → ltb s.iteration o.config.max_iterations ≡ true → Holds (counted s)
  pub moves : (c : List Float) (e : MeritEvaluation) (s : Current) → Holds s → Candidate c → Answer e → Holds (moved o c e s)
  pub first_column : ltb 0 (num_active o.variables) ≡ true → AtColumn 0 zero_jacobian
  pub no_column : ltb 0 (num_active o.variables) ≡ false → Full zero_jacobian
  pub next_column : (s : Current) (q : ℕ) (j_mat plus_residuals minus_residuals : List Float) → Holds s → AtColumn q j_mat → Residuals plus_residuals
      → Residuals minus_residuals → ltb (suc q) (num_active o.variables) ≡ true → AtColumn (suc q) (with_differences o s q j_mat plus_residuals minus_residuals)
  pub last_column : (s : Current) (q : ℕ) (j_mat plus_residuals minus_residuals : List Float) → Holds s → AtColumn q j_mat → Residuals plus_residuals
      → Residuals minus_residuals → ltb (suc q) (num_active o.variables) ≡ false → Full (with_differences o s q j_mat plus_residuals minus_residuals)
  pub solves : (j_mat : List Float) (s : Current) → Holds s → Full j_mat → Candidate (candidate_params o j_mat s)
  pub answers : (e : MeritEvaluation) → Answer e → Residuals e.residuals
  -- the states
  pub state_plus : (s : Current) (j_mat : List Float) (q : ℕ) → Holds s → AtColumn q j_mat → State (at_plus s j_mat q)
  pub state_minus : (s : Current) (j_mat : List Float) (q : ℕ) (plus_residuals : List Float) → Holds s → AtColumn q j_mat → Residuals plus_residuals
      → State (at_minus s j_mat q plus_residuals)
  pub state_candidate : (s : Current) (j_mat : List Float) (k : ℕ) (c : List Float) → Holds s → Full j_mat → Candidate c → k ≤ 10
      → State (at_candidate s j_mat k c)
  pub state_ended : (converged : Bool) (s : Current) → Holds s → State (ended converged s)

module _ (o : Optimizer) (K : Invariant o) where
  open K use {Start, Answer, Holds, AtColumn, Full, Residuals, Candidate, State}

  -- what is asked of a state before it is advanced
  abbrev pub Before : Phase → DampedState → Type 0
  Before first d = Start d.surfaces
  Before plus d = Holds (current_of d) × AtColumn d.column d.jacobian
  Before minus d = Holds (current_of d) × AtColumn d.column d.jacobian × Residuals d.plus_residuals
  Before candidate d = Holds (current_of d) × Full d.jacobian × Candidate d.candidate
  Before finished d = Unit {0}

  keeps-solved : (b : Bool) (c j_mat : List Float) (s : Current) (k : ℕ) (next : DampedState) → Holds s → Full j_mat → Candidate c → suc k ≤ 10 → State next
      → State (resume_solved o b c j_mat s k next)
  unfolding resume_solved
  keeps-solved true c j_mat s k next h f g l n = K.state_candidate s j_mat (suc k) c h f g l
  keeps-solved false c j_mat s k next h f g l n = n

  keeps-attempts : (left : ℕ) (j_mat : List Float) (s : Current) (k : ℕ) → 10 - k ≡ left → Holds s → Full j_mat → State (resume_attempts o left j_mat s k)
  unfolding resume_attempts
  keeps-attempts zero j_mat s k e h f = K.state_ended false s h
  keeps-attempts (suc left) j_mat s k e h f =
      keeps-solved (is_solved o j_mat s) (candidate_params o j_mat s) j_mat s k _ h f (K.solves j_mat s h f) (omega arith)
      (keeps-attempts left j_mat (raised s) (suc k) (omega arith) (K.raises s h) f)

  keeps-stationary : (b : Bool) (j_mat : List Float) (s : Current) → Holds s → Full j_mat → State (resume_stationary o b j_mat s)
  unfolding resume_stationary
  keeps-stationary true j_mat s h f = K.state_ended true s h
  keeps-stationary false j_mat s h f = keeps-attempts 10 j_mat s 0 refl h f

  keeps-columns : (b : Bool) (j_mat : List Float) (s : Current) (q : ℕ) → Holds s → (b ≡ true → AtColumn q j_mat) → (b ≡ false → Full j_mat)
      → State (resume_columns o b j_mat s q)
  unfolding resume_columns
  keeps-columns true j_mat s q h c f = K.state_plus s j_mat q h (c refl)
  keeps-columns false j_mat s q h c f = keeps-stationary (is_stationary o j_mat s) j_mat s h (f refl)

  keeps-iterations : (b : Bool) (s : Current) → ltb s.iteration o.config.max_iterations ≡ b → Holds s → State (resume_iterations o b s)
  unfolding resume_iterations
  keeps-iterations true s e h = keeps-columns (ltb 0 (num_active o.variables)) zero_jacobian (counted s) 0 (K.counts s h e) K.first_column K.no_column
  keeps-iterations false s e h = K.state_ended false s h

  keeps-after : (end : After) → Holds (state_of end) → State (resume_after o end)
  unfolding resume_after
  keeps-after (on s) h = keeps-iterations (ltb s.iteration o.config.max_iterations) s refl h
  keeps-after (over converged s) h = K.state_ended converged s h

  keeps-accepted : (c : List Float) (e : MeritEvaluation) (s : Current) → Holds s → Candidate c → Answer e → Holds (state_of (accepted o c e s))
  unfolding accepted settled
  keeps-accepted c e s h g n = go (lt (rel_improvement o e s) o.config.relative_merit_tolerance)
    where
      go : (b : Bool) → Holds (state_of (settled b (moved o c e s)))
      go true = K.moves c e s h g n
      go false = K.moves c e s h g n

  keeps-reduced : (b : Bool) (d : DampedState) (e : MeritEvaluation) → Before candidate d → Answer e → State (resume_reduced o b d e)
  unfolding resume_reduced
  keeps-reduced true d e h n = keeps-after (accepted o d.candidate e (current_of d)) (keeps-accepted d.candidate e (current_of d) h.0 h.2 n)
  keeps-reduced false d e h n = keeps-attempts (10 - d.attempt) d.jacobian (raised (current_of d)) d.attempt refl (K.raises (current_of d) h.0) h.1

  keeps-at : (f : Phase) (d : DampedState) (e : MeritEvaluation) → finished_at f ≡ false → Before f d → Answer e → State (advance_at o f d e)
  unfolding advance_at finished_at
  keeps-at first d e u h n = keeps-after (on (started o d.surfaces e)) (K.starts d.surfaces e h n)
  keeps-at plus d e u h n = K.state_minus (current_of d) d.jacobian d.column e.residuals h.0 h.1 (K.answers e n)
  keeps-at minus d e u h n =
      let q = d.column in
      keeps-columns (ltb (suc q) (num_active o.variables)) _ (current_of d) (suc q) h.0
      (K.next_column (current_of d) q d.jacobian d.plus_residuals e.residuals h.0 h.1 h.2 (K.answers e n))
      (K.last_column (current_of d) q d.jacobian d.plus_residuals e.residuals h.0 h.1 h.2 (K.answers e n))
  keeps-at candidate d e u h n = keeps-reduced (is_reduction o e (current_of d)) d e h n
  keeps-at finished d e u h n = absurd (true≢false u)

  pub keeps : (d : DampedState) (e : MeritEvaluation) → is_finished d ≡ false → Before (phase_of d.phase) d → Answer e → State (advance o d e)
  unfolding advance is_finished
  keeps d e u h n = keeps-at (phase_of d.phase) d e u h n

-- ---- Where only the phase counts: what holds of the states of each phase holds of every state that is made
module _ (o : Optimizer) (P : DampedState → Type 0)
    (at_plus-is : (s : Current) (j_mat : List Float) (q : ℕ) → P (at_plus s j_mat q))
    (at_minus-is : (s : Current) (j_mat : List Float) (q : ℕ) (r : List Float) → P (at_minus s j_mat q r))
    (at_candidate-is : (s : Current) (j_mat : List Float) (k : ℕ) (c : List Float) → P (at_candidate s j_mat k c))
    (ended_is : (converged : Bool) (s : Current) → P (ended converged s)) where
  abbrev made : Invariant o
  made = record {
    Start = λ x. Unit {0};
    Answer = λ e. Unit {0};
    Holds = λ s. Unit {0};
    AtColumn = λ q j. Unit {0};
    Full = λ j. Unit {0};
    Residuals = λ r. Unit {0};
    Candidate = λ c. Unit {0};
    State = P;
    starts = λ x e h n. tt;
    raises = λ s h. tt;
    counts = λ s h e. tt;
    moves = λ c e s h g n. tt;
    first_column = λ e. tt;
    no_column = λ e. tt;
    next_column = λ s q j r m h a b c e. tt;
    last_column = λ s q j r m h a b c e. tt;
    solves = λ j s h f. tt;
    answers = λ e n. tt;
    state_plus = λ s j q h a. at_plus-is s j q;
    state_minus = λ s j q r h a b. at_minus-is s j q r;
    state_candidate = λ s j k c h f g l. at_candidate-is s j k c;
    state_ended = λ c s h. ended_is c s;
  }

  any_before : (f : Phase) (d : DampedState) → Before o made f d
  any_before first d = tt
  any_before plus d = (tt, tt)
  any_before minus d = (tt, tt, tt)
  any_before candidate d = (tt, tt, tt)
  any_before finished d = tt

  pub advanced-is : (d : DampedState) (e : MeritEvaluation) → is_finished d ≡ false → P (advance o d e)
  advanced-is d e u = keeps o made d e u (any_before (phase_of d.phase) d) tt
