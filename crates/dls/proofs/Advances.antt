-- The steps of a turn, put together to `pending` and `advance`, phase by phase. Assumes nothing.
use mathlib.Core.Path.{◌≡◌, refl, ap, sym, ◌∙◌}
use mathlib.Core.Bool.{Bool, true, false, ◌&&◌}
use mathlib.Core.List.{List}
use Prim.Native.Nat.{ℕ, zero, suc, ◌+◌, ◌-◌, ◌≤◌, ◌<◌}
use native.Mathlib.Numerals.{add-one}
use native.Mathlib.Omega.{arith}
use lib.Dec.{ltb}
use lib.Ieee.{Float, lt}
use borrow.Author.Tests.{lt-ltb, le-ltb}
use Rattle.floats.specs.Basic.{finite_of}
use Rattle.variables.specs.Active.{num_active}
use Rattle.variables.specs.Values.{extracted}
use Rattle.merit.specs.declared.types.MeritEvaluation.{MeritEvaluation}
use Rattle.runs.specs.declared.types.DampedState.{DampedState}
use Rattle.runs.specs.Run.{Surfaces}
use Rattle.runs.specs.DampedRun.{Optimizer, Current, on, settled, started, raised, with_differences, is_stationary, is_reduction, rel_improvement, moved}
use Rattle.runs.specs.DampedRun.{accepted}
use Rattle.runs.specs.DampedRow.{Phase, first, minus, candidate, finished, phase_of, current_of, at_plus, ended, resume_attempts, resume_stationary}
use Rattle.runs.specs.DampedRow.{resume_columns}
use Rattle.runs.specs.DampedRow.{resume_after, resume_reduced, pending_at, advance_at, pending, advance, resume_iterations}
use Rattle.dls.specs.DampedSteps.{with_jacobian, with_current, relative_gain, iteration_entered}

-- ---- a run with a variable enters an iteration at its first column
pub iterations-entered : (o : Optimizer) (b : Bool) (s : Current) → 0 < num_active o.variables → iteration_entered b s ≡ resume_iterations o b s
unfolding resume_iterations resume_columns iteration_entered
iterations-entered o true s h = rw (lt-ltb 0 (num_active o.variables) h)
iterations-entered o false s h = refl

-- ---- by the phase's number
pub phase-over : (n : ℕ) → 4 ≤ n → phase_of n ≡ finished
unfolding phase_of
phase-over zero h = absurd (omega arith)
phase-over (suc zero) h = absurd (omega arith)
phase-over (suc (suc zero)) h = absurd (omega arith)
phase-over (suc (suc (suc zero))) h = absurd (omega arith)
phase-over (suc (suc (suc (suc n)))) h = refl

module _ (o : Optimizer) (d : DampedState) {n : ℕ} (at : d.phase ≡ n) where
  pub pending-at : {r : Surfaces} → r ≡ pending_at o (phase_of n) d → r ≡ pending o d
  unfolding pending
  pending-at f = f ∙ ap (λ (k : ℕ). pending_at o (phase_of k) d) (sym at)

  pub advance-at : (e : MeritEvaluation) {r : DampedState} → r ≡ advance_at o (phase_of n) d e → r ≡ advance o d e
  unfolding advance
  advance-at e f = f ∙ ap (λ (k : ℕ). advance_at o (phase_of k) d e) (sym at)

-- before the first merit, as at the end, the surfaces as they are
pub pending-same : (o : Optimizer) (d : DampedState) → (d.phase ≡ 1 → ⊥) → (d.phase ≡ 2 → ⊥) → (d.phase ≡ 3 → ⊥) → d.surfaces ≡ pending o d
unfolding pending pending_at phase_of
pending-same o d = at d.phase
  where
    at : (n : ℕ) → (n ≡ 1 → ⊥) → (n ≡ 2 → ⊥) → (n ≡ 3 → ⊥) → d.surfaces ≡ pending_at o (phase_of n) d
    at zero a b c = refl
    at (suc zero) a b c = absurd (a refl)
    at (suc (suc zero)) a b c = absurd (b refl)
    at (suc (suc (suc zero))) a b c = absurd (c refl)
    at (suc (suc (suc (suc n)))) a b c = refl

pub advance-over : (o : Optimizer) (d : DampedState) (e : MeritEvaluation) → 4 ≤ d.phase → d ≡ advance o d e
unfolding advance advance_at
advance-over o d e past = ap (λ (p : Phase). advance_at o p d e) (sym (phase-over d.phase past))

module _ (o : Optimizer) (d : DampedState) (e : MeritEvaluation) where
  -- ---- the other side of a column
  abbrev j_mat : List Float
  j_mat = with_differences o (current_of d) d.column d.jacobian d.plus_residuals e.residuals

  abbrev columns_if : Bool → ℕ → DampedState
  columns_if b q = resume_columns o b j_mat (current_of d) q

  module _ {next : DampedState} (written : next ≡ with_jacobian d j_mat) where
    -- another column follows
    pub column-on : {r : DampedState} → d.column + 1 < num_active o.variables → r ≡ at_plus (current_of next) next.jacobian (d.column + 1) → r
        ≡ advance_at o minus d e
    unfolding advance_at resume_columns
    column-on t f =
        f
        ∙ ap (λ (w : DampedState). at_plus (current_of w) w.jacobian (d.column + 1)) written
        ∙ ap (λ (b : Bool). columns_if b (d.column + 1)) (sym (lt-ltb (d.column + 1) (num_active o.variables) t))
        ∙ ap (λ (q : ℕ). columns_if (ltb q (num_active o.variables)) q) (add-one d.column)

    -- it was the last
    pub column-over : {r : DampedState} → num_active o.variables ≤ d.column + 1 → r
        ≡ resume_stationary o (is_stationary o next.jacobian (current_of next)) next.jacobian (current_of next) → r ≡ advance_at o minus d e
    unfolding advance_at resume_columns
    column-over t f =
        f
        ∙ ap (λ (w : DampedState). resume_stationary o (is_stationary o w.jacobian (current_of w)) w.jacobian (current_of w)) written
        ∙ ap (λ (b : Bool). columns_if b (d.column + 1)) (sym (le-ltb (d.column + 1) (num_active o.variables) t))
        ∙ ap (λ (q : ℕ). columns_if (ltb q (num_active o.variables)) q) (add-one d.column)

  -- ---- a candidate's merit
  module _ {t : Bool} (tested : t ≡ finite_of e.total_merit && lt e.total_merit d.evaluation.total_merit) where
    told : t ≡ is_reduction o e (current_of d)
    unfolding is_reduction
    told = tested

    pub candidate-taken : {r : DampedState} → t ≡ true → r ≡ resume_after o (accepted o d.candidate e (current_of d)) → r ≡ advance_at o candidate d e
    unfolding advance_at resume_reduced
    candidate-taken y f = f ∙ ap (λ (b : Bool). resume_reduced o b d e) (sym y ∙ told)

    pub candidate-left : {r : DampedState} → t ≡ false → r ≡ resume_attempts o (10 - d.attempt) d.jacobian (raised (current_of d)) d.attempt → r
        ≡ advance_at o candidate d e
    unfolding advance_at resume_reduced
    candidate-left y f = f ∙ ap (λ (b : Bool). resume_reduced o b d e) (sym y ∙ told)

  -- ---- the loop over iterations, of a run with a variable
  module _ (some : 0 < num_active o.variables) where
    abbrev entered : Current → DampedState
    entered s = iteration_entered (ltb s.iteration o.config.max_iterations) s

    iterations-on : (s : Current) → entered s ≡ resume_after o (on s)
    unfolding resume_after
    iterations-on s = iterations-entered o (ltb s.iteration o.config.max_iterations) s some

    -- after the first merit
    pub first_on : {params : List Float} {r : DampedState} → params ≡ extracted o.variables d.surfaces →
        r ≡ entered (record {
          surfaces = d.surfaces;
          params = params;
          evaluation = e;
          initial_merit = e.total_merit;
          damping = o.config.initial_damping;
          iteration = 0;
        }) → r ≡ advance_at o first d e
    unfolding advance_at
    first_on x f =
        f
        ∙ ap (λ (p : List Float). entered (record {
          surfaces = d.surfaces;
          params = p;
          evaluation = e;
          initial_merit = e.total_merit;
          damping = o.config.initial_damping;
          iteration = 0;
        })) x
        ∙ iterations-on (started o d.surfaces e)

    -- after an accepted step
    module _ {gain : Float} {next : DampedState} (gained : gain ≡ relative_gain e.total_merit d.evaluation.total_merit)
        (stepped : next ≡ with_current d (moved o d.candidate e (current_of d))) where
      abbrev s : Current
      s = moved o d.candidate e (current_of d)

      abbrev small : Bool
      small = lt gain o.config.relative_merit_tolerance

      settles : resume_after o (settled small s) ≡ resume_after o (accepted o d.candidate e (current_of d))
      unfolding accepted rel_improvement
      settles = ap (λ (x : Float). resume_after o (settled (lt x o.config.relative_merit_tolerance) s)) gained

      pub accepted-over : {r : DampedState} → small ≡ true → r ≡ ended true (current_of next) → r ≡ resume_after o (accepted o d.candidate e (current_of d))
      unfolding resume_after settled
      accepted-over t f = f ∙ ap (λ (w : DampedState). ended true (current_of w)) stepped ∙ ap (λ (b : Bool). resume_after o (settled b s)) (sym t) ∙ settles

      pub accepted-on : {r : DampedState} → small ≡ false → r ≡ entered (current_of next) → r ≡ resume_after o (accepted o d.candidate e (current_of d))
      unfolding settled
      accepted-on t f =
          f ∙ ap (λ (w : DampedState). entered (current_of w)) stepped ∙ iterations-on s ∙ ap (λ (b : Bool). resume_after o (settled b s)) (sym t) ∙ settles
