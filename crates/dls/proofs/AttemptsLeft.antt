-- The attempts that are left, by whether the next one has a step. Assumes nothing.
use mathlib.Core.Path.{◌≡◌, refl, ap, sym, ◌∙◌}
use mathlib.Core.Bool.{Bool, true, false, cond}
use mathlib.Core.List.{List}
use Prim.Native.Nat.{ℕ, suc, ◌+◌, ◌-◌, ◌≤◌, ◌<◌}
use native.Mathlib.Numerals.{add-one}
use native.Mathlib.Omega.{arith}
use lib.Dec.{ltb}
use lib.ListN.{get_or}
use lib.Ieee.{Float, nan, binary64, add}
use borrow.Author.Tests.{ltb-true}
use Rattle.lists.specs.Tab.{tab-same}
use Rattle.variables.specs.declared.types.VariableSet.{VariableSet}
use Rattle.variables.specs.Active.{num_active}
use Rattle.variables.specs.Values.{clamped_values}
use Rattle.normal.specs.Layout.{step_at, most_variables}
use Rattle.normal.specs.Jacobian.{jacobian_at, residual_at}
use Rattle.normal.specs.Products.{Matrix, Vector, normal_product, gradient_of}
use Rattle.normal.specs.Damping.{raised_of}
use Rattle.normal.specs.Step.{step_of, step_found}
use Rattle.jobs.specs.declared.types.DlsConfig.{DlsConfig}
use Rattle.runs.specs.declared.types.DampedState.{DampedState}
use Rattle.runs.specs.DampedRun.{Optimizer, Current, is_solved, candidate_params}
use Rattle.runs.specs.DampedRow.{current_of, at_candidate, ended, resume_solved, resume_attempts}
use Rattle.dls.specs.DampedSteps.{optimizer, with_damping, candidate_in}

module _ (config : DlsConfig) (v : VariableSet) (m : ℕ) (d : DampedState) where
  abbrev o : Optimizer
  o = optimizer config v m

  abbrev s : Float → Current
  s damping = with_damping damping (current_of d)

  abbrev pub h : Matrix
  h = normal_product m (jacobian_at d.jacobian)

  abbrev pub g : Vector
  g = gradient_of m (jacobian_at d.jacobian) (residual_at d.evaluation.residuals)

  abbrev pub left : ℕ → Float → DampedState
  left k damping = resume_attempts o (10 - k) d.jacobian (s damping) k

  begun : (damping : Float) (k : ℕ) → k < 10 → left k damping
      ≡ resume_solved o (step_found (num_active v) damping h g) (candidate_params o d.jacobian (s damping)) d.jacobian (s damping) k
      (left (k + 1) (raised_of damping))
  unfolding resume_attempts is_solved
  begun damping k b =
      let q : 10 - k ≡ suc (10 - (k + 1)) = omega arith in
      ap (λ (n : ℕ). resume_attempts o n d.jacobian (s damping) k) q
      ∙ ap (λ (n : ℕ). resume_solved o (step_found (num_active v) damping h g) (candidate_params o d.jacobian (s damping)) d.jacobian (s damping) k
      (resume_attempts o (10 - (k + 1)) d.jacobian (s (raised_of damping)) n)) (sym (add-one k))

  pub attempt-none : (damping : Float) (k : ℕ) → k < 10 → step_found (num_active v) damping h g ≡ false → left k damping ≡ left (k + 1) (raised_of damping)
  unfolding resume_solved
  attempt-none damping k b e =
      begun damping k b ∙ ap (λ (t : Bool). resume_solved o t (candidate_params o d.jacobian (s damping)) d.jacobian (s damping) k
      (left (k + 1) (raised_of damping))) e

  pub attempt-found : (damping : Float) (k : ℕ) → k < 10 → step_found (num_active v) damping h g ≡ true → left k damping
      ≡ at_candidate (s damping) d.jacobian (k + 1) (candidate_params o d.jacobian (s damping))
  unfolding resume_solved
  attempt-found damping k b e =
      begun damping k b
      ∙ ap (λ (t : Bool). resume_solved o t (candidate_params o d.jacobian (s damping)) d.jacobian (s damping) k (left (k + 1) (raised_of damping))) e
      ∙ ap (λ (n : ℕ). at_candidate (s damping) d.jacobian n (candidate_params o d.jacobian (s damping))) (sym (add-one k))

  pub attempts-over : (damping : Float) (k : ℕ) → 10 ≤ k → left k damping ≡ ended false (current_of d)
  unfolding resume_attempts
  attempts-over damping k b =
      let q : 10 - k ≡ 0 = omega arith in
      ap (λ (n : ℕ). resume_attempts o n d.jacobian (s damping) k) q

  -- the step that stands in scratch makes the candidate
  pub candidate-made : (damping : Float) (l : List Float)
      → ((k : ℕ) → k < num_active v → get_or l (step_at + k) nan ≡ get_or (step_of (num_active v) damping h g) k nan) → candidate_in v d.params l
      ≡ candidate_params o d.jacobian (s damping)
  unfolding candidate_params
  candidate-made damping l e = ap (clamped_values v) (tab-same _ _ most_variables (λ q b. entry q (ltb q (num_active v)) refl))
    where
      x : ℕ → Float
      x q = get_or d.params q nan

      dx : ℕ → Float
      dx q = get_or (step_of (num_active v) damping h g) q nan

      entry : (q : ℕ) (b : Bool) → ltb q (num_active v) ≡ b → cond b (add binary64 (x q) (get_or l (step_at + q) nan)) (x q)
          ≡ cond b (add binary64 (x q) (dx q)) (x q)
      entry q true t = ap (add binary64 (x q)) (e q (ltb-true q (num_active v) t))
      entry q false t = refl
