-- The attempts of a turn. In their loop, what was to be reached where it began is what is left to be reached. Assumes nothing.
use mathlib.Core.Path.{◌≡◌, refl, ap, sym, ◌∙◌}
use mathlib.Core.Bool.{Bool, true, false, not, ◌||◌}
use mathlib.Core.List.{List}
use Prim.Native.Nat.{ℕ, ◌+◌, ◌-◌, ◌≤◌, ◌<◌}
use lib.Ieee.{Float, lt}
use Rattle.floats.specs.Basic.{finite_of}
use Rattle.variables.specs.declared.types.VariableSet.{VariableSet}
use Rattle.variables.specs.Active.{num_active}
use Rattle.normal.specs.declared.damping.Damping.{Damping}
use Rattle.normal.specs.Layout.{most_variables}
use Rattle.normal.specs.Damping.{raised_of}
use Rattle.normal.specs.Jacobian.{jacobian_at, residual_at}
use Rattle.normal.specs.Products.{Matrix, Vector}
use Rattle.normal.specs.Scratch.{Stands, Equations, Attempted, Attempt}
use Rattle.jobs.specs.declared.types.DlsConfig.{DlsConfig}
use Rattle.runs.specs.declared.types.DampedState.{DampedState}
use Rattle.runs.specs.DampedRun.{is_stationary, raised}
use Rattle.runs.specs.DampedRow.{current_of, at_candidate, ended, resume_attempts, resume_stationary}
use Rattle.dls.specs.DampedSteps.{optimizer, with_damping, ScratchKept, EquationsIn, candidate_in, AttemptsMade}
use Rattle.dls.proofs.AttemptsLeft.{left, h, g, attempt-none, attempt-found, attempts-over, candidate-made}
use Rattle.normal.proofs.Kept.{attempt-stands}
use Rattle.dls.proofs.Kept.{kept_same, kept_on, kept-attempt}

-- scratch l₀ has become l, the damping another, and k attempts are over
pub record Trying (v : VariableSet) (d : DampedState) (l₀ : List Float) (damping₀ : Damping) (k₀ : ℕ) (l : List Float) (damping : Damping) (k : ℕ) : Type
    0 where
  pub goes : (config : DlsConfig) (m : ℕ) → EquationsIn v m d l₀ → left config v m d k₀ damping₀.value ≡ left config v m d k damping.value
  pub stand : (h : Matrix) (g : Vector) → Stands (num_active v) l₀ h g → Stands (num_active v) l h g
  pub kept : ScratchKept l₀ l

module _ {v : VariableSet} {d : DampedState} {l₀ : List Float} {damping₀ : Damping} {k₀ : ℕ} where
  pub trying-begin : Trying v d l₀ damping₀ k₀ l₀ damping₀ k₀
  trying-begin = record { goes = λ config m e. refl; stand = λ h g s. s; kept = kept_same l₀ }

  module _ {l : List Float} {damping : Damping} {k : ℕ} (t : Trying v d l₀ damping₀ k₀ l damping k) where
    module _ {p : ℕ} {x : Bool} {l' : List Float} (active : p ≡ num_active v) (b : k < 10) (made : Attempt p damping.value l l' x) where
      a : Attempt (num_active v) damping.value l l' x
      a = rw active at made

      answer : (config : DlsConfig) (m : ℕ) → EquationsIn v m d l₀ → Attempted (num_active v) damping.value (h config v m d) (g config v m d) l' x
      answer config m s = a.attempted _ _ (t.stand _ _ s)

      -- an attempt without a step
      pub trying-on : {more : Damping} → num_active v ≤ most_variables → x ≡ false → more.value ≡ raised_of damping.value
          → Trying v d l₀ damping₀ k₀ l' more (k + 1)
      trying-on few none e = record {
        goes = λ config m s. t.goes config m s ∙ attempt-none config v m d damping.value k b (sym (answer config m s).answer ∙ none)
            ∙ ap (left config v m d (k + 1)) (sym e);
        stand = λ h g s. attempt-stands _ _ h g _ _ _ few a (t.stand h g s);
        kept = kept_on t.kept (kept-attempt a);
      }

      -- one with a step: the candidate
      pub trying-found : {c : List Float} {r : DampedState} → x ≡ true → c ≡ candidate_in v d.params l' → r
          ≡ at_candidate (with_damping damping.value (current_of d)) d.jacobian (k + 1) c → AttemptsMade v d damping₀ k₀ l₀ l' r
      trying-found some e f = record {
        reached = λ config m s.
            let found = sym (answer config m s).answer ∙ some in
            f
            ∙ ap (at_candidate (with_damping damping.value (current_of d)) d.jacobian (k + 1))
            (e ∙ candidate-made config v m d damping.value l' ((answer config m s).step (rw found tt)))
            ∙ sym (t.goes config m s ∙ attempt-found config v m d damping.value k b found);
        kept = kept_on t.kept (kept-attempt a);
      }

    -- all ten are over
    pub trying-over : {r : DampedState} → 10 ≤ k → r ≡ ended false (current_of d) → AttemptsMade v d damping₀ k₀ l₀ l r
    trying-over b f = record {
      reached = λ config m s. f ∙ sym (t.goes config m s ∙ attempts-over config v m d damping.value k b);
      kept = t.kept;
    }

-- ---- with the normal equations written first
module _ (config : DlsConfig) (v : VariableSet) (m : ℕ) (d : DampedState) {p : ℕ} {l l₁ : List Float} {norm : Float} (active : p ≡ num_active v)
    (written : Equations m p (jacobian_at d.jacobian) (residual_at d.evaluation.residuals) l l₁ norm) where
  abbrev test : Bool
  test = is_stationary (optimizer config v m) d.jacobian (current_of d)

  equations : Equations m (num_active v) (jacobian_at d.jacobian) (residual_at d.evaluation.residuals) l l₁ norm
  equations = rw active at written

  module _ {t : Bool} (tested : t ≡ not (finite_of norm) || lt norm config.gradient_tolerance) where
    told : t ≡ test
    unfolding is_stationary
    told = tested ∙ ap (λ (n : Float). not (finite_of n) || lt n config.gradient_tolerance) equations.norm

    -- the gradient stops the run
    pub stationary-over : {r : DampedState} → t ≡ true → r ≡ ended true (current_of d) → r
        ≡ resume_stationary (optimizer config v m) test d.jacobian (current_of d)
    unfolding resume_stationary
    stationary-over e f = f ∙ ap (λ (b : Bool). resume_stationary (optimizer config v m) b d.jacobian (current_of d)) (sym e ∙ told)

    -- it does not, and the attempts follow
    pub stationary-on : {damping : Damping} {l₂ : List Float} {r : DampedState} → t ≡ false → damping.value ≡ d.damping → AttemptsMade v d damping 0 l₁ l₂ r
        → r ≡ resume_stationary (optimizer config v m) test d.jacobian (current_of d)
    unfolding resume_stationary
    stationary-on e q a =
        a.reached config m equations.stand
        ∙ ap (λ (x : Float). resume_attempts (optimizer config v m) 10 d.jacobian (with_damping x (current_of d)) 0) q
        ∙ ap (λ (b : Bool). resume_stationary (optimizer config v m) b d.jacobian (current_of d)) (sym e ∙ told)

  -- the attempts go on after one that was not accepted
  pub rejected-on : {damping : Damping} {l₂ : List Float} {r : DampedState} → damping.value ≡ raised_of d.damping
      → AttemptsMade v d damping d.attempt l₁ l₂ r →
      r ≡ resume_attempts (optimizer config v m) (10 - d.attempt) d.jacobian (raised (current_of d)) d.attempt
  rejected-on q a =
      a.reached config m equations.stand ∙ ap (λ (x : Float). resume_attempts (optimizer config v m) (10 - d.attempt) d.jacobian
      (with_damping x (current_of d)) d.attempt) q
