-- What the state of a row reached from admission looks like: it is one that its phase's builder makes (`DampedRow`, `MultiStartRow`, `AnnealingRow`), and what
-- it uses is zero past the job's counts. It is kept by turns; what a reader relies on is `ZeroEntries`, entry by entry, which follows. Definitions only.
use Rattle.std.specs.Prelude.{◌≡◌, Bool, false, List, ◌⊎◌, ℕ, suc, ◌≤◌, ◌<◌, get_or, Float}
use Rattle.std.specs.Float.{nan}
use Rattle.floats.specs.Constants.{zero64}
use Rattle.optics.specs.Types.{surface_at, zero_surface}
use Rattle.variables.specs.Active.{num_active}
use Rattle.normal.specs.Layout.{jacobian_place}
use Rattle.merit.specs.declared.types.MeritEvaluation.{MeritEvaluation}
use Rattle.jobs.specs.declared.types.Job.{Job}
use Rattle.jobs.specs.declared.types.Method.{Method}
use Rattle.jobs.specs.declared.types.DlsConfig.{DlsConfig}
use Rattle.jobs.specs.declared.types.MultiStartConfig.{MultiStartConfig}
use Rattle.jobs.specs.declared.types.SimulatedAnnealingConfig.{SimulatedAnnealingConfig}
use Rattle.jobs.specs.declared.types.Method.TheVariants.{Damped, MultiStart, Annealing}
use Rattle.runs.specs.declared.types.DampedState.{DampedState}
use Rattle.runs.specs.declared.types.OptimizationResult.{OptimizationResult}
use Rattle.runs.specs.Run.{Surfaces}
use Rattle.runs.specs.Zeros.{zero_result}
use Rattle.runs.specs.JobRun.{operand_count_of}
use Rattle.runs.specs.State.{State, alone}
use Rattle.runs.specs.DampedRun.{Current}
use Rattle.runs.specs.AnnealingRun.{Walk}
use Rattle.runs.specs.DampedRow.{at_first, at_plus, at_minus, at_candidate, ended, is_finished}
use Rattle.runs.specs.MultiStartRow.{in_trial}
use Rattle.runs.specs.MultiStartRow as MultiRow
use Rattle.runs.specs.AnnealingRow.{at_walk_first, at_walk, at_polish}

-- an array of len numbers is zero from entry n on
abbrev pub ZeroFrom : (n len : ℕ) → List Float → Type 0
ZeroFrom n len l = (i : ℕ) → n ≤ i → i < len → get_or l i nan ≡ zero64

abbrev pub ZeroSurfaces : (n : ℕ) → Surfaces → Type 0
ZeroSurfaces n l = (i : ℕ) → n ≤ i → i < 16 → surface_at l i ≡ zero_surface

-- a Jacobian of m operands is zero but for its first columns
abbrev pub ZeroJacobian : (m filled : ℕ) → List Float → Type 0
ZeroJacobian m filled l = (i q : ℕ) → i < 12 → q < 8 → (m ≤ i) ⊎ (filled ≤ q) → get_or l (jacobian_place i q) nan ≡ zero64

-- n surfaces, p enabled variables, m operands
module _ (n p m : ℕ) where
  abbrev pub CleanEvaluation : MeritEvaluation → Type 0
  CleanEvaluation e = ZeroFrom m 12 e.values × ZeroFrom m 12 e.residuals

  abbrev pub CleanResult : OptimizationResult → Type 0
  CleanResult r = ZeroSurfaces n r.surfaces × ZeroFrom m 12 r.values × ZeroFrom m 12 r.residuals

  abbrev pub CleanCurrent : Current → Type 0
  CleanCurrent s = ZeroSurfaces n s.surfaces × ZeroFrom p 8 s.params × CleanEvaluation s.evaluation

  abbrev pub CleanWalk : Walk → Type 0
  CleanWalk w = ZeroSurfaces n w.surfaces × ZeroFrom p 8 w.params × ZeroSurfaces n w.best_surfaces

  -- ---- the damped part
  pub data CleanDamped : DampedState → Type 0 where
    is_first : {initial : Surfaces} → ZeroSurfaces n initial → CleanDamped (at_first initial)
    is_plus : {s : Current} {j_mat : List Float} {q : ℕ} → CleanCurrent s → q < p → ZeroJacobian m q j_mat → CleanDamped (at_plus s j_mat q)
    is_minus : {s : Current} {j_mat r : List Float} {q : ℕ} → CleanCurrent s → q < p → ZeroJacobian m q j_mat → ZeroFrom m 12 r
        → CleanDamped (at_minus s j_mat q r)
    is_candidate : {s : Current} {j_mat c : List Float} {k : ℕ} → CleanCurrent s → ZeroJacobian m p j_mat → ZeroFrom p 8 c
        → CleanDamped (at_candidate s j_mat k c)
    is_ended : (converged : Bool) (s : Current) → CleanCurrent s → CleanDamped (ended converged s)

  -- ---- the run's state, for each kind
  pub data CleanState : Method → State → Type 0 where
    in_damped : {config : DlsConfig} {d : DampedState} → CleanDamped d → CleanState (Damped config) (alone d)
    in_base : {config : MultiStartConfig} {d : DampedState} {g : ℕ} → is_finished d ≡ false → CleanDamped d
        → CleanState (MultiStart config) (in_trial d zero_result g 0)
    in_trials : {config : MultiStartConfig} {d : DampedState} {best : OptimizationResult} {g t : ℕ} → is_finished d ≡ false → CleanDamped d → CleanResult best
        → CleanState (MultiStart config) (in_trial d best g (suc t))
    at_end : {config : MultiStartConfig} {best : OptimizationResult} → CleanResult best → CleanState (MultiStart config) (MultiRow.ended best)
    is_walk_first : {config : SimulatedAnnealingConfig} {base : Surfaces} → ZeroSurfaces n base → CleanState (Annealing config) (at_walk_first base)
    is_walk : {config : SimulatedAnnealingConfig} {i : Float} {w : Walk} {trial : List Float} {c k : ℕ} → CleanWalk w → ZeroFrom p 8 trial
        → CleanState (Annealing config) (at_walk i w trial c k)
    in_polish : {config : SimulatedAnnealingConfig} {i : Float} {d : DampedState} → CleanDamped d → CleanState (Annealing config) (at_polish i d)

-- a row's state is clean under the counts of its job
abbrev pub Clean : Job → State → Type 0
Clean job s = CleanState job.prescription.surface_count (num_active job.variables) (operand_count_of job) job.method s
