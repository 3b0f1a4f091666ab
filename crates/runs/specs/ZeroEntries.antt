-- "unused entries .. are zero": which entries of a run's state its kind and phase use, and that all others are zero. Phases: 0 before the first merit, 1 before
-- a column's plus side, 2 before its minus side, 3 before a candidate's, 4 finished, 5 before the walk's first merit, 6 before a step's. Definitions only.
use Rattle.std.specs.Prelude.{◌≡◌, Bool, false, not, cond, ◌&&◌, ◌||◌, ℕ, ltb, eqb, Float}
use Rattle.floats.specs.Constants.{zero64}
use Rattle.variables.specs.Active.{num_active}
use Rattle.jobs.specs.declared.types.Job.{Job}
use Rattle.jobs.specs.declared.types.Method.{Method}
use Rattle.jobs.specs.declared.types.Method.TheVariants.{Damped, MultiStart, Annealing}
use Rattle.runs.specs.declared.types.DampedState.{DampedState}
use Rattle.runs.specs.declared.types.OptimizationResult.{OptimizationResult}
use Rattle.runs.specs.JobRun.{operand_count_of}
use Rattle.runs.specs.State.{State}
use Rattle.runs.specs.Rows.{finished_by}
use Rattle.runs.specs.Damage.{uses_current, uses_best}
use Rattle.runs.specs.Unused.{ZeroFrom, ZeroSurfaces, ZeroJacobian}

-- of an array that is used the first n entries are, of another none
abbrev pub in_use : (used : Bool) (n : ℕ) → ℕ
in_use used n = cond used n 0

abbrev pub ZeroUnless : (used : Bool) → Float → Type 0
ZeroUnless used x = used ≡ false → x ≡ zero64

abbrev pub NoneUnless : (used : Bool) → ℕ → Type 0
NoneUnless used n = used ≡ false → n ≡ 0

-- in the loops over columns and attempts; there and at the end, a merit was worked out
abbrev pub in_loops : (phase : ℕ) → Bool
in_loops f = ltb 0 f && ltb f 4

abbrev pub has_merit : (phase : ℕ) → Bool
has_merit f = ltb 0 f && ltb f 5

-- the columns of the Jacobian that are filled
abbrev pub filled_columns : (p : ℕ) → DampedState → ℕ
filled_columns p d = cond (eqb d.phase 3) p (in_use (eqb d.phase 1 || eqb d.phase 2) d.column)

-- n surfaces, p enabled variables, m operands
module _ (n p m : ℕ) where
  -- the damped part; `used` is false where a multi-start is finished, which has its best result alone
  pub record ZeroDamped (used : Bool) (d : DampedState) : Type 0 where
    pub surfaces : ZeroSurfaces (in_use used n) d.surfaces
    pub values : ZeroFrom (in_use (used && has_merit d.phase) m) 12 d.evaluation.values
    pub residuals : ZeroFrom (in_use (used && has_merit d.phase) m) 12 d.evaluation.residuals
    pub total_merit : ZeroUnless (used && has_merit d.phase) d.evaluation.total_merit
    pub initial_merit : ZeroUnless (used && has_merit d.phase) d.initial_merit
    pub iteration : NoneUnless (used && has_merit d.phase) d.iteration
    pub damping : ZeroUnless (in_loops d.phase) d.damping
    pub params : ZeroFrom (in_use (in_loops d.phase || eqb d.phase 6) p) 8 d.params
    pub jacobian : ZeroJacobian m (filled_columns p d) d.jacobian
    pub plus_residuals : ZeroFrom (in_use (eqb d.phase 2) m) 12 d.plus_residuals
    pub candidate : ZeroFrom (in_use (eqb d.phase 3 || eqb d.phase 6) p) 8 d.candidate
    pub column : NoneUnless (eqb d.phase 1 || eqb d.phase 2) d.column
    pub attempt : NoneUnless (eqb d.phase 3) d.attempt
    pub converged : NoneUnless (used && eqb d.phase 4) d.converged

  -- the best so far: whether its surfaces and merit are used, its values, residuals, iterations and mark, and its first merit
  pub record ZeroBest (used result first : Bool) (r : OptimizationResult) : Type 0 where
    pub surfaces : ZeroSurfaces (in_use used n) r.surfaces
    pub final_merit : ZeroUnless used r.final_merit
    pub values : ZeroFrom (in_use result m) 12 r.values
    pub residuals : ZeroFrom (in_use result m) 12 r.residuals
    pub iterations : NoneUnless result r.iterations
    pub converged : NoneUnless result r.converged
    pub initial_merit : ZeroUnless first r.initial_merit

-- annealing's walk, and multi-start's runs; whether a whole result is kept, and whether a first merit is, beside the damped part's
abbrev pub in_walk : Method → State → Bool
in_walk (Damped config) s = false
in_walk (MultiStart config) s = false
in_walk (Annealing config) s = eqb s.damped.phase 6

abbrev pub in_trials : Method → State → Bool
in_trials (Damped config) s = false
in_trials (MultiStart config) s = not (finished_by (MultiStart config) s)
in_trials (Annealing config) s = false

abbrev pub keeps_result : Method → State → Bool
keeps_result (Damped config) s = false
keeps_result (MultiStart config) s = uses_best (MultiStart config) s
keeps_result (Annealing config) s = false

abbrev pub keeps_first : Method → State → Bool
keeps_first (Damped config) s = false
keeps_first (MultiStart config) s = uses_best (MultiStart config) s
keeps_first (Annealing config) s = not (eqb s.damped.phase 5)

pub record ZeroState (n p m : ℕ) (t : Method) (s : State) : Type 0 where
  pub damped : ZeroDamped n p m (uses_current t s) s.damped
  pub best : ZeroBest n p m (uses_best t s) (keeps_result t s) (keeps_first t s) s.best
  pub generator : NoneUnless (in_trials t s || in_walk t s) s.generator
  pub trial : NoneUnless (in_trials t s) s.trial
  pub cycle : NoneUnless (in_walk t s) s.cycle
  pub step : NoneUnless (in_walk t s) s.step
  pub temperature : ZeroUnless (in_walk t s) s.temperature
  pub current_merit : ZeroUnless (in_walk t s) s.current_merit

-- the state of a row under the counts of its job
abbrev pub ZeroEntries : Job → State → Type 0
ZeroEntries job s = ZeroState job.prescription.surface_count (num_active job.variables) (operand_count_of job) job.method s
