-- What a contract says of an annealer or an optimizer of which the call is handed some fields: it holds whatever the others are. Definitions only.
use Rattle.std.specs.Prelude.{ℕ, suc, ◌≡◌, List, Float, get_or}
use Rattle.std.specs.Float.{nan, binary64}
use Rattle.std.specs.Float.Ieee.{add, sub, mul}
use Rattle.floats.specs.Basic.{clamp_of}
use Rattle.floats.specs.Constants.{half64}
use Rattle.xorshift.specs.Xorshift.{step_times}
use Rattle.xorshift.specs.Draws.{unit_of, uniform_of}
use Rattle.variables.specs.declared.types.VariableDef.{VariableDef}
use Rattle.variables.specs.Active.{active_at}
use Rattle.variables.specs.Values.{eight}
use Rattle.variables.specs.declared.types.VariableSet.{VariableSet}
use Rattle.jobs.specs.declared.types.SimulatedAnnealingConfig.{SimulatedAnnealingConfig}
use Rattle.runs.specs.DampedRun.{Optimizer}
use Rattle.runs.specs.AnnealingRun.{Annealer, tenth}
use Rattle.runs.specs.AnnealingRun as Annealing

-- every optimizer of these variables
abbrev pub ForOptimizer : VariableSet → (Optimizer → Type 0) → Type 0
ForOptimizer v P = (o : Optimizer) → o.variables ≡ v → P o

-- every annealer of these variables, or of these settings and variables
abbrev pub ForAnnealer : VariableSet → (Annealer → Type 0) → Type 0
ForAnnealer v P = (a : Annealer) → a.variables ≡ v → P a

abbrev pub ForAnnealerBy : SimulatedAnnealingConfig → VariableSet → (Annealer → Type 0) → Type 0
ForAnnealerBy config v P = (a : Annealer) → a.config ≡ config → a.variables ≡ v → P a

-- the values that a step tries, for every annealer and walk with these variables, params and generator
abbrev pub TriedBy : VariableSet → (params : List Float) (rng : ℕ) → List Float → Type 0
TriedBy v params rng trial = (a : Annealer) (w : Annealing.Walk) → a.variables ≡ v → w.params ≡ params → w.rng ≡ rng → trial ≡ Annealing.trial_params a w

-- what a unit draw makes of a variable's value: any within its bounds, or one that is at most a twentieth of their distance away
abbrev pub anywhere : (unit old : Float) → VariableDef → Float
anywhere unit old d = uniform_of unit d.min_value d.max_value

abbrev pub nearby : (unit old : Float) → VariableDef → Float
nearby unit old d = clamp_of (add binary64 old (mul binary64 (mul binary64 (sub binary64 unit half64) tenth) (sub binary64 d.max_value d.min_value)))
    d.min_value d.max_value

-- a draw for each enabled variable, in order, used by a rule; what stands after them is kept
abbrev pub drawn_values : ((unit old : Float) → VariableDef → Float) → VariableSet → (start : List Float) → (rng : ℕ) → List Float
drawn_values rule v start rng = eight v (λ (q : ℕ). rule (unit_of (step_times (suc q) rng)) (get_or start q nan) (active_at v q))
    (λ (q : ℕ). get_or start q nan)
