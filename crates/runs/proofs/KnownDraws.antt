-- What multi-start and annealing draw, and what a walk makes of a merit, at a generator whose draws are known: seed 1 draws 40822041, then 100041060c011441
-- (hexadecimal). They refuse what definition and code could have wrong alike, and of 01's mistakes to expect "Drawing for acceptance on every annealing step".
-- Assumes nothing.
use Rattle.std.specs.Prelude.{◌≡◌, true, List, ◌∷◌, ℕ, replicate, Float}
use Rattle.std.proofs.Math.Path.{refl}
use Rattle.std.specs.Float.{binary64}
use Rattle.std.specs.Float.Ieee.{neg, lt, le, add, sub, mul, div, is_nan, of_int, of_bits}
use Rattle.floats.specs.Basic.{magnitude}
use Rattle.floats.specs.Constants.{zero64}
use Rattle.floats.specs.Exp.{series, squares, exp_of}
use Rattle.lists.specs.Tab.{tab}
use Rattle.xorshift.specs.Xorshift.{step_of, step_times}
use Rattle.xorshift.specs.Draws.{unit_of, uniform_of}
use Rattle.variables.specs.Active.{enabled_of}
use Rattle.variables.specs.declared.types.Follower.TheVariants.{None}
use Rattle.variables.specs.declared.types.VariableDef.{VariableDef}
use Rattle.variables.specs.declared.types.VariableSet.{VariableSet}
use Rattle.variables.specs.declared.types.VariableType.TheVariants.{Thickness}
use Rattle.jobs.specs.Defaults.{annealing_defaults}
use Rattle.jobs.specs.Sample.{Unused, n1, n2, n8, n16}
use Rattle.runs.specs.Run.{Surfaces}
use Rattle.runs.specs.MultiStartRun as MultiStart
use Rattle.runs.specs.AnnealingRun.{Annealer, Walk, if_best, prob, trial_params, after_draws, accepted, if_drawn, if_not_risen, judged}

-- two thicknesses, from 0 to 16
abbrev between : (i : ℕ) → VariableDef
between i = record { var_type = Thickness i; min_value = zero64; max_value = n16; step_size = n1; enabled = true; follower = None }

abbrev two_thicknesses : Unused → VariableSet
two_thicknesses u = record { variables = between 0 ∷ between 1 ∷ u.variables; variable_count = 2 }

abbrev annealer : Unused → Annealer
annealer u = record { config = annealing_defaults; variables = two_thicknesses u; operand_count = 1 }

-- both at 8, merit 1, the best so far
abbrev at8 : List Float
at8 = n8 ∷ n8 ∷ replicate 6 zero64

abbrev walk_at : Surfaces → (rng : ℕ) (temp : Float) → Walk
walk_at s rng temp = record { surfaces = s; params = at8; current_merit = n1; best_surfaces = s; best_merit = n1; rng = rng; temp = temp }

-- what a walk has afterwards: the thicknesses, their merit, the best one, and the generator
pub record Has (w : Walk) (params : List Float) (current best : Float) (rng : ℕ) : Type 0 where
  pub at_params : w.params ≡ params
  pub at_merit : w.current_merit ≡ current
  pub best_merit : w.best_merit ≡ best
  pub generator : w.rng ≡ rng

-- the draws, and what is made of the first two: 16 times the draw; 8 + ((draw - 0.5) × 0.1) × 16, about 7.2 and 7.3
abbrev first : ℕ
first = 0x4082_2041

abbrev second : ℕ
second = 0x1000_4106_0c01_1441

abbrev third : ℕ
third = 0x9b1e_842f_6e86_2629

abbrev drawn : List Float
drawn = of_bits binary64 0x3e10_2088_0000_0000 ∷ of_bits binary64 0x3ff0_0041_060c_0110 ∷ replicate 6 zero64

abbrev moved : List Float
moved = of_bits binary64 0x401c_cccc_ccce_69a7 ∷ of_bits binary64 0x401d_3334_d359_e66d ∷ replicate 6 zero64

-- 1 + 2^-43
abbrev slightly_above1 : Float
slightly_above1 = of_bits binary64 0x3ff0_0000_0000_0200

-- whatever surfaces, values and residuals are
module _ (u : Unused) (s : Surfaces) (v r : List Float) where
  -- a walk with merit 1 judges the step to `moved`
  abbrev judged_at : (rng : ℕ) (temp merit : Float) → Walk
  judged_at rng temp merit = judged (annealer u) moved (record { values = v; residuals = r; total_merit = merit }) (walk_at s rng temp)

  pub record KnownDraws : Type 0 where
    -- a trial of a multi-start: a draw for each enabled variable, in order, between its bounds
    pub start : MultiStart.random_params (two_thicknesses u) 1 ≡ drawn
    pub behind_start : MultiStart.after_draws (two_thicknesses u) 1 ≡ second
    -- a step of annealing, at any temperature
    pub step : (temp : Float) → trial_params (annealer u) (walk_at s 1 temp) ≡ moved
    pub behind_step : (temp : Float) → after_draws (annealer u) (walk_at s 1 temp) ≡ walk_at s second temp
    -- "Annealing draws for acceptance only when the merit rose": lower, then equal, at any temperature
    pub lower : (temp : Float) → Has (judged_at 1 temp zero64) moved zero64 zero64 1
    pub equal : (temp : Float) → Has (judged_at 1 temp n1) moved n1 n1 1
    -- by 1 higher, at temperature 1: accepted where the draw is below E(-1), about 0.37. The best stays
    pub higher : Has (judged_at 1 n1 n2) moved n2 n1 first
    pub rejected : Has (judged_at second n1 n2) at8 n1 n1 third
    -- at temperature 0, which counts as 1e-12: by 1 higher never, by 2^-43 higher where the draw is below E of about -0.11
    pub cold : Has (judged_at 1 zero64 n2) at8 n1 n1 first
    pub floored : Has (judged_at 1 zero64 slightly_above1) moved slightly_above1 n1 first

  pub known-draws : KnownDraws
  unfolding of_bits of_int neg lt le add sub mul div is_nan magnitude series squares exp_of tab step_of step_times unit_of uniform_of enabled_of
      MultiStart.random_params MultiStart.after_draws if_best prob trial_params after_draws accepted if_drawn if_not_risen judged
  known-draws = record {
    start = refl;
    behind_start = refl;
    step = λ temp. refl;
    behind_step = λ temp. refl;
    lower = λ temp. record { at_params = refl; at_merit = refl; best_merit = refl; generator = refl };
    equal = λ temp. record { at_params = refl; at_merit = refl; best_merit = refl; generator = refl };
    higher = record { at_params = refl; at_merit = refl; best_merit = refl; generator = refl };
    rejected = record { at_params = refl; at_merit = refl; best_merit = refl; generator = refl };
    cold = record { at_params = refl; at_merit = refl; best_merit = refl; generator = refl };
    floored = record { at_params = refl; at_merit = refl; best_merit = refl; generator = refl };
  }
