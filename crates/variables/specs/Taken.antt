-- Refusals 4 and 17. Definitions only.
use Rattle.std.specs.Prelude.{ℕ, Bool, true, false, ◌&&◌, ltb, Float}
use Rattle.std.specs.Float.Ieee.{lt, le}
use Rattle.floats.specs.Constants.{zero64}
use Rattle.lists.specs.All.{all_below}
use Rattle.optics.specs.Check.{billion, within}
use Rattle.variables.specs.declared.types.Follower.{Follower}
use Rattle.variables.specs.declared.types.Follower.TheVariants.{None, Plus, Minus}
use Rattle.variables.specs.declared.types.VariableType.{VariableType}
use Rattle.variables.specs.declared.types.VariableType.TheVariants.{Curvature, Thickness, Conic, SemiDiameter}
use Rattle.variables.specs.declared.types.VariableDef.{VariableDef}
use Rattle.variables.specs.declared.types.VariableSet.{VariableSet}
use Rattle.variables.specs.Kinds.{surface_index}
use Rattle.variables.specs.Active.{variable_at}

-- "bounds not finite, beyond ±1e9 or crossed"
abbrev pub bounds_taken : Float → Float → Bool
bounds_taken lo hi = within lo && within hi && le lo hi

-- "step not from 0 to 1e9"
abbrev pub step_taken : Float → Bool
step_taken x = le zero64 x && le x billion

-- "semi-diameter bound not above 0"
abbrev pub lower_bound_taken : VariableType → Float → Bool
lower_bound_taken (Curvature i) lo = true
lower_bound_taken (Thickness i) lo = true
lower_bound_taken (Conic i) lo = true
lower_bound_taken (SemiDiameter i) lo = lt zero64 lo

-- "an absent surface", of n
unfoldable pub variable_taken : ℕ → VariableDef → Bool
variable_taken n d =
    ltb (surface_index d.var_type) n
    && bounds_taken d.min_value d.max_value
    && step_taken d.step_size
    && lower_bound_taken d.var_type d.min_value

-- "Any variable, enabled or not": each below the count
unfoldable pub variables_taken : ℕ → VariableSet → Bool
variables_taken n v = all_below (λ (i : ℕ). variable_taken n (variable_at v i)) v.variable_count

-- "a follower with minus of a semi-diameter or thickness" is none that is taken
abbrev pub minus_taken : VariableType → Bool
minus_taken (Curvature i) = true
minus_taken (Thickness i) = false
minus_taken (Conic i) = true
minus_taken (SemiDiameter i) = false

-- "an absent follower surface", of n
abbrev pub follower_taken : ℕ → VariableType → Follower → Bool
follower_taken n kind None = true
follower_taken n kind (Plus i) = ltb i n
follower_taken n kind (Minus i) = ltb i n && minus_taken kind

-- "On any variable, enabled or not": each below the count
unfoldable pub followers_taken : ℕ → VariableSet → Bool
followers_taken n v = all_below (λ (i : ℕ). follower_taken n (variable_at v i).var_type (variable_at v i).follower) v.variable_count
