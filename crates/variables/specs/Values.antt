-- The values of the enabled variables: read, clamped, applied. Definitions only.
use Rattle.std.specs.Prelude.{ℕ, zero, suc, cond, List, ltb, get_or, Float}
use Rattle.std.specs.Float.{nan}
use Rattle.floats.specs.Basic.{clamp_of}
use Rattle.floats.specs.Constants.{zero64}
use Rattle.lists.specs.Tab.{tab}
use Rattle.optics.specs.declared.types.OpticalSurface.{OpticalSurface}
use Rattle.variables.specs.declared.types.VariableDef.{VariableDef}
use Rattle.variables.specs.declared.types.VariableSet.{VariableSet}
use Rattle.variables.specs.Kinds.{value_of, apply_clamp, put, followed}
use Rattle.variables.specs.Active.{num_active, active_at}

-- eight numbers: those of the p enabled variables, and another rule's after them
abbrev pub eight : VariableSet → (ℕ → Float) → (ℕ → Float) → List Float
eight v f rest = tab (λ (q : ℕ). cond (ltb q (num_active v)) (f q) (rest q)) 8

-- the values as they stand in the surfaces, "read from the named surface only"; "unused entries .. are zero"
unfoldable pub extracted : VariableSet → List OpticalSurface → List Float
extracted v surfaces = eight v (λ (q : ℕ). value_of surfaces (active_at v q).var_type) (λ (q : ℕ). zero64)

-- Rust's `clamp_values`: plain clamp, and what stands past p is kept
abbrev pub clamped_at : VariableSet → List Float → ℕ → Float
clamped_at v values q = clamp_of (get_or values q nan) (active_at v q).min_value (active_at v q).max_value

unfoldable pub clamped_values : VariableSet → List Float → List Float
clamped_values v values = eight v (clamped_at v values) (λ (q : ℕ). get_or values q nan)

-- "Applying clamps every value, a NaN counting as below the lower bound"
abbrev pub stored_at : VariableSet → List Float → ℕ → Float
stored_at v values q = apply_clamp (get_or values q nan) (active_at v q).min_value (active_at v q).max_value

-- a value in the variable's surface, and in its follower "straight after the named surface"
abbrev pub stored_in : List OpticalSurface → VariableDef → Float → List OpticalSurface
stored_in surfaces d x = followed (put surfaces d.var_type x) d.var_type d.follower x

-- the first n enabled variables' values stored; "Where two variables name one quantity, the later is stored last"
unfoldable pub applied_to : VariableSet → List Float → List OpticalSurface → ℕ → List OpticalSurface
applied_to v values surfaces zero = surfaces
applied_to v values surfaces (suc q) = stored_in (applied_to v values surfaces q) (active_at v q) (stored_at v values q)

unfoldable pub applied : VariableSet → List Float → List OpticalSurface → List OpticalSurface
applied v values surfaces = applied_to v values surfaces (num_active v)
