-- The enabled variables of a set. A list of values has one for each of them, in the same order. Definitions only.
use Rattle.std.specs.Prelude.{ℕ, zero, suc, false, cond, List, [], ◌∷◌, ◌++◌, length, get_or}
use Rattle.std.specs.Float.{nan}
use Rattle.variables.specs.declared.types.Follower.TheVariants.{None}
use Rattle.variables.specs.declared.types.VariableType.TheVariants.{Curvature}
use Rattle.variables.specs.declared.types.VariableDef.{VariableDef}
use Rattle.variables.specs.declared.types.VariableSet.{VariableSet}

-- the checker's default for a read past the end
abbrev pub no_variable : VariableDef
no_variable = record { var_type = Curvature 0; min_value = nan; max_value = nan; step_size = nan; enabled = false; follower = None }

abbrev pub variable_at : VariableSet → ℕ → VariableDef
variable_at v i = get_or v.variables i no_variable

abbrev pub if_enabled : VariableDef → List VariableDef
if_enabled d = cond d.enabled (d ∷ []) []

-- the enabled ones among the first n, in order
unfoldable pub enabled_of : VariableSet → ℕ → List VariableDef
enabled_of v zero = []
enabled_of v (suc n) = enabled_of v n ++ if_enabled (variable_at v n)

abbrev pub active : VariableSet → List VariableDef
active v = enabled_of v v.variable_count

-- "p counting enabled variables"
abbrev pub num_active : VariableSet → ℕ
num_active v = length (active v)

-- the enabled variable with q enabled ones before it
abbrev pub active_at : VariableSet → ℕ → VariableDef
active_at v q = get_or (active v) q no_variable
