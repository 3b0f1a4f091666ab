-- One variable and one value: the quantity that it names, read and stored. Definitions only.
use Rattle.std.specs.Prelude.{ℕ, false, cond, List, set, Float}
use Rattle.std.specs.Float.{inf, binary64}
use Rattle.std.specs.Float.Ieee.{div, lt, neg, is_nan, of_bits}
use Rattle.floats.specs.Basic.{magnitude, clamp_of}
use Rattle.floats.specs.Constants.{one64}
use Rattle.optics.specs.declared.types.OpticalSurface.{OpticalSurface}
use Rattle.optics.specs.Types.{surface_at, with_radius, with_conic, with_thickness, with_semi_diameter}
use Rattle.optics.specs.Curvature.{curvature}
use Rattle.variables.specs.declared.types.Follower.{Follower}
use Rattle.variables.specs.declared.types.Follower.TheVariants.{None, Plus, Minus}
use Rattle.variables.specs.declared.types.VariableType.{VariableType}
use Rattle.variables.specs.declared.types.VariableType.TheVariants.{Curvature, Thickness, Conic, SemiDiameter}

-- "Curvature, thickness, conic, semi-diameter": each of one surface
abbrev pub surface_index : VariableType → ℕ
surface_index (Curvature i) = i
surface_index (Thickness i) = i
surface_index (Conic i) = i
surface_index (SemiDiameter i) = i

-- what the variable names, of its surface
abbrev pub quantity_of : OpticalSurface → VariableType → Float
quantity_of s (Curvature i) = curvature s.radius_mm
quantity_of s (Thickness i) = s.thickness_mm
quantity_of s (Conic i) = s.conic_constant
quantity_of s (SemiDiameter i) = s.semi_diameter_mm

abbrev pub value_of : List OpticalSurface → VariableType → Float
value_of surfaces kind = quantity_of (surface_at surfaces (surface_index kind)) kind

-- "Applying clamps every value, a NaN counting as below the lower bound"
abbrev pub apply_clamp : Float → Float → Float → Float
apply_clamp x lo hi = cond (is_nan x) lo (clamp_of x lo hi)

-- 1e-12
abbrev pub least_curvature : Float
least_curvature = of_bits binary64 0x3d71_9799_812d_ea11

-- "a clamped curvature below 1e-12 in magnitude stores an infinite radius, always positive"
unfoldable pub radius_of : Float → Float
radius_of c = cond (lt (magnitude c) least_curvature) (inf false) (div binary64 one64 c)

-- one field changed
abbrev pub with_value : OpticalSurface → VariableType → Float → OpticalSurface
with_value s (Curvature i) x = with_radius s (radius_of x)
with_value s (Thickness i) x = with_thickness s x
with_value s (Conic i) x = with_conic s x
with_value s (SemiDiameter i) x = with_semi_diameter s x

-- a value of that kind stored in surface i; nothing where there is no such surface
abbrev pub put_at : List OpticalSurface → ℕ → VariableType → Float → List OpticalSurface
put_at surfaces i kind x = set surfaces i (with_value (surface_at surfaces i) kind x)

-- a value stored in the variable's surface
abbrev pub put : List OpticalSurface → VariableType → Float → List OpticalSurface
put surfaces kind x = put_at surfaces (surface_index kind) kind x

-- "the follower receives the clamped value, negated for minus"; "A negated curvature below 1e-12 in magnitude still stores plus infinity"
abbrev pub followed : List OpticalSurface → VariableType → Follower → Float → List OpticalSurface
followed surfaces kind None x = surfaces
followed surfaces kind (Plus i) x = put_at surfaces i kind x
followed surfaces kind (Minus i) x = put_at surfaces i kind (neg x)
