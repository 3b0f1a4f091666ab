-- The value of an operand, "by the tests in `MeritOperand::evaluate`". Definitions only.
use Rattle.std.specs.Prelude.{ℕ, zero, suc, Bool, cond, ◌&&◌, List, ltb, Float, Option, Some, None}
use Rattle.std.specs.Float.{binary64}
use Rattle.std.specs.Float.Ieee.{add, sub, div, lt, of_bits}
use Rattle.floats.specs.Basic.{magnitude, finite_of}
use Rattle.floats.specs.Constants.{zero64}
use Rattle.optics.specs.declared.types.OpticalSurface.{OpticalSurface}
use Rattle.optics.specs.declared.types.ParaxialProperties.{ParaxialProperties}
use Rattle.edges.specs.Edges.{edge_of}
use Rattle.merit.specs.declared.types.OperandType.{OperandType}
use Rattle.merit.specs.declared.types.OperandType.TheVariants.{EffectiveFocalLength, WorkingFNumber, TotalTrack, BackFocalLength, ParaxialMagnification}
use Rattle.merit.specs.declared.types.OperandType.TheVariants.{MinCenterThickness, MaxCenterThickness, MinEdgeThickness}

-- "Failures .. give 10,000, 100, 10,000 and 0 for the four paraxial kinds"
abbrev pub ten_thousand : Float
ten_thousand = of_bits binary64 0x40c3_8800_0000_0000

abbrev pub hundred : Float
hundred = of_bits binary64 0x4059_0000_0000_0000

-- 0.01, 1e-12 and 1e-6
abbrev pub least_focal_length : Float
least_focal_length = of_bits binary64 0x3f84_7ae1_47ae_147b

abbrev pub least_back_focus : Float
least_back_focus = of_bits binary64 0x3d71_9799_812d_ea11

abbrev pub least_divisor : Float
least_divisor = of_bits binary64 0x3eb0_c6f7_a0b5_ed8d

-- a number where it is finite, else what counts in its place
unfoldable pub finite_or : (other x : Float) → Float
finite_or other x = cond (finite_of x) x other

-- what the paraxial kinds make of a slot's trace; only the focal length has a floor
unfoldable pub is_focal_length : Float → Bool
is_focal_length x = finite_of x && lt least_focal_length (magnitude x)

abbrev pub focal_length : Option ParaxialProperties → Float
focal_length None = ten_thousand
focal_length (Some q) = cond (is_focal_length q.efl_mm) q.efl_mm ten_thousand

abbrev pub f_number : Option ParaxialProperties → Float
f_number None = hundred
f_number (Some q) = finite_or hundred q.f_number

abbrev pub back_focus : Option ParaxialProperties → Float
back_focus None = ten_thousand
back_focus (Some q) = finite_or ten_thousand q.bfl_mm

unfoldable pub is_magnified : ParaxialProperties → Bool
is_magnified q = lt least_back_focus (magnitude q.bfl_mm) && lt least_divisor (magnitude q.efl_mm)

abbrev pub magnification : Option ParaxialProperties → Float
magnification None = zero64
magnification (Some q) = cond (is_magnified q) (div binary64 q.bfl_mm q.efl_mm) zero64

-- the thicknesses added in rising order, from +0.0
unfoldable pub track : (surface : ℕ → OpticalSurface) → ℕ → Float
track surface zero = zero64
track surface (suc n) = add binary64 (track surface n) (surface n).thickness_mm

-- how far a thickness falls short of the least, or passes the greatest; 0 where it does not
unfoldable pub shortfall : (thickness limit : Float) → Float
shortfall thickness limit = cond (lt thickness limit) (sub binary64 thickness limit) zero64

unfoldable pub excess : (thickness limit : Float) → Float
excess thickness limit = cond (lt limit thickness) (sub binary64 thickness limit) zero64

-- "A value not finite, or a thickness operand whose surface is absent, counts 100,000."
abbrev pub penalty : Float
penalty = of_bits binary64 0x40f8_6a00_0000_0000

abbrev pub counted : Float → Float
counted x = finite_or penalty x

-- a value that needs surface i, of count surfaces
abbrev pub of_surface : (i count : ℕ) → Float → Float
of_surface i count x = cond (ltb i count) (counted x) penalty

-- "the shortfall counts as for centre thickness. A failure or a missing successor counts 100,000." (request 3)
abbrev pub edge_counted : (limit : Float) → Option Float → Float
edge_counted limit (Some edge) = counted (shortfall edge limit)
edge_counted limit None = penalty

-- The value of an operand of a lens: `slot w` is what the trace of slot w gives, and `surface` gives its surfaces, of which there are count.
unfoldable pub value_of : (earlier : List Float) (slot : ℕ → Option ParaxialProperties) (surface : ℕ → OpticalSurface) (count : ℕ) → OperandType → Float
value_of earlier slot surface count (EffectiveFocalLength w) = counted (focal_length (slot w))
value_of earlier slot surface count (WorkingFNumber w) = counted (f_number (slot w))
value_of earlier slot surface count TotalTrack = counted (track surface count)
value_of earlier slot surface count (BackFocalLength w) = counted (back_focus (slot w))
value_of earlier slot surface count (ParaxialMagnification w) = counted (magnification (slot w))
value_of earlier slot surface count (MinCenterThickness i limit) = of_surface i count (shortfall (surface i).thickness_mm limit)
value_of earlier slot surface count (MaxCenterThickness i limit) = of_surface i count (excess (surface i).thickness_mm limit)
value_of earlier slot surface count (MinEdgeThickness i limit) = edge_counted limit (edge_of surface count i)

-- the slot that an operand names; 4, which is none, for the others
abbrev pub slot_named : OperandType → ℕ
slot_named (EffectiveFocalLength w) = w
slot_named (WorkingFNumber w) = w
slot_named TotalTrack = 4
slot_named (BackFocalLength w) = w
slot_named (ParaxialMagnification w) = w
slot_named (MinCenterThickness i limit) = 4
slot_named (MaxCenterThickness i limit) = 4
slot_named (MinEdgeThickness i limit) = 4
