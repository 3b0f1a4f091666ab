-- What the known values of document 01 are worked out of, beside the lens and the requests of `jobs` (Sample.antt). Definitions only.
use Rattle.std.specs.Prelude.{ℕ, Bool, true, false, List, [], ◌∷◌, Float}
use Rattle.std.specs.Float.{inf, binary64}
use Rattle.std.specs.Float.Ieee.{neg, of_bits}
use Rattle.floats.specs.Constants.{zero64}
use Rattle.optics.specs.declared.types.OpticalPrescription.{OpticalPrescription}
use Rattle.optics.specs.declared.types.OpticalSurface.{OpticalSurface}
use Rattle.variables.specs.declared.types.Follower.{Follower}
use Rattle.variables.specs.declared.types.Follower.TheVariants.{None}
use Rattle.variables.specs.declared.types.VariableSet.{VariableSet}
use Rattle.variables.specs.declared.types.VariableType.{VariableType}
use Rattle.variables.specs.declared.types.VariableType.TheVariants.{Curvature}
use Rattle.merit.specs.declared.types.MeritFunction.{MeritFunction}
use Rattle.merit.specs.declared.types.OperandType.TheVariants.{EffectiveFocalLength, WorkingFNumber, TotalTrack, BackFocalLength, ParaxialMagnification}
use Rattle.merit.specs.declared.types.OperandType.TheVariants.{MinCenterThickness, MinEdgeThickness}
use Rattle.intervals.specs.Interval.{ends, exactly}
use Rattle.intervals.specs.declared.types.Interval.{Interval}
use Rattle.intervals.specs.declared.types.ThicknessLimits.{ThicknessLimits}
use Rattle.jobs.specs.declared.types.DlsConfig.{DlsConfig}
use Rattle.jobs.specs.Sample.{Unused, surface, operand, n1, n2, n8, n16, n64}
use Rattle.runs.proofs.Moved.{n3}

abbrev pub n10 : Float
n10 = of_bits binary64 0x4024_0000_0000_0000

abbrev pub n12 : Float
n12 = of_bits binary64 0x4028_0000_0000_0000

abbrev pub n13 : Float
n13 = of_bits binary64 0x402a_0000_0000_0000

abbrev pub n24 : Float
n24 = of_bits binary64 0x4038_0000_0000_0000

abbrev pub n56 : Float
n56 = of_bits binary64 0x404c_0000_0000_0000

-- 3.25, 3.5, 3.75, 1/16, 1/32
abbrev pub three_and_quarter : Float
three_and_quarter = of_bits binary64 0x400a_0000_0000_0000

abbrev pub three_and_half : Float
three_and_half = of_bits binary64 0x400c_0000_0000_0000

abbrev pub four_less_quarter : Float
four_less_quarter = of_bits binary64 0x400e_0000_0000_0000

abbrev pub sixteenth : Float
sixteenth = of_bits binary64 0x3fb0_0000_0000_0000

abbrev pub thirty_second : Float
thirty_second = of_bits binary64 0x3fa0_0000_0000_0000

-- 19,880 and 395,214,400
abbrev pub n19880 : Float
n19880 = of_bits binary64 0x40d3_6a00_0000_0000

abbrev pub n395214400 : Float
n395214400 = of_bits binary64 0x41b7_8e7e_4000_0000

abbrev pub seven_eighths : Float
seven_eighths = of_bits binary64 0x3fec_0000_0000_0000

abbrev pub eighth : Float
eighth = of_bits binary64 0x3fc0_0000_0000_0000

-- 1e-13 and 1e-12
abbrev pub tenth_of_least : Float
tenth_of_least = of_bits binary64 0x3d3c_25c2_6849_7682

abbrev pub least : Float
least = of_bits binary64 0x3d71_9799_812d_ea11

-- the numbers of an evaluation past five operands, and past one
abbrev pub past_five : List Float
past_five = zero64 ∷ zero64 ∷ zero64 ∷ zero64 ∷ zero64 ∷ zero64 ∷ zero64 ∷ []

abbrev pub past_one : List Float
past_one = zero64 ∷ zero64 ∷ zero64 ∷ zero64 ∷ past_five

-- a surface with semi-diameter 8
abbrev pub wide : (radius conic thickness : Float) → OpticalSurface
wide radius conic thickness = record { radius_mm = radius; conic_constant = conic; thickness_mm = thickness; semi_diameter_mm = n8 }

module _ (u : Unused) where
  -- "Only the first surface"
  abbrev pub first_alone : OpticalPrescription
  first_alone = record {
    surfaces = surface n64 n16 ∷ u.surfaces;
    indices = n2 ∷ u.index1 ∷ u.index2 ∷ u.index3 ∷ u.indices;
    surface_count = 1;
    slot_count = 1;
    entrance_pupil_diameter_mm = n8;
  }

  -- the operands of a kind each, unweighed
  abbrev pub kinds : MeritFunction
  kinds = record {
    operands = operand (EffectiveFocalLength 0) zero64 zero64
        ∷ operand (BackFocalLength 0) zero64 zero64
        ∷ operand (WorkingFNumber 0) zero64 zero64
        ∷ operand TotalTrack zero64 zero64
        ∷ operand (ParaxialMagnification 0) zero64 zero64
        ∷ u.operands;
    operand_count = 5;
  }

  -- the first thickness at least 3
  abbrev pub at_least_three : MeritFunction
  at_least_three = record { operands = operand (MinCenterThickness 0 n3) zero64 zero64 ∷ u.operands; operand_count = 1 }

  -- request 3: radius 8, semi-diameter 8, thickness 16 and a conic; then flat, as wide
  abbrev pub half_ball : (conic : Float) → OpticalPrescription
  half_ball conic = record {
    surfaces = wide n8 conic n16 ∷ wide (inf false) zero64 zero64 ∷ u.surfaces;
    indices = n2 ∷ u.index1 ∷ u.index2 ∷ u.index3 ∷ n1 ∷ u.indices;
    surface_count = 2;
    slot_count = 1;
    entrance_pupil_diameter_mm = n8;
  }

  -- the edge behind surface i at least so much
  abbrev pub edge_at_least : (i : ℕ) (limit : Float) → MeritFunction
  edge_at_least i limit = record { operands = operand (MinEdgeThickness i limit) zero64 zero64 ∷ u.operands; operand_count = 1 }

  -- one variable, enabled or not, from a bound to another, and its follower
  abbrev pub variable_within : Bool → VariableType → (lo hi : Float) → Follower → VariableSet
  variable_within on kind lo hi f = record {
    variables = record { var_type = kind; min_value = lo; max_value = hi; step_size = n1; enabled = on; follower = f } ∷ u.variables;
    variable_count = 1;
  }

  -- the first curvature
  abbrev pub curvature_within : (lo hi : Float) → Follower → VariableSet
  curvature_within lo hi f = variable_within true (Curvature 0) lo hi f

  -- from -1e-13 to 1e-12, without one
  abbrev pub curvature : VariableSet
  curvature = curvature_within (neg tenth_of_least) least None

-- request 13: the first thickness from 8 to 24, the second 0; then whatever stands past the surfaces
abbrev pub shop_limits : (rest : List Interval) → ThicknessLimits
shop_limits rest = record { thicknesses = ends n8 n24 ∷ exactly zero64 ∷ rest }

-- what a damped run is set to, apart from its iteration limit
pub record Settings : Type 0 where
  pub damping : Float
  pub relative_step : Float
  pub merit_tolerance : Float
  pub gradient_tolerance : Float

abbrev pub limit_zero : Settings → DlsConfig
limit_zero s = record {
  max_iterations = 0;
  initial_damping = s.damping;
  finite_difference_relative_step = s.relative_step;
  relative_merit_tolerance = s.merit_tolerance;
  gradient_tolerance = s.gradient_tolerance;
}
