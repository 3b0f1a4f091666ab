-- The lens of 01's known values, and a request over it for each kind of run. Definitions only.
use Rattle.std.specs.Prelude.{true, false, List, ◌∷◌, Float}
use Rattle.std.specs.declared.option.Option.TheVariants as Option
use Rattle.std.specs.Float.{inf, binary64}
use Rattle.std.specs.Float.Ieee.{of_bits}
use Rattle.floats.specs.Constants.{zero64}
use Rattle.optics.specs.declared.types.OpticalPrescription.{OpticalPrescription}
use Rattle.optics.specs.declared.types.OpticalSurface.{OpticalSurface}
use Rattle.variables.specs.declared.types.Follower.TheVariants.{None}
use Rattle.variables.specs.declared.types.VariableDef.{VariableDef}
use Rattle.variables.specs.declared.types.VariableSet.{VariableSet}
use Rattle.variables.specs.declared.types.VariableType.TheVariants.{Thickness}
use Rattle.merit.specs.declared.types.MeritFunction.{MeritFunction}
use Rattle.merit.specs.declared.types.MeritOperand.{MeritOperand}
use Rattle.merit.specs.declared.types.OperandType.{OperandType}
use Rattle.merit.specs.declared.types.OperandType.TheVariants.{EffectiveFocalLength}
use Rattle.jobs.specs.declared.types.DlsRequest.{DlsRequest}
use Rattle.jobs.specs.declared.types.JobRequest.{JobRequest}
use Rattle.jobs.specs.declared.types.MethodRequest.{MethodRequest}
use Rattle.jobs.specs.declared.types.MethodRequest.TheVariants.{Damped, MultiStart, Annealing}

abbrev pub n1 : Float
n1 = of_bits binary64 0x3ff0_0000_0000_0000

abbrev pub n2 : Float
n2 = of_bits binary64 0x4000_0000_0000_0000

abbrev pub n4 : Float
n4 = of_bits binary64 0x4010_0000_0000_0000

abbrev pub n8 : Float
n8 = of_bits binary64 0x4020_0000_0000_0000

abbrev pub n16 : Float
n16 = of_bits binary64 0x4030_0000_0000_0000

abbrev pub n60 : Float
n60 = of_bits binary64 0x404e_0000_0000_0000

abbrev pub n64 : Float
n64 = of_bits binary64 0x4050_0000_0000_0000

-- What stands past the counts: the surfaces behind the last; the first surface's index in slots 1 to 3, and all indices behind the last one used; variables
-- and operands behind the last. Whatever it is: a value of the types has as many of each as its arrays hold.
pub record Unused : Type 0 where
  pub surfaces : List OpticalSurface
  pub index1 : Float
  pub index2 : Float
  pub index3 : Float
  pub indices : List Float
  pub variables : List VariableDef
  pub operands : List MeritOperand

abbrev pub surface : (radius thickness : Float) → OpticalSurface
surface radius thickness = record { radius_mm = radius; conic_constant = zero64; thickness_mm = thickness; semi_diameter_mm = n1 }

abbrev pub operand : OperandType → (target weight : Float) → MeritOperand
operand kind target weight = record { operand_type = kind; target = target; weight = weight }

module _ (u : Unused) where
  -- "Two surfaces: radius 64, thickness 16, index 2; then flat, thickness 0, index 1; pupil 8."
  abbrev pub lens : (radius thickness : Float) → OpticalPrescription
  lens radius thickness = record {
    surfaces = surface radius thickness ∷ surface (inf false) zero64 ∷ u.surfaces;
    indices = n2 ∷ u.index1 ∷ u.index2 ∷ u.index3 ∷ n1 ∷ u.indices;
    surface_count = 2;
    slot_count = 1;
    entrance_pupil_diameter_mm = n8;
  }

  -- its first thickness, from 8 to 64
  abbrev pub thickness : VariableSet
  thickness = record {
    variables = record { var_type = Thickness 0; min_value = n8; max_value = n64; step_size = n1; enabled = true; follower = None } ∷ u.variables;
    variable_count = 1;
  }

  -- "Focal length target 60, weight 4"
  abbrev pub sixty : MeritFunction
  sixty = record { operands = operand (EffectiveFocalLength 0) n60 n4 ∷ u.operands; operand_count = 1 }

  abbrev pub request : MethodRequest → JobRequest
  request method = record { prescription = lens n64 n16; variables = thickness; merit_function = sixty; method = method }

-- each kind, its settings left out
abbrev pub no_settings : DlsRequest
no_settings = record {
  max_iterations = Option.None;
  initial_damping = Option.None;
  relative_merit_tolerance = Option.None;
  gradient_tolerance = Option.None;
  finite_difference_relative_step = Option.None;
}

abbrev pub damped : MethodRequest
damped = Damped no_settings

abbrev pub multi_start : MethodRequest
multi_start = MultiStart (record { local_dls_config = no_settings; num_trials = Option.None; seed = Option.None })

abbrev pub annealing : MethodRequest
annealing = Annealing (record {
  initial_temperature = Option.None;
  cooling_rate = Option.None;
  steps_per_temperature = Option.None;
  max_cooling_cycles = Option.None;
  seed = Option.None;
})
