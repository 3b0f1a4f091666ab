-- A request with every count, number and setting at its limit, and the same with one count further. Definitions only.
use Rattle.std.specs.Prelude.{ℕ, true, List, [], ◌∷◌, ◌++◌, replicate, Float, Some}
use Rattle.std.specs.Float.{inf, binary64}
use Rattle.std.specs.Float.Ieee.{neg, of_bits}
use Rattle.floats.specs.Constants.{zero64, one64}
use Rattle.optics.specs.declared.types.OpticalSurface.{OpticalSurface}
use Rattle.variables.specs.declared.types.Follower.TheVariants.{None}
use Rattle.variables.specs.declared.types.VariableDef.{VariableDef}
use Rattle.variables.specs.declared.types.VariableType.{VariableType}
use Rattle.variables.specs.declared.types.VariableType.TheVariants.{Curvature, Thickness, Conic, SemiDiameter}
use Rattle.merit.specs.declared.types.MeritOperand.{MeritOperand}
use Rattle.merit.specs.declared.types.OperandType.TheVariants.{EffectiveFocalLength, WorkingFNumber, TotalTrack, BackFocalLength, ParaxialMagnification}
use Rattle.merit.specs.declared.types.OperandType.TheVariants.{MinCenterThickness, MaxCenterThickness, MinEdgeThickness}
use Rattle.jobs.specs.Sample.{operand}
use Rattle.jobs.specs.declared.types.DlsRequest.{DlsRequest}
use Rattle.jobs.specs.declared.types.JobRequest.{JobRequest}
use Rattle.jobs.specs.declared.types.MethodRequest.{MethodRequest}
use Rattle.jobs.specs.declared.types.MethodRequest.TheVariants.{Damped, MultiStart, Annealing}

-- 1e9, 1e8, 10, and the greatest that is finite: written out once more, so that a wrong limit in a definition is seen
abbrev billion : Float
billion = of_bits binary64 0x41cd_cd65_0000_0000

abbrev hundred_million : Float
hundred_million = of_bits binary64 0x4197_d784_0000_0000

abbrev ten : Float
ten = of_bits binary64 0x4024_0000_0000_0000

abbrev greatest : Float
greatest = of_bits binary64 0x7fef_ffff_ffff_ffff

abbrev surface : OpticalSurface
surface = record { radius_mm = inf true; conic_constant = greatest; thickness_mm = neg billion; semi_diameter_mm = billion }

abbrev variable : (least : Float) → VariableType → VariableDef
variable least kind = record { var_type = kind; min_value = least; max_value = billion; step_size = billion; enabled = true; follower = None }

-- of the last surface, of each kind twice
abbrev variables : List VariableDef
variables =
    let four = variable (neg billion) (Curvature 15) ∷ variable (neg billion) (Thickness 15) ∷ variable (neg billion) (Conic 15)
    ∷ variable billion (SemiDiameter 15) ∷ [] in
    four ++ four

-- of the last slot or surface, of each kind, and the track four times more
abbrev operands : List MeritOperand
operands =
    operand (EffectiveFocalLength 3) billion greatest
    ∷ operand (WorkingFNumber 3) (neg billion) zero64
    ∷ operand TotalTrack billion greatest
    ∷ operand (BackFocalLength 3) billion greatest
    ∷ operand (ParaxialMagnification 3) billion greatest
    ∷ operand (MinCenterThickness 15 billion) billion greatest
    ∷ operand (MaxCenterThickness 15 (neg billion)) billion greatest
    ∷ operand (MinEdgeThickness 15 billion) billion greatest
    ∷ replicate 4 (operand TotalTrack (neg billion) greatest)

abbrev iterated : DlsRequest
iterated = record {
  max_iterations = Some 1000;
  initial_damping = Some hundred_million;
  relative_merit_tolerance = Some greatest;
  gradient_tolerance = Some (neg greatest);
  finite_difference_relative_step = Some one64;
}

abbrev pub damped : MethodRequest
damped = Damped iterated

abbrev pub multi_start : MethodRequest
multi_start = MultiStart (record { local_dls_config = iterated; num_trials = Some 1000; seed = Some 0 })

abbrev pub annealing : MethodRequest
annealing = Annealing (record {
  initial_temperature = Some greatest;
  cooling_rate = Some one64;
  steps_per_temperature = Some 1000;
  max_cooling_cycles = Some 1000;
  seed = Some 0;
})

abbrev pub at_limits : (surface_count slots variable_count operand_count : ℕ) → MethodRequest → JobRequest
at_limits surface_count slots variable_count operand_count method = record {
  prescription = record {
    surfaces = replicate 16 surface;
    indices = replicate 64 ten;
    surface_count = surface_count;
    slot_count = slots;
    entrance_pupil_diameter_mm = billion;
  };
  variables = record { variables = variables; variable_count = variable_count };
  merit_function = record { operands = operands; operand_count = operand_count };
  method = method;
}
