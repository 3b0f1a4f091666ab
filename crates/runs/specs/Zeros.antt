-- "unused entries .. are zero": the zero of each type that a result or a row holds. Definitions only.
use Rattle.std.specs.Prelude.{List, replicate, Float}
use Rattle.floats.specs.Constants.{zero64}
use Rattle.optics.specs.Types.{zero_surface}
use Rattle.optics.specs.declared.types.OpticalSurface.{OpticalSurface}
use Rattle.runs.specs.declared.types.OptimizationResult.{OptimizationResult}

abbrev pub zero_surfaces : List OpticalSurface
zero_surfaces = replicate 16 zero_surface

-- for as many operands or variables as there can be, and for a Jacobian
abbrev pub zero_operands : List Float
zero_operands = replicate 12 zero64

abbrev pub zero_params : List Float
zero_params = replicate 8 zero64

abbrev pub zero_jacobian : List Float
zero_jacobian = replicate 96 zero64

abbrev pub zero_result : OptimizationResult
zero_result = record {
  surfaces = zero_surfaces;
  values = zero_operands;
  residuals = zero_operands;
  initial_merit = zero64;
  final_merit = zero64;
  iterations = 0;
  converged = 0;
}
