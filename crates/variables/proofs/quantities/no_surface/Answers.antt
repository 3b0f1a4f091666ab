-- `variables::quantities::no_surface` meets its contract: 0.0 / 0.0 is the NaN. Assumes nothing.
use Rattle.floats.specs.Constants.{no_number}
use Rattle.variables.proofs.quantities.no_surface.Goals as goal

pub returns : goal.returns
returns c = simp no_number
