-- `variables::quantities::quantity` meets its contract: an arm for each kind of variable. Assumes nothing.
use Rattle.variables.proofs.quantities.quantity.Goals as goal

pub returns-in-Curvature : goal.returns-in-Curvature
returns-in-Curvature c = cc
