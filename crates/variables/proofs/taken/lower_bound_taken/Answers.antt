-- `variables::taken::lower_bound_taken` meets its contract: what of the lower bound of a semi-diameter is asked. Assumes nothing.
use Rattle.std.proofs.Common.{sym, ap}
use Rattle.variables.specs.declared.types.VariableType.{VariableType}
use Rattle.variables.specs.Taken.{lower_bound_taken}
use Rattle.variables.proofs.taken.lower_bound_taken.Goals as goal

pub returns-in-SemiDiameter : goal.returns-in-SemiDiameter
returns-in-SemiDiameter c = ap (λ (k : VariableType). lower_bound_taken k c.args.lo) (sym c.in-SemiDiameter.is)
