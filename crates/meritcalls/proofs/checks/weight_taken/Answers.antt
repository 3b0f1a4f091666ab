-- `meritcalls::checks::weight_taken` meets its contract: what of a finite weight the sign says. Assumes nothing.
use Rattle.std.proofs.Common.{Bool, sym, ap, ◌∙◌}
use Rattle.std.specs.Prelude.{not, ◌&&◌}
use Rattle.std.specs.Float.Ieee.{lt}
use Rattle.floats.specs.Constants.{zero64}
use Rattle.merit.specs.Check.{weight_taken}
use Rattle.meritcalls.proofs.checks.weight_taken.Goals as goal

pub returns-then-is_finite : goal.returns-then-is_finite
unfolding weight_taken
returns-then-is_finite c = ap (λ (f : Bool). f && not (lt c.args.x zero64)) (sym c.if-is_finite.true ∙ c.is_finite.ensures)
