-- `floats::basic::is_finite` meets its contract. Assumes nothing.
use mathlib.Core.Path.{◌≡◌, refl, ◌∙◌}
use lib.Ieee.{Float, nan, inf, fin}
use Rattle.std.specs.Float.{float_is_finite}
use Rattle.floats.specs.Basic.{finite_of}
use Rattle.floats.proofs.basic.is_finite.Goals as goal

same : (x : Float) → float_is_finite x ≡ finite_of x
unfolding float_is_finite finite_of
same nan = refl
same (inf s) = refl
same (fin s m e) = refl

pub returns : goal.returns
returns c = c.is_finite.ensures.value ∙ same c.args.x
