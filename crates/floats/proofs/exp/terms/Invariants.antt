use mathlib.Core.Path.{◌≡◌}
use Rattle.floats.specs.Exp.{series}
use Rattle.floats.specs.Constants.{one64}
use Rattle.floats.proofs.exp.terms.Given as goal

abbrev pub invariant-loop-k : goal.invariant-loop-k
invariant-loop-k l = series l.k l.y l.s ≡ series 16 l.y one64
