-- `variables::quantities::radius_of` meets its contract: each arm returns what `radius_of` picks by the test that led there. Assumes nothing.
use Rattle.floats.specs.Constants.{infinite}
use Rattle.variables.specs.Kinds.{radius_of}
use Rattle.variables.proofs.quantities.radius_of.Goals as goal

pub returns-then-abs : goal.returns-then-abs
unfolding radius_of
returns-then-abs c = simp (infinite, ← c.abs.ensures, c.if-abs.true)

pub returns : goal.returns
unfolding radius_of
returns c = simp (← c.abs.ensures, c.if-abs.false)
