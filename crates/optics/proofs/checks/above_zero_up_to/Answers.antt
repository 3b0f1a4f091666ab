-- `optics::checks::above_zero_up_to` meets its contract. Assumes nothing.
use Rattle.optics.specs.Check.{above_zero_up_to}
use Rattle.optics.proofs.checks.above_zero_up_to.Goals as goal

pub returns-then-x : goal.returns-then-x
unfolding above_zero_up_to
returns-then-x c = simp c.if-x.true

pub returns-else-x : goal.returns-else-x
unfolding above_zero_up_to
returns-else-x c = simp c.if-x.false
