-- `optics::checks::is_within` meets its contract. Assumes nothing.
use Rattle.optics.specs.CheckLaws.{within-is}
use Rattle.optics.proofs.checks.is_within.Goals as goal

pub returns-then-x : goal.returns-then-x
returns-then-x c = rw c.if-x.true at (within-is c.args.x)

pub returns-else-x : goal.returns-else-x
returns-else-x c = rw c.if-x.false (rw c.if-x.false at (within-is c.args.x))
