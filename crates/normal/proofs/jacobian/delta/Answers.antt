-- `normal::jacobian::delta` meets its contract: the result is put together from what `abs` and `max` ensure. Assumes nothing.
use Rattle.normal.proofs.jacobian.delta.Goals as goal

pub returns : goal.returns
returns c = rw (c.max-2.ensures, c.max.ensures, c.abs.ensures)
