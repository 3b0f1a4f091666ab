-- `normal::damping::damped_diagonal` meets its contract: the result is put together from what `abs` and `max` ensure. Assumes nothing.
use Rattle.normal.proofs.damping.damped_diagonal.Goals as goal

pub returns : goal.returns
returns c = rw (c.max.ensures, c.abs.ensures)
