-- `defaults::filled::local_defaults` meets its contract: a damped job's defaults, but for the two numbers that differ. Assumes nothing.
use Rattle.defaults.proofs.filled.local_defaults.Goals as goal

pub returns : goal.returns
returns c = rw c.damped_defaults.ensures
