-- `kinds::phases::damped_over` meets its contract. Assumes nothing.
use Rattle.kinds.proofs.Over.{damped-over}
use Rattle.kinds.proofs.phases.damped_over.Goals as goal

pub returns : goal.returns
returns c = damped-over c.args.phase
