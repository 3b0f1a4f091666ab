-- `lensanswers::trace::put_failed` meets its contract. Assumes nothing.
use Rattle.streams.specs.OutputLaws.{puts_then}
use Rattle.lensanswers.proofs.trace.put_failed.Goals as goal

pub returns : goal.returns
returns c = puts_then c.put.ensures c.put_kept.ensures
