-- `lensanswers::limits::put_track` meets its contract. Assumes nothing.
use Rattle.streams.specs.OutputLaws.{puts_then}
use Rattle.lensanswers.proofs.limits.put_track.Goals as goal

pub returns : goal.returns
returns c = puts_then c.put.ensures c.put_floats.ensures
