-- `lensanswers::limits::put_limits` meets its contract. Assumes nothing.
use Rattle.streams.specs.OutputLaws.{puts_then}
use Rattle.lensanswers.proofs.limits.put_limits.Goals as goal

pub returns : goal.returns
returns c = puts_then (puts_then (puts_then c.put_track.ensures c.put_number.ensures) c.put_surfaces.ensures) c.put.ensures
