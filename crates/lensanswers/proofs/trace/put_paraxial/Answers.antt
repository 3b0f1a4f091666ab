-- `lensanswers::trace::put_paraxial` meets its contract. Assumes nothing.
use Rattle.streams.specs.OutputLaws.{puts_then}
use Rattle.lensanswers.proofs.trace.put_paraxial.Goals as goal

pub returns : goal.returns
returns c = puts_then (puts_then c.put.ensures c.put_floats.ensures) c.put-2.ensures
