-- `answers::result::put_outcome` meets its contract. Assumes nothing.
use Rattle.streams.specs.OutputLaws.{puts_then}
use Rattle.answers.proofs.result.put_outcome.Goals as goal

pub returns : goal.returns
returns c = puts_then (puts_then (puts_then c.put.ensures c.put_floats.ensures) c.put_number.ensures) c.put_number-2.ensures
