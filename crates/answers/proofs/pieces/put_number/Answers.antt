-- `answers::pieces::put_number` meets its contract: its texts come one after the other. Assumes nothing.
use Rattle.streams.specs.OutputLaws.{puts_then}
use Rattle.answers.proofs.pieces.put_number.Goals as goal

pub returns : goal.returns
returns c = puts_then (puts_then c.put.ensures c.put-2.ensures) c.put_decimal.ensures
