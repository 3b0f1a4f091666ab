-- `damage::tally::put_line` meets its contract: its texts come one after the other. Assumes nothing.
use Rattle.streams.specs.OutputLaws.{puts_then}
use Rattle.damage.proofs.tally.put_line.Goals as goal

pub returns : goal.returns
returns c = puts_then (puts_then c.put_number.ensures c.put_number-2.ensures) c.put.ensures
