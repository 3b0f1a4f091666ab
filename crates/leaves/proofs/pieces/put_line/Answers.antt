-- `leaves::pieces::put_line` meets its contract: its texts come one after the other. Assumes nothing.
use Rattle.streams.specs.OutputLaws.{puts_then}
use Rattle.leaves.proofs.pieces.put_line.Goals as goal

pub returns : goal.returns
returns c = puts_then c.put.ensures c.put-2.ensures
