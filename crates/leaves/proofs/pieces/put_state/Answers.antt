-- `leaves::pieces::put_state` meets its contract: its texts come one after the other. Assumes nothing.
use Rattle.streams.specs.OutputLaws.{puts_then}
use Rattle.leaves.proofs.pieces.put_state.Goals as goal

pub returns : goal.returns
returns c = puts_then c.put.ensures c.put_hex.ensures
