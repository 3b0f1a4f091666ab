-- `callplay::pieces::put_name` meets its contract: its line is counted before. Assumes nothing.
use Rattle.streams.specs.OutputLaws.{puts_from}
use Rattle.callplay.proofs.pieces.put_name.Goals as goal

pub returns : goal.returns
returns c = puts_from c.count.ensures c.put_number.ensures
