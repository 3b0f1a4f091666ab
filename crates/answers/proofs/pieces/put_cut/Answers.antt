-- `answers::pieces::put_cut` meets its contract. Assumes nothing.
use Rattle.streams.specs.OutputLaws.{puts_then, puts_from}
use Rattle.answers.proofs.pieces.put_cut.Goals as goal

pub returns : goal.returns
returns c = puts_from c.count_unknown.ensures (puts_then c.put_number.ensures c.put.ensures)
