-- `answers::heads::put_refused` meets its contract. Assumes nothing.
use Rattle.streams.specs.OutputLaws.{puts_then, puts_from}
use Rattle.answers.proofs.heads.put_refused.Goals as goal

pub returns : goal.returns
returns c = puts_from c.count.ensures (puts_then c.put_number.ensures c.put_kept.ensures)
