-- `streams::output::Output::put_count` meets its contract. Assumes nothing.
use Rattle.streams.specs.OutputLaws.{puts_then}
use Rattle.streams.proofs.output.Output.put_count.Goals as goal

pub returns : goal.returns
returns c = puts_then c.put_decimal.ensures c.put.ensures
